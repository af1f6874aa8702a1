-- Numbers that are m times as large: what is m times as large with them, and the tests and searches that come out the same.
use Prim.Native.Nat.{ℕ, zero, suc, ◌-◌, ◌*◌, ◌<◌, min}
use mathlib.Core.List.{List, map}
use mathlib.Core.Path.{◌≡◌, refl, ap, sym, ◌∙◌}
use native.Mathlib.Nat.{mul-zero, mul-add, mul-sub, sub-add-min_cancel, eq_of_mul-eq-mul_left}
use native.Mathlib.Nat.{mul-le-mul_left, mul-lt-mul_of_pos_left, le_of_mul-le-mul_left, lt_of_mul-lt-mul_left}
use native.Mathlib.Omega.{arith}
use lib.Dec.{leb, ltb, eqb}
use lib.ListN.{get_or, get_or-map}
use borrow.Author.Tests.{leb-true, ltb-true, eqb-true, le-leb, lt-ltb, eq-eqb}
use Rattle.numerals.specs.Sums.{sum_to, argmax, lastmax}
use Rattle.numerals.proofs.Searches.{same_test}

-- the lesser of two, an element of a list, a sum
pub min-scaled : (m a b : ℕ) → min (m * a) (m * b) ≡ m * min a b
min-scaled m a b = omega (arith, mul-sub m a b, ap (λ (x : ℕ). m * x) (sub-add-min_cancel a b), mul-add m (a - b) (min a b))

pub get_or-scaled : (m : ℕ) (xs : List ℕ) (i : ℕ) → get_or (map (λ x. m * x) xs) i 0 ≡ m * get_or xs i 0
get_or-scaled m xs i = ap (get_or (map (λ x. m * x) xs) i) (sym (mul-zero m)) ∙ get_or-map (λ x. m * x) xs i 0

pub sum-scaled : (m : ℕ) (f g : ℕ → ℕ) → ((i : ℕ) → g i ≡ m * f i) → (n : ℕ) → sum_to n g ≡ m * sum_to n f
unfolding sum_to
sum-scaled m f g h zero = sym (mul-zero m)
sum-scaled m f g h (suc n) = omega (arith, sum-scaled m f g h n, h n, mul-add m (sum_to n f) (f n))

-- tests and searches, where m isn't 0
module _ (m : ℕ) (positive : 0 < m) where
  pub leb-scaled : (a b : ℕ) → leb (m * a) (m * b) ≡ leb a b
  leb-scaled a b =
      same_test (leb (m * a) (m * b)) (leb a b)
      (λ e. le-leb a b (le_of_mul-le-mul_left (leb-true (m * a) (m * b) e) positive))
      (λ e. le-leb (m * a) (m * b) (mul-le-mul_left m (leb-true a b e)))

  pub ltb-scaled : (a b : ℕ) → ltb (m * a) (m * b) ≡ ltb a b
  ltb-scaled a b =
      same_test (ltb (m * a) (m * b)) (ltb a b)
      (λ e. lt-ltb a b (lt_of_mul-lt-mul_left m (ltb-true (m * a) (m * b) e)))
      (λ e. lt-ltb (m * a) (m * b) (mul-lt-mul_of_pos_left (ltb-true a b e) positive))

  pub eqb-scaled : (a b : ℕ) → eqb (m * a) (m * b) ≡ eqb a b
  eqb-scaled a b =
      same_test (eqb (m * a) (m * b)) (eqb a b)
      (λ e. eq-eqb a b (eq_of_mul-eq-mul_left m positive a b (eqb-true (m * a) (m * b) e)))
      (λ e. eq-eqb (m * a) (m * b) (ap (λ (x : ℕ). m * x) (eqb-true a b e)))

  -- values that are m times as large are greatest at the same place
  module _ (f g : ℕ → ℕ) (h : (i : ℕ) → g i ≡ m * f i) where
    pub argmax-scaled : (n : ℕ) → argmax g n ≡ argmax f n
    unfolding argmax
    argmax-scaled zero = refl
    argmax-scaled (suc n) = rw (argmax-scaled n, h (argmax f n), h n, ltb-scaled (f (argmax f n)) (f n))

    pub lastmax-scaled : (n : ℕ) → lastmax g n ≡ lastmax f n
    unfolding lastmax
    lastmax-scaled zero = refl
    lastmax-scaled (suc n) = rw (lastmax-scaled n, h (lastmax f n), h (suc n), leb-scaled (f (lastmax f n)) (f (suc n)))
