-- A sum or a count in another order: by tree places instead of values.
use Prim.Native.Nat.{ℕ, ◌^◌, ◌<◌}
use mathlib.Core.Bool.{Bool}
use mathlib.Core.Logic.{◌≢◌}
use mathlib.Core.Path.{◌≡◌, refl, ap, sym, ◌∙◌}
use native.Mathlib.Omega.{arith}
use lib.Dec.{eqb}
use borrow.Author.Tests.{eq-eqb, ne_eqb}
use Rattle.numerals.specs.Pick.{pick}
use Rattle.numerals.specs.Suffix.{place}
use Rattle.numerals.specs.Sums.{sum_to, count_to}
use Rattle.numerals.proofs.Place.{place-lt, place-involution}
use Rattle.numerals.proofs.Sums.{sum-ext, sum-zero, sum_one, sum-swap, bit}

-- a sum of which one part counts
sum-single : (n : ℕ) (f : ℕ → ℕ) (j : ℕ) → j < n → ((i : ℕ) → i < n → i ≢ j → f i ≡ 0) → sum_to n f ≡ f j
sum-single n f j l h = omega (arith, sum_one n f (λ i. 0) j l h, sum-zero n (λ i. 0) (λ i m. refl))

-- a sum in another order, by a listing that taken twice gives every number back
module _ (n : ℕ) (g : ℕ → ℕ) (inside : (i : ℕ) → i < n → g i < n) (twice : (i : ℕ) → i < n → g (g i) ≡ i) (f : ℕ → ℕ) where
  abbrev cell : ℕ → ℕ → ℕ
  cell i j = pick (eqb (g i) j) (f j) 0

  on : (i j : ℕ) → g i ≡ j → cell i j ≡ f j
  on i j e = rw (eq-eqb (g i) j e)

  off : (i j : ℕ) → g i ≢ j → cell i j ≡ 0
  off i j d = rw (ne_eqb (g i) j d)

  row : (i : ℕ) → i < n → sum_to n (cell i) ≡ f (g i)
  row i l = sum-single n (cell i) (g i) (inside i l) (λ j m d. off i j (λ e. d (sym e))) ∙ on i (g i) refl

  column : (j : ℕ) → j < n → sum_to n (λ i. cell i j) ≡ f j
  column j l =
      sum-single n (λ i. cell i j) (g j) (inside j l) (λ i m d. off i j (λ e. d (sym (twice i m) ∙ ap g e))) ∙ on (g j) j (twice j l)

  sum-reordered : sum_to n (λ i. f (g i)) ≡ sum_to n f
  sum-reordered =
      sym (sum-ext n (λ i. sum_to n (cell i)) (λ i. f (g i)) row)
      ∙ sum-swap n n cell
      ∙ sum-ext n (λ j. sum_to n (λ i. cell i j)) f column

-- as many places have a suffix that passes as suffixes pass
pub count-places : (k : ℕ) (t : ℕ → Bool) → count_to (2 ^ k) (λ p. t (place k p)) ≡ count_to (2 ^ k) t
unfolding count_to
count-places k t = sum-reordered (2 ^ k) (place k) (λ v l. place-lt k v) (place-involution k) (λ s. bit (t s))
