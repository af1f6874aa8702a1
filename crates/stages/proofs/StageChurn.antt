-- The churn from stage to stage by tree places: as many as differ between the two places.
use Prim.Native.Nat.{ℕ, zero, suc, ◌+◌, ◌^◌, ◌≤◌, ◌<◌}
use mathlib.Core.Bool.{Bool, false, not}
use mathlib.Core.Path.{◌≡◌, ap, ap₂, sym, ◌∙◌}
use native.Mathlib.Decide.{ℕ_discrete}
use native.Mathlib.Omega.{arith}
use lib.Dec.{eqb}
use borrow.Author.Tests.{eq-eqb, eqb-true, lt-ltb, le-ltb}
use Rattle.numerals.specs.Pick.{pick}
use Rattle.numerals.specs.Suffix.{place}
use Rattle.numerals.specs.Sums.{count_to}
use Rattle.numerals.proofs.Place.{place-involution}
use Rattle.numerals.proofs.PlaceSums.{count-places}
use Rattle.numerals.proofs.Searches.{same_test}
use Rattle.numerals.proofs.Sums.{count-suc, sum-zero, bit}
use Rattle.expansion.specs.FirstMatch.{first_match}
use Rattle.stages.specs.Stages.{Change, stage_at, stage_churn}

-- counts

pub count_none : (n : ℕ) (t : ℕ → Bool) → ((i : ℕ) → i < n → t i ≡ false) → count_to n t ≡ 0
unfolding count_to
count_none n t h = sum-zero n (λ i. bit (t i)) (λ i l. rw (h i l))

pub count-mono : (d : ℕ → Bool) (p q : ℕ) → p ≤ q → count_to p d ≤ count_to q d
count-mono d p zero l = let e : p ≡ 0 = omega arith in omega (arith, ap (λ (x : ℕ). count_to x d) e)
count-mono d p (suc q) l = go (ℕ_discrete p (suc q)) (count-mono d p q)
  where
    go : Dec (p ≡ suc q) → (p ≤ q → count_to p d ≤ count_to q d) → count_to p d ≤ count_to (suc q) d
    go (yes e) ih = omega (arith, ap (λ (x : ℕ). count_to x d) e)
    go (no e) ih = omega (arith, ih (omega arith), count-suc q d)

-- a test that is another one from p on
count-from : (d t : ℕ → Bool) (p q : ℕ) → p ≤ q → ((i : ℕ) → i < p → t i ≡ false) → ((i : ℕ) → p ≤ i → i < q → t i ≡ d i)
    → count_to q t + count_to p d ≡ count_to q d
count-from d t p zero l low mid =
    let e : p ≡ 0 = omega arith in
    omega (arith, ap (λ (x : ℕ). count_to x d) e, count_none 0 t (λ i m. absurd (omega arith)))
count-from d t p (suc q) l low mid = go (ℕ_discrete p (suc q)) (λ m. count-from d t p q m low (λ i a b. mid i a (omega arith)))
  where
    go : Dec (p ≡ suc q) → (p ≤ q → count_to q t + count_to p d ≡ count_to q d) → count_to (suc q) t + count_to p d ≡ count_to (suc q) d
    go (yes e) ih = omega (arith, ap (λ (x : ℕ). count_to x d) e, count_none (suc q) t (λ i m. low i (omega arith)))
    go (no e) ih =
        omega (arith, ih (omega arith), count-suc q d, count-suc q t, ap (λ (b : Bool). pick {A = ℕ} b 1 0) (mid q (omega arith) (omega arith)))

-- and that none passes from q on
count-to : (t : ℕ → Bool) (q n : ℕ) → q ≤ n → ((i : ℕ) → q ≤ i → i < n → t i ≡ false) → count_to n t ≡ count_to q t
count-to t q zero l high = let e : q ≡ 0 = omega arith in ap (λ (x : ℕ). count_to x t) (sym e)
count-to t q (suc n) l high = go (ℕ_discrete q (suc n)) (λ m. count-to t q n m (λ i a b. high i a (omega arith)))
  where
    go : Dec (q ≡ suc n) → (q ≤ n → count_to n t ≡ count_to q t) → count_to (suc n) t ≡ count_to q t
    go (yes e) ih = ap (λ (x : ℕ). count_to x t) (sym e)
    go (no e) ih = omega (arith, ih (omega arith), count-suc n t, ap (λ (b : Bool). pick {A = ℕ} b 1 0) (high n (omega arith) (omega arith)))

count-between : (d t : ℕ → Bool) (p q n : ℕ) → p ≤ q → q ≤ n → ((i : ℕ) → i < p → t i ≡ false)
    → ((i : ℕ) → p ≤ i → i < q → t i ≡ d i) → ((i : ℕ) → q ≤ i → i < n → t i ≡ false)
    → count_to n t + count_to p d ≡ count_to q d
count-between d t p q n l m low mid high = omega (arith, count-from d t p q l low mid, count-to t q n m high)

-- tests of equal numbers

same-passes : (a b : ℕ) → a ≡ b → not (eqb a b) ≡ false
same-passes a b e = rw (eq-eqb a b e)

pub eqb-sym : (a b : ℕ) → eqb a b ≡ eqb b a
eqb-sym a b =
    same_test (eqb a b) (eqb b a) (λ e. eq-eqb b a (sym (eqb-true a b e))) (λ e. eq-eqb a b (sym (eqb-true b a e)))

-- which places differ
abbrev pub differ : Change → ℕ → Bool
differ C y = not (eqb (first_match C.old (place C.k y)) (first_match C.new (place C.k y)))

-- a stage at a place's suffix
module _ (C : Change) (p y : ℕ) (inside : y < 2 ^ C.k) where
  pub stage-below : y < p → stage_at C p (place C.k y) ≡ first_match C.new (place C.k y)
  unfolding stage_at
  stage-below l = rw (place-involution C.k y inside, lt-ltb y p l)

  pub stage-from : p ≤ y → stage_at C p (place C.k y) ≡ first_match C.old (place C.k y)
  unfolding stage_at
  stage-from l = rw (place-involution C.k y inside, le-ltb y p l)

-- at the suffix of a place the stages differ
module _ (C : Change) (p q : ℕ) where
  abbrev changed : ℕ → Bool
  changed y = not (eqb (stage_at C p (place C.k y)) (stage_at C q (place C.k y)))

  by-places : stage_churn C p q ≡ count_to (2 ^ C.k) changed
  unfolding stage_churn
  by-places = sym (count-places C.k (λ s. not (eqb (stage_at C p s) (stage_at C q s))))

  pub churn-up : p ≤ q → q ≤ 2 ^ C.k → stage_churn C p q + count_to p (differ C) ≡ count_to q (differ C)
  churn-up l m = omega (arith, by-places, count-between (differ C) changed p q (2 ^ C.k) l m low mid high)
    where
      low : (i : ℕ) → i < p → changed i ≡ false
      low i a = same-passes _ _ (stage-below C p i (omega arith) a ∙ sym (stage-below C q i (omega arith) (omega arith)))

      mid : (i : ℕ) → p ≤ i → i < q → changed i ≡ differ C i
      mid i a b = ap not (ap₂ eqb (stage-from C p i (omega arith) a) (stage-below C q i (omega arith) b))

      high : (i : ℕ) → q ≤ i → i < 2 ^ C.k → changed i ≡ false
      high i a b = same-passes _ _ (stage-from C p i b (omega arith) ∙ sym (stage-from C q i b a))
