-- The number of the lowest cost among those that pass a test, the largest if equal: found from above, one number after the other.
use Prim.Native.Nat.{ℕ, zero, suc, ◌-◌, ◌≤◌, ◌<◌}
use mathlib.Core.Bool.{Bool, true, false}
use mathlib.Core.Path.{◌≡◌, refl, ap, sym, ◌∙◌, subst}
use native.Mathlib.Decide.{ℕ_discrete}
use native.Mathlib.Omega.{arith}
use lib.Dec.{leb}
use borrow.Author.Tests.{le-leb, leb-true, leb-false}
use Rattle.numerals.specs.Pick.{pick}
use Rattle.numerals.specs.Sums.{largest_to}
use Rattle.numerals.proofs.Searches.{clash, both_true, all_true, true-all, largest-is}
use Rattle.expansion.specs.Resume.{is_lowest}

-- of the numbers above `from` up to n that pass, the one of the lowest cost, the largest if equal; 0 where none passes
pub record LowestAbove (from n : ℕ) (passes : ℕ → Bool) (cost : ℕ → ℕ) (r : ℕ) : Type 0 where
  pub most : r ≤ n
  pub above : 0 < r → from < r
  pub passing : 0 < r → passes r ≡ true
  pub none : r ≡ 0 → (j : ℕ) → from < j → j ≤ n → passes j ≡ false
  pub least : 0 < r → (j : ℕ) → from < j → j ≤ n → passes j ≡ true → (cost r ≤ cost j) × (cost j ≡ cost r → j ≤ r)

module _ (n : ℕ) (passes : ℕ → Bool) (cost : ℕ → ℕ) where
  -- none was looked at
  pub lowest_start : LowestAbove n n passes cost 0
  lowest_start =
      record {
        most = omega arith;
        above = λ s. absurd (omega arith);
        passing = λ s. absurd (omega arith);
        none = λ e j l m. absurd (omega arith);
        least = λ s. absurd (omega arith);
      }

  -- nothing is below a cost of 0, and the numbers that weren't looked at are smaller
  pub lowest-free : (from r : ℕ) → LowestAbove from n passes cost r → 0 < r → cost r ≡ 0 → LowestAbove 0 n passes cost r
  lowest-free from r L some free =
      record {
        most = L.most;
        above = λ s. s;
        passing = L.passing;
        none = λ e j l m. absurd (omega arith);
        least = λ s j l m p. (omega arith, λ e. by_place j m p (leb (suc from) j) refl e);
      }
    where
      by_place : (j : ℕ) → j ≤ n → passes j ≡ true → (b : Bool) → leb (suc from) j ≡ b → cost j ≡ cost r → j ≤ r
      by_place j m p true b e = (L.least some j (leb-true (suc from) j b) m p).1 e
      by_place j m p false b e = omega (arith, L.above some, leb-false (suc from) j b)

  -- one number more, from above
  module _ (c : ℕ) (some : 1 ≤ c) (few : c ≤ n) where
    -- it doesn't pass
    pub lowest-passed-over : (r : ℕ) → LowestAbove c n passes cost r → passes c ≡ false → LowestAbove (c - 1) n passes cost r
    lowest-passed-over r L no' =
        record {
          most = L.most;
          above = λ s. omega (arith, L.above s);
          passing = L.passing;
          none = λ e j l m. out e j l m (ℕ_discrete j c);
          least = λ s j l m p. low s j l m p (ℕ_discrete j c);
        }
      where
        out : r ≡ 0 → (j : ℕ) → c - 1 < j → j ≤ n → Dec (j ≡ c) → passes j ≡ false
        out e j l m (yes q) = ap passes q ∙ no'
        out e j l m (no q) = L.none e j (omega arith) m

        low : 0 < r → (j : ℕ) → c - 1 < j → j ≤ n → passes j ≡ true → Dec (j ≡ c) → (cost r ≤ cost j) × (cost j ≡ cost r → j ≤ r)
        low s j l m p (yes q) = absurd (clash (passes c) (ap passes (sym q) ∙ p) no')
        low s j l m p (no q) = L.least s j (omega arith) m p

    -- it passes, and none above it costs as little
    module _ (r : ℕ) (L : LowestAbove c n passes cost r) (yes' : passes c ≡ true) where
      pub lowest-taken : (0 < r → cost c < cost r) → LowestAbove (c - 1) n passes cost c
      lowest-taken lower =
          record {
            most = few;
            above = λ s. omega arith;
            passing = λ s. yes';
            none = λ e j l m. absurd (omega arith);
            least = λ s j l m p. low j l m p (ℕ_discrete j c) (ℕ_discrete r 0);
          }
        where
          low : (j : ℕ) → c - 1 < j → j ≤ n → passes j ≡ true → Dec (j ≡ c) → Dec (r ≡ 0) → (cost c ≤ cost j) × (cost j ≡ cost c → j ≤ c)
          low j l m p (yes q) z = (omega (arith, ap cost q), λ e. omega arith)
          low j l m p (no q) (yes z) = absurd (clash (passes j) p (L.none z j (omega arith) m))
          low j l m p (no q) (no z) =
              let h = L.least (omega arith) j (omega arith) m p in
              let d = lower (omega arith) in
              (omega (arith, h.0), λ e. absurd (omega (arith, h.0)))

      -- one above it costs as little
      pub lowest-kept : 0 < r → cost r ≤ cost c → LowestAbove (c - 1) n passes cost r
      lowest-kept s low =
          record {
            most = L.most;
            above = λ s. omega (arith, L.above s);
            passing = L.passing;
            none = λ e j l m. absurd (omega arith);
            least = λ s j l m p. by j l m p (ℕ_discrete j c);
          }
        where
          by : (j : ℕ) → c - 1 < j → j ≤ n → passes j ≡ true → Dec (j ≡ c) → (cost r ≤ cost j) × (cost j ≡ cost r → j ≤ r)
          by j l m p (yes q) = (omega (arith, ap cost q), λ e. omega (arith, L.above s))
          by j l m p (no q) = L.least s j (omega arith) m p

  -- it is the one of the definition
  module _ (r : ℕ) (L : LowestAbove 0 n passes cost r) where
    abbrev s : ℕ
    s = largest_to n (is_lowest n passes cost)

    found-passes : 0 < s → passes s ≡ true
    unfolding is_lowest
    found-passes l = (both_true (passes s) _ ((largest-is n (is_lowest n passes cost)).passes l)).0

    found-low : 0 < s → 0 < r → cost s ≤ cost r
    unfolding is_lowest
    found-low l some =
        let each = (both_true (passes s) _ ((largest-is n (is_lowest n passes cost)).passes l)).1 in
        let e : suc (r - 1) ≡ r = omega arith in
        let h = all_true n (λ i. pick (passes (suc i)) (leb (cost s) (cost (suc i))) true) each (r - 1) (omega (arith, L.most)) in
        let at : pick (passes r) (leb (cost s) (cost r)) true ≡ true = subst (λ (x : ℕ). pick (passes x) (leb (cost s) (cost x)) true ≡ true) e h in
        leb-true (cost s) (cost r) (subst (λ (b : Bool). pick b (leb (cost s) (cost r)) true ≡ true) (L.passing some) at)

    is-low : 0 < r → is_lowest n passes cost r ≡ true
    unfolding is_lowest
    is-low some = simp (L.passing some) (true-all n (λ i. pick (passes (suc i)) (leb (cost r) (cost (suc i))) true) (λ i l. by i l (passes (suc i)) refl))
      where
        by : (i : ℕ) → i < n → (b : Bool) → passes (suc i) ≡ b → pick (passes (suc i)) (leb (cost r) (cost (suc i))) true ≡ true
        by i l true e = rw e (le-leb (cost r) (cost (suc i)) (L.least some (suc i) (omega arith) (omega arith) e).0)
        by i l false e = rw e

    pub lowest-same : r ≡ s
    lowest-same = by (ℕ_discrete r 0) (ℕ_discrete s 0)
      where
        by : Dec (r ≡ 0) → Dec (s ≡ 0) → r ≡ s
        by (yes z) (yes y) = z ∙ sym y
        by (yes z) (no y) =
            let l : 0 < s = omega arith in
            absurd (clash (passes s) (found-passes l) (L.none z s l (largest-is n (is_lowest n passes cost)).most))
        by (no z) y =
            let some : 0 < r = omega arith in
            let up : s < r → ⊥ = λ l.
            clash (is_lowest n passes cost r) (is-low some) ((largest-is n (is_lowest n passes cost)).above r l L.most) in
            let l : 0 < s = omega (arith, up) in
            let h = L.least some s l (largest-is n (is_lowest n passes cost)).most (found-passes l) in
            let e : cost s ≡ cost r = omega (arith, h.0, found-low l some) in
            omega (arith, up, h.1 e)

  -- one number more, whatever it comes to
  lowest-next : (c : ℕ) → 1 ≤ c → c ≤ n → (r : ℕ) → LowestAbove c n passes cost r → (s : ℕ) × LowestAbove (c - 1) n passes cost s
  lowest-next c some few r L = by (passes c) refl (ℕ_discrete r 0) (leb (cost r) (cost c)) refl
    where
      by : (b : Bool) → passes c ≡ b → Dec (r ≡ 0) → (t : Bool) → leb (cost r) (cost c) ≡ t → (s : ℕ) × LowestAbove (c - 1) n passes cost s
      by false p z t e = (r, lowest-passed-over c some few r L p)
      by true p (yes z) t e = (c, lowest-taken c some few r L p (λ s. absurd (omega arith)))
      by true p (no z) true e = (r, lowest-kept c some few r L p (omega arith) (leb-true (cost r) (cost c) e))
      by true p (no z) false e = (c, lowest-taken c some few r L p (λ s. leb-false (cost r) (cost c) e))

  -- there is one
  pub lowest-found : LowestAbove 0 n passes cost (largest_to n (is_lowest n passes cost))
  lowest-found = let h = down n (omega arith) (0, lowest_start) in subst (LowestAbove 0 n passes cost) (lowest-same h.0 h.1) h.1
    where
      down : (c : ℕ) → c ≤ n → (r : ℕ) × LowestAbove c n passes cost r → (r : ℕ) × LowestAbove 0 n passes cost r
      down zero l h = h
      down (suc c) l h =
          let e : suc c - 1 ≡ c = omega arith in
          down c (omega arith) (subst (λ (from : ℕ). (r : ℕ) × LowestAbove from n passes cost r) e (lowest-next (suc c) (omega arith) l h.0 h.1))
