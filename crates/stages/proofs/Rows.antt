-- The row of stages: one walk over the places finds it, and no other row has fewer stages.
use Prim.Native.Nat.{ℕ, zero, suc, ◌+◌, ◌-◌, ◌^◌, ◌≤◌, ◌<◌}
use mathlib.Core.Bool.{Bool, true, false, not}
use mathlib.Core.List.{List, [], ◌∷◌, ◌++◌, append_assoc, append-nil}
use mathlib.Core.Logic.{◌⊎◌, inl, inr}
use mathlib.Core.Path.{◌≡◌, refl, ap, ap₂, sym, ◌∙◌, subst}
use native.Mathlib.Decide.{ℕ_discrete, dec_lt}
use native.Mathlib.Omega.{arith}
use lib.Dec.{eqb, leb, ltb}
use lib.ListN.{length, get_or, length-append, get_or-append}
use lib.Pow.{pow_pos}
use lib.Seq.{get_or-append-add}
use borrow.Author.Tests.{eq-eqb, ne_eqb, lt-ltb, le-ltb, le-leb, lt-leb, leb-true}
use Rattle.numerals.specs.Pick.{pick, both}
use Rattle.numerals.specs.Suffix.{place}
use Rattle.numerals.specs.Sums.{count_to}
use Rattle.numerals.proofs.Place.{place-lt}
use Rattle.numerals.proofs.Searches.{IsLargest, largest-is, largest-unique, clash}
use Rattle.numerals.proofs.Sums.{count-suc}
use Rattle.expansion.specs.FirstMatch.{first_match, churn}
use Rattle.stages.specs.Stages.{Change, stage_at, stage_churn, next_place, row_from, row}
use Rattle.stages.specs.Lines.{stage_rules}
use Rattle.stages.specs.Promise.{Within, Staged}
use Rattle.stages.specs.Inner.Row.{unlike, moved_to, cuts_to, row_of}
use Rattle.stages.proofs.StageChurn.{count-mono, differ, churn-up}

-- the next place

module _ (C : Change) (limit p : ℕ) where
  abbrev near : ℕ → Bool
  near q = leb (stage_churn C p q) limit

  next-largest : IsLargest (2 ^ C.k) near (next_place C limit p)
  unfolding next_place
  next-largest = largest-is (2 ^ C.k) near

  pub next-is : (q : ℕ) → 1 ≤ q → q ≤ 2 ^ C.k → stage_churn C p q ≤ limit
      → ((r : ℕ) → q < r → r ≤ 2 ^ C.k → limit < stage_churn C p r) → q ≡ next_place C limit p
  next-is q some few low high =
      largest-unique (2 ^ C.k) near q (next_place C limit p)
      (record { most = few; passes = λ l. le-leb (stage_churn C p q) limit low; above = λ r l m. lt-leb (stage_churn C p r) limit (high r l m) })
      next-largest

  -- a place within the limit isn't above it
  pub next-farthest : (q : ℕ) → q ≤ 2 ^ C.k → stage_churn C p q ≤ limit → q ≤ next_place C limit p
  next-farthest q few low = go (dec_lt (next_place C limit p) q)
    where
      go : Dec (next_place C limit p < q) → q ≤ next_place C limit p
      go (yes l) = absurd (clash (near q) (le-leb (stage_churn C p q) limit low) (next-largest.above q l few))
      go (no l) = omega arith

  pub next-most : next_place C limit p ≤ 2 ^ C.k
  next-most = next-largest.most

  -- one place further on the churn is at most 1
  module _ (some : 1 ≤ limit) (inside : p < 2 ^ C.k) where
    one_bit : (b : Bool) → pick {A = ℕ} b 1 0 ≤ 1
    one_bit true = omega arith
    one_bit false = omega arith

    pub next-above : p < next_place C limit p
    next-above =
        next-farthest (suc p) inside
        (omega (arith, churn-up C p (suc p) (omega arith) inside, count-suc p (differ C), one_bit (differ C p)))

    pub next-within : stage_churn C p (next_place C limit p) ≤ limit
    next-within = leb-true (stage_churn C p (next_place C limit p)) limit (next-largest.passes (omega (arith, next-above)))

row_step : (C : Change) (limit n p : ℕ)
    → row_from C limit (suc n) p
    ≡ next_place C limit p ∷ pick (ltb (next_place C limit p) (2 ^ C.k)) (row_from C limit n (next_place C limit p)) []
unfolding row_from
row_step C limit n p = refl

-- the walk

module _ (d : ℕ → Bool) (limit : ℕ) where
  pub moved-zero : moved_to d limit 0 ≡ 0
  unfolding moved_to
  moved-zero = refl

  pub cuts-zero : cuts_to d limit 0 ≡ []
  unfolding cuts_to
  cuts-zero = refl

  pub no-cuts : length (cuts_to d limit 0) ≡ 0
  no-cuts = rw cuts-zero

  -- a place that doesn't differ
  module _ (p : ℕ) (alike : d p ≡ false) where
    pub moved-alike : moved_to d limit (suc p) ≡ moved_to d limit p
    unfolding moved_to
    moved-alike = rw alike

    pub cuts-alike : cuts_to d limit (suc p) ≡ cuts_to d limit p ++ []
    unfolding cuts_to
    cuts-alike = rw alike

  -- one that does, within the limit
  module _ (p : ℕ) (differs : d p ≡ true) (free : moved_to d limit p ≡ limit → ⊥) where
    pub moved_more : moved_to d limit (suc p) ≡ moved_to d limit p + 1
    unfolding moved_to
    moved_more = rw (differs, ne_eqb (moved_to d limit p) limit free)

    pub cuts-kept : cuts_to d limit (suc p) ≡ cuts_to d limit p ++ []
    unfolding cuts_to
    cuts-kept = rw (differs, ne_eqb (moved_to d limit p) limit free)

  -- and at the limit
  module _ (p : ℕ) (differs : d p ≡ true) (full : moved_to d limit p ≡ limit) where
    pub moved-cut : moved_to d limit (suc p) ≡ 1
    unfolding moved_to
    moved-cut = rw (differs, eq-eqb (moved_to d limit p) limit full)

    pub cuts-cut : cuts_to d limit (suc p) ≡ cuts_to d limit p ++ p ∷ []
    unfolding cuts_to
    cuts-cut = rw (differs, eq-eqb (moved_to d limit p) limit full)

-- the same walk where the same places below p differ
module _ (d e : ℕ → Bool) (limit : ℕ) where
  moved-ext : (p : ℕ) → ((i : ℕ) → i < p → d i ≡ e i) → moved_to d limit p ≡ moved_to e limit p
  unfolding moved_to
  moved-ext zero h = refl
  moved-ext (suc p) h =
      ap₂ (λ (b : Bool) (m : ℕ). pick b (pick (eqb m limit) 1 (m + 1)) m) (h p (omega arith)) (moved-ext p (λ i l. h i (omega arith)))

  pub cuts-ext : (p : ℕ) → ((i : ℕ) → i < p → d i ≡ e i) → cuts_to d limit p ≡ cuts_to e limit p
  unfolding cuts_to
  cuts-ext zero h = refl
  cuts-ext (suc p) h =
      ap₂ ◌++◌ (cuts-ext p (λ i l. h i (omega arith)))
      (ap₂ (λ (b : Bool) (m : ℕ). pick (both b (eqb m limit)) (p ∷ []) []) (h p (omega arith)) (moved-ext p (λ i l. h i (omega arith))))

-- one walk finds the row

module _ (C : Change) (limit : ℕ) (some : 1 ≤ limit) where
  abbrev d : ℕ → Bool
  d = differ C

  -- before place p: the last cut, what was counted since, and the row's places after it
  record Walked (p : ℕ) : Type 0 where
    from : ℕ
    fuel : ℕ
    few : from ≤ p
    short : 0 < p → from < p
    counted : moved_to d limit p + count_to from d ≡ count_to p d
    low : moved_to d limit p ≤ limit
    enough : 2 ^ C.k ≤ from + fuel
    found : row C limit ≡ cuts_to d limit p ++ row_from C limit fuel from

  walked_start : Walked 0
  unfolding row
  walked_start =
      record {
        from = 0;
        fuel = 2 ^ C.k;
        few = omega arith;
        short = λ l. absurd (omega arith);
        counted = omega (arith, moved-zero d limit);
        low = omega (arith, moved-zero d limit);
        enough = omega arith;
        found = rw (cuts-zero d limit);
      }

  -- no cut
  walked_on : (p : ℕ) → Walked p → (m : ℕ) → moved_to d limit (suc p) ≡ m → m + count_to p d ≡ moved_to d limit p + count_to (suc p) d → m ≤ limit
      → cuts_to d limit (suc p) ≡ cuts_to d limit p ++ [] → Walked (suc p)
  walked_on p W m e c l cuts =
      record {
        from = W.from;
        fuel = W.fuel;
        few = omega (arith, W.few);
        short = λ z. omega (arith, W.few);
        counted = omega (arith, W.counted);
        low = omega arith;
        enough = W.enough;
        found = W.found ∙ ap (λ (xs : List ℕ). xs ++ row_from C limit W.fuel W.from) (sym (cuts ∙ append-nil (cuts_to d limit p)));
      }

  -- a cut
  walked-cut : (p : ℕ) → p < 2 ^ C.k → (W : Walked p) → d p ≡ true → moved_to d limit p ≡ limit → Walked (suc p)
  walked-cut p inside W differs full = by W.fuel refl
    where
      more : count_to (suc p) d ≡ count_to p d + 1
      more = count-suc p d ∙ rw differs

      later : W.from < p
      later = go (ℕ_discrete W.from p)
        where
          go : Dec (W.from ≡ p) → W.from < p
          go (yes e) = absurd (omega (arith, W.counted, ap (λ (x : ℕ). count_to x d) e))
          go (no e) = omega (arith, W.few)

      next : p ≡ next_place C limit W.from
      next =
          next-is C limit W.from p (omega (arith, later)) (omega arith)
          (omega (arith, churn-up C W.from p W.few (omega arith), W.counted))
          (λ r l m. omega (arith, churn-up C W.from r (omega (arith, W.few)) m, W.counted, more, count-mono d (suc p) r l))

      by : (n : ℕ) → W.fuel ≡ n → Walked (suc p)
      by zero e = absurd (omega (arith, W.enough, later))
      by (suc n) e =
          record {
            from = p;
            fuel = n;
            few = omega arith;
            short = λ z. omega arith;
            counted = omega (arith, moved-cut d limit p differs full, more);
            low = omega (arith, moved-cut d limit p differs full);
            enough = omega (arith, W.enough, later);
            found = W.found ∙ ap (λ (xs : List ℕ). cuts_to d limit p ++ xs) step
                ∙ sym (append_assoc (cuts_to d limit p) (p ∷ []) (row_from C limit n p))
                ∙ ap (λ (xs : List ℕ). xs ++ row_from C limit n p) (sym (cuts-cut d limit p differs full));
          }
        where
          step : row_from C limit W.fuel W.from ≡ p ∷ row_from C limit n p
          step = rw (e, row_step C limit n W.from, ← next, lt-ltb p (2 ^ C.k) inside)

  walked : (p : ℕ) → p ≤ 2 ^ C.k → Walked p
  walked zero l = walked_start
  walked (suc p) l = by (walked p (omega arith)) (d p) refl (ℕ_discrete (moved_to d limit p) limit)
    where
      by : Walked p → (b : Bool) → d p ≡ b → Dec (moved_to d limit p ≡ limit) → Walked (suc p)
      by W false e m =
          walked_on p W (moved_to d limit p) (moved-alike d limit p e) (omega (arith, rw e at (count-suc p d))) W.low (cuts-alike d limit p e)
      by W true e (no m) =
          walked_on p W (moved_to d limit p + 1) (moved_more d limit p e m) (omega (arith, rw e at (count-suc p d))) (omega (arith, W.low))
          (cuts-kept d limit p e m)
      by W true e (yes m) = walked-cut p l W e m

  row_walked : row C limit ≡ cuts_to d limit (2 ^ C.k) ++ 2 ^ C.k ∷ []
  row_walked = by (walked (2 ^ C.k) (omega arith))
    where
      by : Walked (2 ^ C.k) → row C limit ≡ cuts_to d limit (2 ^ C.k) ++ 2 ^ C.k ∷ []
      by W = W.found ∙ ap (λ (xs : List ℕ). cuts_to d limit (2 ^ C.k) ++ xs) (last W.fuel refl)
        where
          next : 2 ^ C.k ≡ next_place C limit W.from
          next =
              next-is C limit W.from (2 ^ C.k) (pow_pos C.k) (omega arith)
              (omega (arith, churn-up C W.from (2 ^ C.k) W.few (omega arith), W.counted, W.low))
              (λ r l m. absurd (omega arith))

          last : (n : ℕ) → W.fuel ≡ n → row_from C limit W.fuel W.from ≡ 2 ^ C.k ∷ []
          last zero e = absurd (omega (arith, W.enough, W.short (pow_pos C.k)))
          last (suc n) e = rw (e, row_step C limit n W.from, ← next, le-ltb (2 ^ C.k) (2 ^ C.k) (omega arith))

  pub row_is : (old new : ℕ → ℕ) → ((p : ℕ) → p < 2 ^ C.k → old p ≡ first_match C.old (place C.k p))
      → ((p : ℕ) → p < 2 ^ C.k → new p ≡ first_match C.new (place C.k p)) → row C limit ≡ row_of C.k old new limit
  unfolding row_of
  row_is old new o n =
      row_walked
      ∙ ap (λ (xs : List ℕ). xs ++ 2 ^ C.k ∷ [])
      (cuts-ext d (unlike old new) limit (2 ^ C.k) (λ i l. ap not (ap₂ eqb (sym (o i l)) (sym (n i l)))))

-- how many cuts there are, and where

-- what holds of each of two lists
each_append : (P : ℕ → Type 0) (xs ys : List ℕ) → ((i : ℕ) → i < length xs → P (get_or xs i 0)) → ((i : ℕ) → i < length ys → P (get_or ys i 0))
    → (i : ℕ) → i < length (xs ++ ys) → P (get_or (xs ++ ys) i 0)
each_append P xs ys f g i l = go (dec_lt i (length xs))
  where
    go : Dec (i < length xs) → P (get_or (xs ++ ys) i 0)
    go (yes m) = rw (get_or-append xs ys 0 i m) (f i m)
    go (no m) =
        let e : length xs + (i - length xs) ≡ i = omega arith in
        subst (λ (j : ℕ). P (get_or (xs ++ ys) j 0)) e
        (rw (get_or-append-add xs ys (i - length xs) 0) (g (i - length xs) (omega (arith, length-append xs ys))))

each-one : (P : ℕ → Type 0) (x : ℕ) → P x → (i : ℕ) → i < length (x ∷ []) → P (get_or (x ∷ []) i 0)
each-one P x p zero l = p
each-one P x p (suc i) l = absurd (omega arith)

abbrev Inside : ℕ → ℕ → Type 0
Inside n x = (0 < x) × (x < n)

module _ (d : ℕ → Bool) (limit : ℕ) (some : 1 ≤ limit) where
  -- one place more is a cut or none
  cuts-either : (p : ℕ) → (cuts_to d limit (suc p) ≡ cuts_to d limit p) ⊎ ((0 < p) × (cuts_to d limit (suc p) ≡ cuts_to d limit p ++ p ∷ []))
  cuts-either p = go (d p) refl (ℕ_discrete (moved_to d limit p) limit)
    where
      go : (b : Bool) → d p ≡ b → Dec (moved_to d limit p ≡ limit)
          → (cuts_to d limit (suc p) ≡ cuts_to d limit p) ⊎ ((0 < p) × (cuts_to d limit (suc p) ≡ cuts_to d limit p ++ p ∷ []))
      go false e m = inl (cuts-alike d limit p e ∙ append-nil (cuts_to d limit p))
      go true e (no m) = inl (cuts-kept d limit p e m ∙ append-nil (cuts_to d limit p))
      go true e (yes m) = inr (above (ℕ_discrete p 0), cuts-cut d limit p e m)
        where
          above : Dec (p ≡ 0) → 0 < p
          above (yes z) = absurd (omega (arith, moved-zero d limit, ap (moved_to d limit) z))
          above (no z) = omega arith

  pub cuts-few : (p : ℕ) → 0 < p → length (cuts_to d limit p) < p
  cuts-few zero l = absurd (omega arith)
  cuts-few (suc p) l = go (cuts-either p) (ℕ_discrete p 0) (cuts-few p)
    where
      go : (cuts_to d limit (suc p) ≡ cuts_to d limit p) ⊎ ((0 < p) × (cuts_to d limit (suc p) ≡ cuts_to d limit p ++ p ∷ []))
          → Dec (p ≡ 0) → (0 < p → length (cuts_to d limit p) < p) → length (cuts_to d limit (suc p)) < suc p
      go (inl e) (yes z) ih = omega (arith, ap length e, no-cuts d limit, ap (λ (x : ℕ). length (cuts_to d limit x)) z)
      go (inl e) (no z) ih = omega (arith, ap length e, ih (omega arith))
      go (inr (h, e)) z ih = omega (arith, ap length e, length-append (cuts_to d limit p) (p ∷ []), ih h)

  -- above 0 and below the place
  pub cuts-places : (p i : ℕ) → i < length (cuts_to d limit p) → (0 < get_or (cuts_to d limit p) i 0) × (get_or (cuts_to d limit p) i 0 < p)
  cuts-places zero i l = absurd (omega (arith, no-cuts d limit))
  cuts-places (suc p) i l = go (λ j m. let h = cuts-places p j m in (h.0, omega (arith, h.1))) (cuts-either p)
    where
      go : ((j : ℕ) → j < length (cuts_to d limit p) → Inside (suc p) (get_or (cuts_to d limit p) j 0))
          → (cuts_to d limit (suc p) ≡ cuts_to d limit p) ⊎ ((0 < p) × (cuts_to d limit (suc p) ≡ cuts_to d limit p ++ p ∷ []))
          → Inside (suc p) (get_or (cuts_to d limit (suc p)) i 0)
      go more (inl e) = rw e (more i (omega (arith, ap length e)))
      go more (inr (h, e)) =
          rw e
          (each_append (Inside (suc p)) (cuts_to d limit p) (p ∷ []) more (each-one (Inside (suc p)) p (h, omega arith)) i (omega (arith, ap length e)))

module _ (k : ℕ) (old new : ℕ → ℕ) (limit : ℕ) where
  abbrev cuts : List ℕ
  cuts = cuts_to (unlike old new) limit (2 ^ k)

  pub row-long : length (row_of k old new limit) ≡ length cuts + 1
  unfolding row_of
  row-long = length-append cuts (2 ^ k ∷ [])

  module _ (some : 1 ≤ limit) where
    pub row-few : length (row_of k old new limit) ≤ 2 ^ k
    row-few = omega (arith, row-long, cuts-few (unlike old new) limit some (2 ^ k) (pow_pos k))

    pub row-places : (i : ℕ) → i < length (row_of k old new limit) → (0 < get_or (row_of k old new limit) i 0) × (get_or (row_of k old new limit) i 0 ≤ 2 ^ k)
    unfolding row_of
    row-places i l =
        each_append (λ (x : ℕ). (0 < x) × (x ≤ 2 ^ k)) cuts (2 ^ k ∷ [])
        (λ j m. let h = cuts-places (unlike old new) limit some (2 ^ k) j m in (h.0, omega (arith, h.1)))
        (each-one (λ (x : ℕ). (0 < x) × (x ≤ 2 ^ k)) (2 ^ k) (pow_pos k, omega arith))
        i
        l

-- the row is as promised

module _ (C : Change) (limit : ℕ) (some : 1 ≤ limit) where
  -- each place of it within the limit of the one before
  within-next : (n p : ℕ) → p < 2 ^ C.k → 2 ^ C.k ≤ p + suc n
      → ((q : ℕ) → q < 2 ^ C.k → 2 ^ C.k ≤ q + n → Within C limit q (row_from C limit n q))
      → Within C limit p (next_place C limit p ∷ pick (ltb (next_place C limit p) (2 ^ C.k)) (row_from C limit n (next_place C limit p)) [])
  unfolding Within
  within-next n p l f ih = (next-most C limit p, (next-within C limit p some l, rest (dec_lt (next_place C limit p) (2 ^ C.k))))
    where
      rest : Dec (next_place C limit p < 2 ^ C.k)
          → Within C limit (next_place C limit p) (pick (ltb (next_place C limit p) (2 ^ C.k)) (row_from C limit n (next_place C limit p)) [])
      rest (yes m) =
          rw (lt-ltb (next_place C limit p) (2 ^ C.k) m) (ih (next_place C limit p) m (omega (arith, next-above C limit p some l)))
      rest (no m) = rw (le-ltb (next_place C limit p) (2 ^ C.k) (omega arith)) (omega (arith, next-most C limit p))

  within-from : (n p : ℕ) → p < 2 ^ C.k → 2 ^ C.k ≤ p + n → Within C limit p (row_from C limit n p)
  within-from zero p l f = absurd (omega arith)
  within-from (suc n) p l f = rw (row_step C limit n p) (within-next n p l f (within-from n))

  pub row_within : Within C limit 0 (row C limit)
  unfolding row
  row_within = within-from (2 ^ C.k) 0 (pow_pos C.k) (omega arith)

  -- from a place further on, no row falls behind: q and its next place r, p and its next one
  pub next-ahead : (p q r : ℕ) → q ≤ p → p < 2 ^ C.k → r ≤ 2 ^ C.k → stage_churn C q r ≤ limit → r ≤ next_place C limit p
  next-ahead p q r l inside few low = go (dec_lt p r)
    where
      go : Dec (p < r) → r ≤ next_place C limit p
      go (yes m) =
          next-farthest C limit p r few
          (omega (arith, churn-up C p r (omega arith) few, churn-up C q r (omega arith) few, count-mono (differ C) q p l))
      go (no m) = omega (arith, next-above C limit p some inside)

  fewest-from : (n p q : ℕ) (qs : List ℕ) → q ≤ p → p < 2 ^ C.k → Within C limit q qs → length (row_from C limit n p) ≤ length qs
  unfolding Within row_from
  fewest-from zero p q qs l inside w = omega arith
  fewest-from (suc n) p q [] l inside w = absurd (omega arith)
  fewest-from (suc n) p q (r ∷ qs) l inside w = rest (dec_lt (next_place C limit p) (2 ^ C.k)) (fewest-from n (next_place C limit p) r qs)
    where
      rest : Dec (next_place C limit p < 2 ^ C.k)
          → (r ≤ next_place C limit p → next_place C limit p < 2 ^ C.k → Within C limit r qs → length (row_from C limit n (next_place C limit p)) ≤ length qs)
          → suc (length (pick (ltb (next_place C limit p) (2 ^ C.k)) (row_from C limit n (next_place C limit p)) [])) ≤ suc (length qs)
      rest (yes m) ih =
          rw (lt-ltb (next_place C limit p) (2 ^ C.k) m) (omega (arith, ih (next-ahead p q r l inside w.0 w.1.0) m w.1.1))
      rest (no m) ih = rw (le-ltb (next_place C limit p) (2 ^ C.k) (omega arith)) (omega arith)

  pub row-fewest : (qs : List ℕ) → Within C limit 0 qs → length (row C limit) ≤ length qs
  unfolding row
  row-fewest qs w = fewest-from (2 ^ C.k) 0 0 qs (omega arith) (pow_pos C.k) w

  first-stage : (s : ℕ) → s < 2 ^ C.k → stage_at C 0 s ≡ first_match C.old s
  unfolding stage_at
  first-stage s l = rw (le-ltb (place C.k s) 0 (omega arith))

  last-stage : (s : ℕ) → s < 2 ^ C.k → stage_at C (2 ^ C.k) s ≡ first_match C.new s
  unfolding stage_at
  last-stage s l = rw (lt-ltb (place C.k s) (2 ^ C.k) (place-lt C.k s))

  pub staged-row : ((p q : ℕ) → stage_churn C p q ≡ churn C.k (stage_rules C p) (stage_rules C q)) → Staged C limit (row C limit)
  staged-row counted = record { first = first-stage; within = row_within; last = last-stage; fewest = row-fewest; counted = counted }
