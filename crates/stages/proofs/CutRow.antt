-- One turn of the walk that cuts the row, the leaves of filled nodes, one place more of the crowded test, and the
-- tests of a row.
use Rattle.std.specs.Prelude.{Err, Ok}
use Prim.Native.Nat.{ℕ, zero, suc, ◌+◌, ◌-◌, ◌*◌, ◌^◌, ◌≤◌, ◌<◌}
use mathlib.Core.Bool.{Bool, true, false}
use mathlib.Core.List.{List, [], ◌∷◌, ◌++◌, append-nil}
use mathlib.Core.Path.{◌≡◌, refl, ap, ap₂, sym, ◌∙◌, subst}
use native.Mathlib.Decide.{ℕ_discrete}
use native.Mathlib.Nat.{zero-add, mul-one}
use native.Mathlib.Numerals.{add-one}
use native.Mathlib.Omega.{arith}
use lib.ListN.{length, get_or, drop, set, length-append}
use lib.Pow.{pow_pos}
use lib.Seq.{sets, length-sets}
use borrow.Author.Tests.{lt-ltb, le-ltb}
use Rattle.std.proofs.lemmas.List.{drop_all, drop_more}
use Rattle.numerals.specs.Limits.{most_suffixes, most_capacity}
use Rattle.numerals.specs.Refusals.{no2, no14}
use Rattle.expansion.specs.Answer.{in_limits}
use Rattle.sheets.proofs.Writes.{sets-append}
use Rattle.stages.specs.Inner.Nodes.{cut_at, lines_at, Nodes}
use Rattle.stages.specs.Inner.Row.{unlike, moved_to, cuts_to, row_of, crowded_at, judged}
use Rattle.stages.proofs.Rows.{moved-zero, cuts-zero, moved-alike, cuts-alike, moved_more, cuts-kept, moved-cut, cuts-cut}

module _ (d : ℕ → Bool) (limit : ℕ) where
  cuts-step : (p : ℕ) → length (cuts_to d limit p) ≤ length (cuts_to d limit (suc p))
  cuts-step p = go (d p) refl (ℕ_discrete (moved_to d limit p) limit)
    where
      go : (b : Bool) → d p ≡ b → Dec (moved_to d limit p ≡ limit) → length (cuts_to d limit p) ≤ length (cuts_to d limit (suc p))
      go false e m = omega (arith, ap length (cuts-alike d limit p e ∙ append-nil (cuts_to d limit p)))
      go true e (no m) = omega (arith, ap length (cuts-kept d limit p e m ∙ append-nil (cuts_to d limit p)))
      go true e (yes m) = omega (arith, ap length (cuts-cut d limit p e m), length-append (cuts_to d limit p) (p ∷ []))

  pub cuts-up : (p q : ℕ) → p ≤ q → length (cuts_to d limit p) ≤ length (cuts_to d limit q)
  cuts-up p zero l = let e : p ≡ 0 = omega arith in omega (arith, ap (λ (x : ℕ). length (cuts_to d limit x)) e)
  cuts-up p (suc q) l = go (ℕ_discrete p (suc q)) (cuts-up p q)
    where
      go : Dec (p ≡ suc q) → (p ≤ q → length (cuts_to d limit p) ≤ length (cuts_to d limit q)) → length (cuts_to d limit p) ≤ length (cuts_to d limit (suc q))
      go (yes e) ih = omega (arith, ap (λ (x : ℕ). length (cuts_to d limit x)) e)
      go (no e) ih = omega (arith, ih (omega arith), cuts-step q)

  pub cuts-below : (p : ℕ) → length (cuts_to d limit p) ≤ p
  cuts-below zero = omega (arith, ap length (cuts-zero d limit))
  cuts-below (suc p) = go (d p) refl (ℕ_discrete (moved_to d limit p) limit) (cuts-below p)
    where
      go : (b : Bool) → d p ≡ b → Dec (moved_to d limit p ≡ limit) → length (cuts_to d limit p) ≤ p → length (cuts_to d limit (suc p)) ≤ suc p
      go false e m ih = omega (arith, ap length (cuts-alike d limit p e ∙ append-nil (cuts_to d limit p)))
      go true e (no m) ih = omega (arith, ap length (cuts-kept d limit p e m ∙ append-nil (cuts_to d limit p)))
      go true e (yes m) ih = omega (arith, ap length (cuts-cut d limit p e m), length-append (cuts_to d limit p) (p ∷ []))

  pub moved-few : (p : ℕ) → moved_to d limit p ≤ p
  moved-few zero = omega (arith, moved-zero d limit)
  moved-few (suc p) = go (d p) refl (ℕ_discrete (moved_to d limit p) limit) (moved-few p)
    where
      go : (b : Bool) → d p ≡ b → Dec (moved_to d limit p ≡ limit) → moved_to d limit p ≤ p → moved_to d limit (suc p) ≤ suc p
      go false e m ih = omega (arith, moved-alike d limit p e)
      go true e (no m) ih = omega (arith, moved_more d limit p e m)
      go true e (yes m) ih = omega (arith, moved-cut d limit p e m)

  -- it counts no further than the limit
  pub moved-most : 1 ≤ limit → (p : ℕ) → moved_to d limit p ≤ limit
  moved-most some zero = omega (arith, moved-zero d limit)
  moved-most some (suc p) = go (d p) refl (ℕ_discrete (moved_to d limit p) limit) (moved-most some p)
    where
      go : (b : Bool) → d p ≡ b → Dec (moved_to d limit p ≡ limit) → moved_to d limit p ≤ limit → moved_to d limit (suc p) ≤ limit
      go false e m ih = omega (arith, moved-alike d limit p e)
      go true e (no m) ih = omega (arith, moved_more d limit p e m)
      go true e (yes m) ih = omega (arith, moved-cut d limit p e m)

-- the walk before place p: n cuts, stored from the start of a listing, and what was counted since the last one
pub record Cut (d : ℕ → Bool) (limit : ℕ) (first : List ℕ) (p n moved : ℕ) (row : List ℕ) : Type 0 where
  pub long : n ≡ length (cuts_to d limit p)
  pub counted : moved ≡ moved_to d limit p
  pub stored : row ≡ sets first 0 (cuts_to d limit p)

module _ (d : ℕ → Bool) (limit : ℕ) (first : List ℕ) where
  pub cut-start : Cut d limit first 0 0 0 first
  cut-start =
      record {
        long = sym (ap length (cuts-zero d limit));
        counted = sym (moved-zero d limit);
        stored = sym (ap (sets first 0) (cuts-zero d limit));
      }

  -- the listing keeps its length
  pub cut-length : (p n m : ℕ) (row : List ℕ) → Cut d limit first p n m row → length row ≡ length first
  cut-length p n m row C = ap length C.stored ∙ length-sets first 0 (cuts_to d limit p)

  -- the cuts so far are among all
  pub cut-few : (p n m q : ℕ) (row : List ℕ) → Cut d limit first p n m row → p ≤ q → n ≤ length (cuts_to d limit q)
  cut-few p n m q row C l = omega (arith, C.long, cuts-up d limit p q l)

  pub cut_moved : (p n m : ℕ) (row : List ℕ) → Cut d limit first p n m row → m ≤ p
  cut_moved p n m row C = omega (arith, C.counted, moved-few d limit p)

  -- one place more that is no cut
  keep : (p n m m' : ℕ) (row : List ℕ) → Cut d limit first p n m row → cuts_to d limit (suc p) ≡ cuts_to d limit p ++ [] → m' ≡ moved_to d limit (suc p)
      → Cut d limit first (p + 1) n m' row
  keep p n m m' row C e f =
      let same : cuts_to d limit p ≡ cuts_to d limit (p + 1) = sym (append-nil (cuts_to d limit p)) ∙ sym e ∙ ap (cuts_to d limit) (sym (add-one p)) in
      record {
        long = C.long ∙ ap length same;
        counted = f ∙ ap (moved_to d limit) (sym (add-one p));
        stored = C.stored ∙ ap (sets first 0) same;
      }

  pub cut-alike : (p n m : ℕ) (row : List ℕ) → Cut d limit first p n m row → d p ≡ false → Cut d limit first (p + 1) n m row
  cut-alike p n m row C e = keep p n m m row C (cuts-alike d limit p e) (C.counted ∙ sym (moved-alike d limit p e))

  pub cut-more : (p n m : ℕ) (row : List ℕ) → Cut d limit first p n m row → d p ≡ true → (m ≡ limit → ⊥) → Cut d limit first (p + 1) n (m + 1) row
  cut-more p n m row C e free =
      let still : moved_to d limit p ≡ limit → ⊥ = λ f. free (C.counted ∙ f) in
      keep p n m (m + 1) row C (cuts-kept d limit p e still) (ap (λ (x : ℕ). x + 1) C.counted ∙ sym (moved_more d limit p e still))

  -- one that is
  module _ (p n m : ℕ) (row : List ℕ) (C : Cut d limit first p n m row) (e : d p ≡ true) (full : m ≡ limit) where
    now_full : moved_to d limit p ≡ limit
    now_full = sym C.counted ∙ full

    more : cuts_to d limit (p + 1) ≡ cuts_to d limit p ++ p ∷ []
    more = ap (cuts_to d limit) (add-one p) ∙ cuts-cut d limit p e now_full

    pub cut-long : n + 1 ≡ length (cuts_to d limit (p + 1))
    cut-long = omega (arith, ap length more, length-append (cuts_to d limit p) (p ∷ []), C.long)

    pub cut-stored : set row n p ≡ sets first 0 (cuts_to d limit (p + 1))
    cut-stored =
        ap₂ (λ (l : List ℕ) (x : ℕ). set l x p) C.stored (C.long ∙ sym (zero-add (length (cuts_to d limit p))))
        ∙ sym (sets-append first 0 (cuts_to d limit p) (p ∷ []))
        ∙ ap (sets first 0) (sym more)

    pub cut-here : Cut d limit first (p + 1) (n + 1) 1 (set row n p)
    cut-here = record { long = cut-long; counted = sym (ap (moved_to d limit) (add-one p) ∙ moved-cut d limit p e now_full); stored = cut-stored }

-- the end of the row
module _ (k : ℕ) (old new : ℕ → ℕ) (limit : ℕ) where
  pub row-end : (first row : List ℕ) (n m : ℕ) → Cut (unlike old new) limit first (2 ^ k) n m row → set row n (2 ^ k) ≡ sets first 0 (row_of k old new limit)
  unfolding row_of
  row-end first row n m C =
      ap₂ (λ (l : List ℕ) (x : ℕ). set l x (2 ^ k)) C.stored (C.long ∙ sym (zero-add (length (cuts_to (unlike old new) limit (2 ^ k)))))
      ∙ sym (sets-append first 0 (cuts_to (unlike old new) limit (2 ^ k)) (2 ^ k ∷ []))

-- the leaves of filled nodes are the backends
pub nodes-leaf : (k : ℕ) (g : ℕ → ℕ) (held lines : List ℕ) → Nodes k g 1 held lines → (p : ℕ) → p < 2 ^ k → get_or held (2 ^ k + p) 0 ≡ g p
nodes-leaf k g held lines N p l =
    let all : k - 0 ≡ k = omega arith in
    let low : p < 2 ^ (k - 0) = subst (λ (x : ℕ). p < 2 ^ x) (sym all) l in
    let one : p * 2 ^ 0 ≡ p = mul-one p in
    subst (λ (x : ℕ). get_or held (2 ^ x + p) 0 ≡ g p) all
    (N.lowest 0 p (omega arith) low (omega (arith, pow_pos (k - 0))) ∙ ap g one)

-- the crowded test, a place more

module _ (k : ℕ) (old new : ℕ → ℕ) (capacity : ℕ) (row : List ℕ) where
  pub crowded-here : (i : ℕ) → i < length row → capacity < lines_at (cut_at (get_or row i 0) old new) k 0
      → crowded_at k old new capacity (drop i row) ≡ true
  unfolding crowded_at
  crowded-here i l h =
      ap (crowded_at k old new capacity) (drop_more row i 0 l) ∙ rw (lt-ltb capacity (lines_at (cut_at (get_or row i 0) old new) k 0) h)

  pub crowded-later : (i : ℕ) → i < length row → lines_at (cut_at (get_or row i 0) old new) k 0 ≤ capacity
      → crowded_at k old new capacity (drop i row) ≡ crowded_at k old new capacity (drop (i + 1) row)
  unfolding crowded_at
  crowded-later i l h =
      ap (crowded_at k old new capacity) (drop_more row i 0 l)
      ∙ rw (le-ltb capacity (lines_at (cut_at (get_or row i 0) old new) k 0) h)

  pub crowded-none : (i : ℕ) → length row ≤ i → crowded_at k old new capacity (drop i row) ≡ false
  unfolding crowded_at
  crowded-none i l = ap (crowded_at k old new capacity) (drop_all i row l)

-- the tests of a row, one after the other

module _ (k : ℕ) (old new : ℕ → ℕ) (limit capacity number : ℕ) where
  pub judged-limit : in_limits 1 most_suffixes limit ≡ false → judged k old new limit capacity number ≡ Err no2
  unfolding judged
  judged-limit l = rw l

  module _ (l : in_limits 1 most_suffixes limit ≡ true) where
    pub judged-capacity : in_limits 1 most_capacity capacity ≡ false → judged k old new limit capacity number ≡ Err no2
    unfolding judged
    judged-capacity c = rw (l, c)

    module _ (c : in_limits 1 most_capacity capacity ≡ true) where
      pub judged-number : in_limits 1 (length (row_of k old new limit)) number ≡ false → judged k old new limit capacity number ≡ Err no2
      unfolding judged
      judged-number n = rw (l, c, n)

      module _ (n : in_limits 1 (length (row_of k old new limit)) number ≡ true) where
        pub judged-crowded : crowded_at k old new capacity (row_of k old new limit) ≡ true → judged k old new limit capacity number ≡ Err no14
        unfolding judged
        judged-crowded f = rw (l, c, n, f)

        pub judged-row : crowded_at k old new capacity (row_of k old new limit) ≡ false
            → judged k old new limit capacity number ≡ Ok (length (row_of k old new limit))
        unfolding judged
        judged-row f = rw (l, c, n, f)
