-- An update that ends within is so for every id (document 02, Req 04), known or not: one that is missing from the new weights counts as weight 0.
use Rattle.std.specs.Prelude.{Ok}
use Prim.Native.Nat.{ℕ, suc, ◌+◌, ◌*◌, ◌^◌, ◌≤◌, ◌<◌}
use mathlib.Core.Bool.{Bool, true, false, true≢false}
use mathlib.Core.List.{List, [], ◌∷◌, map}
use mathlib.Core.Logic.{◌≢◌}
use mathlib.Core.Path.{◌≡◌, refl, ap, sym, ◌∙◌}
use native.Mathlib.Omega.{arith}
use lib.Dec.{leb, ltb}
use lib.ListN.{length, get_or, length-map, get_or-eq_default, get_or-map}
use borrow.Author.Tests.{leb-true, ltb-true, ltb-false, eqb-true, ne_eqb}
use Rattle.numerals.specs.Limits.{unit}
use Rattle.numerals.specs.Pick.{both}
use Rattle.numerals.proofs.Sums.{count-ext, count-const}
use Rattle.numerals.proofs.Searches.{both_true, all_true}
use Rattle.expansion.specs.FirstMatch.{matches, first_match, gives, share}
use Rattle.expansion.specs.Imbalance.{Targets, backends, label, weight, has, wants, excess, shortfall}
use Rattle.expansion.specs.Steps.{is_within}
use Rattle.expansion.specs.OldList.{rules_from}
use Rattle.expansion.specs.Known.{known_ids, weight_of, targets_known}
use Rattle.expansion.specs.Resume.{frame_from, frame_kept, list_kept, ends_within, check_old}
use Rattle.expansion.specs.Inner.Lists.{no_rule}
use Rattle.expansion.specs.Inner.Known.{Above, Among, place_in, is_there}
use Rattle.expansion.specs.declared.rule.Rule.{Rule}
use Rattle.expansion.proofs.FirstMatch.{gives-matched, gives-passed}
use Rattle.expansion.proofs.KnownIds.{above_at, weight-none, known-id, there-found}
use Rattle.expansion.proofs.KeptLists.{kept-known}
use Rattle.expansion.proofs.OldChecks.{old-passed}

-- a backend that no rule names is given nothing
none-given : (rs : List Rule) (id : ℕ) → 1 ≤ id → ((i : ℕ) → i < length rs → (get_or rs i no_rule).backend ≢ id) → (s : ℕ) → gives rs s id ≡ false
unfolding gives first_match
none-given [] id some h s = ne_eqb 0 id (λ e. omega arith)
none-given (r ∷ rs) id some h s = go (matches r s) refl (none-given rs id some (λ i l. h (suc i) (omega arith)) s)
  where
    go : (t : Bool) → matches r s ≡ t → gives rs s id ≡ false → gives (r ∷ rs) s id ≡ false
    go true e ih = gives-matched r rs s id e ∙ ne_eqb r.backend id (h 0 (omega arith))
    go false e ih = gives-passed r rs s id e ∙ ih

share-none : (k : ℕ) (rs : List Rule) (id : ℕ) → 1 ≤ id → ((i : ℕ) → i < length rs → (get_or rs i no_rule).backend ≢ id) → share k rs id ≡ 0
unfolding share
share-none k rs id some h =
    count-ext (2 ^ k) (λ s. gives rs s id) (λ s. false) (λ s l. none-given rs id some h s) ∙ count-const (2 ^ k) false

-- an id is among ascending ones, or it isn't
data Told (id : ℕ) (ids : List ℕ) : Type 0 where
  there : Among id ids → Told id ids
  missing : (Among id ids → ⊥) → Told id ids

told : (id : ℕ) (ids : List ℕ) → 1 ≤ id → Above 0 ids → Told id ids
told id ids some above = go (is_there id ids) refl (ltb (place_in id ids) (length ids)) refl
  where
    go : (t : Bool) → is_there id ids ≡ t → (u : Bool) → ltb (place_in id ids) (length ids) ≡ u → Told id ids
    go false e u v = Told.missing (λ a. true≢false (sym (there-found id ids above a) ∙ e))
    go true e true v = Told.there (place_in id ids, ltb-true (place_in id ids) (length ids) v, sym (eqb-true (get_or ids (place_in id ids) 0) id e))
    go true e false v =
        absurd
        (omega (
          arith,
          eqb-true (get_or ids (place_in id ids) 0) id e,
          get_or-eq_default ids 0 {n = place_in id ids} (ltb-false (place_in id ids) (length ids) v),
        ))

module _ (k tolerance : ℕ) (cs ids ws : List ℕ) (r : ℕ) (passed : check_old k tolerance cs ids ws ≡ Ok tt) (some : 1 ≤ r)
    (few : r ≤ length (rules_from cs)) where
  abbrev R : List Rule
  R = rules_from cs

  abbrev T : Targets
  T = targets_known k R ids ws

  abbrev known : List ℕ
  known = known_ids R ids

  abbrev new : List Rule
  new = list_kept T tolerance R r

  -- what the backend with this id has and what it wants are at most the slack apart
  abbrev Near : ℕ → Type 0
  Near id =
      (share k new id * unit ≤ weight_of ids ws id * 2 ^ k + tolerance * 2 ^ k) × (weight_of ids ws id * 2 ^ k ≤ share k new id * unit + tolerance * 2 ^ k)

  weight-at : (b : ℕ) → get_or (map (weight_of ids ws) known) b 0 ≡ weight_of ids ws (get_or known b 0)
  weight-at b =
      let P = old-passed k tolerance cs ids ws passed in
      let nobodys : weight_of ids ws 0 ≡ 0 = weight-none ids ws 0 (λ a. omega (arith, above_at 0 ids P.knowable.above a.0 a.1, a.2)) in
      ap (get_or (map (weight_of ids ws) known) b) (sym nobodys) ∙ get_or-map (weight_of ids ws) known b 0

  near-known : ends_within T tolerance R r ≡ true → (id : ℕ) → Among id known → Near id
  unfolding ends_within is_within frame_kept frame_from excess shortfall has wants label weight backends targets_known
  near-known e id a =
      let F = frame_kept T tolerance R r in
      let test : ℕ → Bool = λ b. both (leb (excess T new b) (tolerance * 2 ^ k)) (leb (shortfall T new b) (tolerance * 2 ^ k)) in
      let n : length (map (weight_of ids ws) known) ≡ length known = simp length-map in
      let p = both_true (leb (excess T new a.0) (tolerance * 2 ^ k)) (leb (shortfall T new a.0) (tolerance * 2 ^ k))
      (all_true (backends T) test e a.0 (omega (arith, n, a.1))) in
      let over = leb-true (excess T new a.0) (tolerance * 2 ^ k) p.0 in
      let under = leb-true (shortfall T new a.0) (tolerance * 2 ^ k) p.1 in
      let w : get_or (map (weight_of ids ws) known) a.0 0 ≡ weight_of ids ws id = weight-at a.0 ∙ ap (weight_of ids ws) (sym a.2) in
      let held : share k new (get_or known a.0 0) * unit ≡ share k new id * unit = ap (λ (x : ℕ). share k new x * unit) (sym a.2) in
      let wanted : get_or (map (weight_of ids ws) known) a.0 0 * 2 ^ k ≡ weight_of ids ws id * 2 ^ k = ap (λ (x : ℕ). x * 2 ^ k) w in
      (omega (arith, over, held, wanted), omega (arith, under, held, wanted))

  near-missing : (id : ℕ) → 1 ≤ id → (Among id known → ⊥) → Near id
  near-missing id one d =
      let held = share-none k new id one (λ i l q. let a = (kept-known k tolerance cs ids ws r passed some few i l).known in d (a.0, a.1, sym q ∙ a.2)) in
      let weighs = weight-none ids ws id (λ a. d (known-id R ids id a)) in
      (rw held (omega arith), rw weighs (omega arith))

  pub within-id : ends_within T tolerance R r ≡ true → (id : ℕ) → 1 ≤ id → Near id
  within-id e id one = go (told id known one (old-passed k tolerance cs ids ws passed).ascending.above)
    where
      go : Told id known → Near id
      go (Told.there a) = near-known e id a
      go (Told.missing d) = near-missing id one d
