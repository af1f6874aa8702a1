-- The lists that come of kept rules: how they end, that the checks of an old list never refuse as they may, and what their rules are.
use Rattle.std.specs.Prelude.{Err, Ok, Result}
use Prim.Native.Nat.{ℕ, zero, suc, ◌-◌, ◌≤◌, ◌<◌, min}
use mathlib.Core.Bool.{Bool, true, false, not}
use mathlib.Core.List.{List, [], ◌∷◌, map}
use mathlib.Core.Logic.{◌≢◌}
use mathlib.Core.Path.{◌≡◌, refl, ap, sym, subst}
use native.Mathlib.Omega.{arith}
use lib.Dec.{leb, ltb, eqb}
use lib.ListN.{length, get_or}
use borrow.Author.Tests.{eq-eqb}
use Rattle.numerals.specs.Limits.{most_bits, most_backends, most_rules, unit}
use Rattle.numerals.specs.Pick.{pick, both}
use Rattle.numerals.specs.Refusals.{number_of, no1, no2, no3, no4, no7, no9, no13}
use Rattle.numerals.specs.Sums.{sum_to, all_to}
use Rattle.numerals.specs.declared.refusal.Refusal.{Refusal}
use Rattle.numerals.proofs.Searches.{clash}
use Rattle.expansion.specs.FirstMatch.{nobody, first_match, gives}
use Rattle.expansion.specs.Imbalance.{Targets, backends, label, weight}
use Rattle.expansion.specs.Steps.{Frame, is_within, is_no_gain, end_of, list_of, oldest}
use Rattle.expansion.specs.Answer.{and_then, or_else, in_limits, is_backend, check_weights}
use Rattle.expansion.specs.Known.{known_ids, weight_of, targets_known}
use Rattle.expansion.specs.OldList.{rules_from, is_proper, check_rules, check_list}
use Rattle.expansion.specs.Resume.{longest, cap_from, frame_from, frame_kept, list_kept, check_old}
use Rattle.expansion.specs.Inner.Sound.{Lengths, Complete, Formed, AllFormed, Sound}
use Rattle.expansion.specs.Inner.Lists.{no_rule}
use Rattle.expansion.specs.Inner.OldList.{Known, Proper}
use Rattle.expansion.specs.Inner.Run.{labelled_by, Valid}
use Rattle.expansion.specs.declared.rule.Rule.{Rule}
use Rattle.expansion.specs.declared.rule.Ended.TheVariants.{Within, NoGain, Budget}
use Rattle.expansion.proofs.Checks.{some-unit}
use Rattle.expansion.proofs.FirstMatch.{rule-short, lengths-mono}
use Rattle.expansion.proofs.KeptStart.{lengths-of, longest-le, lengths-longest, first-known}
use Rattle.expansion.proofs.OldChecks.{old-passed, oldest-proper}
use Rattle.expansion.proofs.OldNumbers.{oldest-length}
use Rattle.expansion.proofs.Turns.{formed-after, length-le}
pub use Rattle.expansion.proofs.Turns.{ended-within}

-- how a list ends

others : (t g : Bool) → pick t Within (pick g NoGain Budget) ≡ Within → t ≡ true
others true g e = refl
others false true e = cc
others false false e = cc

pub within-ended : (F : Frame) (rs : List Rule) → end_of F rs ≡ Within → is_within F rs ≡ true
unfolding end_of
within-ended F rs e = others (is_within F rs) (is_no_gain F rs) e

pub ended-other : (F : Frame) (rs : List Rule) → is_within F rs ≡ false → end_of F rs ≢ Within
ended-other F rs w e = clash (is_within F rs) (within-ended F rs e) w

-- the checks of an old list refuse neither as a short loan nor as stuck

abbrev mild : Refusal → Bool
mild why = both (not (eqb (number_of why) 7)) (not (eqb (number_of why) 13))

abbrev Early : Result (Unit {0}) Refusal → Type 0
Early (Ok tt) = Unit {0}
Early (Err why) = mild why ≡ true

early-then : (a b : (Result (Unit {0}) Refusal)) → Early a → Early b → Early (and_then a b)
early-then (Ok tt) b f g = g
early-then (Err why) b f g = f

early-test : (t : Bool) (why : Refusal) → mild why ≡ true → Early (or_else t why)
early-test true why h = tt
early-test false why h = h

early-rules : (k n last : ℕ) (cs : List ℕ) → Early (check_rules k n last cs)
unfolding check_rules number_of
early-rules k n last [] = early-test (eqb last 0) no9 refl
early-rules k n last (l ∷ []) = refl
early-rules k n last (l ∷ v ∷ []) = refl
early-rules k n last (l ∷ v ∷ b ∷ cs) =
    let rest = check_rules k (suc n) l cs in
    let order = or_else (both (ltb 0 last) (leb l last)) no9 in
    let many = or_else (ltb n most_rules) no4 in
    let proper = is_proper k (record { len = l; value = v; backend = b }) in
    early-then (or_else proper no2) (and_then many (and_then order rest)) (early-test proper no2 refl)
    (early-then many (and_then order rest) (early-test (ltb n most_rules) no4 refl)
    (early-then order rest (early-test (both (ltb 0 last) (leb l last)) no9 refl) (early-rules k (suc n) l cs)))

early-weights : (ids ws : List ℕ) → Early (check_weights ids ws)
unfolding check_weights number_of
early-weights ids ws =
    let n = length ws in
    let few = or_else (leb n most_backends) no4 in
    let pairs = or_else (eqb (length ids) n) no1 in
    let each = or_else (all_to n (is_backend ids ws)) no2 in
    let sums = or_else (eqb (sum_to n (λ b. get_or ws b 0)) unit) no3 in
    early-then (or_else (ltb 0 n) no2) (and_then few (and_then pairs (and_then each sums))) (early-test (ltb 0 n) no2 refl)
    (early-then few (and_then pairs (and_then each sums)) (early-test (leb n most_backends) no4 refl)
    (early-then pairs (and_then each sums) (early-test (eqb (length ids) n) no1 refl)
    (early-then each sums (early-test (all_to n (is_backend ids ws)) no2 refl) (early-test (eqb (sum_to n (λ b. get_or ws b 0)) unit) no3 refl))))

early-old : (k tolerance : ℕ) (cs ids ws : List ℕ) → Early (check_old k tolerance cs ids ws)
unfolding check_old check_list number_of
early-old k tolerance cs ids ws =
    let weighed = check_weights ids ws in
    let some = or_else (ltb 0 (length cs)) no2 in
    let list = and_then some (check_rules k 0 k cs) in
    let tolerable = or_else (leb tolerance unit) no2 in
    early-then (or_else (in_limits 1 most_bits k) no2) (and_then tolerable (and_then list weighed)) (early-test (in_limits 1 most_bits k) no2 refl)
    (early-then tolerable (and_then list weighed) (early-test (leb tolerance unit) no2 refl)
    (early-then list weighed
    (early-then some (check_rules k 0 k cs) (early-test (ltb 0 (length cs)) no2 refl) (early-rules k 0 k cs))
    (early-weights ids ws)))

pub early : (k tolerance : ℕ) (cs ids ws : List ℕ) (why : Refusal) → check_old k tolerance cs ids ws ≡ Err why → (why ≢ no7) × (why ≢ no13)
unfolding number_of
early k tolerance cs ids ws why e =
    let h : mild why ≡ true = subst Early e (early-old k tolerance cs ids ws) in
    (λ z. clash (mild why) h (ap mild z), λ z. clash (mild why) h (ap mild z))

-- the frame that starts from proper rules

module _ (k tolerance : ℕ) (labels ws : List ℕ) (kept : List Rule) (valid : Valid k tolerance labels ws) (P : Proper k labels kept) where
  short-kept : Lengths (k - cap_from k kept) kept
  unfolding cap_from
  short-kept =
      let few = longest-le k kept (lengths-of k kept (λ i l. rule-short k (get_or kept i no_rule) (P.each i l).rule)) in
      lengths-mono (longest kept) (k - min (k - longest kept) (k - 1)) kept (omega arith) (lengths-longest kept)

  complete-kept : Complete (label (labelled_by k labels ws)) (length ws) kept
  unfolding gives label
  complete-kept s =
      let h = first-known k labels kept P s in
      (h.0, omega (arith, h.1, valid.labelled), eq-eqb (first_match kept s) (get_or labels h.0 nobody) h.2)

  pub sound-kept : Sound (frame_from (labelled_by k labels ws) tolerance kept)
  unfolding frame_from backends label weight cap_from
  sound-kept =
      record {
        positive = some-unit;
        balanced = valid.balanced;
        distinct = valid.distinct;
        named = valid.named;
        below = omega (arith, valid.some_bits);
        short = short-kept;
        complete = complete-kept;
      }

-- rules by their place, and all of them

formed-of :
    (k : ℕ) (labels : List ℕ) (rs : List Rule) → ((i : ℕ) → i < length rs → Known k labels (get_or rs i no_rule))
    → AllFormed k (λ b. get_or labels b nobody) (length labels) rs
unfolding AllFormed
formed-of k labels [] each = tt
formed-of k labels (r ∷ rs) each = (each 0 (omega arith), formed-of k labels rs (λ i m. each (suc i) (omega arith)))

formed-at :
    (k : ℕ) (labelled : ℕ → ℕ) (n : ℕ) (rs : List Rule) → AllFormed k labelled n rs → (i : ℕ) → i < length rs → Formed k labelled n (get_or rs i no_rule)
unfolding AllFormed
formed-at k labelled n [] h i l = absurd (omega arith)
formed-at k labelled n (r ∷ rs) h zero l = h.0
formed-at k labelled n (r ∷ rs) h (suc i) l = formed-at k labelled n rs h.1 i (omega arith)

-- the list of the r oldest rules of an old list that passed
module _ (k tolerance : ℕ) (cs ids ws : List ℕ) (r : ℕ) (passed : check_old k tolerance cs ids ws ≡ Ok tt) (some : 1 ≤ r)
    (few : r ≤ length (rules_from cs)) where
  abbrev R : List Rule
  R = rules_from cs

  abbrev T : Targets
  T = targets_known k R ids ws

  pub kept-few : length (list_kept T tolerance R r) ≤ length R
  unfolding list_kept list_of frame_kept frame_from
  kept-few = omega (arith, length-le (frame_kept T tolerance R r) (length R - length (oldest r R)), oldest-length r R few)

  all-formed : AllFormed k (λ b. get_or (known_ids R ids) b nobody) (length (known_ids R ids)) (list_kept T tolerance R r)
  unfolding list_kept list_of frame_kept frame_from targets_known backends label
  all-formed =
      let old = old-passed k tolerance cs ids ws passed in
      let kept = oldest r R in
      let labels = known_ids R ids in
      let weights = map (weight_of ids ws) labels in
      let P = oldest-proper k labels r R old.proper some few in
      let formed : AllFormed k (λ b. get_or labels b nobody) (length weights) kept =
      subst (λ (n : ℕ). AllFormed k (λ b. get_or labels b nobody) n kept) old.valid.labelled (formed-of k labels kept P.each) in
      subst (λ (n : ℕ). AllFormed k (λ b. get_or labels b nobody) n (list_kept T tolerance R r)) (sym old.valid.labelled)
      (formed-after (frame_from T tolerance kept) (sound-kept k tolerance labels weights kept old.valid P) formed (length R - length kept))

  pub kept-known : (i : ℕ) → i < length (list_kept T tolerance R r) → Known k (known_ids R ids) (get_or (list_kept T tolerance R r) i no_rule)
  kept-known i l = formed-at k (λ b. get_or (known_ids R ids) b nobody) (length (known_ids R ids)) (list_kept T tolerance R r) all-formed i l
