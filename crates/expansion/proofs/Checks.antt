-- What the checks of a call leave.
use Rattle.std.specs.Prelude.{Err, Ok, Result}
use Prim.Native.Nat.{ℕ, suc, ◌≤◌, ◌<◌}
use mathlib.Core.Bool.{Bool, true, false}
use mathlib.Core.List.{List}
use mathlib.Core.Path.{◌≡◌, refl, sym, subst}
use native.Mathlib.Omega.{arith}
use lib.Dec.{leb, ltb, eqb, lit<}
use lib.ListN.{length, get_or}
use borrow.Author.Tests.{leb-true, ltb-true, eqb-true, eq-eqb, lt-ltb, le-leb}
use Rattle.numerals.specs.Sums.{sum_to, all_to, argmax}
use Rattle.expansion.specs.Imbalance.{backends}
use Rattle.expansion.specs.Steps.{frame, first_rule}
use Rattle.expansion.specs.Inner.Sound.{Sound}
use Rattle.expansion.specs.Answer.{and_then, or_else, in_limits, id_before, is_backend, check_weights, check_call}
use Rattle.numerals.specs.Limits.{most_bits, most_backends, most_rules, most_id, unit}
use Rattle.expansion.specs.Inner.Known.{Above}
use Rattle.expansion.specs.Inner.Run.{Valid, Fits}
use Rattle.expansion.specs.Inner.Service.{frame_of}
use Rattle.expansion.specs.declared.service.Service.{Service}
use Rattle.numerals.specs.declared.refusal.Refusal.{Refusal}
use Rattle.numerals.specs.declared.refusal.Refusal.TheVariants.{Malformed, BadField, Unbalanced, TooMany}
use Rattle.expansion.proofs.Base.{first-known, base-sound}
use Rattle.expansion.proofs.Ids.{Rises, rises-distinct, rises-named}
use Rattle.expansion.proofs.KnownIds.{rises-above}
use Rattle.numerals.proofs.Searches.{both_true, all_true, all-false}

-- both checks passed
pub both-passed : (a b : (Result (Unit {0}) Refusal)) → and_then a b ≡ Ok tt → (a ≡ Ok tt) × (b ≡ Ok tt)
both-passed (Ok tt) b e = (refl, e)
both-passed (Err why) b e = (cc, cc)

-- the test of a check that passed
pub test-passed : (t : Bool) (why : Refusal) → or_else t why ≡ Ok tt → t ≡ true
test-passed true why e = refl
test-passed false why e = cc

pub limits : (least most x : ℕ) → in_limits least most x ≡ true → (least ≤ x) × (x ≤ most)
unfolding in_limits
limits least most x e =
    let p = both_true (leb least x) (leb x most) e in
    (leb-true least x p.0, leb-true x most p.1)

-- the backends of a service: 1 to most_backends of them, with ascending ids, each weight at most the unit, which they sum to
pub record Weighed (ids ws : List ℕ) : Type 0 where
  pub someone : 0 < length ws
  pub few : length ws ≤ most_backends
  pub paired : length ids ≡ length ws
  pub rises : Rises ids (length ws)
  pub each : (b : ℕ) → b < length ws → get_or ws b 0 ≤ unit
  pub balanced : sum_to (length ws) (λ b. get_or ws b 0) ≡ unit

module _ (ids ws : List ℕ) (some : 0 < length ws) where
  module _ (few : length ws ≤ most_backends) (paired : length ids ≡ length ws) where
    pub weights-bad : (b : ℕ) → b < length ws → is_backend ids ws b ≡ false → check_weights ids ws ≡ Err BadField
    unfolding check_weights
    weights-bad b l e =
        simp (
          lt-ltb 0 (length ws) some,
          le-leb (length ws) most_backends few,
          eq-eqb (length ids) (length ws) paired,
          all-false (length ws) (is_backend ids ws) b l e,
        )

    pub weights-sum : all_to (length ws) (is_backend ids ws) ≡ true
        → check_weights ids ws ≡ or_else (eqb (sum_to (length ws) (λ j. get_or ws j 0)) unit) Unbalanced
    unfolding check_weights
    weights-sum each =
        simp (
          lt-ltb 0 (length ws) some,
          le-leb (length ws) most_backends few,
          eq-eqb (length ids) (length ws) paired,
          each,
        )

pub is-backend : (ids ws : List ℕ) (b : ℕ) → is_backend ids ws b ≡ true
    → (id_before ids b < get_or ids b 0) × ((get_or ids b 0 ≤ most_id) × (get_or ws b 0 ≤ unit))
unfolding is_backend
is-backend ids ws b e =
    let p = both_true (in_limits (suc (id_before ids b)) most_id (get_or ids b 0)) (leb (get_or ws b 0) unit) e in
    let l = limits (suc (id_before ids b)) most_id (get_or ids b 0) p.0 in
    (l.0, (l.1, leb-true (get_or ws b 0) unit p.1))

pub weights-passed : (ids ws : List ℕ) → check_weights ids ws ≡ Ok tt → Weighed ids ws
unfolding check_weights
weights-passed ids ws e =
    let n = length ws in
    let sum = sum_to n (λ b. get_or ws b 0) in
    let sums = or_else (eqb sum unit) Unbalanced in
    let all = and_then (or_else (all_to n (is_backend ids ws)) BadField) sums in
    let pairs = and_then (or_else (eqb (length ids) n) Malformed) all in
    let p = both-passed (or_else (ltb 0 n) BadField) (and_then (or_else (leb n most_backends) TooMany) pairs) e in
    let q = both-passed (or_else (leb n most_backends) TooMany) pairs p.1 in
    let t = both-passed (or_else (eqb (length ids) n) Malformed) all q.1 in
    let r = both-passed (or_else (all_to n (is_backend ids ws)) BadField) sums t.1 in
    let each : (b : ℕ) → b < n → (id_before ids b < get_or ids b 0) × ((get_or ids b 0 ≤ most_id) × (get_or ws b 0 ≤ unit)) =
    λ b l. is-backend ids ws b (all_true n (is_backend ids ws) (test-passed (all_to n (is_backend ids ws)) BadField r.0) b l) in
    record {
      someone = ltb-true 0 n (test-passed (ltb 0 n) BadField p.0);
      few = leb-true n most_backends (test-passed (leb n most_backends) TooMany q.0);
      paired = eqb-true (length ids) n (test-passed (eqb (length ids) n) Malformed t.0);
      rises = λ b l. (each b l).0;
      each = λ b l. (each b l).1.1;
      balanced = eqb-true sum unit (test-passed (eqb sum unit) Unbalanced r.1);
    }

-- what is left of the checks of a call
module _ (k tolerance budget : ℕ) (ids ws : List ℕ) where
  pub call-weights : in_limits 1 most_bits k ≡ true → tolerance ≤ unit → in_limits 1 most_rules budget ≡ true
      → check_call k tolerance budget ids ws ≡ check_weights ids ws
  unfolding check_call
  call-weights e l f = simp (e, le-leb tolerance unit l, f)

pub call-passed : (k tolerance budget : ℕ) (ids ws : List ℕ) → check_call k tolerance budget ids ws ≡ Ok tt
    → Valid k tolerance ids ws × (1 ≤ budget) × (budget ≤ most_rules) × ((b : ℕ) → b < length ws → get_or ws b 0 ≤ unit)
    × Above 0 ids
unfolding check_call
call-passed k tolerance budget ids ws e =
    let rest = and_then (or_else (in_limits 1 most_rules budget) BadField) (check_weights ids ws) in
    let p = both-passed (or_else (in_limits 1 most_bits k) BadField) (and_then (or_else (leb tolerance unit) BadField) rest) e in
    let q = both-passed (or_else (leb tolerance unit) BadField) rest p.1 in
    let r = both-passed (or_else (in_limits 1 most_rules budget) BadField) (check_weights ids ws) q.1 in
    let bits = limits 1 most_bits k (test-passed (in_limits 1 most_bits k) BadField p.0) in
    let rules = limits 1 most_rules budget (test-passed (in_limits 1 most_rules budget) BadField r.0) in
    let w = weights-passed ids ws r.1 in (
      record {
        some_bits = bits.0;
        few_bits = bits.1;
        tolerable = leb-true tolerance unit (test-passed (leb tolerance unit) BadField q.0);
        someone = w.someone;
        few = omega (arith, w.few);
        balanced = w.balanced;
        labelled = w.paired;
        distinct = rises-distinct ids (length ws) w.rises;
        named = rises-named ids (length ws) w.rises;
      },
      rules.0,
      rules.1,
      w.each,
      rises-above ids (subst (Rises ids) (sym w.paired) w.rises),
    )

pub some-unit : 0 < unit
unfolding unit
some-unit = lit< tt

-- the frame of document 01
module _ (s : Service) where
  pub sound : Sound (frame_of s)
  sound =
      base-sound s.k unit s.tolerance s.labels.now s.weights.now s.valid.some_bits some-unit s.valid.balanced s.valid.distinct s.valid.named

  pub fits : Fits (frame_of s)
  unfolding frame backends first_rule
  fits =
      record {
        in_unit = refl;
        few_bits = s.valid.few_bits;
        tolerable = s.valid.tolerable;
        few = s.valid.few;
        labelled = s.valid.labelled;
        sound = sound;
      }

  pub first-lt : argmax (λ b. get_or s.weights.now b 0) (length s.weights.now) < length s.weights.now
  first-lt = first-known s.k unit s.tolerance s.labels.now s.weights.now s.valid.some_bits some-unit s.valid.balanced s.valid.distinct
