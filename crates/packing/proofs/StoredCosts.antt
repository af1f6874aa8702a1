-- The costs, grants and total that the program reads off its stored lists are those of the lists, by any frames; by document 01's its numbers fit.
use Prim.Native.Nat.{ℕ, zero, suc, ◌-◌, ◌*◌, ◌^◌, ◌≤◌, ◌<◌, min}
use mathlib.Core.Path.{◌≡◌, sym, ap, fun_ext, ◌∙◌}
use mathlib.Core.List.{List}
use native.Mathlib.Decide.{dec_lt}
use native.Mathlib.Nat.{zero-mul}
use native.Mathlib.Omega.{arith}
use lib.ListN.{length, get_or, get_or-eq_default}
use Rattle.numerals.specs.Limits.{most_bits, most_services, most_volume, unit}
use Rattle.expansion.specs.Imbalance.{imbalance}
use Rattle.expansion.specs.Steps.{Frame, frame, first_rule, after, stair}
use Rattle.expansion.specs.declared.rule.Rule.{Rule}
use Rattle.numerals.proofs.Sums.{sum-ext}
use Rattle.expansion.proofs.Bounds.{imbalance-bound}
use Rattle.expansion.proofs.Turns.{good-after, oldest-all}
use Rattle.expansion.proofs.Stairs.{stair-falls}
use Rattle.expansion.proofs.Base.{base-stair}
use Rattle.expansion.proofs.Signed.{wants-few}
use Rattle.packing.specs.Grants.{Problem, Grants, total, packed}
use Rattle.packing.specs.Count.{Services, services, targets_of}
use Rattle.packing.specs.Table.{rule_budget, frame_of, list_for}
use Rattle.packing.specs.Inner.Premises.{Balanced}
use Rattle.packing.specs.Inner.Lists.{place_of, Stepped, Granted}
use Rattle.packing.specs.Inner.Stored.{stored_cost, stored_problem, stored_total, held, Payable, AllPayable, Started, Allotted}
use Rattle.packing.proofs.EqualGrants.{packed-agree}
use Rattle.packing.proofs.Demand.{sound}
use Rattle.packing.proofs.Listing.{stair-none}

-- past the end of a list its last stair stays
stair-past : (F : Frame) (rs : List Rule) (c d : ℕ) → length rs ≤ c → length rs ≤ d → stair F c rs ≡ stair F d rs
unfolding stair
stair-past F rs c d l m = ap (imbalance F.targets) (oldest-all c rs l ∙ sym (oldest-all d rs m))

-- a list cut at its own length is whole
stair-cut : (F : Frame) (rs : List Rule) (x : ℕ) → stair F (min x (length rs)) rs ≡ stair F x rs
stair-cut F rs x = go (dec_lt x (length rs))
  where
    go : Dec (x < length rs) → stair F (min x (length rs)) rs ≡ stair F x rs
    go (yes l) = let e : min x (length rs) ≡ x = omega arith in ap (λ (c : ℕ). stair F c rs) e
    go (no l) = stair-past F rs (min x (length rs)) x (omega arith) (omega arith)

-- what is packed by any frames and lists: a service costs its volume × its stair
abbrev pub problem_of : List ℕ → (ℕ → Frame) → (ℕ → List Rule) → Grants → ℕ → Problem
problem_of volumes frames lists least capacity =
    record {
      services = length volumes;
      cost = λ s x. get_or volumes s 0 * stair (frames s) x (lists s);
      least = least;
      capacity = capacity;
    }

module _ (volumes : List ℕ) (frames : ℕ → Frame) (lists : ℕ → List Rule) (stairs counts : List ℕ)
    (stepped : Stepped (length volumes) frames lists stairs counts) where
  abbrev stairs-of : ℕ → ℕ → ℕ
  stairs-of s x = stair (frames s) x (lists s)

  -- the stair at a grant, past the end of the list too
  stair-kept : (s x : ℕ) → s < length volumes → get_or stairs (place_of s (min x (get_or counts s 0))) 0 ≡ stairs-of s x
  stair-kept s x l =
      ap (λ (c : ℕ). get_or stairs (place_of s (min x c)) 0) (stepped.count s l)
      ∙ stepped.step s (min x (length (lists s))) l (omega arith)
      ∙ stair-cut (frames s) (lists s) x

  cost-kept : (s x : ℕ) → stored_cost volumes stairs counts s x ≡ get_or volumes s 0 * stairs-of s x
  unfolding stored_cost
  cost-kept s x = go (dec_lt s (length volumes))
    where
      v : ℕ
      v = get_or volumes s 0

      stair : ℕ
      stair = get_or stairs (place_of s (min x (get_or counts s 0))) 0

      go : Dec (s < length volumes) → v * stair ≡ v * stairs-of s x
      go (yes l) = ap (λ (z : ℕ). v * z) (stair-kept s x l)
      go (no l) =
          let out : v ≡ 0 = get_or-eq_default volumes 0 {n = s} (omega arith) in
          ap (λ (w : ℕ). w * stair) out
          ∙ zero-mul stair
          ∙ sym (zero-mul (stairs-of s x))
          ∙ ap (λ (w : ℕ). w * stairs-of s x) (sym out)

  -- the costs kept are those of the packing
  pub problem-kept :
      (least : Grants) (capacity : ℕ)
      → stored_problem least capacity volumes stairs counts ≡ problem_of volumes frames lists least capacity
  unfolding stored_problem
  problem-kept least capacity =
      ap
      (λ (cost : ℕ → ℕ → ℕ). record { services = length volumes; cost = cost; least = least; capacity = capacity })
      (fun_ext (λ s. fun_ext (λ x. cost-kept s x)))

  module _ (least : Grants) (capacity : ℕ) (grants : List ℕ) where
    -- the grants, where the least ones were held in a list
    pub granted-kept :
        (from : List ℕ) → ((s : ℕ) → s < length volumes → get_or from s 0 ≡ least s) → 0 < length volumes → (r : ℕ)
        → Allotted (held from) capacity volumes stairs counts grants r
        → Granted (length volumes) (packed (problem_of volumes frames lists least capacity)) grants
    unfolding stored_problem
    granted-kept from same some r h =
        record {
          grant =
              λ s l. h.grant s l ∙ packed-agree (stored_problem (held from) capacity volumes stairs counts) least same some s l
              ∙ ap (λ (P : Problem). packed P s) (problem-kept least capacity);
        }

    -- the total of any grants
    pub total_kept :
        (g : Grants) → Granted (length volumes) g grants
        → stored_total volumes stairs counts grants ≡ total (problem_of volumes frames lists least capacity) g
    unfolding stored_total total
    total_kept g kept =
        sum-ext (length volumes) (λ s. stored_cost volumes stairs counts s (get_or grants s 0))
        (λ s. get_or volumes s 0 * stairs-of s (g s))
        (λ s l. cost-kept s (get_or grants s 0) ∙ ap (λ (x : ℕ). get_or volumes s 0 * stairs-of s x) (kept.grant s l))

  -- what is paid fits, where the stairs are small
  pub all-payable :
      ((s c : ℕ) → s < length volumes → stairs-of s c < 2 ^ 40)
      → length volumes ≤ most_services → ((s : ℕ) → s < length volumes → get_or volumes s 0 ≤ most_volume)
      → AllPayable volumes stairs counts
  all-payable small few low = record { few = few; each = each }
    where
      each : (s : ℕ) → s < length volumes → Payable (get_or volumes s 0) stairs s (get_or counts s 0)
      each s l =
          record {
            limit = low s l;
            service = omega arith;
            most = omega (arith, stepped.count s l, stepped.few s l);
            small = λ c m. omega (arith, stepped.step s c l (omega (arith, stepped.count s l)), small s c l);
          }

  -- grants from which on the stairs fall
  pub all-started :
      (grants : List ℕ)
      → ((s x : ℕ) → s < length volumes → get_or grants s 0 ≤ x → stairs-of s (suc x) ≤ stairs-of s x)
      → Started volumes stairs counts grants
  all-started grants down =
      record {
        each = λ s l. record {
          falls = λ c from below. omega (
            arith,
            stepped.step s c l (omega (arith, stepped.count s l)),
            stepped.step s (suc c) l (omega (arith, stepped.count s l)),
            down s c l from,
          );
        };
      }

-- the stairs of document 01 are small, and fall from a first rule on
module _ (S : Services) (tolerance : ℕ) (balanced : Balanced S) where
  pub stair-low :
      S.unit ≡ unit → S.k ≤ most_bits → (s x : ℕ) → s < services S
      → stair (frame_of S tolerance s) x (list_for S tolerance s) < 2 ^ 40
  unfolding list_for frame_of frame first_rule targets_of
  stair-low its-unit short s zero l =
      omega (arith, stair-none (frame_of S tolerance s) (list_for S tolerance s) (balanced.labelled s l))
  stair-low its-unit short s (suc x) l =
      let F : Frame = frame_of S tolerance s in
      let c : ℕ = min (suc x - 1) (rule_budget - 1) in
      omega (
        arith,
        base-stair S.k S.unit tolerance (targets_of S s).labels (targets_of S s).weights (suc x) rule_budget (omega arith),
        imbalance-bound F (sound S tolerance balanced s l) (after F c) (good-after F (sound S tolerance balanced s l) c).complete,
        wants-few S.unit S.k (omega arith) short,
      )

  pub stair-down :
      (s x : ℕ) → s < services S → 1 ≤ x
      → stair (frame_of S tolerance s) (suc x) (list_for S tolerance s) ≤ stair (frame_of S tolerance s) x (list_for S tolerance s)
  unfolding list_for frame_of frame first_rule
  stair-down s x l one = stair-falls (frame_of S tolerance s) (sound S tolerance balanced s l) rule_budget x one
