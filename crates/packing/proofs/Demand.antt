-- The table of the packing, with its total, is what demand 3 asks for.
use Prim.Native.Nat.{ℕ, suc, ◌+◌, ◌-◌, ◌≤◌, ◌<◌}
use mathlib.Core.Path.{◌≡◌, refl, sym}
use mathlib.Core.Bool.{Bool, true, false}
use mathlib.Core.List.{List}
use native.Mathlib.Omega.{arith}
use lib.ListN.{length}
use Rattle.numerals.specs.Pick.{pick}
use Rattle.numerals.specs.Sums.{sum_to}
use Rattle.expansion.specs.Imbalance.{backends, label, weight}
use Rattle.expansion.specs.Steps.{Frame, first_rule, frame, is_within, is_no_gain, end_of, list_of}
use Rattle.expansion.specs.Inner.Sound.{Sound}
use Rattle.expansion.specs.declared.rule.Rule.{Rule}
use Rattle.expansion.specs.declared.rule.Ended.TheVariants.{Within, NoGain, Budget}
use Rattle.numerals.proofs.Sums.{sum-const}
use Rattle.expansion.proofs.Base.{base-sound}
use Rattle.expansion.proofs.NoGain.{no-gain-le}
use Rattle.expansion.proofs.Turns.{good-after}
use Rattle.packing.specs.Grants.{Grants, rules, total}
use Rattle.packing.specs.Count.{Services, services, targets_of, counted, counted_largest_excess, counted_largest_shortfall, own_rules}
use Rattle.packing.specs.Table.{rule_budget, frame_of, list_for, table, problem, granted, one_each}
use Rattle.packing.specs.Demand.{Fitting, Demand}
use Rattle.packing.specs.Inner.Premises.{Allowed, Convex, Balanced}
use Rattle.packing.proofs.GrantSteps.{packed-allowed}
use Rattle.packing.proofs.Best.{best}
use Rattle.packing.proofs.Tables.{own-whole, counted-table}
use Rattle.packing.proofs.Convexity.{convex}

module _ (S : Services) (tolerance : ℕ) (least : Grants) (capacity : ℕ) where
  -- grants that fit are the allowed ones
  pub allowed-fitting : (g : Grants) → Fitting S least capacity g → Allowed (problem S tolerance least capacity) g
  unfolding rules problem
  allowed-fitting g f = record { enough = f.enough; room = f.room }

  pub fitting-allowed : (g : Grants) → Allowed (problem S tolerance least capacity) g → Fitting S least capacity g
  unfolding rules problem
  fitting-allowed g a = record { enough = a.enough; room = a.room }

  module _ (room : sum_to (services S) least ≤ capacity) where
    fits :
        rules (problem S tolerance least capacity) (problem S tolerance least capacity).least
        ≤ (problem S tolerance least capacity).capacity
    unfolding rules problem
    fits = room

    -- the packing's grants fit
    pub granted-fitting : Fitting S least capacity (granted S tolerance least capacity)
    unfolding granted
    granted-fitting =
        fitting-allowed (granted S tolerance least capacity) (packed-allowed (problem S tolerance least capacity) fits)

    -- and no others that fit have a table of a smaller counted total
    pub best-table :
        Convex (problem S tolerance least capacity) → (h : Grants) → Fitting S least capacity h
        → counted S (table S tolerance (granted S tolerance least capacity)) ≤ counted S (table S tolerance h)
    unfolding granted
    best-table bends h f =
        rw (counted-table S tolerance least capacity (granted S tolerance least capacity), counted-table S tolerance least capacity h)
        (best (problem S tolerance least capacity) bends fits h (allowed-fitting h f))

-- one rule to each service fits where the capacity is their number at least
pub one-fits : (S : Services) (capacity : ℕ) → services S ≤ capacity → sum_to (services S) one_each ≤ capacity
one-fits S capacity room = omega (arith, sum-const (services S) 1)

-- only no gain ends as no gain
pub end-no-gain : (F : Frame) (rs : List Rule) → end_of F rs ≡ NoGain → is_no_gain F rs ≡ true
unfolding end_of
end-no-gain F rs e = go (is_within F rs) (is_no_gain F rs) e
  where
    go : (w n : Bool) → pick w Within (pick n NoGain Budget) ≡ NoGain → n ≡ true
    go true n e = cc
    go false true e = refl
    go false false e = cc

module _ (S : Services) (tolerance : ℕ) (balanced : Balanced S) where
  pub sound : (s : ℕ) → s < services S → Sound (frame_of S tolerance s)
  unfolding frame_of backends label weight targets_of
  sound s l =
      base-sound S.k S.unit tolerance (targets_of S s).labels (targets_of S s).weights balanced.bits
      balanced.positive (balanced.weigh s l) (balanced.distinct s l) (balanced.labelled s l)

  -- a service with its whole list in the table, where that ended as no gain, is off by one suffix at most
  pub fine :
      (g : Grants) (s : ℕ) → s < services S
      → length (own_rules (suc s) (table S tolerance g)) ≡ length (list_for S tolerance s)
      → end_of (frame_of S tolerance s) (list_for S tolerance s) ≡ NoGain
      → counted_largest_excess S (table S tolerance g) s + counted_largest_shortfall S (table S tolerance g) s ≤ S.unit
  unfolding counted_largest_excess counted_largest_shortfall list_for list_of frame_of frame first_rule targets_of
  fine g s l whole ended =
      rw (own-whole S tolerance g s l whole)
      (no-gain-le (frame_of S tolerance s) (sound s l) (list_for S tolerance s)
      (good-after (frame_of S tolerance s) (sound s l) (rule_budget - 1)).complete
      (end-no-gain (frame_of S tolerance s) (list_for S tolerance s) ended))

  -- demand 3
  pub demand :
      (least : Grants) (capacity : ℕ) → ((s : ℕ) → s < services S → 1 ≤ least s)
      → sum_to (services S) least ≤ capacity
      → Demand S tolerance least capacity
      (total (problem S tolerance least capacity) (granted S tolerance least capacity))
      (table S tolerance (granted S tolerance least capacity))
  demand least capacity some room =
      record {
        total = sym (counted-table S tolerance least capacity (granted S tolerance least capacity));
        grants = granted S tolerance least capacity;
        fitting = granted-fitting S tolerance least capacity room;
        lines = refl;
        best =
            λ h f. rw (← counted-table S tolerance least capacity (granted S tolerance least capacity))
            (best-table S tolerance least capacity room (convex S tolerance least capacity sound some) h f);
        fine = fine (granted S tolerance least capacity);
      }
