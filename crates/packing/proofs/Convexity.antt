-- What the packing packs has falling convex costs, volume × stairs, where each service is granted one rule at least.
use Prim.Native.Nat.{ℕ, suc, ◌-◌, ◌*◌, ◌≤◌, ◌<◌}
use native.Mathlib.Nat.{mul-le-mul_left, mul-sub, le_trans}
use Rattle.expansion.specs.Steps.{frame, first_rule, stair}
use Rattle.expansion.specs.Inner.Sound.{Sound}
use Rattle.expansion.proofs.Stairs.{stair-falls, stair-convex}
use Rattle.packing.specs.Grants.{Grants}
use Rattle.packing.specs.Inner.Premises.{Convex}
use Rattle.packing.specs.Count.{Services, services, volume}
use Rattle.packing.specs.Table.{rule_budget, frame_of, list_for, problem}

pub convex :
    (S : Services) (tolerance : ℕ) (least : Grants) (capacity : ℕ)
    → ((s : ℕ) → s < services S → Sound (frame_of S tolerance s)) → ((s : ℕ) → s < services S → 1 ≤ least s)
    → Convex (problem S tolerance least capacity)
unfolding problem list_for frame_of frame first_rule
convex S tolerance least capacity sound some =
    record {
      falls = λ s x l low. mul-le-mul_left (volume S s) (stair-falls (frame_of S tolerance s) (sound s l) rule_budget x (le_trans (some s l) low));
      bends = bends;
    }
  where
    cost : ℕ → ℕ → ℕ
    cost s x = volume S s * stair (frame_of S tolerance s) x (list_for S tolerance s)

    bends : (s x : ℕ) → s < services S → least s ≤ x → cost s (suc x) - cost s (suc (suc x)) ≤ cost s x - cost s (suc x)
    bends s x l low =
        let at : ℕ → ℕ = λ c. stair (frame_of S tolerance s) c (list_for S tolerance s) in
        rw (← mul-sub (volume S s) (at (suc x)) (at (suc (suc x))), ← mul-sub (volume S s) (at x) (at (suc x)))
        (mul-le-mul_left (volume S s) (stair-convex (frame_of S tolerance s) (sound s l) rule_budget x (le_trans (some s l) low)))
