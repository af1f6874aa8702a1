-- `run::go_on` meets its contract. The loop's invariant: in each frame in which state and list stood at the start, they stand after some turns.
use Prim.Native.Nat.{ℕ, ◌-◌, ◌≤◌}
use mathlib.Core.List.{List}
use mathlib.Core.Path.{◌≡◌}
use lib.ListN.{length}
use Rattle.numerals.specs.Limits.{most_rules}
use Rattle.expansion.specs.Steps.{Frame, after}
use Rattle.expansion.specs.KeptShares.{SharesKept}
use Rattle.expansion.specs.Inner.Lists.{Listed}
use Rattle.expansion.specs.Inner.Run.{Stands}
use Rattle.expansion.specs.Inner.Service.{frame_for}
use Rattle.expansion.specs.declared.rule.Rule.{Rule}
use Rattle.expansion.specs.declared.list.RuleList.{RuleList}
use Rattle.expansion.specs.declared.run.State.{State}
use Rattle.expansion.proofs.run.go_on.Given as goal

-- the shares kept since the start
abbrev pub Kept : Frame → ℕ → RuleList → State → State → Type 0
Kept F y list₀ state₀ state = SharesKept F.targets (after F y) list₀.count state₀.ledger state.ledger

-- state and list after so many turns
pub record After (F : Frame) (x : ℕ) (holder low : List ℕ) (st : State) (list : RuleList) : Type 0 where
  pub stands : Stands F x holder low st
  pub listed : Listed F x list

abbrev pub invariant-loop-ended : goal.invariant-loop-ended
invariant-loop-ended l =
    ((cap x : ℕ) (start : List Rule) → After (frame_for l.service cap start) x l.initial.holder l.initial.low l.initial.state
    l.initial.list
    → (y : ℕ) × After (frame_for l.service cap start) y l.holder l.low l.state l.list
    × Kept (frame_for l.service cap start) y l.initial.list l.initial.state l.state)
    × ((l.list.count ≤ l.budget) × ((length l.list.rules ≡ most_rules) × (length l.list.stairs ≡ most_rules)))

abbrev pub decreases-loop-ended : goal.decreases-loop-ended
decreases-loop-ended l = l.budget - l.list.count
