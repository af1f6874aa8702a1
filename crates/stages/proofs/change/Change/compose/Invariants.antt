-- `Change::compose` meets its contract. The invariant: the stage has its first q places.
use Prim.Native.Nat.{ℕ, ◌<◌}
use mathlib.Core.Path.{◌≡◌}
use lib.ListN.{get_or}
use Rattle.stages.specs.Inner.Changes.{stage_in}
use Rattle.stages.proofs.change.Change.compose.Given as goal

abbrev pub invariant-loop-q : goal.invariant-loop-q
invariant-loop-q l = (y : ℕ) → y < l.q → get_or l.stage y 0 ≡ stage_in l.self l.p y
