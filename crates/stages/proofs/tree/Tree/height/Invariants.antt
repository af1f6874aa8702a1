-- `Tree::height` meets its contract. The invariant: node i is the one of height n around the place, and one backend has it.
use Prim.Native.Nat.{◌+◌, ◌-◌, ◌/◌, ◌^◌, ◌≤◌}
use mathlib.Core.Bool.{true}
use mathlib.Core.Path.{◌≡◌}
use Rattle.stages.specs.Inner.Nodes.{at, uniform}
use Rattle.stages.proofs.tree.Tree.height.Given as goal

abbrev pub invariant-loop-i : goal.invariant-loop-i
invariant-loop-i l =
    (l.n ≤ l.self.k) × (l.i ≡ 2 ^ (l.self.k - l.n) + l.p / 2 ^ l.n) × (uniform (at l.self.holder.now) l.n (l.p / 2 ^ l.n) ≡ true)

abbrev pub decreases-loop-i : goal.decreases-loop-i
decreases-loop-i l = l.i
