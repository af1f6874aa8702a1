-- `Tree::put_lines` meets its contract. The invariant: the lines of the nodes below place p are written, and every such node ends by p.
use Prim.Native.Nat.{◌-◌, ◌^◌}
use Rattle.stages.proofs.StageText.{Going}
use Rattle.stages.proofs.tree.Tree.put_lines.Given as goal

abbrev pub invariant-loop-p : goal.invariant-loop-p
invariant-loop-p l = Going l.self.holder.now l.self.k l.service l.initial.text l.text l.end l.p

abbrev pub decreases-loop-p : goal.decreases-loop-p
decreases-loop-p l = 2 ^ l.self.k - l.p
