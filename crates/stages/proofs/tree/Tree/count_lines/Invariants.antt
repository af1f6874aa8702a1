-- `Tree::count_lines` meets its contract. The invariant: node i is on the path from the last place below p, and n are its lines.
use Rattle.stages.specs.Inner.Nodes.{at}
use Rattle.stages.proofs.HeapNodes.{Up}
use Rattle.stages.proofs.tree.Tree.count_lines.Given as goal

abbrev pub invariant-loop-i : goal.invariant-loop-i
invariant-loop-i l = Up l.self.k l.p (at l.self.holder.now) (at l.new.holder.now) l.i l.n

abbrev pub decreases-loop-i : goal.decreases-loop-i
decreases-loop-i l = l.i
