-- `nodes::fill` meets its contract. The invariant: the nodes from number i on are kept.
use Rattle.stages.specs.Inner.Nodes.{at, Nodes}
use Rattle.stages.proofs.nodes.fill.Given as goal

abbrev pub invariant-loop-i : goal.invariant-loop-i
invariant-loop-i l = Nodes l.k (at l.holder) l.i l.held l.lines
