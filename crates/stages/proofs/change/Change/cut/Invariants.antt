-- `Change::cut` meets its contract. The invariant: the cuts below p are stored, and what moved since the last one is counted.
use Rattle.stages.specs.Inner.Nodes.{at}
use Rattle.stages.specs.Inner.Row.{unlike}
use Rattle.stages.proofs.CutRow.{Cut}
use Rattle.stages.proofs.change.Change.cut.Given as goal

abbrev pub invariant-loop-p : goal.invariant-loop-p
invariant-loop-p l = Cut (unlike (at l.self.old.now) (at l.self.new.now)) l.limit l.initial.row l.p l.n l.moved l.row
