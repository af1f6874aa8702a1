-- `spreading::spread` meets its contract. The invariant: the lines of the service from `i` on are spread.
use Rattle.stages.specs.Inner.Spread.{Spread}
use Rattle.stages.proofs.SpreadLines.{own_from}
use Rattle.stages.proofs.spreading.spread.Given as goal

abbrev pub invariant-loop-i : goal.invariant-loop-i
invariant-loop-i l = Spread l.k (own_from l.table l.n l.service l.i) l.holder
