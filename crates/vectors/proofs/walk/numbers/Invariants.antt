use Rattle.vectors.proofs.Numbers.{Stored}
use Rattle.vectors.proofs.walk.numbers.Given as goal

abbrev pub invariant-loop-i : goal.invariant-loop-i
invariant-loop-i l = Stored l.s l.fn.out l.out l.n l.from l.i
