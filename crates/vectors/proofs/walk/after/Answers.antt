use native.Mathlib.Omega.{arith}
use Rattle.vectors.proofs.Parts.{behind-is}
use Rattle.vectors.proofs.walk.after.Goals as goal

pub returns-then-at-s : goal.returns-then-at-s
returns-then-at-s c = omega (arith, behind-is c.args.c c.args.from c.args.s.now c.find-at.result c.find-at.ensures)

pub returns-else-at-s : goal.returns-else-at-s
returns-else-at-s c = omega (arith, behind-is c.args.c c.args.from c.args.s.now c.find-at.result c.find-at.ensures)
