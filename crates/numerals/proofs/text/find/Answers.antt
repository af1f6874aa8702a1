-- `text::find` meets its contract. The invariant: what is left is searched for from i on.
use native.Mathlib.Omega.{arith}
use Rattle.numerals.proofs.Fields.{found, passed, ended}
use Rattle.numerals.proofs.text.find.Goals as goal

pub returns-then-s-i : goal.returns-then-s-i
returns-then-s-i c =
    let a = c.args in
    omega (arith, found a.c c.loop-i.i a.to a.s.now (omega arith) c.if-s-i.true)

pub loop-i-preserved : goal.loop-i-preserved
loop-i-preserved c =
    let a = c.args in
    omega (arith, passed a.c c.loop-i.i a.to a.s.now (omega arith) c.if-s-i.false)

pub returns : goal.returns
returns c =
    let a = c.args in
    grind (arith, ended a.c a.from a.to a.s.now, ended a.c c.loop-i.i a.to a.s.now)
