-- `text::count_fields` meets its contract. The invariant: the fields counted and those from i on, the field that i stands in being among both.
use native.Mathlib.Omega.{arith}
use Rattle.numerals.proofs.Fields.{count-more, count_same, count-end}
use Rattle.numerals.proofs.text.count_fields.Goals as goal
use Rattle.numerals.proofs.text.count_fields.Goals.{then-s-i, else-s-i}

pub loop-i-preserved : goal.loop-i-preserved
loop-i-preserved c =
    let a = c.args in
    let i = c.loop-i.i in
    elim c.if-s-i.branch [
      | then-s-i w ↦ omega (arith, count-more a.c i a.to a.s.now (omega arith) w.if-s-i.true)
      | else-s-i w ↦ omega (arith, count_same a.c i a.to a.s.now (omega arith) w.if-s-i.false)
    ]

pub returns : goal.returns
returns c =
    let a = c.args in
    omega (arith, count-end a.c c.loop-i.i a.to a.s.now (omega arith))
