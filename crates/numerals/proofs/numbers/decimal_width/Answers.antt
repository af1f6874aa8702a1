-- `numbers::decimal_width` meets its contract. The loop's invariant: the digits counted and those of what is left make one more than the width.
-- Assumes nothing.
use native.Mathlib.Omega.{arith}
use Rattle.numerals.proofs.Decimal.{width_small, width-more, width-least}
use Rattle.numerals.proofs.numbers.decimal_width.Goals as goal

pub loop-rest-init : goal.loop-rest-init
loop-rest-init c = (omega arith, omega arith)

pub overflow_add-w : goal.overflow_add-w
overflow_add-w c = omega (arith, width-least 19 c.args.n (omega arith))

pub loop-rest-preserved : goal.loop-rest-preserved
loop-rest-preserved c =
    let more = width-more c.loop-rest.rest c.loop-rest-test.true in
    (omega arith, omega arith)

pub returns : goal.returns
returns c = omega (arith, width_small c.loop-rest.rest c.loop-rest-test.false)
