-- `printing::line_width` meets its contract: the widths of the parts of a line.
use native.Mathlib.Omega.{arith}
use Rattle.numerals.proofs.Decimal.{width-least}
use Rattle.sheets.proofs.printing.line_width.Goals as goal

-- the two numbers have at most 20 bytes each
pub overflow_add-decimal_width : goal.overflow_add-decimal_width
overflow_add-decimal_width c =
    let a = c.args in
    omega (arith, width-least 19 a.line.now.service (omega arith), width-least 19 a.line.now.backend (omega arith))

pub overflow_add-decimal_width-2 : goal.overflow_add-decimal_width-2
overflow_add-decimal_width-2 c =
    let a = c.args in
    omega (arith, width-least 19 a.line.now.service (omega arith), width-least 19 a.line.now.backend (omega arith))
