-- A number on the command line: a numeral of document 01, of any length. The first limit that it may break is that of the command, not that of a machine word.
use Rattle.std.specs.Prelude.{ℕ, List, None, Option, Some}
use Rattle.numerals.specs.Pick.{pick}
use Rattle.numerals.specs.Digits.{value}
use Rattle.numerals.specs.Decimal.{is_numeral}

unfoldable pub numeral : List ℕ → Option ℕ
numeral bs = pick (is_numeral bs) (Some (value 10 bs)) None
