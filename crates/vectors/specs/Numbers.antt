-- The numbers in the fields of a text.
use Rattle.std.specs.Prelude.{ℕ, List, map, unwrap_or}
use Rattle.numerals.specs.Decimal.{number}
use Rattle.vectors.specs.Parts.{fields}

-- the number of 64 bits that a field is, or 0
unfoldable pub numeral : List ℕ → ℕ
numeral f = unwrap_or (number 0 18446744073709551615 f) 0

-- the number of each field
unfoldable pub numbers : List ℕ → List ℕ
numbers s = map numeral (fields s)
