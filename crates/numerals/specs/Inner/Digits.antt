-- Digits of a base, read up to a limit: below numbers, percentages and suffixes.
use Rattle.std.specs.Prelude.{ℕ, List, leb, None, Option, Some}
use Rattle.numerals.specs.Pick.{pick, both}
use Rattle.numerals.specs.Digits.{all_digits, value}

-- what digits that may be at most `most` are read as
unfoldable pub read_digits : ℕ → ℕ → List ℕ → Option ℕ
read_digits base most bs = pick (both (all_digits base bs) (leb (value base bs) most)) (Some (value base bs)) None
