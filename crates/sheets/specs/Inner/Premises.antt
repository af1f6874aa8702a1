-- What laws of the rule sheet ask of a table, and how they compare the two readers.
use Rattle.std.specs.Prelude.{◌^◌, ◌<◌, List, [], ◌∷◌}
use Rattle.packing.specs.Count.{Line}
use Rattle.sheets.specs.Reading.{Reading, got, refused}
use Rattle.sheets.specs.RuleSheet.{Table, check_sheet}

-- the check of a table of whole lines
unfoldable pub check_table : Table → Reading Table
check_table t = check_sheet t 0

-- every suffix's value has the bits that its length says, so that the text says the same line
unfoldable pub ValuesFit : List Line → Type 0
ValuesFit [] = Unit {0}
ValuesFit (l ∷ ls) = (l.rule.value < 2 ^ l.rule.len) × ValuesFit ls

-- what was read, as a call without a text answers it: with line 0
unfoldable pub at_no_line : {A : Type 0} → Reading A → Reading A
at_no_line (got a) = got a
at_no_line (refused why line) = refused why 0
