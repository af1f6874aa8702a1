-- split SHEET: the rule sheet of a percentage sheet, or its refusal; and what becomes of four-place percentages (document 02, Req 07).
use Rattle.std.specs.Prelude.{ℕ, true, List, ◌≡◌, length}
use Rattle.std.proofs.lemmas.List.Edits.{sets}
use Rattle.sheets.specs.Reading.{Reading, got, refused, then}
use Rattle.sheets.specs.PercentageSheet.{Sheet, read_sheet}
use Rattle.sheets.specs.RuleSheet.{Table, table_text}
use Rattle.sheets.specs.Calls.{refused_at, sheet_text}
use Rattle.sheets.specs.FourPlaces.{former_decimals, former_table, hundredfold, few_in_sheet}
use Rattle.commands.specs.Refused.{refused_text}

unfoldable pub split_of : Reading Sheet → List ℕ
split_of (got S) = sheet_text S
split_of (refused why line) = refused_text (refused_at why line)

unfoldable pub split_prints : List ℕ → List ℕ
split_prints sheet = split_of (read_sheet sheet)

-- a table, or its refusal, as it is printed
unfoldable pub table_prints : Reading Table → List ℕ
table_prints (got t) = table_text t
table_prints (refused why line) = refused_text (refused_at why line)

-- these bytes were printed, from the start of the buffer on
abbrev pub Printed : List ℕ → ℕ → List ℕ → List ℕ → Type 0
Printed bytes n out out' = (n ≡ length bytes) × (out' ≡ sets out 0 bytes)

-- what is printed of four-place percentages: the lines and a hundred times the total of the table at document 01's decimals and unit, or its refusal
pub record FourPlacesPrinted (text : List ℕ) (n : ℕ) (out out' : List ℕ) : Type 0 where
  -- of what is accepted there
  pub valid : (t : Table) → former_table text ≡ got t → Printed (table_text (hundredfold t)) n out out'
  -- of every sheet in which no percentage has more than four decimals
  pub alike : few_in_sheet former_decimals text ≡ true → Printed (table_prints (then (former_table text) (λ t. got (hundredfold t)))) n out out'
