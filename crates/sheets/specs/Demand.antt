-- Demand 3, over the text of a percentage sheet and the bytes that were printed for it. It speaks of the printed lines alone: the rule sheet's own
-- definition reads them.
use Rattle.std.specs.Prelude.{ℕ, ◌≡◌, List, take, Err, Ok, Result}
use Rattle.packing.specs.Table.{one_each}
use Rattle.packing.specs.Demand.{Demand}
use Rattle.sheets.specs.Reading.{got}
use Rattle.sheets.specs.PercentageSheet.{Sheet, read_sheet}
use Rattle.sheets.specs.RuleSheet.{Table, read_table}
use Rattle.sheets.specs.Calls.{services_in}
use Rattle.sheets.specs.declared.answer.Refused.{Refused}

-- the text is read as a sheet, the bytes as a table of the same k, and the table's total and lines are what demand 3 asks of the sheet's services
pub record Demand3 (text bytes : List ℕ) : Type 0 where
  pub sheet : Sheet
  pub table : Table
  pub sheet_read : read_sheet text ≡ got sheet
  pub table_read : read_table bytes ≡ got table
  pub same_bits : table.k ≡ sheet.k
  pub demand : Demand (services_in sheet) sheet.tolerance one_each sheet.capacity table.total table.lines

-- demand 3 of what a call printed from the start of a buffer
abbrev pub Demand3Of : Result ℕ Refused → List ℕ → List ℕ → Type 0
Demand3Of (Ok n) text out = Demand3 text (take n out)
Demand3Of (Err r) text out = Unit {0}
