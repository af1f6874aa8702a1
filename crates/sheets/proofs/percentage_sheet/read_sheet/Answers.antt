-- `percentage_sheet::read_sheet` meets its contract: line 1, and the lines behind it.
use Rattle.numerals.proofs.Exits.{handed_on}
use Rattle.sheets.specs.Reading.{then}
use Rattle.sheets.specs.PercentageSheet.{sheet_line, read_sheet, read_sheet_at}
use Rattle.sheets.specs.Inner.FirstLine.{read_as}
use Rattle.sheets.specs.Inner.SheetReader.{sheet_from}
use Rattle.sheets.proofs.percentage_sheet.read_sheet.Goals as goal

pub returns-in_err-line : goal.returns-in_err-line
unfolding read_sheet read_sheet_at sheet_line read_as then
returns-in_err-line c =
    let line = rw c.in_err-line.was at c.read_first_line.ensures in
    rw (handed_on _ _ c.from_residual.ensures) (rw line.0, line.1)

pub returns : goal.returns
unfolding read_sheet read_sheet_at sheet_line sheet_from read_as then
returns c =
    let line = rw c.in_ok-line.was at c.read_first_line.ensures in
    rw line c.read_services.ensures
