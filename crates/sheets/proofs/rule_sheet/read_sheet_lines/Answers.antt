-- `rule_sheet::read_sheet_lines` meets its contract: line 1, and what the lines behind it come to.
use Rattle.std.specs.Prelude.{Err}
use mathlib.Core.Path.{◌≡◌, sym, ap, ◌∙◌}
use Rattle.numerals.specs.Limits.{total_limit}
use Rattle.numerals.proofs.Exits.{handed_on}
use Rattle.sheets.specs.Reading.{refused, then}
use Rattle.sheets.specs.RuleSheet.{table_line, read_table}
use Rattle.sheets.specs.Inner.FirstLine.{read_as}
use Rattle.sheets.specs.Inner.TableReader.{table_from}
use Rattle.sheets.proofs.Reader.{about-none, refused-by}
use Rattle.sheets.proofs.rule_sheet.read_sheet_lines.Goals as goal

pub returns-in_err-line : goal.returns-in_err-line
unfolding read_table table_line read_as total_limit then
returns-in_err-line c =
    let line = rw c.in_err-line.was at c.read_first_line.ensures in
    let w = c.in_err-line.field-0.0 in
    let e : read_table c.args.text.now ≡ refused w.why w.line = rw line.0 in
    let back = refused-by _ _ _ _ e in
    record {
      answer = handed_on _ _ c.from_residual.ensures ∙ ap Err (sym (about-none w line.1)) ∙ back.0;
      buffer = back.1;
    }

pub returns : goal.returns
unfolding read_table table_line table_from read_as total_limit then
returns c =
    let line = rw c.in_ok-line.was at
    c.read_first_line.ensures in
    rw line c.read_lines.ensures
