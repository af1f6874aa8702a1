-- `first_line::read_form` meets its contract: the field, read by each form.
use mathlib.Core.Path.{ap, ◌∙◌}
use lib.Seq.{take-length}
use Rattle.numerals.specs.Decimal.{number}
use Rattle.numerals.specs.Percentage.{percentage}
use Rattle.sheets.specs.Inner.FirstLine.{read_as}
use Rattle.sheets.proofs.first_line.read_form.Goals as goal

pub returns-in-Limits : goal.returns-in-Limits
unfolding read_as
returns-in-Limits c = rw c.in-Limits.is (c.read_number.ensures ∙ ap (number _ _) (take-length c.args.field.now))

pub returns-in-Percentage : goal.returns-in-Percentage
unfolding read_as
returns-in-Percentage c = rw c.in-Percentage.is (c.read_percentage.ensures ∙ ap (percentage _) (take-length c.args.field.now))
