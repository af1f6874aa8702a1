-- `fields::number_in` meets its contract: the number that the field is.
use lib.Seq.{take-length}
use Rattle.sheets.proofs.fields.number_in.Goals as goal

pub returns : goal.returns
returns c = rw (← c.field_at-field.ensures, ← take-length c.field_at-field.result.now) c.read_number.ensures
