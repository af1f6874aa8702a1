-- The reader of line 1: the forms of its fields, and what it answers.
use Rattle.std.specs.Prelude.{ℕ, ◌≡◌, List, Err, Ok, Option, Result}
use Rattle.numerals.specs.Decimal.{number}
use Rattle.numerals.specs.Percentage.{percentage}
use Rattle.numerals.specs.Limits.{decimals}
use Rattle.numerals.specs.Text.{split}
use Rattle.sheets.specs.Reading.{Reading, got, refused}
use Rattle.sheets.specs.FirstLine.{Opening, opening_fields}
use Rattle.sheets.specs.declared.answer.Refused.{Refused as Why}
use Rattle.sheets.specs.declared.first_line.Form.{Form}
use Rattle.sheets.specs.declared.first_line.Form.TheVariants.{Limits, Percentage}
use Rattle.sheets.specs.declared.first_line.FirstLine.{FirstLine}

-- what a field of this form is read as
unfoldable pub read_as : Form → List ℕ → Option ℕ
read_as (Limits least most) = number least most
read_as Percentage = percentage decimals

-- a refusal as it was answered, about no sheet or buffer of two
abbrev pub RefusedAs : {A : Type 0} → Why → Reading A → Type 0
RefusedAs r reading = (reading ≡ refused r.why r.line) × (r.of ≡ 0)

-- the answer is what was read of a text
abbrev pub OpenedAs : Result FirstLine Why → Reading Opening → Type 0
OpenedAs (Ok l) reading = reading ≡ got (record { k = l.k; second = l.second; third = l.third; behind = split 10 l.behind.now })
OpenedAs (Err r) reading = RefusedAs r reading

-- the answer is what the fields of line 1 are read as, with a text behind it
abbrev pub FieldsAs : Result FirstLine Why → List ℕ → List ℕ → List ℕ → Form → Form → Type 0
FieldsAs r line behind word second third =
    OpenedAs r (opening_fields word (read_as second) (read_as third) (split 32 line) (split 10 behind))
