-- The answers of crate `gauges` in plain numbers (document 02, Req 01), and that their floats are exact.
use Rattle.std.specs.Prelude.{ℕ, ◌*◌, ◌≡◌, false, List, eqb, Float, Err, Ok, Result}
use Rattle.numerals.specs.Pick.{pick}
use Rattle.numerals.specs.Refusals.{number_of, no2, no8}
use Rattle.sheets.specs.RuleSheet.{Table, read_table}
use Rattle.sheets.specs.Calls.{refused_at, answered, has_service}
use Rattle.sheets.specs.declared.answer.Refused.{Refused as Why}
use Rattle.gauges.specs.Binary64.{dyadic, Exactly}
use Rattle.gauges.specs.Gauges.{held, reading_answer}
use Rattle.gauges.specs.declared.answer.Gauge.TheVariants as which
use Rattle.gauges.specs.declared.answer.Reading.{Reading}
use Rattle.gauges.specs.declared.answer.Reading.TheVariants.{Share, Load, Absent}
use Rattle.gulmorzon.specs.declared.gauge_answer.GaugesAnswer.{GaugesAnswer}
use Rattle.gulmorzon.specs.declared.gauge_answer.ReadingAnswer.{ReadingAnswer}
use Rattle.gauges.specs.declared.answer.Gauges.{Gauges}

-- the value beside a refusal, and of an absent service
abbrev pub plus_zero : Float
plus_zero = dyadic 0 0

-- ---- the record

abbrev pub record_refused : Why → GaugesAnswer
record_refused r = record { number = number_of r.why; line = r.line; gauges = record { share = plus_zero; load = plus_zero } }

abbrev pub of_record : Result Gauges Why → GaugesAnswer
of_record (Ok g) = record { number = 0; line = 0; gauges = g }
of_record (Err r) = record_refused r

-- ---- the reading

-- the number of a gauge, in the call and as the mark of what was read
abbrev pub share_mark : ℕ
share_mark = 1

abbrev pub load_mark : ℕ
load_mark = 2

-- absent, in place of 8
abbrev pub absent_mark : ℕ
absent_mark = number_of no8

abbrev pub marked : ℕ → Float → ReadingAnswer
marked mark value = record { number = 0; line = 0; mark = mark; value = value }

abbrev pub absent : ReadingAnswer
absent = marked absent_mark plus_zero

abbrev pub read : Reading → ReadingAnswer
read (Share x) = marked share_mark x
read (Load x) = marked load_mark x
read Absent = absent

abbrev pub reading_refused : Why → ReadingAnswer
reading_refused r = record { number = number_of r.why; line = r.line; mark = 0; value = plus_zero }

abbrev pub of_reading : Result Reading Why → ReadingAnswer
of_reading (Ok x) = read x
of_reading (Err r) = reading_refused r

-- a number that names no gauge is 2, after the sheet's own refusals and after absent
abbrev pub no_gauge : List ℕ → ℕ → ReadingAnswer
no_gauge text n = answered reading_refused 0 (read_table text) (λ t. pick (has_service t n) (reading_refused (refused_at no2 0)) absent)

-- the answer by the number of a gauge
abbrev pub reading_called : List ℕ → ℕ → ℕ → ℕ → ℕ → ReadingAnswer
reading_called text n volume b gauge =
    pick (eqb gauge share_mark) (of_reading (reading_answer text n volume b which.Share))
    (pick (eqb gauge load_mark) (of_reading (reading_answer text n volume b which.Load))
    (no_gauge text n))

-- marked as a gauge, the value is equal, bit by bit, to its fraction of whole numbers; marked as absent, the service has no line
pub record ExactMarked (t : Table) (n volume b : ℕ) (r : ReadingAnswer) : Type 0 where
  pub share : r.mark ≡ share_mark → Exactly r.value (held t n b) t.k
  pub load : r.mark ≡ load_mark → Exactly r.value (volume * held t n b) t.k
  pub absent : r.mark ≡ absent_mark → has_service t n ≡ false
