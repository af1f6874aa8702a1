-- The gauges of a backend (document 02, Req 01): share and load, what the two calls answer, and that each float is exact.
use Rattle.std.specs.Prelude.{ℕ, ◌*◌, ◌≡◌, Bool, false, List, leb, Err, Ok, Result}
use Rattle.numerals.specs.Pick.{pick, both}
use Rattle.numerals.specs.Limits.{most_id, most_volume}
use Rattle.numerals.specs.Refusals.{no2, no8}
use Rattle.expansion.specs.Answer.{in_limits}
use Rattle.expansion.specs.FirstMatch.{share}
use Rattle.packing.specs.Count.{own_rules}
use Rattle.sheets.specs.RuleSheet.{Table, read_table}
use Rattle.sheets.specs.Calls.{refused_at, answered, has_service}
use Rattle.sheets.specs.declared.answer.Refused.{Refused as Why}
use Rattle.gauges.specs.Binary64.{dyadic, Exactly}
use Rattle.gauges.specs.declared.answer.Gauge.{Gauge}
use Rattle.gauges.specs.declared.answer.Gauge.TheVariants as which
use Rattle.gauges.specs.declared.answer.Reading.{Reading}
use Rattle.gauges.specs.declared.answer.Reading.TheVariants.{Share, Load, Absent}
use Rattle.gauges.specs.declared.answer.Gauges.{Gauges}

-- the suffix count of the backend with id b: how many of the 2^k suffixes the lines of service n give it by first match, 0 if it got none
unfoldable pub held : Table → ℕ → ℕ → ℕ
held t n b = share t.k (own_rules n t.lines) b

-- the record of a backend that holds so many of 2^k suffixes: share and load
unfoldable pub gauges_of : ℕ → ℕ → ℕ → Gauges
gauges_of k count volume = record { share = dyadic count k; load = dyadic (volume * count) k }

-- the numbers beside the text are in their limits: the volume and the backend
unfoldable pub in_range : ℕ → ℕ → Bool
in_range volume b = both (leb volume most_volume) (in_limits 1 most_id b)

-- what both calls answer of a table: first what stands for a service that isn't there, then 2 for a number beside the text, then what is made of the record
abbrev pub gauged : {A : Type 0} → A → (Why → A) → (Gauges → A) → Table → ℕ → ℕ → ℕ → A
gauged missing refuse make t n volume b =
    pick (has_service t n) (pick (in_range volume b) (make (gauges_of t.k (held t n b) volume)) (refuse (refused_at no2 0))) missing

-- the record, or 8
unfoldable pub gauges_in : Table → ℕ → ℕ → ℕ → Result Gauges Why
gauges_in = gauged (Err (refused_at no8 0)) Err Ok

unfoldable pub gauges_answer : List ℕ → ℕ → ℕ → ℕ → Result Gauges Why
gauges_answer text n volume b = answered Err 0 (read_table text) (λ t. gauges_in t n volume b)

-- the gauge that is read of a record
unfoldable pub reading_of : Gauge → Gauges → Reading
reading_of which.Share g = Share g.share
reading_of which.Load g = Load g.load

-- the reading: the mark that the service is absent stands in place of 8
unfoldable pub reading_in : Table → ℕ → ℕ → ℕ → Gauge → Result Reading Why
reading_in t n volume b gauge = gauged (Ok Absent) Err (λ g. Ok (reading_of gauge g)) t n volume b

unfoldable pub reading_answer : List ℕ → ℕ → ℕ → ℕ → Gauge → Result Reading Why
reading_answer text n volume b gauge = answered Err 0 (read_table text) (λ t. reading_in t n volume b gauge)

-- both floats of a record are equal, bit by bit, to fractions of whole numbers: held / 2^k and volume × held / 2^k
pub record ExactGauges (t : Table) (n volume b : ℕ) (g : Gauges) : Type 0 where
  pub share : Exactly g.share (held t n b) t.k
  pub load : Exactly g.load (volume * held t n b) t.k

-- so is the float of a reading; absent means that the service has no line
abbrev pub ExactReading : Table → ℕ → ℕ → ℕ → Reading → Type 0
ExactReading t n volume b (Share x) = Exactly x (held t n b) t.k
ExactReading t n volume b (Load x) = Exactly x (volume * held t n b) t.k
ExactReading t n volume b Absent = has_service t n ≡ false
