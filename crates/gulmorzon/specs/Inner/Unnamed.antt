-- A number that names no gauge.
use Rattle.std.specs.Prelude.{Err, Ok, Result}
use Rattle.numerals.specs.Refusals.{no2}
use Rattle.sheets.specs.Calls.{refused_at}
use Rattle.gauges.specs.declared.answer.Reading.{Reading}
use Rattle.gauges.specs.declared.answer.Reading.TheVariants.{Share, Load, Absent}
use Rattle.gulmorzon.specs.Gauges.{absent, reading_refused}
use Rattle.gulmorzon.specs.declared.gauge_answer.ReadingAnswer.{ReadingAnswer}
use Rattle.sheets.specs.declared.answer.Refused.{Refused}

-- what was read for a number that names no gauge
abbrev pub unnamed : Reading → ReadingAnswer
unnamed (Share x) = reading_refused (refused_at no2 0)
unnamed (Load x) = reading_refused (refused_at no2 0)
unnamed Absent = absent

abbrev pub of_unnamed : Result Reading Refused → ReadingAnswer
of_unnamed (Ok x) = unnamed x
of_unnamed (Err r) = reading_refused r
