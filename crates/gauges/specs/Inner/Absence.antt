-- What stands in place of 8.
use Rattle.numerals.specs.Refusals.{number_of, no8}
use Rattle.numerals.specs.Pick.{pick}
use Rattle.std.specs.Prelude.{eqb, Err, Ok, Result}
use Rattle.sheets.specs.declared.answer.Refused.{Refused as Why}
use Rattle.gauges.specs.declared.answer.Reading.TheVariants.{Absent}
use Rattle.gauges.specs.declared.answer.Reading.{Reading}

-- a refusal of the record as a reading
unfoldable pub in_place_of_8 : Why → Result Reading Why
in_place_of_8 r = pick (eqb (number_of r.why) (number_of no8)) (Ok Absent) (Err r)
