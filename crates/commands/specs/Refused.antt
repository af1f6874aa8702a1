-- Lines that commands print: a number, or `REFUSED number line`, and where two sheets are read `REFUSED number line sheet`.
use Rattle.std.specs.Prelude.{ℕ, List, [], ◌∷◌, ◌++◌}
use Rattle.numerals.specs.Decimal.{decimal}
use Rattle.numerals.specs.Refusals.{number_of}
use Rattle.sheets.specs.Cases.{bytes}
use Rattle.sheets.specs.declared.answer.Refused.{Refused}

unfoldable pub number_text : ℕ → List ℕ
number_text n = decimal n ++ 10 ∷ []

-- REFUSED number line, without the end of the line
unfoldable pub refusal : Refused → List ℕ
refusal r = bytes "REFUSED " ++ decimal (number_of r.why) ++ 32 ∷ decimal r.line

unfoldable pub refused_text : Refused → List ℕ
refused_text r = refusal r ++ 10 ∷ []

-- the sheet that it is about: 1, 2, or 0 for neither
unfoldable pub refused_of_text : Refused → List ℕ
refused_of_text r = refusal r ++ 32 ∷ number_text r.of
