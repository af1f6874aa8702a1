-- The answer of crate `update` in plain numbers (document 02, Req 03 to 05).
use Rattle.std.specs.Prelude.{Err, Ok, Result}
use Rattle.numerals.specs.Refusals.{number_of}
use Rattle.sheets.specs.declared.answer.Refused.{Refused as Why}
use Rattle.update.specs.declared.answer.Update.{Update}
use Rattle.gulmorzon.specs.declared.update_answer.UpdateAnswer.{UpdateAnswer}

abbrev pub update_made : Update → UpdateAnswer
update_made u =
    record { number = 0; line = 0; sheet = 0; k = u.k; kept = u.kept; rules = u.rules; churn = u.churn }

-- sheet: which of two sheets the refusal is about, 0 for neither
abbrev pub update_refused : Why → UpdateAnswer
update_refused r =
    record { number = number_of r.why; line = r.line; sheet = r.of; k = 0; kept = 0; rules = 0; churn = 0 }

abbrev pub of_update : Result Update Why → UpdateAnswer
of_update (Ok u) = update_made u
of_update (Err r) = update_refused r
