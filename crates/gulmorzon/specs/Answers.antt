-- The answers of crate `sheets` in plain numbers: 0 and a value, or document 01's number of a refusal and where it is.
use Rattle.std.specs.Prelude.{ℕ, List, Err, Ok, Result}
use Rattle.numerals.specs.Refusals.{number_of}
use Rattle.sheets.specs.PercentageSheet.{read_sheet}
use Rattle.sheets.specs.Calls as calls
use Rattle.sheets.specs.declared.answer.Refused.{Refused as Why}
use Rattle.sheets.specs.declared.answer.Plan.{Plan}
use Rattle.gulmorzon.specs.declared.answer.Answer.{Answer}
use Rattle.gulmorzon.specs.declared.answer.PlanAnswer.{PlanAnswer}

abbrev pub answered : ℕ → Answer
answered value = record { number = 0; line = 0; sheet = 0; value = value }

-- sheet: which of two sheets the refusal is about, 0 for neither
abbrev pub refused : Why → Answer
refused r = record { number = number_of r.why; line = r.line; sheet = r.of; value = 0 }

abbrev pub of_answer : Result ℕ Why → Answer
of_answer (Ok n) = answered n
of_answer (Err r) = refused r

abbrev pub plan_made : Plan → PlanAnswer
plan_made p =
    record { number = 0; line = 0; buffer = 0; k = p.k; services = p.services; rules = p.rules; total = p.total }

-- buffer: which lent buffer is too short, figures 1 and table 2, and 0 for none
abbrev pub plan_refused : Why → PlanAnswer
plan_refused r =
    record { number = number_of r.why; line = r.line; buffer = r.of; k = 0; services = 0; rules = 0; total = 0 }

abbrev pub of_planned : Result Plan Why → PlanAnswer
of_planned (Ok p) = plan_made p
of_planned (Err r) = plan_refused r

-- what the call that prints answers, and its lent buffer afterwards
abbrev pub split_answer : List ℕ → ℕ → Result ℕ Why
split_answer text room = calls.print_read (read_sheet text) calls.sheet_text room

abbrev pub split_filled : List ℕ → ℕ → List ℕ → List ℕ
split_filled text room out = calls.afterwards (calls.is_value (split_answer text room)) out (calls.values_of (read_sheet text) calls.sheet_text)
