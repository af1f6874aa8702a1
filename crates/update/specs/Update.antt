-- New weights on a loaded table (document 02, Req 03 to 05; the paper's section 6.1): the expansion from kept rules (`expansion` specs/Resume), backends
-- matched by id (specs/Known), told with k.
use Rattle.std.specs.Prelude.{ℕ, Bool, true, false, List, Err, Ok, Result}
use Rattle.expansion.specs.Resume.{resume_answer}
use Rattle.expansion.specs.declared.resuming.Kept.{Kept}
use Rattle.numerals.specs.declared.refusal.Refusal.{Refusal}
use Rattle.update.specs.declared.answer.Update.{Update}

-- the answer of the expansion from kept rules, with k
abbrev pub of_resumed : ℕ → Result Kept Refusal → Result Update Refusal
of_resumed k (Ok m) = Ok (record { k = k; kept = m.kept; rules = m.rules; churn = m.churn })
of_resumed k (Err why) = Err why

-- the answer, for an old list in numbers and a lent buffer that has `room` places
unfoldable pub update_answer : ℕ → ℕ → List ℕ → List ℕ → List ℕ → ℕ → Result Update Refusal
update_answer k tolerance ids ws old room = of_resumed k (resume_answer k tolerance ids ws old room)

-- a list was made; only then is the lent buffer filled
abbrev pub is_made : Result Update Refusal → Bool
is_made (Ok u) = true
is_made (Err why) = false
