-- churn OLD NEW SERVICE: how many suffixes of a service moved.
use Rattle.std.specs.Prelude.{ℕ, List, Err, Ok, Result}
use Rattle.sheets.specs.Calls.{churn_answer}
use Rattle.commands.specs.Said.{Said, prints, on_number}
use Rattle.commands.specs.Refused.{number_text, refused_of_text}
use Rattle.commands.specs.Numeral.{numeral}
use Rattle.sheets.specs.declared.answer.Refused.{Refused}

unfoldable pub churned_text : Result ℕ Refused → List ℕ
churned_text (Ok n) = number_text n
churned_text (Err r) = refused_of_text r

unfoldable pub churn_says : List ℕ → List ℕ → List ℕ → Said
churn_says old new service = on_number (numeral service) 3 (λ n. prints (churned_text (churn_answer old new n)))
