-- The words of a churn.
use Rattle.std.specs.Prelude.{None, Result, Some}
use Prim.Native.Nat.{ℕ}
use mathlib.Core.Path.{◌≡◌, sym, ap, ◌∙◌}
use mathlib.Core.List.{List}
use Rattle.numerals.specs.Limits.{most_services}
use Rattle.sheets.specs.Calls.{churn_answer}
use Rattle.commands.specs.Said.{prints, no_number, on_number}
use Rattle.commands.specs.Numeral.{numeral}
use Rattle.commands.specs.Inner.Numeral.{capped}
use Rattle.commands.specs.Churn.{churned_text, churn_says}
use Rattle.commands.proofs.Numerals.{capped-value, capped-bad}
use Rattle.commands.proofs.Services.{churn-capped}
use Rattle.sheets.specs.declared.answer.Refused.{Refused}

module _ (old new service : List ℕ) where
  pub no-service : capped most_services (numeral service) ≡ None → churn_says old new service ≡ no_number 3
  unfolding churn_says on_number
  no-service e = rw (capped-bad most_services (numeral service) e)

  pub says : (n : ℕ) → capped most_services (numeral service) ≡ Some n → churn_says old new service ≡ prints (churned_text (churn_answer old new n))
  unfolding churn_says on_number
  says n e =
      let v = capped-value most_services n (numeral service) e in
      rw v.1 (ap (λ (c : Result ℕ Refused). prints (churned_text c)) (sym (churn-capped old new v.0) ∙ ap (churn_answer old new) (sym v.2)))
