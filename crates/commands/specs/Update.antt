-- update OLD SHEET SERVICE: new weights on a loaded table (document 02, Req 03 to 05).
use Rattle.std.specs.Prelude.{ℕ, ◌*◌, List, [], ◌∷◌, ◌++◌, Err, Ok, Result}
use Rattle.numerals.specs.Limits.{most_rules}
use Rattle.numerals.specs.Decimal.{decimal}
use Rattle.expansion.specs.OldList.{rules_from}
use Rattle.expansion.specs.declared.rule.Rule.{Rule}
use Rattle.packing.specs.Table.{lines_of}
use Rattle.sheets.specs.Cases.{bytes}
use Rattle.sheets.specs.RuleSheet.{lines_text}
use Rattle.update.specs.Sheets.{sheets_answer, sheets_numbers}
use Rattle.update.specs.declared.answer.Update.{Update}
use Rattle.commands.specs.Said.{Said, prints, on_number}
use Rattle.commands.specs.Refused.{refused_of_text}
use Rattle.commands.specs.Numeral.{numeral}
use Rattle.sheets.specs.declared.answer.Refused.{Refused}

-- UPDATE k r n churn
unfoldable pub update_head : Update → List ℕ
update_head u =
    bytes "UPDATE " ++ decimal u.k ++ 32 ∷ decimal u.kept ++ 32 ∷ decimal u.rules ++ 32 ∷ decimal u.churn ++ 10 ∷ []

-- behind that, the service's lines as in a rule sheet, the newest rule first; or a refusal and the sheet that it is about
unfoldable pub updated_text : Result Update Refused → ℕ → List Rule → List ℕ
updated_text (Ok u) n new = update_head u ++ lines_text (lines_of n new)
updated_text (Err r) n new = refused_of_text r

-- the numbers of the longest list: the command's own buffer has room for every list
abbrev pub list_room : ℕ
list_room = 3 * most_rules

unfoldable pub update_text : List ℕ → List ℕ → ℕ → List ℕ
update_text old sheet n = updated_text (sheets_answer old sheet n list_room) n (rules_from (sheets_numbers old sheet n))

unfoldable pub update_says : List ℕ → List ℕ → List ℕ → Said
update_says old sheet service = on_number (numeral service) 3 (λ n. prints (update_text old sheet n))
