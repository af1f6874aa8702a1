-- The update on two texts: the old list from a rule sheet, the new weights with their ids and the tolerance from a percentage sheet (`sheets` specs/Update).
use Rattle.std.specs.Prelude.{ℕ, ◌≡◌, Bool, true, false, List, Err, Ok, Result}
use Rattle.numerals.specs.declared.refusal.Refusal.{Refusal}
use Rattle.expansion.specs.OldList.{numbers_of}
use Rattle.sheets.specs.PercentageSheet.{Sheet, read_sheet}
use Rattle.sheets.specs.RuleSheet.{Table, read_table}
use Rattle.sheets.specs.Calls.{refused_at, answered, values_of, has_service}
use Rattle.sheets.specs.Reading.{got}
use Rattle.sheets.specs.Update.{old_rules, has_weights, new_ids, new_weights, of_both}
use Rattle.sheets.specs.declared.answer.Refused.{Refused as Why}
use Rattle.expansion.specs.Resume.{numbers_resumed}
use Rattle.update.specs.Update.{update_answer}
use Rattle.update.specs.Promise.{PromisedFor}
use Rattle.update.specs.declared.answer.Update.{Update}

-- a refusal of the call without a text has line 0 and is about neither sheet: each of them is proper
abbrev pub neither : Refusal → Why
neither why = refused_at why 0

abbrev pub of_updated : Result Update Refusal → Result Update Why
of_updated (Ok u) = Ok u
of_updated (Err why) = Err (neither why)

-- the list, the ids, the weights and the tolerance that were read, handed to the call without a text
unfoldable pub sheets_in : Table → Sheet → ℕ → ℕ → Result Update Why
sheets_in t S n room =
    of_both Err t S n
    (of_updated (update_answer t.k S.tolerance (new_ids S n) (new_weights S n) (numbers_of (old_rules t n)) room))

unfoldable pub sheets_answer : List ℕ → List ℕ → ℕ → ℕ → Result Update Why
sheets_answer old sheet n room =
    answered Err 1 (read_table old) (λ t. answered Err 2 (read_sheet sheet) (λ S. sheets_in t S n room))

-- a list was made; only then is the lent buffer filled
abbrev pub is_made : Result Update Why → Bool
is_made (Ok u) = true
is_made (Err r) = false

-- the new list in numbers
unfoldable pub sheets_numbers : List ℕ → List ℕ → ℕ → List ℕ
sheets_numbers old sheet n =
    values_of (read_table old) (λ t. values_of (read_sheet sheet) (λ S.
    numbers_resumed t.k S.tolerance (new_ids S n) (new_weights S n) (numbers_of (old_rules t n))))

-- what the request promises, of the old list and the new weights that were read
abbrev pub PromisedBoth : List ℕ → List ℕ → ℕ → Result Update Why → List ℕ → Type 0
PromisedBoth old sheet n r numbers =
    (t : Table) (S : Sheet) → read_table old ≡ got t → read_sheet sheet ≡ got S → has_service t n ≡ true → has_weights S n ≡ true → t.k ≡ S.k
    → (u : (Result Update Refusal)) × (r ≡ of_updated u)
    × PromisedFor t.k S.tolerance (new_ids S n) (new_weights S n) (numbers_of (old_rules t n)) u numbers
