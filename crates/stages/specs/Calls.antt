-- What the two calls of a change in stages answer, and what they write, for every input (document 02, Req 06). The first sheet is read wholly, then the
-- second; then the first that lacks the service, then unlike k, then numbers out of their limits, then a stage that is crowded; a short buffer last.
use Rattle.std.specs.Prelude.{ℕ, ◌-◌, Bool, true, false, List, [], ◌∷◌, ltb, eqb, length, get_or, Err, Result}
use Rattle.numerals.specs.Pick.{pick, both}
use Rattle.numerals.specs.Limits.{most_suffixes, most_capacity}
use Rattle.numerals.specs.Refusals.{no2, no14}
use Rattle.expansion.specs.Answer.{in_limits}
use Rattle.packing.specs.Count.{own_rules}
use Rattle.sheets.specs.RuleSheet.{Table, read_table}
use Rattle.sheets.specs.Calls.{refused_at, answered, values_of, of_service, has_service, print_text}
use Rattle.stages.specs.Stages.{Change, row}
use Rattle.stages.specs.Lines.{stage_rules, stage_text}
use Rattle.sheets.specs.declared.answer.Refused.{Refused}

-- the change of service n from one table to another
unfoldable pub change_of : Table → Table → ℕ → Change
change_of t u n = record { k = t.k; old = own_rules n t.lines; new = own_rules n u.lines }

-- some stage, of those at the places ps, has a list of more lines than the capacity
unfoldable pub crowded : Change → ℕ → List ℕ → Bool
crowded C capacity [] = false
crowded C capacity (p ∷ ps) = pick (ltb capacity (length (stage_rules C p))) true (crowded C capacity ps)

-- the limit, the capacity and the number of a stage of the row are within their limits
unfoldable pub in_range : Change → ℕ → ℕ → ℕ → Bool
in_range C limit capacity number =
    both (in_limits 1 most_suffixes limit) (both (in_limits 1 most_capacity capacity) (in_limits 1 (length (row C limit)) number))

-- what is answered of a change: 2, then 14, or how many values there are for a lent buffer that has room for so many, 7 where it has less
unfoldable pub of_change : Change → ℕ → ℕ → ℕ → List ℕ → ℕ → Result ℕ Refused
of_change C limit capacity number values room =
    pick (in_range C limit capacity number)
    (pick (crowded C capacity (row C limit)) (Err (refused_at no14 0)) (print_text values room))
    (Err (refused_at no2 0))

-- what is answered of two sheets
unfoldable pub of_sheets : List ℕ → List ℕ → ℕ → (Change → (Result ℕ Refused)) → Result ℕ Refused
of_sheets old new n f =
    answered Err 1 (read_table old) (λ t. answered Err 2 (read_table new) (λ u.
    of_service Err (has_service t n) (has_service u n) (eqb t.k u.k) (f (change_of t u n))))

-- the values that a change has for a lent buffer
abbrev pub values_for : List ℕ → List ℕ → ℕ → (Change → List ℕ) → List ℕ
values_for old new n f = values_of (read_table old) (λ t. values_of (read_table new) (λ u. f (change_of t u n)))

-- the row of places: the answer is how many stages there are. Each row has a first stage, so the number of a stage is never out of range
unfoldable pub places_answer : List ℕ → List ℕ → ℕ → ℕ → ℕ → ℕ → Result ℕ Refused
places_answer old new n limit capacity room = of_sheets old new n (λ C. of_change C limit capacity 1 (row C limit) room)

unfoldable pub places_written : List ℕ → List ℕ → ℕ → ℕ → List ℕ
places_written old new n limit = values_for old new n (λ C. row C limit)

-- the place of a stage by its number, from 1
unfoldable pub place_of : Change → ℕ → ℕ → ℕ
place_of C limit number = get_or (row C limit) (number - 1) 0

-- one stage by its number: the answer is how many bytes its text has
unfoldable pub lines_answer : List ℕ → List ℕ → ℕ → ℕ → ℕ → ℕ → ℕ → Result ℕ Refused
lines_answer old new n limit capacity number room =
    of_sheets old new n (λ C. of_change C limit capacity number (stage_text C n (place_of C limit number)) room)

unfoldable pub lines_written : List ℕ → List ℕ → ℕ → ℕ → ℕ → List ℕ
lines_written old new n limit number = values_for old new n (λ C. stage_text C n (place_of C limit number))
