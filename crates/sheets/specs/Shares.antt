-- The share of a backend of a service in a rule sheet, by the count by first match (document 01, under that heading): what the call answers.
use Rattle.std.specs.Prelude.{ℕ, List, Err, Ok, Result}
use Rattle.numerals.specs.Pick.{pick}
use Rattle.numerals.specs.Limits.{most_id}
use Rattle.numerals.specs.Refusals.{no2, no8}
use Rattle.expansion.specs.Answer.{in_limits}
use Rattle.expansion.specs.FirstMatch.{share}
use Rattle.packing.specs.Count.{own_rules}
use Rattle.sheets.specs.RuleSheet.{Table, read_table}
use Rattle.sheets.specs.Calls.{refused_at, answered, has_service}
use Rattle.sheets.specs.declared.answer.ShareRecord.{ShareRecord}
use Rattle.sheets.specs.declared.answer.Refused.{Refused}

-- a of document 01 for service n and the backend with id b: the number of k-bit suffixes given to it, 0 if it got none. 8 comes before 2
unfoldable pub share_in : Table → ℕ → ℕ → Result ShareRecord Refused
share_in t n b =
    pick (has_service t n)
    (pick (in_limits 1 most_id b) (Ok (record { k = t.k; share = share t.k (own_rules n t.lines) b }))
    (Err (refused_at no2 0)))
    (Err (refused_at no8 0))

unfoldable pub share_answer : List ℕ → ℕ → ℕ → Result ShareRecord Refused
share_answer text n b = answered Err 0 (read_table text) (λ t. share_in t n b)
