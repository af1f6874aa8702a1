-- What an update reads (document 02, Req 03 and 04): of a rule sheet the rules of a service, which are its old list, and of a percentage sheet its
-- new weights with their ids, and the tolerance. The first sheet is read wholly, then the second; then the first that lacks the service, then unlike k.
use Rattle.std.specs.Prelude.{ℕ, ◌-◌, Bool, true, false, List, [], leb, eqb, length, get_or, Err, Ok, Result}
use Rattle.numerals.specs.Pick.{pick, both}
use Rattle.numerals.specs.Refusals.{no7}
use Rattle.expansion.specs.Answer.{in_limits}
use Rattle.expansion.specs.OldList.{numbers_of}
use Rattle.expansion.specs.declared.rule.Rule.{Rule}
use Rattle.packing.specs.Count.{own_rules}
use Rattle.sheets.specs.PercentageSheet.{Sheet, read_sheet}
use Rattle.sheets.specs.RuleSheet.{Table, read_table}
use Rattle.sheets.specs.Calls.{refused_at, answered, of_service, has_service}
use Rattle.sheets.specs.declared.answer.Refused.{Refused as Why}
use Rattle.sheets.specs.declared.answer.UpdateRecord.{UpdateRecord}

-- the old list of service n: its lines, the newest rule first
unfoldable pub old_rules : Table → ℕ → List Rule
old_rules t n = own_rules n t.lines

-- services are numbered from 1 by place
unfoldable pub has_weights : Sheet → ℕ → Bool
has_weights S n = in_limits 1 (length S.weights) n

-- the ids of the new weights of service n, and those weights
unfoldable pub new_ids : Sheet → ℕ → List ℕ
new_ids S n = get_or S.ids (n - 1) []

unfoldable pub new_weights : Sheet → ℕ → List ℕ
new_weights S n = get_or S.weights (n - 1) []

-- what is answered of a service that both sheets have, under one k
abbrev pub of_both : {A : Type 0} → (Why → A) → Table → Sheet → ℕ → A → A
of_both refuse t S n a = of_service refuse (has_service t n) (has_weights S n) (eqb t.k S.k) a

-- the answer, where the lent buffers have so many places
unfoldable pub update_in : Table → Sheet → ℕ → ℕ → ℕ → ℕ → Result UpdateRecord Why
update_in t S n rules_room ids_room weights_room =
    of_both Err t S n
    (pick
    (both (leb (length (numbers_of (old_rules t n))) rules_room) (both (leb (length (new_ids S n)) ids_room) (leb (length (new_weights S n)) weights_room)))
    (Ok (record { k = t.k; tolerance = S.tolerance; rules = length (old_rules t n); backends = length (new_weights S n) }))
    (Err (refused_at no7 0)))

unfoldable pub update_read_answer : List ℕ → List ℕ → ℕ → ℕ → ℕ → ℕ → Result UpdateRecord Why
update_read_answer old sheet n rules_room ids_room weights_room =
    answered Err 1 (read_table old) (λ t. answered Err 2 (read_sheet sheet) (λ S. update_in t S n rules_room ids_room weights_room))

-- both were read; only then are the lent buffers filled
abbrev pub is_read : Result UpdateRecord Why → Bool
is_read (Ok r) = true
is_read (Err r) = false
