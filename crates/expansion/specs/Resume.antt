-- The expansion from kept rules (document 02, Req 03 to 05): of an old list the r oldest rules are kept, and the steps of document 01 go on from the shares
-- that these give, for new weights; of all r that end within tolerance the one with the lowest churn is answered, the largest if equal. What the call checks,
-- in this order, and what it answers and writes.
use Rattle.std.specs.Prelude.{ℕ, suc, ◌-◌, min, max, Bool, true, false, List, [], ◌∷◌, leb, eqb, length, Err, Ok, Result}
use Rattle.numerals.specs.Pick.{pick, both}
use Rattle.numerals.specs.Limits.{most_bits, unit}
use Rattle.numerals.specs.Refusals.{no2, no7, no13}
use Rattle.numerals.specs.Sums.{all_to, largest_to}
use Rattle.expansion.specs.FirstMatch.{churn}
use Rattle.expansion.specs.Imbalance.{Targets}
use Rattle.expansion.specs.Steps.{Frame, is_within, oldest, list_of}
use Rattle.expansion.specs.Answer.{and_then, on_checked, or_else, in_limits, check_weights}
use Rattle.expansion.specs.Known.{targets_known}
use Rattle.expansion.specs.OldList.{rules_from, numbers_of, check_list}
use Rattle.expansion.specs.declared.rule.Rule.{Rule}
use Rattle.expansion.specs.declared.resuming.Kept.{Kept}
use Rattle.numerals.specs.declared.refusal.Refusal.{Refusal}

-- the length of the longest of these suffixes, which is the smallest: it covers 2^(k - longest)
unfoldable pub longest : List Rule → ℕ
longest [] = 0
longest (r ∷ rs) = max r.len (longest rs)

-- no term may exceed the smallest kept suffix or half the tree: terms are of at most 2^cap suffixes
unfoldable pub cap_from : ℕ → List Rule → ℕ
cap_from k kept = min (k - longest kept) (k - 1)

-- the expansion that starts from kept rules, for new weights, which the targets have
unfoldable pub frame_from : Targets → ℕ → List Rule → Frame
frame_from T tolerance kept = record { targets = T; tolerance = tolerance; cap = cap_from T.k kept; start = kept }

-- the r oldest rules of the old list are kept
unfoldable pub frame_kept : Targets → ℕ → List Rule → ℕ → Frame
frame_kept T tolerance old r = frame_from T tolerance (oldest r old)

-- the list that this comes to: the result may not have more rules than the old list
unfoldable pub list_kept : Targets → ℕ → List Rule → ℕ → List Rule
list_kept T tolerance old r = list_of (frame_kept T tolerance old r) (length old)

-- r ends within: where its list stops, the size of each error is at most tolerance × 2^k
unfoldable pub ends_within : Targets → ℕ → List Rule → ℕ → Bool
ends_within T tolerance old r = is_within (frame_kept T tolerance old r) (list_kept T tolerance old r)

-- the churn of r: that from the old list to the list that r comes to
unfoldable pub churn_kept : Targets → ℕ → List Rule → ℕ → ℕ
churn_kept T tolerance old r = churn T.k old (list_kept T tolerance old r)

-- r passes, and each of the numbers 1 to n that passes costs at least as much
unfoldable pub is_lowest : ℕ → (ℕ → Bool) → (ℕ → ℕ) → ℕ → Bool
is_lowest n passes cost r = both (passes r) (all_to n (λ i. pick (passes (suc i)) (leb (cost r) (cost (suc i))) true))

-- the r that is answered, from 1 to all: of those that end within, the one with the lowest churn, the largest if equal (Req 05)
unfoldable pub kept_of : Targets → ℕ → List Rule → ℕ
kept_of T tolerance old = largest_to (length old) (is_lowest (length old) (ends_within T tolerance old) (churn_kept T tolerance old))

-- its list
unfoldable pub list_resumed : Targets → ℕ → List Rule → List Rule
list_resumed T tolerance old = list_kept T tolerance old (kept_of T tolerance old)

-- k, tolerance, the old list, then the ids and weights
unfoldable pub check_old : ℕ → ℕ → List ℕ → List ℕ → List ℕ → Result (Unit {0}) Refusal
check_old k tolerance old ids ws =
    and_then (or_else (in_limits 1 most_bits k) no2)
    (and_then (or_else (leb tolerance unit) no2)
    (and_then (check_list k old)
    (check_weights ids ws)))

-- the list of a call in numbers, the newest rule first
unfoldable pub numbers_resumed : ℕ → ℕ → List ℕ → List ℕ → List ℕ → List ℕ
numbers_resumed k tolerance ids ws old = numbers_of (list_resumed (targets_known k (rules_from old) ids ws) tolerance (rules_from old))

-- what is told of the new list
abbrev pub record_resumed : Targets → ℕ → List Rule → Kept
record_resumed T tolerance old =
    record {
      kept = kept_of T tolerance old;
      rules = length (list_resumed T tolerance old);
      churn = churn_kept T tolerance old (kept_of T tolerance old);
    }

-- after the checks: 13 where no r ends within; 7 last, where the lent buffer, of `room` places, is too short
unfoldable pub resume_of : Targets → ℕ → List Rule → ℕ → Result Kept Refusal
resume_of T tolerance old room =
    pick (eqb (kept_of T tolerance old) 0) (Err no13)
    (pick (leb (length (numbers_of (list_resumed T tolerance old))) room)
    (Ok (record_resumed T tolerance old))
    (Err no7))

unfoldable pub resume_answer : ℕ → ℕ → List ℕ → List ℕ → List ℕ → ℕ → Result Kept Refusal
resume_answer k tolerance ids ws old room =
    on_checked Err (check_old k tolerance old ids ws) (resume_of (targets_known k (rules_from old) ids ws) tolerance (rules_from old) room)

-- a list was made; only then is the lent buffer filled
abbrev pub is_resumed : Result Kept Refusal → Bool
is_resumed (Ok r) = true
is_resumed (Err why) = false
