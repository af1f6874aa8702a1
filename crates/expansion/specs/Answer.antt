-- The expansion without a text (document 01, "Turned-back work"): what it checks, in this order, and what it answers and writes.
use Rattle.std.specs.Prelude.{ℕ, zero, suc, ◌+◌, Bool, true, false, List, reverse, map, leb, ltb, eqb, length, get_or, Err, Ok, Result}
use Rattle.numerals.specs.Pick.{pick, both}
use Rattle.numerals.specs.Limits.{most_bits, most_backends, most_rules, most_id, unit}
use Rattle.numerals.specs.Sums.{sum_to, all_to}
use Rattle.expansion.specs.Steps.{Frame, frame, list_of, end_of, stairs_to}
use Rattle.expansion.specs.declared.rule.Rule.{Rule}
use Rattle.expansion.specs.declared.rule.Record.{Record}
use Rattle.numerals.specs.declared.refusal.Refusal.{Refusal}
use Rattle.numerals.specs.Refusals.{no1, no2, no3, no4, no7}

-- the next check, where the ones before passed
abbrev pub and_then : Result (Unit {0}) Refusal → Result (Unit {0}) Refusal → Result (Unit {0}) Refusal
and_then (Ok tt) next = next
and_then (Err why) next = Err why

-- what is answered where all checks passed
abbrev pub on_checked : {A : Type 0} → (Refusal → A) → Result (Unit {0}) Refusal → A → A
on_checked refuse (Ok tt) made = made
on_checked refuse (Err why) made = refuse why

-- refused, unless the test passes
abbrev pub or_else : Bool → Refusal → Result (Unit {0}) Refusal
or_else true why = Ok tt
or_else false why = Err why

-- least ≤ x ≤ most
unfoldable pub in_limits : ℕ → ℕ → ℕ → Bool
in_limits least most x = both (leb least x) (leb x most)

-- the id before that of the backend at place b; the first has none before it, and ids count from 1
unfoldable pub id_before : List ℕ → ℕ → ℕ
id_before ids zero = 0
id_before ids (suc b) = get_or ids b 0

-- the backend at place b: its id is above the one before it and at most most_id, and its weight is at most the unit
unfoldable pub is_backend : List ℕ → List ℕ → ℕ → Bool
is_backend ids ws b = both (in_limits (suc (id_before ids b)) most_id (get_or ids b 0)) (leb (get_or ws b 0) unit)

-- backends (0 is 2, a 33rd is 4), other than one id for each weight (1), then the id and the weight of each, then the sum
unfoldable pub check_weights : List ℕ → List ℕ → Result (Unit {0}) Refusal
check_weights ids ws =
    and_then (or_else (ltb 0 (length ws)) no2)
    (and_then (or_else (leb (length ws) most_backends) no4)
    (and_then (or_else (eqb (length ids) (length ws)) no1)
    (and_then (or_else (all_to (length ws) (is_backend ids ws)) no2)
    (or_else (eqb (sum_to (length ws) (λ b. get_or ws b 0)) unit) no3))))

-- k, tolerance, budget, then the weights
unfoldable pub check_call : ℕ → ℕ → ℕ → List ℕ → List ℕ → Result (Unit {0}) Refusal
check_call k tolerance budget ids ws =
    and_then (or_else (in_limits 1 most_bits k) no2)
    (and_then (or_else (leb tolerance unit) no2)
    (and_then (or_else (in_limits 1 most_rules budget) no2)
    (check_weights ids ws)))

-- the expansion of a call: a backend's label is its id. Ids ascend with the places, so the lowest place is the lowest id.
unfoldable pub frame_made : ℕ → ℕ → List ℕ → List ℕ → Frame
frame_made k tolerance ids ws = frame k unit tolerance ids ws

-- the list of a call
unfoldable pub list_made : ℕ → ℕ → ℕ → List ℕ → List ℕ → List Rule
list_made k tolerance budget ids ws = list_of (frame_made k tolerance ids ws) budget

unfoldable pub stairs_made : ℕ → ℕ → ℕ → List ℕ → List ℕ → List ℕ
stairs_made k tolerance budget ids ws =
    stairs_to (frame_made k tolerance ids ws) (list_made k tolerance budget ids ws) (length (list_made k tolerance budget ids ws))

-- how the list ended, with its number of rules
unfoldable pub record_made : ℕ → ℕ → ℕ → List ℕ → List ℕ → Record
record_made k tolerance budget ids ws =
    record {
      ended = end_of (frame_made k tolerance ids ws) (list_made k tolerance budget ids ws);
      rules = length (list_made k tolerance budget ids ws);
    }

-- the answer, where the shortest lent buffer has `room` places and is filled from position `at` on
unfoldable pub answer : ℕ → ℕ → ℕ → List ℕ → List ℕ → ℕ → ℕ → Result Record Refusal
answer k tolerance budget ids ws at room =
    on_checked Err (check_call k tolerance budget ids ws)
    (pick (leb (at + length (list_made k tolerance budget ids ws)) room) (Ok (record_made k tolerance budget ids ws)) (Err no7))

-- a list was made; only then are the lent buffers filled
abbrev pub is_made : Result Record Refusal → Bool
is_made (Ok r) = true
is_made (Err why) = false

-- the rules, the oldest first, as the three buffers have them
unfoldable pub lens_made : ℕ → ℕ → ℕ → List ℕ → List ℕ → List ℕ
lens_made k tolerance budget ids ws = map (λ (r : Rule). r.len) (reverse (list_made k tolerance budget ids ws))

unfoldable pub values_made : ℕ → ℕ → ℕ → List ℕ → List ℕ → List ℕ
values_made k tolerance budget ids ws = map (λ (r : Rule). r.value) (reverse (list_made k tolerance budget ids ws))

unfoldable pub backends_made : ℕ → ℕ → ℕ → List ℕ → List ℕ → List ℕ
backends_made k tolerance budget ids ws = map (λ (r : Rule). r.backend) (reverse (list_made k tolerance budget ids ws))
