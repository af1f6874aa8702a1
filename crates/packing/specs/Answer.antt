-- The packing as a call (document 01, "Packing" and "Turned-back work"): what it checks, in the order of the sheet that would hold its numbers, what
-- it answers, and what it writes.
use Rattle.std.specs.Prelude.{ℕ, zero, suc, ◌*◌, Bool, true, false, List, [], ◌∷◌, ◌++◌, leb, ltb, eqb, length, take, drop, Err, Ok, Result}
use Rattle.numerals.specs.Pick.{pick}
use Rattle.expansion.specs.Answer.{and_then, or_else, in_limits, check_weights}
use Rattle.numerals.specs.Limits.{most_bits, most_backends, most_services, most_capacity, most_volume, unit}
use Rattle.expansion.specs.Steps.{end_of}
use Rattle.numerals.specs.Refusals.{no1, no2, no4, no5, no6, no7}
use Rattle.expansion.specs.declared.rule.Ended.{Ended}
use Rattle.expansion.specs.declared.rule.Ended.TheVariants.{Within, NoGain, Budget}
use Rattle.packing.specs.Grants.{total}
use Rattle.packing.specs.Count.{Line, Services, services}
use Rattle.packing.specs.Table.{frame_of, list_for, table, problem, granted, one_each}
use Rattle.packing.specs.Demand.{Demand}
use Rattle.packing.specs.declared.answer.Packed.{Packed}
use Rattle.numerals.specs.declared.refusal.Refusal.{Refusal}
use Rattle.packing.specs.declared.answer.NotPacked.{NotPacked}

-- the ids or the weights of each service: they stand in one row, as many of each as its size says
unfoldable pub chunks : List ℕ → List ℕ → List (List ℕ)
chunks [] row = []
chunks (n ∷ ns) row = take n row ∷ chunks ns (drop n row)

-- services whose backends are labelled by their ids, and whose weights sum to `all`
unfoldable pub services_with : ℕ → ℕ → List ℕ → List (List ℕ) → List (List ℕ) → Services
services_with all k volumes ids weights = record { k = k; unit = all; volumes = volumes; labels = ids; weights = weights }

abbrev pub services_of : ℕ → List ℕ → List ℕ → List ℕ → List ℕ → Services
services_of k volumes sizes ids ws = services_with unit k volumes (chunks sizes ids) (chunks sizes ws)

-- the line of one service, whose ids and weights are the first `size` of their rows: the field count (no weight is 1, a 33rd is 4, and a row that
-- has not so many is 1), then the volume, the ids and weights, and the weights' sum
unfoldable pub check_service : ℕ → ℕ → List ℕ → List ℕ → Result (Unit {0}) Refusal
check_service volume size ids ws =
    and_then (or_else (ltb 0 size) no1)
    (and_then (or_else (leb size most_backends) no4)
    (and_then (or_else (leb size (length ids)) no1)
    (and_then (or_else (leb size (length ws)) no1)
    (and_then (or_else (leb volume most_volume) no2)
    (check_weights (take size ids) (take size ws))))))

-- the lines of the services from s on, each with its volume and its size: a 65th is 4, one that lacks either has too few fields, and ids or weights
-- left over stand on no service's line
unfoldable pub check_from : ℕ → List ℕ → List ℕ → List ℕ → List ℕ → Result (Unit {0}) Refusal
check_from s [] [] ids ws = and_then (or_else (eqb (length ids) 0) no1) (or_else (eqb (length ws) 0) no1)
check_from s [] (n ∷ ns) ids ws = and_then (or_else (ltb s most_services) no4) (Err no1)
check_from s (v ∷ vs) [] ids ws = and_then (or_else (ltb s most_services) no4) (Err no1)
check_from s (v ∷ vs) (n ∷ ns) ids ws =
    and_then (or_else (ltb s most_services) no4)
    (and_then (check_service v n ids ws)
    (check_from (suc s) vs ns (drop n ids) (drop n ws)))

-- the lines of all services, then no service
unfoldable pub check_services : List ℕ → List ℕ → List ℕ → List ℕ → Result (Unit {0}) Refusal
check_services volumes sizes ids ws =
    and_then (check_from 0 volumes sizes ids ws)
    (or_else (ltb 0 (length volumes)) no5)

-- the first line: k, tolerance and capacity
unfoldable pub check_head : ℕ → ℕ → ℕ → Result (Unit {0}) Refusal
check_head k tolerance capacity =
    and_then (or_else (in_limits 1 most_bits k) no2)
    (and_then (or_else (leb tolerance unit) no2)
    (or_else (in_limits 1 most_capacity capacity) no2))

-- the first line, the services line by line, no service, and a capacity below their number, which is that of the volumes once the lines passed
unfoldable pub check_all : ℕ → ℕ → ℕ → List ℕ → List ℕ → List ℕ → List ℕ → Result (Unit {0}) Refusal
check_all k tolerance capacity volumes sizes ids ws =
    and_then (check_head k tolerance capacity)
    (and_then (check_services volumes sizes ids ws)
    (or_else (leb (length volumes) capacity) no6))

-- how a list ended, as a number
abbrev pub end_number : Ended → ℕ
end_number Within = 0
end_number NoGain = 1
end_number Budget = 2

-- the lines of the packing's table
unfoldable pub lines_made : Services → ℕ → ℕ → List Line
lines_made S tolerance capacity = table S tolerance (granted S tolerance one_each capacity)

unfoldable pub packed_of : Services → ℕ → ℕ → Packed
packed_of S tolerance capacity =
    record {
      rules = length (lines_made S tolerance capacity);
      total = total (problem S tolerance one_each capacity) (granted S tolerance one_each capacity);
    }

-- the figures of the first n services: its grant, the length of its list and how the list ended
unfoldable pub figures_to : Services → ℕ → ℕ → ℕ → List ℕ
figures_to S tolerance capacity zero = []
figures_to S tolerance capacity (suc n) =
    figures_to S tolerance capacity n
    ++ granted S tolerance one_each capacity n
    ∷ length (list_for S tolerance n)
    ∷ end_number (end_of (frame_of S tolerance n) (list_for S tolerance n))
    ∷ []

unfoldable pub figures_made : Services → ℕ → ℕ → List ℕ
figures_made S tolerance capacity = figures_to S tolerance capacity (services S)

-- the lines in numbers: service, length and value of the suffix, backend
unfoldable pub cells : List Line → List ℕ
cells [] = []
cells (l ∷ ls) = l.service ∷ l.rule.len ∷ l.rule.value ∷ l.rule.backend ∷ cells ls

-- figures and cells of the numbers handed in, and demand 3 of a total and their lines
abbrev pub figures_of : ℕ → ℕ → ℕ → List ℕ → List ℕ → List ℕ → List ℕ → List ℕ
figures_of k tolerance capacity volumes sizes ids ws = figures_made (services_of k volumes sizes ids ws) tolerance capacity

abbrev pub cells_of : ℕ → ℕ → ℕ → List ℕ → List ℕ → List ℕ → List ℕ → List ℕ
cells_of k tolerance capacity volumes sizes ids ws = cells (lines_made (services_of k volumes sizes ids ws) tolerance capacity)

abbrev pub Demanded : ℕ → ℕ → ℕ → List ℕ → List ℕ → List ℕ → List ℕ → ℕ → Type 0
Demanded k tolerance capacity volumes sizes ids ws t =
    let S = services_of k volumes sizes ids ws in
    Demand S tolerance one_each capacity t (lines_made S tolerance capacity)

-- the lent buffers, as a refusal names the one that is too short; one that is about none names `no_buffer`
abbrev pub no_buffer : ℕ
no_buffer = 0

abbrev pub figures_buffer : ℕ
figures_buffer = 1

abbrev pub table_buffer : ℕ
table_buffer = 2

-- a refusal that is about one of them, or about none
abbrev pub about : ℕ → Refusal → NotPacked
about buffer why = record { why = why; buffer = buffer }

-- what is answered where all checks passed
abbrev pub on_passed : Result (Unit {0}) Refusal → Result Packed NotPacked → Result Packed NotPacked
on_passed (Ok tt) made = made
on_passed (Err why) made = Err (about no_buffer why)

-- the answer with this table of n services, where there is room for so many figures and cells: 7 names the first buffer that is too short
unfoldable pub written : Packed → ℕ → ℕ → ℕ → Result Packed NotPacked
written p n figures_room table_room =
    pick (leb (3 * n) figures_room)
    (pick (leb (4 * p.rules) table_room) (Ok p) (Err (about table_buffer no7)))
    (Err (about figures_buffer no7))

-- the answer of the whole call
unfoldable pub answer : ℕ → ℕ → ℕ → List ℕ → List ℕ → List ℕ → List ℕ → ℕ → ℕ → Result Packed NotPacked
answer k tolerance capacity volumes sizes ids ws figures_room table_room =
    let S = services_of k volumes sizes ids ws in
    on_passed (check_all k tolerance capacity volumes sizes ids ws)
    (written (packed_of S tolerance capacity) (services S) figures_room table_room)

-- a table was made; only then are the lent buffers filled, from their start on
abbrev pub is_made : Result Packed NotPacked → Bool
is_made (Ok p) = true
is_made (Err r) = false
