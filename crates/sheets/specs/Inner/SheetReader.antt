-- What the reader of the percentage sheet answers and leaves in memory, by cases of its answers: a backend, the backends of a line, a line of a
-- service, the whole sheet.
use Rattle.std.specs.Prelude.{ℕ, ◌+◌, ◌*◌, ◌≤◌, ◌<◌, ◌≡◌, List, [], ◌∷◌, ◌++◌, leb, ltb, eqb, length, take, drop, Err, None, Ok, Option, Result, Some}
use Rattle.numerals.specs.Pick.{pick}
use Rattle.numerals.specs.Limits.{most_backends, most_id, most_services, unit, decimals}
use Rattle.numerals.specs.Text.{split}
use Rattle.numerals.specs.Refusals.{no2, no3, no5, no6}
use Rattle.sheets.specs.Reading.{Reading, got, refused, then, unless}
use Rattle.sheets.specs.PercentageSheet.{Sheet, Service, Weights, backend_before, weight_fields, service_fields, service_lines, sum, whole}
use Rattle.sheets.specs.Calls.{refused_at}
use Rattle.sheets.specs.Inner.FirstLine.{RefusedAs}
use Rattle.sheets.specs.declared.percentage_sheet.Head.{Head}
use Rattle.sheets.specs.declared.percentage_sheet.Backend.{Backend}
use Rattle.sheets.specs.declared.percentage_sheet.LineWeights.{LineWeights}
use Rattle.numerals.specs.declared.refusal.Refusal.{Refusal}
use Rattle.sheets.specs.declared.percentage_sheet.ServiceLine.{ServiceLine}
use Rattle.sheets.specs.declared.percentage_sheet.SheetInMemory.{SheetInMemory}
use Rattle.sheets.specs.declared.answer.Refused.{Refused}

-- a field that is a backend, behind one with the id `before`: what it leaves to be read
pub record Named (before : ℕ) (f : List ℕ) (id w : ℕ) : Type 0 where
  pub known : id ≤ most_id
  pub small : w ≤ unit
  pub next :
      (line : ℕ) (fs : List (List ℕ)) → weight_fields decimals line before (f ∷ fs)
      ≡ then (weight_fields decimals line id fs) (λ ws. got (backend_before id w ws))

abbrev pub BackendOf : Option Backend → ℕ → List ℕ → Type 0
BackendOf (Some b) before f = Named before f b.id b.weight
BackendOf None before f = (line : ℕ) (fs : List (List ℕ)) → weight_fields decimals line before (f ∷ fs) ≡ refused no2 line

-- the backends of a line, read behind the first `at` places of both rows
pub record Weighed (ids ids' ws ws' : List ℕ) (at : ℕ) (fs : List (List ℕ)) (count amount : ℕ) : Type 0 where
  pub found : Weights
  pub read : (line : ℕ) → weight_fields decimals line 0 fs ≡ got found
  pub named : length found.ids ≡ count
  pub size : length found.weights ≡ count
  pub few : count ≤ most_backends
  pub total : sum found.weights ≡ amount
  pub ids_row : take (at + count) ids' ≡ take at ids ++ found.ids
  pub row : take (at + count) ws' ≡ take at ws ++ found.weights

abbrev pub WeightsOf : Result LineWeights Refusal → List ℕ → List ℕ → List ℕ → List ℕ → ℕ → List (List ℕ) → Type 0
WeightsOf (Ok w) ids ids' ws ws' at fs = Weighed ids ids' ws ws' at fs w.count w.sum
WeightsOf (Err why) ids ids' ws ws' at fs = (line : ℕ) → weight_fields decimals line 0 fs ≡ refused why line

-- the line of service i up to its weights: its word, the number of its fields and its volume were found right
pub record Opened (i : ℕ) (fs : List (List ℕ)) (v : ℕ) : Type 0 where
  pub place : i < most_services
  pub some : 3 ≤ length fs
  pub few : length fs ≤ 2 + most_backends
  pub rest :
      service_fields decimals unit i fs
      ≡ then (weight_fields decimals (i + 2) 0 (drop 2 fs)) (λ ws.
      unless (eqb (sum ws.weights) unit) no3 (i + 2) (got (record { volume = v; ids = ws.ids; weights = ws.weights })))

abbrev pub VolumeOf : Result ℕ Refusal → ℕ → List (List ℕ) → Type 0
VolumeOf (Ok v) i fs = Opened i fs v
VolumeOf (Err why) i fs = service_fields decimals unit i fs ≡ refused why (i + 2)

-- service i, with n backends, stands behind the first i volumes and the first `at` places of both rows
pub record Stored (service : Service) (vs vs' ids ids' ws ws' : List ℕ) (at i n : ℕ) : Type 0 where
  pub place : i < most_services
  pub named : length service.ids ≡ n
  pub size : length service.weights ≡ n
  pub few : n ≤ most_backends
  pub volumes : take (i + 1) vs' ≡ take i vs ++ service.volume ∷ []
  pub ids_row : take (at + n) ids' ≡ take at ids ++ service.ids
  pub row : take (at + n) ws' ≡ take at ws ++ service.weights

-- the line of service i was read and stored
pub record Served (vs vs' ids ids' ws ws' : List ℕ) (at i : ℕ) (fs : List (List ℕ)) (n : ℕ) : Type 0 where
  pub service : Service
  pub read : service_fields decimals unit i fs ≡ got service
  pub stored : Stored service vs vs' ids ids' ws ws' at i n

abbrev pub ServiceOf : Result ℕ Refusal → List ℕ → List ℕ → List ℕ → List ℕ → List ℕ → List ℕ → ℕ → ℕ → List (List ℕ) → Type 0
ServiceOf (Ok n) vs vs' ids ids' ws ws' at i fs = Served vs vs' ids ids' ws ws' at i fs n
ServiceOf (Err why) vs vs' ids ids' ws ws' at i fs = service_fields decimals unit i fs ≡ refused why (i + 2)

-- the line of service i, the first of these, was read and stored; `behind` is what stands behind it
pub record Followed (lines vs vs' ids ids' ws ws' : List ℕ) (at i count : ℕ) (behind : List ℕ) : Type 0 where
  pub service : Service
  pub read :
      service_lines decimals unit i (split 10 lines)
      ≡ then (service_lines decimals unit (i + 1) (split 10 behind)) (λ ss. got (service ∷ ss))
  pub shorter : length behind < length lines
  pub stored : Stored service vs vs' ids ids' ws ws' at i count

abbrev pub LineOf : Result ServiceLine Refusal → List ℕ → List ℕ → List ℕ → List ℕ → List ℕ → List ℕ → List ℕ → ℕ → ℕ → Type 0
LineOf (Ok l) lines vs vs' ids ids' ws ws' at i = Followed lines vs vs' ids ids' ws ws' at i l.count l.behind.now
LineOf (Err why) lines vs vs' ids ids' ws ws' at i = service_lines decimals unit i (split 10 lines) ≡ refused why (i + 2)

-- how many numbers each service has, and all of them in one row
unfoldable pub sizes_of : List (List ℕ) → List ℕ
sizes_of [] = []
sizes_of (ws ∷ wss) = length ws ∷ sizes_of wss

unfoldable pub row_of : List (List ℕ) → List ℕ
row_of [] = []
row_of (ws ∷ wss) = ws ++ row_of wss

-- the memory holds the volumes, the ids and the weights of n services: n volumes, n sizes, and the ids and the weights in a row each
pub record Holds (volumes : List ℕ) (ids weights : List (List ℕ)) (vs zs is ws : List ℕ) (n row : ℕ) : Type 0 where
  pub services : length volumes ≡ n
  pub few : n ≤ most_services
  pub short : row ≤ most_backends * n
  pub paired : sizes_of ids ≡ sizes_of weights
  pub held_volumes : take n vs ≡ volumes
  pub held_sizes : take n zs ≡ sizes_of weights
  pub held_ids : take row is ≡ row_of ids
  pub held_weights : take row ws ≡ row_of weights

-- a sheet was read, its numbers are the answer's, and the memory holds it
pub record SheetHeld (reading : Reading Sheet) (vs zs is ws : List ℕ) (head : Head) (n row : ℕ) : Type 0 where
  pub sheet : Sheet
  pub read : reading ≡ got sheet
  pub k : sheet.k ≡ head.k
  pub tolerance : sheet.tolerance ≡ head.tolerance
  pub capacity : sheet.capacity ≡ head.capacity
  pub holds : Holds sheet.volumes sheet.ids sheet.weights vs zs is ws n row

abbrev pub SheetOf : Result SheetInMemory Refused → Reading Sheet → List ℕ → List ℕ → List ℕ → List ℕ → Type 0
SheetOf (Ok s) reading vs zs is ws = SheetHeld reading vs zs is ws s.head s.services s.row
SheetOf (Err r) reading vs zs is ws = RefusedAs r reading

-- what line 1 and all services come to
abbrev pub sheet_of : Head → List Service → Reading Sheet
sheet_of head ss = whole head.k head.tolerance head.capacity ss

-- the sheet of the services on these lines
unfoldable pub sheet_from : Head → List (List ℕ) → Reading Sheet
sheet_from head ls = then (service_lines decimals unit 0 ls) (sheet_of head)

-- what is answered after the lines: no service, then a capacity below their number
unfoldable pub finished : Head → ℕ → ℕ → Result SheetInMemory Refused
finished head n row =
    pick (ltb 0 n)
    (pick (leb n head.capacity) (Ok (record { head = head; services = n; row = row })) (Err (refused_at no6 1)))
    (Err (refused_at no5 1))
