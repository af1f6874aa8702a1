-- The percentage sheet (document 01, under that heading; its backends have ids by document 02, Req 04), with every refusal in its order. It is read with any
-- number d of decimals, and weights that sum to any number `all` of parts; which they are is said where `read_sheet` stands.
use Rattle.std.specs.Prelude.{ℕ, suc, ◌+◌, List, [], ◌∷◌, leb, ltb, eqb, length, drop}
use Rattle.numerals.specs.Decimal.{number}
use Rattle.numerals.specs.Percentage.{percentage}
use Rattle.numerals.specs.Text.{split}
use Rattle.numerals.specs.Limits.{most_backends, most_id, most_services, most_capacity, most_volume, decimals, unit}
use Rattle.numerals.specs.Refusals.{no1, no2, no3, no4, no5, no6}
use Rattle.sheets.specs.Reading.{Reading, got, then, unless, on_field, same, field}
use Rattle.sheets.specs.FirstLine.{Opening, first_line}

-- what a percentage sheet says
pub record Sheet : Type 0 where
  pub k : ℕ
  pub tolerance : ℕ
  pub capacity : ℕ
  pub volumes : List ℕ
  pub ids : List (List ℕ)
  pub weights : List (List ℕ)

-- what the line of a service says
pub record Service : Type 0 where
  pub volume : ℕ
  pub ids : List ℕ
  pub weights : List ℕ

-- the backends of a line: their ids and their weights
pub record Weights : Type 0 where
  pub ids : List ℕ
  pub weights : List ℕ

-- SHEET
abbrev pub sheet_word : List ℕ
sheet_word = 83 ∷ 72 ∷ 69 ∷ 69 ∷ 84 ∷ []

-- SERVICE
abbrev pub service_word : List ℕ
service_word = 83 ∷ 69 ∷ 82 ∷ 86 ∷ 73 ∷ 67 ∷ 69 ∷ []

-- a backend before others
abbrev pub backend_before : ℕ → ℕ → Weights → Weights
backend_before id w ws = record { ids = id ∷ ws.ids; weights = w ∷ ws.weights }

-- the weights of a line, from the left, behind one with the id `before`: id:percentage (58 is ':'), the id at most most_id and above the one before it
unfoldable pub weight_fields : ℕ → ℕ → ℕ → List (List ℕ) → Reading Weights
weight_fields d line before [] = got (record { ids = []; weights = [] })
weight_fields d line before (f ∷ fs) =
    let parts = split 58 f in
    unless (eqb (length parts) 2) no2 line
    (on_field (number (suc before) most_id (field parts 0)) line (λ id.
    on_field (percentage d (field parts 1)) line (λ w.
    then (weight_fields d line id fs) (λ ws. got (backend_before id w ws)))))

unfoldable pub sum : List ℕ → ℕ
sum [] = 0
sum (w ∷ ws) = w + sum ws

-- the line of service i from 0, by its fields: SERVICE volume id1:p1 .. idM:pM; ids are from 1 on, so that the first is above 0
unfoldable pub service_fields : ℕ → ℕ → ℕ → List (List ℕ) → Reading Service
service_fields d all i fs =
    unless (same (field fs 0) service_word) no1 (i + 2)
    (unless (ltb i most_services) no4 (i + 2)
    (unless (leb 3 (length fs)) no1 (i + 2)
    (unless (leb (length fs) (2 + most_backends)) no4 (i + 2)
    (on_field (number 0 most_volume (field fs 1)) (i + 2) (λ v.
    then (weight_fields d (i + 2) 0 (drop 2 fs)) (λ ws.
    unless (eqb (sum ws.weights) all) no3 (i + 2)
    (got (record { volume = v; ids = ws.ids; weights = ws.weights }))))))))

-- the lines of the services from service i on; what stands behind the last LF is a line without one, and no line if it is empty
unfoldable pub service_lines : ℕ → ℕ → ℕ → List (List ℕ) → Reading (List Service)
service_lines d all i [] = got []
service_lines d all i (l ∷ []) = unless (eqb (length l) 0) no1 (i + 2) (got [])
service_lines d all i (l ∷ m ∷ ls) =
    then (service_fields d all i (split 32 l)) (λ s. then (service_lines d all (suc i) (m ∷ ls)) (λ ss. got (s ∷ ss)))

unfoldable pub volumes_of : List Service → List ℕ
volumes_of [] = []
volumes_of (s ∷ ss) = s.volume ∷ volumes_of ss

unfoldable pub ids_of : List Service → List (List ℕ)
ids_of [] = []
ids_of (s ∷ ss) = s.ids ∷ ids_of ss

unfoldable pub weights_of : List Service → List (List ℕ)
weights_of [] = []
weights_of (s ∷ ss) = s.weights ∷ weights_of ss

-- after the lines: no service, then a capacity below their number
unfoldable pub whole : ℕ → ℕ → ℕ → List Service → Reading Sheet
whole k tolerance capacity ss =
    unless (ltb 0 (length ss)) no5 1
    (unless (leb (length ss) capacity) no6 1
    (got (record { k = k; tolerance = tolerance; capacity = capacity; volumes = volumes_of ss; ids = ids_of ss; weights = weights_of ss })))

-- line 1: SHEET k tolerance C
unfoldable pub sheet_line : ℕ → List ℕ → Reading Opening
sheet_line d text = first_line sheet_word (percentage d) (number 1 most_capacity) text

unfoldable pub read_sheet_at : ℕ → ℕ → List ℕ → Reading Sheet
read_sheet_at d all text =
    then (sheet_line d text) (λ line.
    then (service_lines d all 0 line.behind) (whole line.k line.second line.third))

-- percentages of up to six decimals, and weights that sum to the unit (document 02, Req 07)
unfoldable pub read_sheet : List ℕ → Reading Sheet
read_sheet text = read_sheet_at decimals unit text
