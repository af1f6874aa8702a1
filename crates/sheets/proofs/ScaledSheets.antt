-- A percentage sheet read with j more decimals (document 02, Req 07): where none of its percentages has more than before, it is the same sheet in parts
-- that are 10 ^ j times as small, or has the same refusal.
use Rattle.std.specs.Prelude.{None, Option, Some}
use Prim.Native.Nat.{ℕ, suc, ◌+◌, ◌*◌, ◌^◌}
use mathlib.Core.Path.{◌≡◌, refl, sym, ap, ◌∙◌}
use mathlib.Core.Bool.{true}
use mathlib.Core.List.{List, [], ◌∷◌, map}
use native.Mathlib.Nat.{one-le-pow, mul-zero, mul-add}
use native.Mathlib.Omega.{arith}
use lib.Dec.{leb, eqb}
use lib.ListN.{length, drop, length-map}
use Rattle.numerals.specs.Decimal.{number}
use Rattle.numerals.specs.Limits.{most_bits, most_capacity, most_volume, text_limit}
use Rattle.numerals.specs.Percentage.{percentage, few_decimals}
use Rattle.numerals.specs.Refusals.{no1, no2, no3, no4, no5, no6, no11}
use Rattle.numerals.specs.Text.{split}
use Rattle.numerals.proofs.Choice.{both_left, both_right}
use Rattle.numerals.proofs.MoreDecimals.{scaled_number, percent-scaled}
use Rattle.numerals.proofs.Scaled.{eqb-scaled}
use Rattle.sheets.specs.Reading.{Reading, got, refused, then, unless, on_field, field}
use Rattle.sheets.specs.FirstLine.{Opening, opening_fields, opening_lines, first_line}
use Rattle.sheets.specs.PercentageSheet.{Sheet, Service, Weights, backend_before, weight_fields, sum, service_fields, service_lines, sheet_word}
use Rattle.sheets.specs.PercentageSheet.{volumes_of, ids_of, weights_of, whole, sheet_line, read_sheet_at}
use Rattle.sheets.specs.FourPlaces.{few_in_fields, few_in_services, few_in_lines, few_in_sheet}
use Rattle.sheets.proofs.OpeningLine.{opened}
use Rattle.sheets.proofs.ThenLaws.{unless-under, field-under, then-under, then-changed}

-- weights in parts that are m times as small
module _ (m : ℕ) where
  abbrev scaled_row : List ℕ → List ℕ
  scaled_row ws = map (λ w. m * w) ws

  abbrev scaled_weights : Weights → Weights
  scaled_weights ws = record { ids = ws.ids; weights = scaled_row ws.weights }

  abbrev scaled_service : Service → Service
  scaled_service s = record { volume = s.volume; ids = s.ids; weights = scaled_row s.weights }

  abbrev pub scaled_sheet : Sheet → Sheet
  scaled_sheet S =
      record {
        k = S.k;
        tolerance = m * S.tolerance;
        capacity = S.capacity;
        volumes = S.volumes;
        ids = S.ids;
        weights = map (λ ws. scaled_row ws) S.weights;
      }

  sum_row : (ws : List ℕ) → sum (scaled_row ws) ≡ m * sum ws
  unfolding sum
  sum_row [] = sym (mul-zero m)
  sum_row (w ∷ ws) = omega (arith, sum_row ws, mul-add m w (sum ws))

  volumes-kept : (ss : List Service) → volumes_of (map (λ s. scaled_service s) ss) ≡ volumes_of ss
  unfolding volumes_of
  volumes-kept [] = refl
  volumes-kept (s ∷ ss) = ap (λ vs. s.volume ∷ vs) (volumes-kept ss)

  ids-kept : (ss : List Service) → ids_of (map (λ s. scaled_service s) ss) ≡ ids_of ss
  unfolding ids_of
  ids-kept [] = refl
  ids-kept (s ∷ ss) = ap (λ is. s.ids ∷ is) (ids-kept ss)

  weights-kept : (ss : List Service) → weights_of (map (λ s. scaled_service s) ss) ≡ map (λ ws. scaled_row ws) (weights_of ss)
  unfolding weights_of
  weights-kept [] = refl
  weights-kept (s ∷ ss) = ap (λ wss. scaled_row s.weights ∷ wss) (weights-kept ss)

  whole_scaled :
      (k tolerance capacity : ℕ) (ss : List Service)
      → whole k (m * tolerance) capacity (map (λ s. scaled_service s) ss) ≡ then (whole k tolerance capacity ss) (λ S. got (scaled_sheet S))
  unfolding whole then
  whole_scaled k tolerance capacity ss =
      rw (length-map ss (λ s. scaled_service s), volumes-kept ss, ids-kept ss, weights-kept ss)
      (unless-under _ _ no5 1 _ _ (unless-under _ _ no6 1 _ _ refl))

-- a number that was read m times as large
field-scaled : {A : Type 0} (m : ℕ) (n : (Option ℕ)) (line : ℕ) (f : ℕ → Reading A) → on_field (scaled_number m n) line f ≡ on_field n line (λ v. f (m * v))
unfolding on_field
field-scaled m (Some v) line f = refl
field-scaled m None line f = refl

module _ (d j all : ℕ) where
  abbrev m : ℕ
  m = 10 ^ j

  -- a weight and those behind it
  weight-more :
      (id w : ℕ) (r : Reading Weights)
      → then (then r (λ ws. got (scaled_weights m ws))) (λ ws. got (backend_before id (m * w) ws))
      ≡ then (then r (λ ws. got (backend_before id w ws))) (λ ws. got (scaled_weights m ws))
  unfolding then
  weight-more id w (got ws) = refl
  weight-more id w (refused why line) = refl

  weights-scaled :
      (line before : ℕ) (fs : List (List ℕ)) → few_in_fields d fs ≡ true
      → weight_fields (d + j) line before fs ≡ then (weight_fields d line before fs) (λ ws. got (scaled_weights m ws))
  unfolding weight_fields few_in_fields then
  weights-scaled line before [] h = refl
  weights-scaled line before (f ∷ fs) h =
      let p : List ℕ = field (split 58 f) 1 in
      let few : few_decimals d p ≡ true = both_left (few_decimals d p) (few_in_fields d fs) h in
      let rest : few_in_fields d fs ≡ true = both_right (few_decimals d p) (few_in_fields d fs) h in
      unless-under _ _ no2 line _ _
      (field-under _ _ line _ _ (λ id.
      ap (λ n. on_field n line (λ w. then (weight_fields (d + j) line id fs) (λ ws. got (backend_before id w ws)))) (percent-scaled d j p few)
      ∙ field-scaled m (percentage d p) line _
      ∙ field-under _ (percentage d p) line _ _ (λ w.
      ap (λ r. then r (λ ws. got (backend_before id (m * w) ws))) (weights-scaled line id fs rest)
      ∙ weight-more id w (weight_fields d line id fs))))

  -- the sum of the weights is tested alike
  balanced :
      (line v : ℕ) (r : Reading Weights)
      → then (then r (λ ws. got (scaled_weights m ws))) (λ ws.
      unless (eqb (sum ws.weights) (m * all)) no3 line (got (record { volume = v; ids = ws.ids; weights = ws.weights })))
      ≡ then (then r (λ ws. unless (eqb (sum ws.weights) all) no3 line (got (record { volume = v; ids = ws.ids; weights = ws.weights }))))
      (λ s. got (scaled_service m s))
  unfolding then
  balanced line v (got ws) =
      rw (sum_row m ws.weights, eqb-scaled m (one-le-pow j 10 (omega arith)) (sum ws.weights) all) (unless-under _ _ no3 line _ _ refl)
  balanced line v (refused why at) = refl

  service-scaled :
      (i : ℕ) (fs : List (List ℕ)) → few_in_fields d (drop 2 fs) ≡ true
      → service_fields (d + j) (m * all) i fs ≡ then (service_fields d all i fs) (λ s. got (scaled_service m s))
  unfolding service_fields
  service-scaled i fs h =
      unless-under _ _ no1 (i + 2) _ _
      (unless-under _ _ no4 (i + 2) _ _
      (unless-under _ _ no1 (i + 2) _ _
      (unless-under _ _ no4 (i + 2) _ _
      (field-under _ (number 0 most_volume (field fs 1)) (i + 2) _ _ (λ v.
      ap (λ r. then r (λ ws. unless (eqb (sum ws.weights) (m * all)) no3 (i + 2) (got (record { volume = v; ids = ws.ids; weights = ws.weights }))))
      (weights-scaled (i + 2) 0 (drop 2 fs) h)
      ∙ balanced (i + 2) v (weight_fields d (i + 2) 0 (drop 2 fs)))))))

  -- a service and those behind it
  service-more :
      (s : Service) (r : Reading (List Service))
      → then (then r (λ ss. got (map (λ x. scaled_service m x) ss))) (λ ss. got (scaled_service m s ∷ ss))
      ≡ then (then r (λ ss. got (s ∷ ss))) (λ ss. got (map (λ x. scaled_service m x) ss))
  unfolding then
  service-more s (got ss) = refl
  service-more s (refused why line) = refl

  lines-scaled :
      (i : ℕ) (ls : List (List ℕ)) → few_in_services d ls ≡ true
      → service_lines (d + j) (m * all) i ls ≡ then (service_lines d all i ls) (λ ss. got (map (λ x. scaled_service m x) ss))
  unfolding service_lines few_in_services then
  lines-scaled i [] h = refl
  lines-scaled i (l ∷ []) h = unless-under _ _ no1 (i + 2) _ _ refl
  lines-scaled i (l ∷ n ∷ ls) h =
      let own : few_in_fields d (drop 2 (split 32 l)) ≡ true = both_left (few_in_fields d (drop 2 (split 32 l))) (few_in_services d (n ∷ ls)) h in
      let rest : few_in_services d (n ∷ ls) ≡ true = both_right (few_in_fields d (drop 2 (split 32 l))) (few_in_services d (n ∷ ls)) h in
      ap (λ r. then r (λ s. then (service_lines (d + j) (m * all) (suc i) (n ∷ ls)) (λ ss. got (s ∷ ss)))) (service-scaled i (split 32 l) own)
      ∙ then-changed (λ s. scaled_service m s) (service_fields d all i (split 32 l)) _
      ∙ then-under _ (service_fields d all i (split 32 l)) _ _ (λ s _.
      ap (λ r. then r (λ ss. got (scaled_service m s ∷ ss))) (lines-scaled (suc i) (n ∷ ls) rest)
      ∙ service-more s (service_lines d all (suc i) (n ∷ ls)))

  -- the services behind line 1, and what all comes to
  services-scaled :
      (k tolerance capacity : ℕ) (ls : List (List ℕ)) → few_in_services d ls ≡ true
      → then (service_lines (d + j) (m * all) 0 ls) (whole k (m * tolerance) capacity)
      ≡ then (then (service_lines d all 0 ls) (whole k tolerance capacity)) (λ S. got (scaled_sheet m S))
  services-scaled k tolerance capacity ls h =
      ap (λ r. then r (whole k (m * tolerance) capacity)) (lines-scaled 0 ls h)
      ∙ then-changed (λ ss. map (λ x. scaled_service m x) ss) (service_lines d all 0 ls) _
      ∙ then-under _ (service_lines d all 0 ls) _ _ (λ ss _. whole_scaled m k tolerance capacity ss)

  -- line 1
  abbrev scaled_opening : Opening → Opening
  scaled_opening o = record { k = o.k; second = m * o.second; third = o.third; behind = o.behind }

  opening-scaled :
      (ls : List (List ℕ)) → few_in_lines d ls ≡ true
      → opening_lines sheet_word (percentage (d + j)) (number 1 most_capacity) ls
      ≡ then (opening_lines sheet_word (percentage d) (number 1 most_capacity) ls) (λ o. got (scaled_opening o))
  unfolding opening_lines opening_fields few_in_lines then
  opening-scaled [] h = refl
  opening-scaled (l ∷ []) h = refl
  opening-scaled (l ∷ n ∷ ls) h =
      let p : List ℕ = field (split 32 l) 2 in
      let few : few_decimals d p ≡ true = both_left (few_decimals d p) (few_in_services d (n ∷ ls)) h in
      let y = number 1 most_capacity (field (split 32 l) 3) in
      unless-under _ _ no1 1 _ _
      (unless-under _ _ no1 1 _ _
      (field-under _ (number 1 most_bits (field (split 32 l) 1)) 1 _ _ (λ k.
      ap (λ x. on_field x 1 (λ u. on_field y 1 (λ v. got (record { k = k; second = u; third = v; behind = n ∷ ls })))) (percent-scaled d j p few)
      ∙ field-scaled m (percentage d p) 1 _
      ∙ field-under _ (percentage d p) 1 _ _ (λ u. field-under _ y 1 _ _ (λ v. refl)))))

  line-scaled : (text : List ℕ) → few_in_sheet d text ≡ true → sheet_line (d + j) text ≡ then (sheet_line d text) (λ o. got (scaled_opening o))
  unfolding sheet_line first_line few_in_sheet
  line-scaled text h = unless-under _ (leb (length text) text_limit) no11 0 _ _ (opening-scaled (split 10 text) h)

  -- the lines behind line 1 have no more decimals either
  few-behind : (text : List ℕ) (o : Opening) → few_in_sheet d text ≡ true → sheet_line d text ≡ got o → few_in_services d o.behind ≡ true
  unfolding sheet_line few_in_sheet few_in_lines
  few-behind text o h e =
      let O = opened _ _ _ text o e in
      both_right (few_decimals d (field (split 32 O.line) 2)) (few_in_services d o.behind) (rw O.lines at h)

  pub sheet-scaled :
      (text : List ℕ) → few_in_sheet d text ≡ true
      → read_sheet_at (d + j) (m * all) text ≡ then (read_sheet_at d all text) (λ S. got (scaled_sheet m S))
  unfolding read_sheet_at
  sheet-scaled text h =
      ap (λ r. then r (λ o. then (service_lines (d + j) (m * all) 0 o.behind) (whole o.k o.second o.third))) (line-scaled text h)
      ∙ then-changed (λ o. scaled_opening o) (sheet_line d text) _
      ∙ then-under _ (sheet_line d text) _ _ (λ o e. services-scaled o.k o.second o.third o.behind (few-behind text o h e))
