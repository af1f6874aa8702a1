-- A sheet that is read with up to d decimals has no percentage with more.
use Prim.Native.Nat.{ℕ, suc, ◌+◌}
use mathlib.Core.Path.{◌≡◌, refl}
use mathlib.Core.Bool.{true}
use mathlib.Core.List.{List, [], ◌∷◌}
use native.Mathlib.Omega.{arith}
use lib.ListN.{length, drop}
use borrow.Author.Tests.{eqb-true}
use Rattle.numerals.specs.Text.{split}
use Rattle.numerals.proofs.MoreDecimals.{percent-few}
use Rattle.sheets.specs.Reading.{got}
use Rattle.sheets.specs.PercentageSheet.{Sheet, Service, Weights, weight_fields, service_fields, service_lines, sheet_line, read_sheet_at}
use Rattle.sheets.specs.FourPlaces.{few_in_fields, few_in_services, few_in_lines, few_in_sheet}
use Rattle.sheets.proofs.OpeningLine.{opened}
use Rattle.sheets.proofs.Readings.{unless-got, on_field-got, then-got}
use Rattle.sheets.proofs.SheetLimits.{line_read}

module _ (d : ℕ) where
  weights-few : (line before : ℕ) (fs : List (List ℕ)) (ws : Weights) → weight_fields d line before fs ≡ got ws → few_in_fields d fs ≡ true
  unfolding weight_fields few_in_fields
  weights-few line before [] ws e = refl
  weights-few line before (f ∷ fs) ws e =
      let two = unless-got _ _ _ _ e in
      let id = on_field-got _ _ _ two.1 in
      let w = on_field-got _ _ _ id.2 in
      let rest = then-got _ _ w.2 in
      rw (percent-few d w.0 _ w.1, weights-few line id.0 fs rest.0 rest.1)

  module _ (all : ℕ) where
    service-few : (i : ℕ) (fs : List (List ℕ)) (s : Service) → service_fields d all i fs ≡ got s → few_in_fields d (drop 2 fs) ≡ true
    service-few i fs s e = weights-few (i + 2) 0 (drop 2 fs) _ (line_read d all i fs s e).weights

    -- a last line without its LF is none
    none-few : (l : List ℕ) → length l ≡ 0 → few_in_services d (l ∷ []) ≡ true
    unfolding few_in_services few_in_fields split
    none-few [] e = refl
    none-few (b ∷ l) e = absurd (omega arith)

    lines-few : (i : ℕ) (ls : List (List ℕ)) (ss : List Service) → service_lines d all i ls ≡ got ss → few_in_services d ls ≡ true
    unfolding service_lines few_in_services
    lines-few i [] ss e = refl
    lines-few i (l ∷ []) ss e = none-few l (eqb-true (length l) 0 (unless-got _ _ _ _ e).0)
    lines-few i (l ∷ m ∷ ls) ss e =
        let s = then-got _ _ e in
        let rest = then-got _ _ s.2 in
        rw (service-few i (split 32 l) s.0 s.1, lines-few (suc i) (m ∷ ls) rest.0 rest.1)

    pub sheet-few : (text : List ℕ) (S : Sheet) → read_sheet_at d all text ≡ got S → few_in_sheet d text ≡ true
    unfolding read_sheet_at sheet_line few_in_sheet few_in_lines
    sheet-few text S e =
        let line = then-got _ _ e in
        let rest = then-got _ _ line.2 in
        let O = opened _ _ _ text line.0 line.1 in
        rw (O.lines, percent-few d line.0.second _ O.left, lines-few 0 line.0.behind rest.0 rest.1)
