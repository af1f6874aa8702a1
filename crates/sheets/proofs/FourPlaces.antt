-- Sheets of four-place percentages remain valid, with the same lines and a hundred times the total (document 02, Req 07).
use Rattle.std.specs.Prelude.{Result}
use Prim.Native.Nat.{ℕ, ◌+◌, ◌*◌, ◌^◌}
use mathlib.Core.Path.{◌≡◌, refl, ap, ap₂, ◌∙◌}
use mathlib.Core.Bool.{true}
use mathlib.Core.List.{List}
use native.Mathlib.Nat.{one-le-pow}
use native.Mathlib.Omega.{arith}
use lib.ListN.{length}
use Rattle.numerals.specs.Limits.{decimals, unit}
use Rattle.packing.specs.Count.{Line}
use Rattle.packing.specs.Table.{one_each}
use Rattle.packing.specs.Answer.{services_with}
use Rattle.packing.proofs.Scaled.{lines-scaled, total-scaled}
use Rattle.sheets.specs.Reading.{Reading, got, refused, then}
use Rattle.sheets.specs.PercentageSheet.{Sheet, read_sheet_at, read_sheet}
use Rattle.sheets.specs.RuleSheet.{Table, table_text}
use Rattle.sheets.specs.Calls.{services_at, services_in, table_with, table_for, sheet_text, print_read, afterwards, is_value, values_of}
use Rattle.sheets.specs.FourPlaces.{former_decimals, former_unit, table_at, former_table, hundredfold, few_in_sheet, FourPlaces}
use Rattle.sheets.proofs.FewDecimals.{sheet-few}
use Rattle.sheets.proofs.Readings.{then-got}
use Rattle.sheets.proofs.ScaledSheets.{scaled_sheet, sheet-scaled}
use Rattle.sheets.proofs.ThenLaws.{then-under, then-changed}
use Rattle.sheets.specs.declared.answer.Refused.{Refused}

-- the same lines and m times the total
abbrev times_total : ℕ → Table → Table
times_total m t = record { k = t.k; total = m * t.total; lines = t.lines }

module _ (d j all : ℕ) where
  abbrev m : ℕ
  m = 10 ^ j

  -- a sheet in smaller parts
  pub table-scaled : (S : Sheet) → table_with (services_at (m * all) (scaled_sheet m S)) (scaled_sheet m S) ≡ times_total m (table_with (services_at all S) S)
  unfolding services_with
  table-scaled S =
      let T = services_at all S in
      let positive = one-le-pow j 10 (omega arith) in
      ap₂ (λ (t : ℕ) (ls : List Line). record { k = S.k; total = t; lines = ls })
      (total-scaled m positive T S.tolerance one_each S.capacity)
      (lines-scaled m positive T S.tolerance S.capacity)

  tables-scaled :
      (text : List ℕ) → few_in_sheet d text ≡ true → table_at (d + j) (m * all) text ≡ then (table_at d all text) (λ t. got (times_total m t))
  unfolding table_at then
  tables-scaled text h =
      ap (λ r. then r (λ S. got (table_with (services_at (m * all) S) S))) (sheet-scaled d j all text h)
      ∙ then-changed (λ S. scaled_sheet m S) (read_sheet_at d all text) _
      ∙ then-under _ (read_sheet_at d all text) _ _ (λ S _. ap (λ (t : Table). got t) (table-scaled S))

-- document 01's decimals and unit
module _ (text : List ℕ) where
  pub alike : few_in_sheet former_decimals text ≡ true → table_at decimals unit text ≡ then (former_table text) (λ t. got (hundredfold t))
  unfolding unit
  alike h = tables-scaled former_decimals 2 former_unit text h

  pub valid : (t : Table) → former_table text ≡ got t → table_at decimals unit text ≡ got (hundredfold t)
  unfolding table_at then
  valid t e =
      let s = then-got _ _ e in
      alike (sheet-few former_decimals former_unit text s.0 s.1) ∙ ap (λ r. then r (λ u. got (hundredfold u))) e

  -- what is printed of a sheet is the text of its table
  module _ (room : ℕ) where
    printed : (r : Reading Sheet) → print_read r sheet_text room ≡ print_read (then r (λ S. got (table_with (services_at unit S) S))) table_text room
    unfolding then sheet_text table_for services_in
    printed (got S) = refl
    printed (refused why line) = refl

  values : (r : Reading Sheet) → values_of r sheet_text ≡ values_of (then r (λ S. got (table_with (services_at unit S) S))) table_text
  unfolding then sheet_text table_for services_in
  values (got S) = refl
  values (refused why line) = refl

  pub four-places :
      (r : (Result ℕ Refused)) (out out' : List ℕ) → r ≡ print_read (read_sheet text) sheet_text (length out)
      → out' ≡ afterwards (is_value r) out (values_of (read_sheet text) sheet_text) → FourPlaces text r out out'
  unfolding read_sheet table_at
  four-places r out out' answered written =
      record {
        valid = valid;
        alike = alike;
        answer = answered ∙ printed (length out) (read_sheet text);
        buffer = written ∙ ap (λ vs. afterwards (is_value r) out vs) (values (read_sheet text));
      }
