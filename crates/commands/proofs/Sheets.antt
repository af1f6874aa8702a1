-- What the splitting of a percentage sheet prints: its rule sheet, which is never longer than a text may be, and that of four-place percentages as promised.
use Rattle.std.specs.Prelude.{Err, Ok}
use Prim.Native.Nat.{ℕ, ◌≤◌}
use mathlib.Core.Path.{◌≡◌, refl, ap, ◌∙◌}
use mathlib.Core.List.{List}
use native.Mathlib.Omega.{arith}
use lib.ListN.{length}
use lib.Seq.{sets}
use borrow.Author.Tests.{le-leb, leb-true}
use Rattle.sheets.specs.Reading.{Reading, got, refused, then}
use Rattle.sheets.specs.PercentageSheet.{Sheet, read_sheet}
use Rattle.numerals.specs.Limits.{decimals, unit, text_limit}
use Rattle.sheets.specs.FirstLine.{first_line}
use Rattle.sheets.specs.RuleSheet.{table_line, read_table}
use Rattle.sheets.specs.Calls.{print_text, print_read, values_of, sheet_text}
use Rattle.sheets.specs.declared.answer.Refused as answer
use Rattle.sheets.proofs.Readings.{unless-got, then-got, not-got}
use Rattle.sheets.proofs.DemandThree.{demand-three}
use Rattle.commands.specs.Refused.{refused_text}
use Rattle.sheets.specs.Calls.{services_at, services_in, table_with, table_for}
use Rattle.sheets.specs.FourPlaces.{table_at}
use Rattle.sheets.proofs.FourPlaces as four
use Rattle.commands.specs.Split.{split_of, split_prints, table_prints, Printed, FourPlacesPrinted}

sheet-fits : (text : List ℕ) (S : Sheet) → read_sheet text ≡ got S → length (sheet_text S) ≤ text_limit
unfolding read_table table_line first_line
sheet-fits text S e =
    let line = then-got (table_line (sheet_text S)) _ (demand-three text S e).table_read in
    leb-true (length (sheet_text S)) text_limit (unless-got _ _ _ _ line.1).0

module _ (text : List ℕ) where
  prints : (S : Sheet) → read_sheet text ≡ got S → print_text (sheet_text S) text_limit ≡ Ok (length (sheet_text S))
  unfolding print_text
  prints S e = rw (le-leb (length (sheet_text S)) text_limit (sheet-fits text S e))

  -- the rule sheet was printed
  pub ended :
      (n : ℕ) → Ok n ≡ print_read (read_sheet text) sheet_text text_limit
      → (n ≡ length (split_prints text)) × (values_of (read_sheet text) sheet_text ≡ split_prints text)
  unfolding split_prints split_of
  ended n = go (read_sheet text) refl
    where
      go :
          (r : Reading Sheet) → read_sheet text ≡ r → Ok n ≡ print_read r sheet_text text_limit
          → (n ≡ length (split_of r)) × (values_of r sheet_text ≡ split_of r)
      go (got S) e h = (cc (prints S e), refl)
      go (refused why line) e h = absurd (let z : ◌≡◌ {A = ℕ} 0 1 = cc in omega arith)

  -- it was refused
  pub not-printed :
      (r : answer.Refused) → Err r ≡ print_read (read_sheet text) sheet_text text_limit
      → (split_prints text ≡ refused_text r) × ((S : Sheet) → read_sheet text ≡ got S → ⊥)
  unfolding split_prints split_of
  not-printed w = go (read_sheet text) refl
    where
      go :
          (r : Reading Sheet) → read_sheet text ≡ r → Err w ≡ print_read r sheet_text text_limit
          → (split_of r ≡ refused_text w) × ((S : Sheet) → r ≡ got S → ⊥)
      go (got S) e h = absurd (let z : ◌≡◌ {A = ℕ} 0 1 = cc (prints S e) in omega arith)
      go (refused why line) e h = (cc, λ S g. not-got g)

  -- the table of the sheet is what is printed
  as-table : split_prints text ≡ table_prints (table_at decimals unit text)
  unfolding split_prints split_of table_prints table_at read_sheet then sheet_text table_for services_in
  as-table = go (read_sheet text)
    where
      go : (r : Reading Sheet) → split_of r ≡ table_prints (then r (λ S. got (table_with (services_at unit S) S)))
      go (got S) = refl
      go (refused why line) = refl

  -- what was printed of four-place percentages
  pub printed-four :
      {n : ℕ} {out out' : List ℕ} → n ≡ length (split_prints text) → out' ≡ sets out 0 (split_prints text) → FourPlacesPrinted text n out out'
  unfolding table_prints
  printed-four {n} {out} {out'} long holds =
      record {
        valid = λ t e. print (as-table ∙ ap table_prints (four.valid text t e));
        alike = λ h. print (as-table ∙ ap table_prints (four.alike text h));
      }
    where
      print : {bytes : List ℕ} → split_prints text ≡ bytes → Printed bytes n out out'
      print e = (long ∙ ap length e, holds ∙ ap (sets out 0) e)
