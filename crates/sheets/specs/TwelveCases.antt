-- The twelve P cases of document 01 ("Figures to try") in one listing, with stairs and totals in the unit of document 02, Req 07; and that request's own.
use Rattle.std.specs.Prelude.{ℕ, ◌<◌, ◌≡◌, List, [], ◌∷◌, length, get_or}
use Prim.Native.String as string
use Rattle.numerals.specs.Percentage.{percentage}
use Rattle.numerals.specs.Suffix.{suffix, place}
use Rattle.expansion.specs.Cases.{Worked, Shows, p1, p2, p3, p4, p5, p6}
use Rattle.expansion.specs.Imbalance.{largest_excess, largest_shortfall}
use Rattle.numerals.specs.Limits.{most_bits, decimals}
use Rattle.numerals.specs.Refusals.{no2}
use Rattle.packing.specs.Table.{granted, one_each}
use Rattle.packing.specs.Cases.{p7_lines}
use Rattle.sheets.specs.Reading.{Reading, got, refused, on_field}
use Rattle.sheets.specs.RuleSheet.{on_suffix}
use Rattle.sheets.specs.PercentageSheet.{Sheet, read_sheet}
use Rattle.sheets.specs.Calls.{services_in, sheet_text}
use Rattle.sheets.specs.FourPlaces.{former_table}
use Rattle.sheets.specs.Cases.{bytes}

-- a list of rules with its end and stairs; such a list and what excess and shortfall it leaves; a percentage sheet, the grants of its services and
-- its rule sheet; the place of a suffix; a percentage, or its refusal in a field of line 1
pub data Figure : Type 0 where
  makes : Worked → Figure
  leaves : Worked → ℕ → ℕ → Figure
  packs : string.String → List ℕ → string.String → Figure
  stands : string.String → ℕ → Figure
  reads : string.String → Reading ℕ → Figure

-- a text that is read as a sheet, whose services are granted so many rules each, and whose rule sheet is printed so
pub record Packs (text grants printed : List ℕ) : Type 0 where
  pub sheet : Sheet
  pub read : read_sheet text ≡ got sheet
  pub services : length grants ≡ length sheet.volumes
  pub grant : (s : ℕ) → s < length grants → granted (services_in sheet) sheet.tolerance one_each sheet.capacity s ≡ get_or grants s 0
  pub rules : sheet_text sheet ≡ printed

abbrev pub Right : Figure → Type 0
Right (makes w) = Shows w
Right (leaves w o u) = Shows w × ((largest_excess w.given.targets w.rules ≡ o) × (largest_shortfall w.given.targets w.rules ≡ u))
Right (packs text grants printed) = Packs (bytes text) grants (bytes printed)
Right (stands text p) = on_suffix (suffix most_bits (bytes text)) 1 (λ l v. got (place l v)) ≡ got p
Right (reads text is) = on_field (percentage decimals (bytes text)) 1 got ≡ is

abbrev pub AllOf : List Figure → Type 0
AllOf [] = Unit {0}
AllOf (f ∷ fs) = Right f × AllOf fs

abbrev pub twelve : List Figure
twelve =
    makes p1
    ∷ makes p2
    ∷ makes p3
    ∷ makes p4
    ∷ makes p5
    ∷ leaves p6 33333400 66666600
    ∷ packs "SHEET 5 2 5\nSERVICE 55 1:16.6667 2:33.3333 3:50\nSERVICE 45 1:25 2:25 3:50\n" (2 ∷ 3 ∷ [])
    "TABLE 5 5 29333392000\n1 *0 2\n1 * 3\n2 *00 2\n2 *0 1\n2 * 3\n"
    ∷ stands "*00100" 4
    ∷ reads "18.4.2" (refused no2 1)
    ∷ reads "100.0000" (got 100000000)
    ∷ reads "100.0001" (refused no2 1)
    ∷ reads "018.4" (refused no2 1)
    ∷ []

-- document 02, Req 07: up to six decimals, and at most 100
abbrev pub six_decimals : List Figure
six_decimals =
    reads "18.40000" (got 18400000)
    ∷ reads "18.4000000" (refused no2 1)
    ∷ reads "100.000000" (got 100000000)
    ∷ reads "100.000001" (refused no2 1)
    ∷ []

-- P7 at document 01's decimals and unit
pub record Formerly : Type 0 where
  pub sample :
      former_table (bytes "SHEET 5 2 5\nSERVICE 55 1:16.6667 2:33.3333 3:50\nSERVICE 45 1:25 2:25 3:50\n")
      ≡ got (record { k = 5; total = 293333920; lines = p7_lines })
