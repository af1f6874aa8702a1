-- The twelve P cases of document 01 hold of the definitions, and those of document 02, Req 07.
use Prim.Native.Nat.{ℕ, zero, suc, ◌<◌}
use mathlib.Core.Path.{◌≡◌, refl, sym, ap, ap₂, ◌∙◌}
use mathlib.Core.List.{List, [], ◌∷◌}
use native.Mathlib.Omega.{arith}
use lib.ListN.{get_or}
use Rattle.numerals.specs.Digits.{is_digit, all_digits, value, value_from, on_value}
use Rattle.numerals.specs.Decimal.{no_leading_zero, is_numeral, number}
use Rattle.numerals.specs.Text.{onto, split}
use Rattle.numerals.specs.Percentage.{fraction, at_most_all, percent_of, percentage}
use Rattle.numerals.specs.Digits.{lowest}
use Rattle.numerals.specs.Suffix.{suffix, place}
use Rattle.expansion.proofs.Cases.{worked-show, p6-one-suffix}
use Rattle.numerals.specs.Limits.{unit, text_limit}
use Rattle.numerals.specs.Sums.{list_to}
use Rattle.packing.specs.Answer.{services_with}
use Rattle.packing.specs.Table.{granted, one_each}
use Rattle.packing.specs.Count.{Line}
use Rattle.packing.specs.Cases.{p7_lines}
use Rattle.packing.proofs.Cases.{p7}
use Rattle.sheets.specs.Reading.{got, then, unless, on_field, same}
use Rattle.sheets.specs.FirstLine.{opening_fields, opening_lines, first_line}
use Rattle.sheets.specs.PercentageSheet.{Sheet, weight_fields, sum, service_fields, service_lines, volumes_of, ids_of, weights_of, whole, sheet_line}
use Rattle.sheets.specs.PercentageSheet.{read_sheet_at}
use Rattle.sheets.specs.RuleSheet.{Table, on_suffix}
use Rattle.sheets.specs.Calls.{services_at, services_in, table_with, table_for}
use Rattle.sheets.specs.FourPlaces.{former_decimals, former_unit, table_at}
use Rattle.sheets.specs.Cases.{bytes, cases}
use Rattle.sheets.specs.TwelveCases.{Packs, AllOf, twelve, six_decimals, Formerly}
use Rattle.sheets.proofs.Cases.{right}
use Rattle.sheets.proofs.FourPlaces.{table-scaled}
use Rattle.sheets.proofs.Witnesses.{sample, sample-packed, sample-printed}

-- P7: the sample's text is read as the sample, which is granted 2 and 3
sample-grant : (s : ℕ) → s < 2 → granted (services_in sample) 2000000 one_each 5 s ≡ get_or (2 ∷ 3 ∷ []) s 0
unfolding services_in list_to unit services_with
sample-grant zero l = p7.first
sample-grant (suc zero) l = p7.second
sample-grant (suc (suc s)) l = absurd (omega arith)

sample-packs :
    Packs (bytes "SHEET 5 2 5\nSERVICE 55 1:16.6667 2:33.3333 3:50\nSERVICE 45 1:25 2:25 3:50\n") (2 ∷ 3 ∷ [])
    (bytes "TABLE 5 5 29333392000\n1 *0 2\n1 * 3\n2 *00 2\n2 *0 1\n2 * 3\n")
unfolding cases
sample-packs = record { sheet = sample; read = right.0; services = refl; grant = sample-grant; rules = sample-printed }

pub twelve-right : AllOf twelve
unfolding bytes on_field on_suffix suffix place lowest percentage percent_of split onto number is_numeral no_leading_zero all_digits is_digit value
    value_from on_value fraction at_most_all
twelve-right = (
  worked-show.0,
  (
    worked-show.1.0,
    (
      worked-show.1.1.0,
      (
        worked-show.1.1.1.0,
        (
          worked-show.1.1.1.1.0,
          (
            (worked-show.1.1.1.1.1.0, p6-one-suffix),
            (sample-packs, (refl, (refl, (refl, (refl, (refl, tt)))))),
          ),
        ),
      ),
    ),
  ),
)

pub six-decimals-right : AllOf six_decimals
unfolding bytes on_field percentage percent_of split onto number is_numeral no_leading_zero all_digits is_digit value value_from on_value fraction at_most_all
six-decimals-right = (refl, (refl, (refl, (refl, tt))))

-- P7 in document 01's unit: what its total is a hundred times of is what it was
abbrev former : Sheet
former =
    record {
      k = 5;
      tolerance = 20000;
      capacity = 5;
      volumes = 55 ∷ 45 ∷ [];
      ids = (1 ∷ 2 ∷ 3 ∷ []) ∷ (1 ∷ 2 ∷ 3 ∷ []) ∷ [];
      weights = (166667 ∷ 333333 ∷ 500000 ∷ []) ∷ (250000 ∷ 250000 ∷ 500000 ∷ []) ∷ [];
    }

former-read :
    read_sheet_at former_decimals former_unit (bytes "SHEET 5 2 5\nSERVICE 55 1:16.6667 2:33.3333 3:50\nSERVICE 45 1:25 2:25 3:50\n") ≡ got former
unfolding bytes read_sheet_at text_limit sheet_line first_line opening_lines opening_fields whole volumes_of ids_of weights_of service_lines service_fields sum
    weight_fields same on_field unless then percentage percent_of split onto number is_numeral no_leading_zero all_digits is_digit value value_from
    on_value fraction at_most_all
former-read = refl

former-table : table_with (services_at former_unit former) former ≡ record { k = 5; total = 293333920; lines = p7_lines }
unfolding table_for services_in unit
former-table =
    let hundred = sym (table-scaled former_decimals 2 former_unit former) ∙ sample-packed in
    let total : (table_with (services_at former_unit former) former).total ≡ 293333920 = omega (arith, ap (λ (t : Table). t.total) hundred) in
    ap₂ (λ (t : ℕ) (ls : List Line). record { k = 5; total = t; lines = ls }) total (ap (λ (t : Table). t.lines) hundred)

pub formerly : Formerly
unfolding table_at then
formerly = record { sample = ap (λ r. then r (λ S. got (table_with (services_at former_unit S) S))) former-read ∙ ap (λ (t : Table). got t) former-table }
