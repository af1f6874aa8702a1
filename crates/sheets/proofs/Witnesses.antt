-- Witnesses: the premises of the round trip and of demand 3 can be met, the bounds of demand 3 are reached, and the one call has each of its answers.
use Rattle.std.specs.Prelude.{Err, Ok}
use Prim.Native.Nat.{ℕ, zero, suc, ◌<◌, ◌≤◌}
use mathlib.Core.Path.{◌≡◌, refl, subst}
use mathlib.Core.List.{List, [], ◌∷◌}
use native.Mathlib.Omega.{arith}
use lib.Dec.{eqb}
use lib.ListN.{length}
use Rattle.numerals.specs.Digits.{is_digit, all_digits, value, value_from, lowest, on_value}
use Rattle.numerals.specs.Decimal.{no_leading_zero, is_numeral, number, width, width_in, decimal}
use Rattle.numerals.specs.Percentage.{fraction, at_most_all, percent_of, percentage}
use Rattle.numerals.specs.Pick.{pick}
use Rattle.numerals.specs.Suffix.{is_suffix, suffix, suffix_text, place}
use Rattle.numerals.specs.Text.{onto, split}
use Rattle.numerals.specs.Limits.{unit, text_limit, total_limit}
use Rattle.numerals.specs.Refusals.{no7}
use Rattle.numerals.specs.Sums.{sum_to, list_to, count_to, all_to, first_to, argmax, lastmax}
use Rattle.expansion.specs.FirstMatch.{is_rule, matches, first_match, gives, share}
use Rattle.expansion.specs.Imbalance.{backends, label, weight, has, wants, excess, shortfall, imbalance, giver, receiver, largest_excess, largest_shortfall}
use Rattle.expansion.specs.Steps.{first_rule, frame, is_within, reduction, reduction_at, term, is_no_gain, is_whole, term_length, lowest_place, new_rule, step}
use Rattle.expansion.specs.Steps.{after, end_of, list_of, oldest, stair}
use Rattle.expansion.specs.declared.rule.Ended.TheVariants.{NoGain}
use Rattle.packing.specs.Grants.{Grants, saving, next, rules, total, more, grant_step, grants_after, packed}
use Rattle.expansion.specs.declared.rule.Rule.{Rule}
use Rattle.packing.specs.Count.{Line, services, volume, targets_of, counted_imbalance, counted, counted_largest_excess, counted_largest_shortfall, own_rules}
use Rattle.packing.specs.Table.{rule_budget, frame_of, list_for, lines_of, table_of, table, problem, granted, one_each}
use Rattle.packing.specs.Answer.{services_with, lines_made, end_number, figures_to, figures_made, figures_buffer, table_buffer}
use Rattle.packing.specs.Demand.{Fitting}
use Rattle.expansion.specs.Answer.{in_limits}
use Rattle.packing.specs.Cases.{line, sample as packable, p7_lines}
use Rattle.packing.proofs.Cases.{lists, lists-are, packs-sample}
use Rattle.sheets.specs.Reading.{got, then, unless, on_field, same}
use Rattle.sheets.specs.PercentageSheet.{Sheet, weight_fields, sum, service_fields, service_lines, volumes_of, ids_of}
use Rattle.sheets.specs.PercentageSheet.{weights_of as rows_of, whole, sheet_line, read_sheet, read_sheet_at}
use Rattle.sheets.specs.FirstLine.{opening_fields, opening_lines, first_line}
use Rattle.sheets.specs.RuleSheet.{Table, head_text, line_text, lines_text, table_text, on_suffix, count_of, in_order, placed, rule_fields, rule_lines}
use Rattle.sheets.specs.RuleSheet.{closed, whole_table, table_line, read_table, is_line, check_lines, check_end, check_sheet}
use Rattle.sheets.specs.Inner.Premises.{check_table}
use Rattle.sheets.specs.Calls.{about, services_in, table_for, plan_of, plan_answer, figures_for, sheet_text, print_text, print_read}
use Rattle.sheets.specs.Demand.{Demand3}
use Rattle.sheets.specs.Cases.{bytes, cases}
use Rattle.sheets.proofs.Cases.{right}
use Rattle.sheets.proofs.DemandThree.{demand-three}

-- The sample sheet and its rule sheet.

abbrev pub sample : Sheet
sample =
    record {
      k = 5;
      tolerance = 2000000;
      capacity = 5;
      volumes = 55 ∷ 45 ∷ [];
      ids = (1 ∷ 2 ∷ 3 ∷ []) ∷ (1 ∷ 2 ∷ 3 ∷ []) ∷ [];
      weights = (16666700 ∷ 33333300 ∷ 50000000 ∷ []) ∷ (25000000 ∷ 25000000 ∷ 50000000 ∷ []) ∷ [];
    }

abbrev pub sample_table : Table
sample_table = record { k = 5; total = 29333392000; lines = p7_lines }

abbrev sheet_bytes : List ℕ
sheet_bytes = bytes "SHEET 5 2 5\nSERVICE 55 1:16.6667 2:33.3333 3:50\nSERVICE 45 1:25 2:25 3:50\n"

abbrev table_bytes : List ℕ
table_bytes = bytes "TABLE 5 5 29333392000\n1 *0 2\n1 * 3\n2 *00 2\n2 *0 1\n2 * 3\n"

-- the sample's table, by the definitions
pub sample-packed : table_for sample ≡ sample_table
unfolding table_for services volume services_in services_with unit list_to lines_made table problem granted
sample-packed = made packs-sample.amount packs-sample.lines
  where
    made : {t : ℕ} {ls : List Line} → t ≡ 29333392000 → ls ≡ p7_lines → record { k = 5; total = t; lines = ls } ≡ sample_table
    made e f = rw (e, f)

-- its text, byte for byte
sample-written : table_text sample_table ≡ table_bytes
unfolding table_text head_text lines_text line_text decimal width width_in lowest suffix_text bytes
sample-written = refl

pub sample-printed : sheet_text sample ≡ table_bytes
unfolding sheet_text
sample-printed = rw sample-packed sample-written

-- and the call that prints answers so many bytes
pub sample-answer : print_read (read_sheet sheet_bytes) sheet_text text_limit ≡ Ok 56
unfolding cases print_text bytes text_limit
sample-answer = rw (right.0, sample-printed)

-- it is accepted, and passes the check of a table in numbers
pub sample-accepted : read_table table_bytes ≡ got sample_table
unfolding bytes read_table text_limit table_line first_line opening_lines opening_fields whole_table closed rule_lines rule_fields placed in_order count_of
    own_rules on_suffix total_limit same on_field unless then number is_numeral no_leading_zero all_digits is_digit value value_from suffix split
    onto
sample-accepted = refl

pub sample-checked : check_table sample_table ≡ got sample_table
unfolding check_table check_sheet check_end check_lines is_line is_rule is_suffix in_limits placed in_order count_of own_rules closed total_limit unless then
sample-checked = refl

-- and demand 3 holds of it
pub sample-demand : Demand3 sheet_bytes table_bytes
unfolding cases
sample-demand = subst (λ (b : List ℕ). Demand3 sheet_bytes b) sample-printed (demand-three sheet_bytes sample right.0)

-- a rival that fits: four rules and one have a larger total
abbrev rival : Grants
rival s = pick (eqb s 0) 4 1

pub rival-fits : Fitting (services_in sample) one_each 5 rival
unfolding services_in services sum_to services_with
rival-fits = record { enough = one; room = omega arith }
  where
    one : (s : ℕ) → s < 2 → 1 ≤ rival s
    one zero h = omega arith
    one (suc zero) h = omega arith
    one (suc (suc s)) h = absurd (omega arith)

pub rival-loses : counted (services_in sample) (table (services_in sample) 2000000 rival) ≡ 73833392000
unfolding services_in unit sum_to list_to count_to all_to first_to argmax lastmax matches first_match gives share backends label weight has wants excess
    shortfall imbalance giver receiver largest_excess largest_shortfall first_rule frame is_within reduction reduction_at term is_no_gain is_whole
    term_length lowest_place new_rule step after list_of oldest place value value_from lowest services volume targets_of rule_budget frame_of
    list_for lines_of table_of table own_rules counted_imbalance counted services_with
rival-loses = refl

-- P6 as a sheet: its whole list is in the table and ended as no gain, and excess and shortfall make just one suffix, as much as demand 3 allows

abbrev thirds : Sheet
thirds =
    record {
      k = 1;
      tolerance = 0;
      capacity = 2;
      volumes = 1 ∷ [];
      ids = (1 ∷ 2 ∷ 3 ∷ []) ∷ [];
      weights = (33333400 ∷ 33333300 ∷ 33333300 ∷ []) ∷ [];
    }

abbrev thirds_table : Table
thirds_table = record { k = 1; total = 66666600; lines = line 1 1 0 2 ∷ line 1 0 0 1 ∷ [] }

pub thirds-read : read_sheet (bytes "SHEET 1 0 2\nSERVICE 1 1:33.3334 2:33.3333 3:33.3333\n") ≡ got thirds
unfolding bytes read_sheet read_sheet_at text_limit sheet_line first_line opening_lines opening_fields whole volumes_of ids_of rows_of service_lines
    service_fields sum
    weight_fields same on_field unless then unit percentage percent_of split onto number is_numeral no_leading_zero all_digits is_digit value
    value_from on_value fraction at_most_all
thirds-read = refl

pub record Tight : Type 0 where
  pub made : table_for thirds ≡ thirds_table
  pub entire : length (own_rules 1 thirds_table.lines) ≡ length (list_for (services_in thirds) 0 0)
  pub ended : end_of (frame_of (services_in thirds) 0 0) (list_for (services_in thirds) 0 0) ≡ NoGain
  pub above : counted_largest_excess (services_in thirds) thirds_table.lines 0 ≡ 33333400
  pub below : counted_largest_shortfall (services_in thirds) thirds_table.lines 0 ≡ 66666600

pub thirds-tight : Tight
unfolding table_for services_in unit sum_to list_to count_to all_to first_to argmax lastmax matches first_match gives share backends label weight has
    wants excess shortfall imbalance giver receiver largest_excess largest_shortfall first_rule frame is_within reduction reduction_at term
    is_no_gain is_whole term_length lowest_place new_rule step after end_of list_of oldest stair place value value_from lowest saving next rules
    total more grant_step grants_after packed services volume targets_of rule_budget frame_of list_for problem granted lines_of table_of table
    lines_made counted_largest_excess counted_largest_shortfall own_rules services_with
thirds-tight = record { made = refl; entire = refl; ended = refl; above = refl; below = refl }

-- The one call on the sample: made, and each buffer too short by one place.

abbrev sample_figures : List ℕ
sample_figures = 2 ∷ 4 ∷ 0 ∷ 3 ∷ 3 ∷ 0 ∷ []

-- by the grants and the lists of both services
abbrev figures : ℕ → ℕ → List Rule → List Rule → List ℕ
figures g h own other =
    g ∷ length own ∷ end_number (end_of (frame_of packable 2000000 0) own) ∷ h ∷ length other ∷ end_number (end_of (frame_of packable 2000000 1) other) ∷ []

figures-right : figures 2 3 (lists 0) (lists 1) ≡ sample_figures
unfolding unit sum_to count_to all_to argmax lastmax matches first_match gives share backends label weight has wants excess shortfall giver receiver
    largest_excess largest_shortfall frame is_within reduction reduction_at term is_no_gain end_of targets_of frame_of
figures-right = refl

pub sample-figures : figures_for sample ≡ sample_figures
unfolding figures_for figures_made figures_to services volume services_in services_with unit list_to problem granted
sample-figures = made packs-sample.first packs-sample.second (lists-are 0) (lists-are 1)
  where
    made : {g h : ℕ} {own other : List Rule} → g ≡ 2 → h ≡ 3 → own ≡ lists 0 → other ≡ lists 1 → figures g h own other ≡ sample_figures
    made a b c d = rw (a, b, c, d) figures-right

pub record OneCall : Type 0 where
  pub made : plan_answer sheet_bytes 6 20 ≡ Ok (record { k = 5; services = 2; rules = 5; total = 29333392000 })
  pub table-short : plan_answer sheet_bytes 6 19 ≡ Err (about table_buffer no7 0)
  pub figures-short : plan_answer sheet_bytes 5 20 ≡ Err (about figures_buffer no7 0)
  pub both-short : plan_answer sheet_bytes 5 19 ≡ Err (about figures_buffer no7 0)

pub one-call : OneCall
unfolding cases plan_answer plan_of
one-call =
    record {
      made = rw (right.0, sample-packed);
      table-short = rw (right.0, sample-packed);
      figures-short = rw right.0;
      both-short = rw right.0;
    }
