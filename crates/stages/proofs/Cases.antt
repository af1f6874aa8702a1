-- The worked cases, by computation.
use mathlib.Core.Path.{refl}
use Rattle.numerals.specs.Digits.{is_digit, all_digits, value, value_from, lowest}
use Rattle.numerals.specs.Decimal.{no_leading_zero, is_numeral, number, width_in, width, decimal}
use Rattle.numerals.specs.Suffix.{suffix, suffix_text, place}
use Rattle.numerals.specs.Text.{onto, split}
use Rattle.numerals.specs.Limits.{text_limit, total_limit}
use Rattle.numerals.specs.Sums.{sum_to, count_to, all_to, largest_to}
use Rattle.expansion.specs.Answer.{in_limits}
use Rattle.expansion.specs.FirstMatch.{matches, first_match}
use Rattle.packing.specs.Count.{own_rules}
use Rattle.packing.specs.Table.{lines_of}
use Rattle.sheets.specs.Cases.{bytes}
use Rattle.sheets.specs.Reading.{then, unless, on_field, same}
use Rattle.sheets.specs.FirstLine.{first_line, opening_lines, opening_fields}
use Rattle.sheets.specs.RuleSheet.{on_suffix, count_of, in_order, placed, rule_fields, rule_lines, closed, whole_table, table_line, read_table}
use Rattle.sheets.specs.RuleSheet.{line_text, lines_text}
use Rattle.sheets.specs.Calls.{print_text, has_service}
use Rattle.stages.specs.Stages.{stage_at, stage_churn, next_place, row_from, row}
use Rattle.stages.specs.Lines.{one_holds, largest_of, stage_rules, stage_text}
use Rattle.stages.specs.Calls.{change_of, crowded, in_range, of_change, of_sheets, places_answer, places_written, place_of, lines_answer, lines_written}
use Rattle.stages.specs.Cases.{Shown}

pub cases-shown : Shown
unfolding is_digit all_digits value value_from lowest no_leading_zero is_numeral number width_in width decimal suffix suffix_text place onto split text_limit
    total_limit
    sum_to count_to all_to largest_to in_limits matches first_match own_rules lines_of bytes then unless on_field same first_line opening_lines opening_fields
    on_suffix
    count_of in_order placed rule_fields rule_lines closed whole_table table_line read_table line_text lines_text print_text has_service stage_at stage_churn
    next_place
    row_from row one_holds largest_of stage_rules stage_text change_of crowded in_range of_change of_sheets places_answer places_written place_of lines_answer
    lines_written
cases-shown =
    record {
      row = refl;
      two = refl;
      middle = refl;
      last = refl;
      printed = refl;
      whole = refl;
      equal = refl;
      crowded = refl;
      crowded_too = refl;
      no_limit = refl;
      many_moved = refl;
      no_capacity = refl;
      large_capacity = refl;
      no_stage = refl;
      third_stage = refl;
      short = refl;
      unknown = refl;
      depth = refl;
    }
