-- Updates as an operator may call them: the lines of one that was made, and each refusal with its sheet.
use Rattle.std.specs.Prelude.{Ok}
use Prim.Native.String.{String}
use mathlib.Core.Path.{◌≡◌, refl}
use mathlib.Core.List.{[], ◌∷◌}
use Rattle.numerals.specs.Digits.{is_digit, all_digits, value, value_from, on_value, lowest}
use Rattle.numerals.specs.Decimal.{no_leading_zero, is_numeral, number, width_in, width, decimal}
use Rattle.numerals.specs.Suffix.{suffix, suffix_text}
use Rattle.numerals.specs.Text.{onto, split}
use Rattle.numerals.specs.Percentage.{fraction, at_most_all, percent_of, percentage}
use Rattle.numerals.specs.Limits.{unit, text_limit, total_limit}
use Rattle.numerals.specs.Refusals.{number_of}
use Rattle.expansion.specs.Answer.{in_limits}
use Rattle.expansion.specs.OldList.{rules_from}
use Rattle.packing.specs.Count.{own_rules}
use Rattle.packing.specs.Table.{lines_of}
use Rattle.sheets.specs.Cases.{bytes}
use Rattle.sheets.specs.Reading.{then, unless, on_field, same}
use Rattle.sheets.specs.FirstLine.{first_line, opening_lines, opening_fields}
use Rattle.sheets.specs.PercentageSheet.{weight_fields, sum, service_fields, service_lines, volumes_of, ids_of, weights_of, whole, sheet_line}
use Rattle.sheets.specs.PercentageSheet.{read_sheet, read_sheet_at}
use Rattle.sheets.specs.RuleSheet.{on_suffix, count_of, in_order, placed, rule_fields, rule_lines, closed}
use Rattle.sheets.specs.RuleSheet.{whole_table, table_line, read_table, line_text, lines_text}
use Rattle.sheets.specs.Calls.{has_service}
use Rattle.sheets.specs.Update.{has_weights}
use Rattle.update.specs.Sheets.{sheets_in, sheets_answer}
use Rattle.commands.specs.Said.{Said, prints, no_number, on_number}
use Rattle.commands.specs.Refused.{number_text, refusal, refused_of_text}
use Rattle.commands.specs.Numeral.{numeral}
use Rattle.commands.specs.Update.{update_head, updated_text, update_text, update_says}

abbrev text : String → Said
text s = prints (bytes s)

-- a rule sheet of two services, a percentage sheet of one, and both without their last LF
abbrev table : String
table = "TABLE 1 2 0\n1 * 1\n2 * 1\n"

abbrev sheet : String
sheet = "SHEET 1 0 1\nSERVICE 7 1:100\n"

abbrev cut_table : String
cut_table = "TABLE 1 2 0\n1 * 1\n2 * 1"

abbrev cut_sheet : String
cut_sheet = "SHEET 1 0 1\nSERVICE 7 1:100"

abbrev updates : String → String → String → Said
updates old new service = update_says (bytes old) (bytes new) (bytes service)

pub record Updates : Type 0 where
  pub first : updates cut_table cut_sheet "3" ≡ text "REFUSED 1 3 1\n"
  pub second : updates table cut_sheet "3" ≡ text "REFUSED 1 2 2\n"
  pub unknown : updates table sheet "18446744073709551617" ≡ text "REFUSED 8 0 1\n"
  pub no-weights : updates table sheet "2" ≡ text "REFUSED 8 0 2\n"
  pub depth : updates "TABLE 2 1 0\n1 * 1\n" sheet "1" ≡ text "REFUSED 12 0 0\n"
  pub not_a_number : updates cut_table cut_sheet "01" ≡ no_number 3

pub all-updates : Updates
unfolding update_says on_number numeral update_text updated_text number_text refused_of_text refusal number_of decimal width width_in lowest
    sheets_answer sheets_in has_service has_weights in_limits own_rules bytes read_table text_limit table_line first_line opening_lines opening_fields
    whole_table closed rule_lines rule_fields placed in_order count_of on_suffix total_limit same on_field unless then number is_numeral
    no_leading_zero all_digits is_digit value value_from suffix split onto read_sheet read_sheet_at sheet_line whole volumes_of ids_of weights_of
    service_lines service_fields sum weight_fields unit percentage percent_of on_value fraction at_most_all
all-updates = record { first = refl; second = refl; unknown = refl; no-weights = refl; depth = refl; not_a_number = refl }

-- the lines of an update that was made, the newest rule first
pub lines :
    updated_text (Ok (record { k = 5; kept = 1; rules = 3; churn = 8 })) 64 (rules_from (5 ∷ 3 ∷ 2 ∷ 3 ∷ 1 ∷ 9999 ∷ 0 ∷ 0 ∷ 1 ∷ []))
    ≡ bytes "UPDATE 5 1 3 8\n64 *00011 2\n64 *001 9999\n64 * 1\n"
unfolding updated_text update_head bytes decimal width width_in lowest rules_from lines_of lines_text line_text suffix_text
lines = refl
