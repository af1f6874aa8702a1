-- Readings of a rule sheet: a share, a load, the mark that the service is absent, and refusals in their order.
use Rattle.std.specs.Prelude.{Err, Ok, Result}
use Prim.Native.String.{String}
use Prim.Native.Nat.{ℕ}
use mathlib.Core.Path.{◌≡◌, refl}
use lib.Count.{count_trailing_zeros}
use lib.Ieee.{binary64, span, climb, size, odd, of_fields, of_bits}
use Rattle.numerals.specs.Digits.{is_digit, all_digits, value, value_from}
use Rattle.numerals.specs.Decimal.{no_leading_zero, is_numeral, number}
use Rattle.numerals.specs.Limits.{text_limit, total_limit}
use Rattle.numerals.specs.Refusals.{no1, no2}
use Rattle.numerals.specs.Suffix.{suffix}
use Rattle.numerals.specs.Sums.{sum_to, count_to}
use Rattle.numerals.specs.Text.{onto, split}
use Rattle.expansion.specs.Answer.{in_limits}
use Rattle.expansion.specs.FirstMatch.{matches, first_match, gives, share}
use Rattle.packing.specs.Count.{own_rules}
use Rattle.sheets.specs.Cases.{bytes}
use Rattle.sheets.specs.Calls.{refused_at, has_service}
use Rattle.sheets.specs.FirstLine.{first_line, opening_lines, opening_fields}
use Rattle.sheets.specs.Reading.{then, unless, on_field, same}
use Rattle.sheets.specs.RuleSheet.{on_suffix, count_of, in_order, placed, rule_fields, rule_lines, closed}
use Rattle.sheets.specs.RuleSheet.{whole_table, table_line, read_table}
use Rattle.gauges.specs.Binary64.{biased_exponent, fraction_field, bits, dyadic}
use Rattle.gauges.specs.Gauges.{held, gauges_of, in_range, reading_of, reading_in, reading_answer}
use Rattle.gauges.specs.declared.answer.Gauge.{Gauge}
use Rattle.gauges.specs.declared.answer.Gauge.TheVariants as which
use Rattle.gauges.specs.declared.answer.Reading.TheVariants.{Share, Load, Absent}
use Rattle.gauges.specs.declared.answer.Reading.{Reading}
use Rattle.sheets.specs.declared.answer.Refused.{Refused}

-- backend 2 holds 13 of 32 suffixes: 8, 4 and 1
abbrev thirteen : String
thirteen = "TABLE 5 4 0\n1 *00011 2\n1 *001 2\n1 *00 2\n1 * 1\n"

abbrev read : String → ℕ → ℕ → ℕ → Gauge → Result Reading Refused
read table n volume b gauge = reading_answer (bytes table) n volume b gauge

-- the bits as other programs show them, in hexadecimal
pub record Readings : Type 0 where
  pub a-share : read thirteen 1 55 2 which.Share ≡ Ok (Share (of_bits binary64 0x3fda_0000_0000_0000))
  pub a-load : read thirteen 1 55 2 which.Load ≡ Ok (Load (of_bits binary64 0x4036_5800_0000_0000))
  pub nothing : read thirteen 1 55 9999 which.Load ≡ Ok (Load (of_bits binary64 0))
  pub whole-tree : read "TABLE 1 1 0\n1 * 1\n" 1 0 1 which.Share ≡ Ok (Share (of_bits binary64 0x3ff0_0000_0000_0000))
  pub absent : read thirteen 2 10001 10000 which.Share ≡ Ok Absent
  pub out : read thirteen 1 10001 2 which.Share ≡ Err (refused_at no2 0)
  pub no-id : read thirteen 1 55 10000 which.Share ≡ Err (refused_at no2 0)
  pub cut : read "TABLE 1 1 0\n1 * 1" 2 10001 10000 which.Load ≡ Err (refused_at no1 2)

pub all-readings : Readings
unfolding reading_answer reading_in reading_of gauges_of held in_range in_limits share gives dyadic bits biased_exponent fraction_field of_bits of_fields odd
    size
    span climb count_trailing_zeros sum_to count_to has_service first_match own_rules matches bytes read_table text_limit table_line first_line opening_lines
    opening_fields whole_table closed rule_lines rule_fields placed in_order count_of on_suffix total_limit same on_field unless then number is_numeral
    no_leading_zero all_digits is_digit value value_from suffix split onto
all-readings = record { a-share = refl; a-load = refl; nothing = refl; whole-tree = refl; absent = refl; out = refl; no-id = refl; cut = refl }
