-- Calls as an operator may write them, each with the bytes that it prints, or the word that is no number.
use Prim.Native.String.{String}
use mathlib.Core.Path.{◌≡◌, refl}
use mathlib.Core.List.{List, [], ◌∷◌}
use lib.Count.{count_trailing_zeros}
use lib.Ieee.{span, climb, size, odd, of_fields, of_bits}
use Rattle.numerals.specs.Digits.{is_digit, all_digits, value, value_from, on_value, lowest}
use Rattle.numerals.specs.Decimal.{no_leading_zero, is_numeral, number, width_in, width, decimal}
use Rattle.numerals.specs.Suffix.{suffix}
use Rattle.numerals.specs.Text.{onto, split}
use Rattle.numerals.specs.Refusals.{number_of}
use Rattle.expansion.specs.Answer.{in_limits}
use Rattle.expansion.specs.FirstMatch.{differing, matches, first_match, gives, share}
use Rattle.numerals.specs.Sums.{sum_to, count_to}
use Rattle.packing.specs.Count.{own_rules}
use Rattle.sheets.specs.Reading.{then, unless, on_field, same}
use Rattle.numerals.specs.Limits.{text_limit, total_limit}
use Rattle.sheets.specs.FirstLine.{first_line, opening_lines, opening_fields}
use Rattle.sheets.specs.RuleSheet.{on_suffix, count_of, in_order, placed, rule_fields, rule_lines, closed}
use Rattle.sheets.specs.RuleSheet.{whole_table, table_line, read_table}
use Rattle.sheets.specs.Calls.{has_service, lookup_in, lookup_answer, moved, churn_of, churn_answer}
use Rattle.sheets.specs.Cases.{bytes}
use Rattle.gauges.specs.Binary64.{biased_exponent, fraction_field, bits, dyadic}
use Rattle.gauges.specs.Gauges.{held, gauges_of, in_range, gauges_in, gauges_answer}
use Rattle.commands.specs.Said.{Said, prints, no_number, on_number}
use Rattle.commands.specs.Refused.{number_text, refusal, refused_text, refused_of_text}
use Rattle.commands.specs.Numeral.{numeral}
use Rattle.commands.specs.Address.{byte, quad, or_else, address_of}
use Rattle.commands.specs.Lookup.{looked_text, lookup_text, lookup_says}
use Rattle.commands.specs.Churn.{churned_text, churn_says}
use Rattle.commands.specs.Dyadic.{decimals_of, dotted, dyadic_text}
use Rattle.commands.specs.Gauge.{float_text, gauges_text, gauge_says}

abbrev text : String → Said
text s = prints (bytes s)

-- the sample's rule sheet, another one of the same service, and one without its last LF
abbrev sample : String
sample = "TABLE 5 5 29333392000\n1 *0 2\n1 * 3\n2 *00 2\n2 *0 1\n2 * 3\n"

abbrev short : String
short = "TABLE 1 1 0\n1 * 1\n"

abbrev cut : String
cut = "TABLE 1 1 0\n1 * 1"

pub record Case : Type 0 where
  pub first : String
  pub service : String
  pub address : String
  pub said : Said

abbrev looks : String → String → String → Said → Case
looks table service address said = record { first = table; service = service; address = address; said = said }

abbrev cases : List Case
cases =
    looks sample "1" "10.0.0.1" (text "3\n")
    ∷ looks sample "2" "255.255.255.254" (text "1\n")
    ∷ looks sample "2" "4294967294" (text "1\n")
    -- 8: no such service, of any length; 2^64 + 1 isn't 1
    ∷ looks sample "0" "0" (text "REFUSED 8 0\n")
    ∷ looks sample "3" "0" (text "REFUSED 8 0\n")
    ∷ looks sample "18446744073709551617" "0" (text "REFUSED 8 0\n")
    -- 2: an address above 32 bits, after the sheet's own refusals and 8
    ∷ looks sample "1" "4294967296" (text "REFUSED 2 0\n")
    ∷ looks sample "1" "18446744073709551616" (text "REFUSED 2 0\n")
    ∷ looks sample "65" "4294967296" (text "REFUSED 8 0\n")
    ∷ looks cut "65" "4294967296" (text "REFUSED 1 2\n")
    -- no numbers, before the sheet is read: the service, then the address
    ∷ looks cut "01" "x" (no_number 2)
    ∷ looks sample "" "0" (no_number 2)
    ∷ looks sample "1.0" "0" (no_number 2)
    ∷ looks sample "1" "" (no_number 3)
    ∷ looks sample "1" "1.2.3" (no_number 3)
    ∷ looks sample "1" "1.2.3.4.5" (no_number 3)
    ∷ looks sample "1" "1..2.3" (no_number 3)
    ∷ looks sample "1" "01.2.3.4" (no_number 3)
    ∷ looks sample "1" "256.0.0.0" (no_number 3)
    ∷ []

abbrev pub AllRight : List Case → Type 0
AllRight [] = Unit {0}
AllRight (c ∷ cs) = (lookup_says (bytes c.first) (bytes c.service) (bytes c.address) ≡ c.said) × AllRight cs

pub right : AllRight cases
unfolding lookup_says on_number numeral address_of or_else quad byte lookup_text looked_text number_text refused_text refusal number_of decimal width
    width_in lowest on_value lookup_answer lookup_in has_service first_match own_rules matches bytes read_table text_limit table_line first_line
    opening_lines opening_fields whole_table closed rule_lines rule_fields placed in_order count_of on_suffix total_limit same on_field unless then
    number is_numeral no_leading_zero all_digits is_digit value value_from suffix split onto
right =
    (refl, (refl, (refl, (refl, (refl, (refl, (refl, (refl, (refl, (refl, (refl, (refl, (refl, (refl, (refl, (refl, (refl, (refl, (refl, tt)))))))))))))))))))

-- Churn: what moved, and the sheet that a refusal is about.

abbrev churns : String → String → String → Said
churns old new service = churn_says (bytes old) (bytes new) (bytes service)

pub record Churns : Type 0 where
  pub half : churns short "TABLE 1 2 0\n1 *1 2\n1 * 1\n" "1" ≡ text "1\n"
  pub none : churns sample sample "2" ≡ text "0\n"
  pub unknown : churns short short "18446744073709551617" ≡ text "REFUSED 8 0 1\n"
  pub depth : churns sample short "1" ≡ text "REFUSED 12 0 0\n"
  pub second : churns short cut "2" ≡ text "REFUSED 1 2 2\n"
  pub not_a_number : churns cut cut "-1" ≡ no_number 3

pub all-churns : Churns
unfolding churn_says on_number numeral churned_text number_text refused_of_text refusal number_of decimal width width_in lowest churn_answer churn_of moved
    differing
    sum_to count_to has_service first_match own_rules matches bytes read_table text_limit table_line first_line opening_lines opening_fields
    whole_table closed rule_lines rule_fields placed in_order count_of on_suffix total_limit same on_field unless then number is_numeral
    no_leading_zero all_digits is_digit value value_from suffix split onto
all-churns = record { half = refl; none = refl; unknown = refl; depth = refl; second = refl; not_a_number = refl }

-- Gauge: share and load, and the order of refusals.

-- backend 2 holds 13 of 32 suffixes: 8, 4 and 1
abbrev thirteen : String
thirteen = "TABLE 5 4 0\n1 *00011 2\n1 *001 2\n1 *00 2\n1 * 1\n"

abbrev gauges : String → String → String → String → Said
gauges table service volume backend = gauge_says (bytes table) (bytes service) (bytes volume) (bytes backend)

pub record Gauges : Type 0 where
  pub some : gauges thirteen "1" "55" "2" ≡ text "0.40625 22.34375\n"
  pub rest : gauges thirteen "1" "32" "1" ≡ text "0.59375 19\n"
  pub whole-tree : gauges short "1" "10000" "1" ≡ text "1 10000\n"
  pub no-volume : gauges sample "2" "0" "1" ≡ text "0.25 0\n"
  pub nothing-held : gauges thirteen "1" "55" "9999" ≡ text "0 0\n"
  pub unknown : gauges thirteen "2" "10001" "10000" ≡ text "REFUSED 8 0\n"
  pub volume : gauges thirteen "1" "10001" "2" ≡ text "REFUSED 2 0\n"
  pub volumes : gauges thirteen "1" "18446744073709551671" "2" ≡ text "REFUSED 2 0\n"
  pub backend : gauges thirteen "1" "55" "0" ≡ text "REFUSED 2 0\n"
  pub backends : gauges thirteen "1" "55" "18446744073709551618" ≡ text "REFUSED 2 0\n"
  pub refused : gauges cut "2" "10001" "10000" ≡ text "REFUSED 1 2\n"
  pub not_a_number : gauges cut "1" "05" "x" ≡ no_number 3

pub all-gauges : Gauges
unfolding gauge_says on_number numeral gauges_text float_text dyadic_text decimals_of dotted gauges_answer gauges_in gauges_of held in_range in_limits share
    gives
    dyadic bits biased_exponent fraction_field of_bits of_fields odd size span climb count_trailing_zeros refused_text refusal number_of decimal width width_in
    lowest sum_to count_to has_service first_match own_rules matches bytes read_table text_limit table_line first_line opening_lines opening_fields
    whole_table closed rule_lines rule_fields placed in_order count_of on_suffix total_limit same on_field unless then number is_numeral
    no_leading_zero all_digits is_digit value value_from suffix split onto
all-gauges =
    record {
      some = refl;
      rest = refl;
      whole-tree = refl;
      no-volume = refl;
      nothing-held = refl;
      unknown = refl;
      volume = refl;
      volumes = refl;
      backend = refl;
      backends = refl;
      refused = refl;
      not_a_number = refl;
    }
