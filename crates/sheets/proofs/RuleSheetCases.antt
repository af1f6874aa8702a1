-- Worked cases of document 01 on rule sheets, lookup, churn and tables in numbers: each refusal, and what is accepted.
use Rattle.std.specs.Prelude.{Err, Ok, Result}
use Prim.Native.Nat.{ℕ, zero, suc, ◌<◌}
use Prim.Native.String as string
use mathlib.Core.Path.{◌≡◌, refl}
use mathlib.Core.List.{List, [], ◌∷◌, ◌++◌}
use native.Mathlib.Omega.{arith}
use lib.ListN.{length}
use borrow.Author.Tests.{lt-leb}
use Rattle.numerals.specs.Digits.{is_digit, all_digits, value, value_from, lowest, on_value}
use Rattle.numerals.specs.Decimal.{no_leading_zero, is_numeral, number, width_in, width, decimal}
use Rattle.numerals.specs.Percentage.{fraction, at_most_all, percent_of, percentage}
use Rattle.numerals.specs.Suffix.{is_suffix, suffix, suffix_text}
use Rattle.numerals.specs.Text.{onto, split}
use Rattle.numerals.specs.Limits.{unit, text_limit, total_limit}
use Rattle.numerals.specs.Refusals.{no1, no2, no4, no5, no8, no9, no10, no11, no12}
use Rattle.expansion.specs.FirstMatch.{differing, is_rule, matches, first_match}
use Rattle.numerals.specs.Sums.{sum_to, count_to}
use Rattle.packing.specs.Cases.{line}
use Rattle.packing.specs.Count.{own_rules}
use Rattle.expansion.specs.Answer.{in_limits}
use Rattle.sheets.specs.Reading.{Reading, got, refused, then, unless, on_field, same}
use Rattle.sheets.specs.PercentageSheet.{weight_fields, sum, service_fields, service_lines, whole, sheet_line, read_sheet, read_sheet_at}
use Rattle.sheets.specs.FirstLine.{opening_fields, opening_lines, first_line}
use Rattle.sheets.specs.RuleSheet.{Table, head_text, line_text, lines_text, on_suffix, count_of, in_order, placed, rule_fields, rule_lines, closed}
use Rattle.sheets.specs.RuleSheet.{whole_table, table_line, read_table, is_line, check_lines, check_end, check_sheet}
use Rattle.sheets.specs.Calls.{about, refused_at, lines_from, broken_from, broken_text, lines_handed, handed_text, table_handed, has_service, lookup_in}
use Rattle.sheets.specs.Calls.{lookup_answer, moved, churn_of, churn_answer}
use Rattle.sheets.specs.Cases.{bytes}
use Rattle.sheets.proofs.TableTexts.{lines_width}
use Rattle.sheets.proofs.NumbersText.{handed_width, length-handed}
use Rattle.sheets.proofs.TableHanded.{handed-long}
use Rattle.sheets.specs.declared.answer.Refused.{Refused}

-- a text n times
abbrev times : ℕ → List ℕ → List ℕ
times zero text = []
times (suc n) text = text ++ times n text

pub record Case : Type 0 where
  pub text : List ℕ
  pub is : Reading Table

abbrev reads : string.String → Reading Table → Case
reads text is = record { text = bytes text; is = is }

abbrev accepted : ℕ → List ℕ → Reading Table
accepted k ls = got (record { k = k; total = 0; lines = lines_from ls })

abbrev cases : List Case
cases =
    -- gaps between services, an equal suffix twice
    reads "TABLE 2 4 0\n1 * 1\n64 *0 2\n64 *0 3\n64 * 9999\n" (accepted 2 (1 ∷ 0 ∷ 0 ∷ 1 ∷ 64 ∷ 1 ∷ 0 ∷ 2 ∷ 64 ∷ 1 ∷ 0 ∷ 3 ∷ 64 ∷ 0 ∷ 0 ∷ 9999 ∷ []))
    -- the largest total, and one that was too large in document 01's unit
    ∷ reads "TABLE 1 1 262144000000000000\n1 * 1\n" (got (record { k = 1; total = 262144000000000000; lines = lines_from (1 ∷ 0 ∷ 0 ∷ 1 ∷ []) }))
    ∷ reads "TABLE 1 1 2621440000000001\n1 * 1\n" (got (record { k = 1; total = 2621440000000001; lines = lines_from (1 ∷ 0 ∷ 0 ∷ 1 ∷ []) }))
    -- 1: nothing, LF missing, keyword, too few and too many fields, a blank line
    ∷ reads "" (refused no1 1)
    ∷ reads "TABLE 1 1 0" (refused no1 1)
    ∷ reads "TABLE 1 1 0\n1 * 1" (refused no1 2)
    ∷ reads "SHEET 1 1 0\n1 * 1\n" (refused no1 1)
    ∷ reads "TABLE 1 1\n1 * 1\n" (refused no1 1)
    ∷ reads "TABLE 1 1 0\n1 * 1 1\n" (refused no1 2)
    ∷ reads "TABLE 1 1 0\n1 * 1\n\n" (refused no1 3)
    -- 2: k, n and the total out of their limits, CR, service, a suffix longer than k, backend, an empty field
    ∷ reads "TABLE 13 1 0\n1 * 1\n" (refused no2 1)
    ∷ reads "TABLE 1 0 0\n1 * 1\n" (refused no2 1)
    ∷ reads "TABLE 1 2049 0\n1 * 1\n" (refused no2 1)
    ∷ reads "TABLE 1 1 262144000000000001\n1 * 1\n" (refused no2 1)
    ∷ reads "TABLE 1 1 0\r\n1 * 1\n" (refused no2 1)
    ∷ reads "TABLE 1 1 0\n65 * 1\n" (refused no2 2)
    ∷ reads "TABLE 1 1 0\n1 *00 1\n" (refused no2 2)
    ∷ reads "TABLE 1 1 0\n1 * 10000\n" (refused no2 2)
    ∷ reads "TABLE 1 1 0\n1  1\n" (refused no2 2)
    -- 5: only line 1
    ∷ reads "TABLE 1 1 0\n" (refused no5 1)
    -- 9: services fall, a second `*`, a service begun while the one before has no `*`, a longer suffix, a last line without `*`
    ∷ reads "TABLE 1 2 0\n2 * 1\n1 * 1\n" (refused no9 3)
    ∷ reads "TABLE 1 2 0\n1 * 1\n1 * 1\n" (refused no9 3)
    ∷ reads "TABLE 1 2 0\n1 *0 1\n2 * 1\n" (refused no9 3)
    ∷ reads "TABLE 2 3 0\n1 *0 1\n1 *00 1\n1 * 1\n" (refused no9 3)
    ∷ reads "TABLE 1 1 0\n1 *0 1\n" (refused no9 2)
    -- 10, and before 9
    ∷ reads "TABLE 1 2 0\n1 * 1\n" (refused no10 1)
    ∷ reads "TABLE 1 2 0\n1 *0 1\n" (refused no10 1)
    -- 4: a 33rd rule, which comes before 9
    ∷ record { text = bytes "TABLE 1 33 0\n" ++ times 33 (bytes "1 *0 1\n"); is = refused no4 34 }
    ∷ record { text = bytes "TABLE 1 34 0\n" ++ times 31 (bytes "1 *0 1\n") ++ bytes "1 * 1\n2 * 1\n1 * 1\n"; is = refused no4 35 }
    ∷ []

abbrev AllRight : List Case → Type 0
AllRight [] = Unit {0}
AllRight (c ∷ cs) = (read_table c.text ≡ c.is) × AllRight cs

pub right : AllRight cases
unfolding bytes lines_from read_table text_limit table_line first_line opening_lines opening_fields whole_table closed rule_lines rule_fields placed
    in_order count_of own_rules on_suffix total_limit same on_field unless then number is_numeral no_leading_zero all_digits is_digit value value_from
    suffix split onto
right = (refl, (refl, (refl, (refl, (refl, (refl, (refl, (refl, (refl, (refl, (refl, (refl, (refl, (refl, (refl, (refl, (refl, (refl, (refl, (refl, (refl, (refl, (refl, (refl, (refl, (refl, (refl, (refl, (refl, tt)))))))))))))))))))))))))))))

-- Lookup on the sample's rule sheet: the first match, the `*` line, an address of 32 bits, and services that aren't there.

abbrev table_bytes : List ℕ
table_bytes = bytes "TABLE 5 5 29333392000\n1 *0 2\n1 * 3\n2 *00 2\n2 *0 1\n2 * 3\n"

pub record Lookups : Type 0 where
  pub matching : lookup_answer table_bytes 1 0 ≡ Ok 2
  pub star : lookup_answer table_bytes 1 1 ≡ Ok 3
  pub second : lookup_answer table_bytes 2 4294967294 ≡ Ok 1
  pub zeroth : lookup_answer table_bytes 0 0 ≡ Err (refused_at no8 0)
  pub unknown : lookup_answer table_bytes 3 0 ≡ Err (refused_at no8 0)
  pub malformed : lookup_answer (bytes "TABLE 5 5 29333392000") 3 0 ≡ Err (refused_at no1 1)

pub lookups : Lookups
unfolding lookup_answer lookup_in has_service first_match matches bytes read_table text_limit table_line first_line opening_lines opening_fields whole_table
    closed rule_lines rule_fields placed in_order count_of own_rules on_suffix total_limit same on_field unless then number is_numeral no_leading_zero
    all_digits is_digit value value_from suffix split onto
lookups = record { matching = refl; star = refl; second = refl; zeroth = refl; unknown = refl; malformed = refl }

-- Churn: suffixes that moved, and which sheet a refusal names.

abbrev churns : string.String → string.String → ℕ → Result ℕ Refused
churns old new n = churn_answer (bytes old) (bytes new) n

pub record Churns : Type 0 where
  pub all : churns "TABLE 1 1 0\n1 * 1\n" "TABLE 1 1 0\n1 * 2\n" 1 ≡ Ok 2
  pub half : churns "TABLE 1 1 0\n1 * 1\n" "TABLE 1 2 0\n1 *1 2\n1 * 1\n" 1 ≡ Ok 1
  pub first : churns "TABLE 1 1 0\n2 * 1\n" "TABLE 2 1 0\n3 * 2\n" 1 ≡ Err (about 1 no8 0)
  pub second : churns "TABLE 1 1 0\n1 * 1\n" "TABLE 2 1 0\n2 * 2\n" 1 ≡ Err (about 2 no8 0)
  pub neither : churns "TABLE 1 1 0\n1 * 1\n" "TABLE 2 1 0\n1 * 1\n" 1 ≡ Err (about 0 no12 0)
  pub old : churns "TABLE 1 1 0\n1 * 1" "TABLE 1 1 0" 1 ≡ Err (about 1 no1 2)
  pub new : churns "TABLE 1 1 0\n2 * 1\n" "TABLE 1 1 0" 1 ≡ Err (about 2 no1 1)

pub all-churns : Churns
unfolding churn_answer churn_of moved differing sum_to count_to has_service first_match matches bytes read_table text_limit table_line first_line opening_lines
    opening_fields whole_table closed rule_lines rule_fields placed in_order count_of own_rules on_suffix total_limit same on_field unless then
    number is_numeral no_leading_zero all_digits is_digit value value_from suffix split onto
all-churns = record { all = refl; half = refl; first = refl; second = refl; neither = refl; old = refl; new = refl }

-- Tables in numbers.

pub record Handed : Type 0 where
  pub accepted : table_handed 1 0 (1 ∷ 1 ∷ 0 ∷ 2 ∷ 1 ∷ 0 ∷ 0 ∷ 1 ∷ []) ≡ got (record { k = 1; total = 0; lines = line 1 1 0 2 ∷ line 1 0 0 1 ∷ [] })
  pub none : table_handed 1 0 [] ≡ refused no2 0
  pub bits : table_handed 13 0 (1 ∷ 0 ∷ 0 ∷ 1 ∷ []) ≡ refused no2 0
  pub amount : table_handed 1 262144000000000001 (1 ∷ 0 ∷ 0 ∷ 1 ∷ []) ≡ refused no2 0
  -- a service and a backend by their place from 0, past their limits, and a value of too many bits
  pub no-service : table_handed 1 0 (0 ∷ 0 ∷ 0 ∷ 1 ∷ []) ≡ refused no2 0
  pub past-service : table_handed 1 0 (65 ∷ 0 ∷ 0 ∷ 1 ∷ []) ≡ refused no2 0
  pub no-backend : table_handed 1 0 (1 ∷ 0 ∷ 0 ∷ 0 ∷ []) ≡ refused no2 0
  pub past-backend : table_handed 1 0 (1 ∷ 0 ∷ 0 ∷ 10000 ∷ []) ≡ refused no2 0
  pub wide : table_handed 1 0 (1 ∷ 1 ∷ 2 ∷ 1 ∷ []) ≡ refused no2 0
  pub star : table_handed 1 0 (1 ∷ 1 ∷ 0 ∷ 1 ∷ []) ≡ refused no9 0
  -- numbers left over: 1 at their turn, behind line 1 and the whole lines, and before the end
  pub ragged : table_handed 1 0 (1 ∷ 0 ∷ 0 ∷ 1 ∷ 1 ∷ []) ≡ refused no1 0
  pub alone : table_handed 1 0 (1 ∷ 0 ∷ 0 ∷ []) ≡ refused no1 0
  pub bits-first : table_handed 13 0 (1 ∷ 0 ∷ 0 ∷ 1 ∷ 1 ∷ []) ≡ refused no2 0
  pub line_first : table_handed 1 0 (65 ∷ 0 ∷ 0 ∷ 1 ∷ 1 ∷ []) ≡ refused no2 0
  pub order-first : table_handed 1 0 (2 ∷ 0 ∷ 0 ∷ 1 ∷ 1 ∷ 0 ∷ 0 ∷ 1 ∷ 1 ∷ []) ≡ refused no9 0
  pub before-star : table_handed 1 0 (1 ∷ 1 ∷ 0 ∷ 1 ∷ 1 ∷ 0 ∷ []) ≡ refused no1 0

pub all-handed : Handed
unfolding table_handed handed_text head_text lines_handed broken_text broken_from lines_from lines_text line_text check_sheet check_end check_lines is_line
    is_rule is_suffix in_limits placed in_order count_of own_rules closed total_limit text_limit unless then decimal width width_in suffix_text
    lowest
all-handed =
    record {
      accepted = refl;
      none = refl;
      bits = refl;
      amount = refl;
      no-service = refl;
      past-service = refl;
      no-backend = refl;
      past-backend = refl;
      wide = refl;
      star = refl;
      ragged = refl;
      alone = refl;
      bits-first = refl;
      line_first = refl;
      order-first = refl;
      before-star = refl;
    }

-- 11 before all else: a suffix of 65,536 bits, which is also longer than k
pub long-handed : table_handed 1 0 (1 ∷ 65536 ∷ 0 ∷ 1 ∷ []) ≡ refused no11 0
unfolding handed_width lines_from lines_width text_limit
long-handed = handed-long 1 0 (1 ∷ 65536 ∷ 0 ∷ 1 ∷ []) (omega (arith, length-handed 1 0 (1 ∷ 65536 ∷ 0 ∷ 1 ∷ [])))

-- 11 for both sheets: every text over the limit.
pub long-table : (text : List ℕ) → text_limit < length text → read_table text ≡ refused no11 0
unfolding read_table table_line first_line unless then
long-table text h = rw (lt-leb (length text) text_limit h)

pub long-sheet : (text : List ℕ) → text_limit < length text → read_sheet text ≡ refused no11 0
unfolding read_sheet read_sheet_at sheet_line first_line unless then
long-sheet text h = rw (lt-leb (length text) text_limit h)

-- 4 for percentage sheets: a 33rd weight, before its fields, and a 65th service, after its keyword and before its fields
pub record TooManies : Type 0 where
  pub weights : read_sheet (bytes "SHEET 1 0 1\nSERVICE x" ++ times 33 (bytes " 1:100") ++ 10 ∷ []) ≡ refused no4 2
  pub services : read_sheet (bytes "SHEET 1 0 1\n" ++ times 64 (bytes "SERVICE 1 1:100\n") ++ bytes "SERVICE\n") ≡ refused no4 66
  pub keyword : read_sheet (bytes "SHEET 1 0 1\n" ++ times 64 (bytes "SERVICE 1 1:100\n") ++ bytes "SERVIC\n") ≡ refused no1 66

pub too-manies : TooManies
unfolding bytes read_sheet read_sheet_at text_limit sheet_line first_line opening_lines opening_fields whole service_lines service_fields sum weight_fields same on_field
    unless then unit percentage percent_of split onto number is_numeral no_leading_zero all_digits is_digit value value_from on_value fraction
    at_most_all
too-manies = record { weights = refl; services = refl; keyword = refl }
