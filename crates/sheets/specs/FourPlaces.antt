-- Sheets of four-place percentages (document 02, Req 07): they remain valid and give the same rules, and their printed totals are a hundred times larger. The
-- definitions of a sheet and its table are taken at the decimals and the unit of document 01 and at those of Req 07.
use Rattle.std.specs.Prelude.{ℕ, ◌*◌, Bool, true, List, [], ◌∷◌, ◌≡◌, length, drop, Result}
use Rattle.numerals.specs.Limits.{decimals, unit}
use Rattle.numerals.specs.Percentage.{few_decimals}
use Rattle.numerals.specs.Pick.{both}
use Rattle.numerals.specs.Text.{split}
use Rattle.sheets.specs.Reading.{Reading, got, then, field}
use Rattle.sheets.specs.PercentageSheet.{read_sheet_at}
use Rattle.sheets.specs.RuleSheet.{Table, table_text}
use Rattle.sheets.specs.Calls.{services_at, table_with, print_read, afterwards, is_value, values_of}
use Rattle.sheets.specs.declared.answer.Refused.{Refused}

-- document 01: a percentage has up to four decimals, and weights sum to 1,000,000
abbrev pub former_decimals : ℕ
former_decimals = 4

abbrev pub former_unit : ℕ
former_unit = 1000000

-- the table of a sheet's text, where percentages have up to d decimals and weights sum to `all`; or its refusal
unfoldable pub table_at : ℕ → ℕ → List ℕ → Reading Table
table_at d all text = then (read_sheet_at d all text) (λ S. got (table_with (services_at all S) S))

-- that at document 01's decimals and unit
abbrev pub former_table : List ℕ → Reading Table
former_table text = table_at former_decimals former_unit text

-- the same lines, and a hundred times the total
abbrev pub hundredfold : Table → Table
hundredfold t = record { k = t.k; total = 100 * t.total; lines = t.lines }

-- the weights of a line have at most d decimals: of each field what stands behind its colon
unfoldable pub few_in_fields : ℕ → List (List ℕ) → Bool
few_in_fields d [] = true
few_in_fields d (f ∷ fs) = both (few_decimals d (field (split 58 f) 1)) (few_in_fields d fs)

-- so have those of all lines of services
unfoldable pub few_in_services : ℕ → List (List ℕ) → Bool
few_in_services d [] = true
few_in_services d (l ∷ ls) = both (few_in_fields d (drop 2 (split 32 l))) (few_in_services d ls)

-- no percentage of a sheet, given by its lines, has more than d decimals: neither the tolerance, which is field 2 of line 1, nor a weight
unfoldable pub few_in_lines : ℕ → List (List ℕ) → Bool
few_in_lines d [] = true
few_in_lines d (l ∷ ls) = both (few_decimals d (field (split 32 l) 2)) (few_in_services d ls)

unfoldable pub few_in_sheet : ℕ → List ℕ → Bool
few_in_sheet d text = few_in_lines d (split 10 text)

-- what is promised of a text and of what the call that prints answers and leaves in the lent buffer
pub record FourPlaces (text : List ℕ) (r : Result ℕ Refused) (out out' : List ℕ) : Type 0 where
  -- what is accepted at document 01's decimals and unit remains valid, with the same lines and a hundred times the total
  pub valid : (t : Table) → former_table text ≡ got t → table_at decimals unit text ≡ got (hundredfold t)
  -- so it is for every sheet in which no percentage has more than four decimals; and one that is refused there has the same refusal, number and line
  pub alike : few_in_sheet former_decimals text ≡ true → table_at decimals unit text ≡ then (former_table text) (λ t. got (hundredfold t))
  -- and what is printed is this table
  pub answer : r ≡ print_read (table_at decimals unit text) table_text (length out)
  pub buffer : out' ≡ afterwards (is_value r) out (values_of (table_at decimals unit text) table_text)
