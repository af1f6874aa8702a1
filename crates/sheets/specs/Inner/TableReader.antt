-- What the reader of the rule sheet answers and keeps: the table in numbers, four of each line, and the lines so far.
use Rattle.std.specs.Prelude.{ℕ, ◌+◌, ◌*◌, ◌≡◌, true, List, [], ◌∷◌, reverse, ltb, length, take, Err, Ok, Result}
use Rattle.expansion.specs.FirstMatch.{first_match}
use Rattle.packing.specs.Count.{Line as RuleOf, own_rules}
use Rattle.packing.specs.Answer.{cells}
use Rattle.sheets.specs.Reading.{Reading, got, refused, then}
use Rattle.sheets.specs.RuleSheet.{Table, count_of, placed, rule_fields, rule_lines, whole_table, is_line, check_lines}
use Rattle.sheets.specs.Calls.{refused_at}
use Rattle.sheets.specs.Inner.TableNumbers.{line, table_in}
use Rattle.sheets.specs.Inner.Order.{Behind}
use Rattle.sheets.specs.declared.order.Last.{Last}
use Rattle.sheets.specs.declared.rule_sheet.TableHead.{TableHead}
use Rattle.sheets.specs.declared.rule_lines.RuleLine.{RuleLine}
use Rattle.numerals.specs.declared.refusal.Refusal.{Refusal}
use Rattle.sheets.specs.declared.answer.Refused.{Refused}

-- what reading a rule sheet answers
unfoldable pub sheet_answer : Reading Table → Result TableHead Refused
sheet_answer (got t) = Ok (record { k = t.k; n = length t.lines; total = t.total })
sheet_answer (refused why line) = Err (refused_at why line)

-- and leaves from the start of a buffer on
abbrev pub Filled : Reading Table → List ℕ → Type 0
Filled (got t) table = take (4 * length t.lines) table ≡ cells t.lines
Filled (refused why line) table = Unit {0}

-- what line 1 and all lines, the last first, come to
abbrev pub whole_of : TableHead → List RuleOf → Reading Table
whole_of h all = whole_table h.k h.n h.total all

-- the table of these lines, the last first, and those from a position on
unfoldable pub table_from : TableHead → List RuleOf → List (List ℕ) → Reading Table
table_from h before ms = then (rule_lines h.k before ms) (whole_of h)

-- a rule line, behind any others
abbrev pub line_of : RuleLine → RuleOf
line_of l = line l.service l.len l.value l.backend

abbrev pub LineAs : Result RuleLine Refusal → ℕ → List (List ℕ) → Type 0
LineAs (Ok l) k fs =
    (is_line k (line_of l) ≡ true) × ((before : List RuleOf) (at : ℕ) → rule_fields k before at fs ≡ placed before (line_of l) at (got (line_of l)))
LineAs (Err why) k fs = (before : List RuleOf) (at : ℕ) → rule_fields k before at fs ≡ refused why at

-- the lines so far, the last first: they passed, and are kept
pub record Passed (k : ℕ) (before : List RuleOf) (last : Last) (tally table : List ℕ) : Type 0 where
  pub behind : Behind before last tally
  pub checked : check_lines k [] (reverse before) ≡ got before
  pub stored : take (4 * length before) table ≡ cells (reverse before)

-- one line more
abbrev pub TakenAs : ℕ → List RuleOf → List (List ℕ) → Result Last Refusal → List ℕ → List ℕ → Type 0
TakenAs k before fs (Ok last) tally table =
    (l : RuleOf) × ((rule_fields k before (length before + 2) fs ≡ got l) × Passed k (l ∷ before) last tally table)
TakenAs k before fs (Err why) tally table = rule_fields k before (length before + 2) fs ≡ refused why (length before + 2)

-- the line of these fields, behind any lines that passed
abbrev pub Taking : ℕ → Last → List (List ℕ) → List ℕ → List ℕ → Result Last Refusal → List ℕ → List ℕ → Type 0
Taking k last fs tally table r tally' table' = (before : List RuleOf) → Passed k before last tally table → TakenAs k before fs r tally' table'

-- the table that was read into memory, by what line 1 says
abbrev pub table_of : TableHead → List ℕ → Table
table_of h table = table_in h.k h.total table h.n

-- service n has a first match for suffix 0 where it has lines
abbrev pub Found : List RuleOf → ℕ → Type 0
Found ls n = ltb 0 (count_of n ls) ≡ ltb 0 (first_match (own_rules n ls) 0)
