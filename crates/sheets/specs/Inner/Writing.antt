-- The writer of the rule sheet in its parts: what each writes, how many bytes that has, and what the check of a table in numbers answers.
use Rattle.std.specs.Prelude.{ℕ, ◌+◌, ◌<◌, min, ◌≡◌, List, [], ◌∷◌, length, Err, Ok, Result}
use Rattle.std.proofs.lemmas.List.Edits.{sets}
use Rattle.numerals.specs.Decimal.{width}
use Rattle.packing.specs.Count.{Line}
use Rattle.sheets.specs.Reading.{Reading, got, refused, then}
use Rattle.sheets.specs.RuleSheet.{Table, check_lines, check_end}
use Rattle.sheets.specs.Calls.{lines_from, broken_from}
use Rattle.sheets.specs.Inner.Order.{Behind}
use Rattle.sheets.specs.declared.order.Last.{Last}
use Rattle.numerals.specs.declared.refusal.Refusal.{Refusal}

-- bytes were written from a position on, and nothing else; then comes the position behind them
pub record Wrote (before after : List ℕ) (at next : ℕ) (bytes : List ℕ) : Type 0 where
  pub ends : next ≡ at + length bytes
  pub holds : after ≡ sets before at bytes

-- a text was written, and ends before position n
abbrev pub Before : Result ℕ Refusal → ℕ → Type 0
Before (Ok e) n = e < n
Before (Err why) n = ⊥

abbrev pub end_at : Result ℕ Refusal → ℕ
end_at (Ok e) = e
end_at (Err why) = 0

-- one byte more than a text may have, and a number of bytes counted up to that
abbrev pub over_long : ℕ
over_long = 65537

abbrev pub counted : ℕ → ℕ
counted n = min n over_long

-- how many bytes a rule line has
abbrev pub line_width : ℕ → ℕ → ℕ → ℕ
line_width service len backend = width service + width backend + len + 4

-- a check passes what is read, and answers its refusal
abbrev pub CheckedAs : {A : Type 0} → Result (Unit {0}) Refusal → Reading A → A → Type 0
CheckedAs (Ok tt) r a = r ≡ got a
CheckedAs (Err why) r a = r ≡ refused why 0

-- the lines behind these, the last of them first, each in its limits and in order; then a line of too few fields, where `broken` is one; and the last a `*`
unfoldable pub checked_from : ℕ → ℕ → List Line → List Line → Reading (Unit {0})
checked_from k broken before ls = then (check_lines k before ls) (check_end broken tt)

-- what the check of one line answers, and leaves
abbrev pub CheckedLine : ℕ → List Line → Line → Result Last Refusal → List ℕ → Type 0
CheckedLine k before l (Ok last) tally =
    ((broken : ℕ) (ls : List Line) → checked_from k broken before (l ∷ ls) ≡ checked_from k broken (l ∷ before) ls) × Behind (l ∷ before) last tally
CheckedLine k before l (Err why) tally = (broken : ℕ) (ls : List Line) → checked_from k broken before (l ∷ ls) ≡ refused why 0

-- the check of line l, behind any lines
abbrev pub Checking : ℕ → Last → Line → List ℕ → Result Last Refusal → List ℕ → Type 0
Checking k last l tally r tally' = (before : List Line) → Behind before last tally → CheckedLine k before l r tally'

-- all lines that the numbers are
abbrev pub checked_cells : ℕ → List ℕ → Reading (Unit {0})
checked_cells k cs = checked_from k (length (broken_from cs)) [] (lines_from cs)

-- the table that they are
abbrev pub handed : ℕ → ℕ → List ℕ → Table
handed k total cs = record { k = k; total = total; lines = lines_from cs }
