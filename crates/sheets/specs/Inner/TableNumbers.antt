-- A table in numbers, four of each line: its lines, and that they are rule lines.
use Rattle.std.specs.Prelude.{ℕ, ◌+◌, ◌*◌, ◌≤◌, ◌<◌, ◌≡◌, true, List, length, get_or}
use Rattle.std.proofs.Math.Seq.{slice}
use Rattle.numerals.specs.Limits.{most_bits}
use Rattle.packing.specs.Count.{Line}
use Rattle.sheets.specs.RuleSheet.{Table, is_line}
use Rattle.sheets.specs.Calls.{lines_from}

-- a line by its numbers
abbrev pub line : ℕ → ℕ → ℕ → ℕ → Line
line s l v b = record { service = s; rule = record { len = l; value = v; backend = b } }

-- line i from 0
abbrev pub line_at : List ℕ → ℕ → Line
line_at table i = line (get_or table (4 * i) 0) (get_or table (4 * i + 1) 0) (get_or table (4 * i + 2) 0) (get_or table (4 * i + 3) 0)

-- the lines that the first numbers are, four of each
abbrev pub lines_in : List ℕ → ℕ → List Line
lines_in cs n = lines_from (slice 0 (4 * n) cs)

abbrev pub table_in : ℕ → ℕ → List ℕ → ℕ → Table
table_in k total cs n = record { k = k; total = total; lines = lines_in cs n }

-- there are n lines, and each has the form and the limits of a rule line
pub record RuleLines (table : List ℕ) (n : ℕ) : Type 0 where
  pub room : 4 * n ≤ length table
  pub each : (i : ℕ) → i < n → is_line most_bits (line_at table i) ≡ true
