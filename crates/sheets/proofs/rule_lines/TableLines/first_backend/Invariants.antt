-- `TableLines::first_backend` meets its contract. The invariant: the first match of all lines is that of the lines from i on.
use Prim.Native.Nat.{ℕ, ◌*◌}
use mathlib.Core.Path.{◌≡◌}
use mathlib.Core.List.{List}
use lib.Seq.{slice}
use Rattle.expansion.specs.FirstMatch.{first_match}
use Rattle.packing.specs.Count.{own_rules}
use Rattle.sheets.specs.Calls.{lines_from}
use Rattle.sheets.specs.Inner.TableNumbers.{lines_in}
use Rattle.sheets.proofs.rule_lines.TableLines.first_backend.Given as goal

-- the first match from line i on
abbrev pub from : List ℕ → ℕ → ℕ → ℕ → ℕ → ℕ
from table n service address i = first_match (own_rules service (lines_from (slice (4 * i) (4 * n) table))) address

abbrev pub invariant-loop-i : goal.invariant-loop-i
invariant-loop-i l =
    let t = l.self.cells.now in
    first_match (own_rules l.service (lines_in t l.self.n)) l.address ≡ from t l.self.n l.service l.address l.i
