-- `TableLines::count_of` meets its contract. The invariant: those counted, and those of the lines that are left, are all.
use Prim.Native.Nat.{◌+◌, ◌≤◌}
use mathlib.Core.Path.{◌≡◌}
use lib.ListN.{length}
use Rattle.sheets.proofs.OwnNumbers.{own_from}
use Rattle.sheets.proofs.rule_lines.TableLines.count_of.Given as goal

abbrev pub invariant-loop-i : goal.invariant-loop-i
invariant-loop-i l =
    (l.count ≤ l.i) × (l.count + length (own_from l.self.cells.now l.self.n l.service l.i) ≡ length (own_from l.self.cells.now l.self.n l.service 0))
