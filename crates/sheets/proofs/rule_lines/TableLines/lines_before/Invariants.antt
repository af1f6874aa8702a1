-- `TableLines::lines_before` meets its contract. The invariant: the service's rules are those of the lines from i on.
use Prim.Native.Nat.{◌-◌, ◌*◌}
use mathlib.Core.Path.{◌≡◌}
use lib.ListN.{drop}
use Rattle.packing.specs.Count.{own_rules}
use Rattle.sheets.specs.Inner.TableNumbers.{lines_in}
use Rattle.sheets.proofs.rule_lines.TableLines.lines_before.Given as goal

abbrev pub invariant-loop-i : goal.invariant-loop-i
invariant-loop-i l =
    let t = l.self.cells.now in
    own_rules l.service (lines_in (drop (4 * l.i) t) (l.self.n - l.i)) ≡ own_rules l.service (lines_in t l.self.n)
