-- `printing::check_lines` meets its contract. The invariant: the lines so far passed, and the rest decides.
use Rattle.sheets.proofs.Checking.{Checked}
use Rattle.sheets.proofs.printing.check_lines.Given as goal

abbrev pub invariant-loop-i : goal.invariant-loop-i
invariant-loop-i l = Checked l.table.k l.table.cells.now l.i l.last l.tally
