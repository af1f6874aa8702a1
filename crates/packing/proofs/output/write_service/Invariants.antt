-- `output::write_service` meets its contract. The loop's invariant: once the lines that are left are written too, the table is what it is to be.
-- Assumes nothing.
use Prim.Native.Nat.{◌+◌, ◌-◌, ◌*◌}
use mathlib.Core.Path.{◌≡◌}
use lib.Seq.{sets}
use Rattle.packing.specs.Inner.Stored.{stored_cells}
use Rattle.packing.proofs.output.write_service.Given as goal

abbrev pub invariant-loop-line : goal.invariant-loop-line
invariant-loop-line l =
    sets l.initial.table l.at (stored_cells l.priced.lens.now l.priced.values.now l.priced.backends.now l.s l.lines)
    ≡ sets l.table (l.at + 4 * l.line) (stored_cells l.priced.lens.now l.priced.values.now l.priced.backends.now l.s (l.lines - l.line))
