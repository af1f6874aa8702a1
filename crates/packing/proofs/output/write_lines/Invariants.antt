-- `output::write_lines` meets its contract. The loop's invariant: the cells of the services passed are written.
-- Assumes nothing.
use Prim.Native.Nat.{◌*◌}
use mathlib.Core.Path.{◌≡◌}
use lib.Seq.{sets}
use Rattle.numerals.specs.Sums.{sum_to}
use Rattle.packing.specs.Inner.Stored.{stored_lines, stored_table}
use Rattle.packing.proofs.output.write_lines.Given as goal

abbrev pub invariant-loop-s : goal.invariant-loop-s
invariant-loop-s l =
    let p = l.priced in
    (l.at ≡ 4 * sum_to l.s (stored_lines l.grants p.counts.now))
    × (l.table ≡ sets l.initial.table 0 (stored_table (stored_lines l.grants p.counts.now) p.lens.now p.values.now p.backends.now l.s))
