-- `output::write_figures` meets its contract. The loop's invariant: the figures of the services passed are written.
-- Assumes nothing.
use mathlib.Core.Path.{◌≡◌}
use lib.Seq.{sets}
use Rattle.packing.specs.Inner.Stored.{stored_figures}
use Rattle.packing.proofs.output.write_figures.Given as goal

abbrev pub invariant-loop-s : goal.invariant-loop-s
invariant-loop-s l =
    (l.figures ≡ sets l.initial.figures 0 (stored_figures l.grants l.priced.counts.now l.priced.ends.now l.s))
