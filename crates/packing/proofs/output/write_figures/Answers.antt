-- `output::write_figures` meets its contract. The loop's invariant: the figures of the services passed are written.
-- Assumes nothing.
use mathlib.Core.Path.{refl}
use Rattle.packing.specs.Inner.Stored.{stored_figures}
use Rattle.packing.proofs.Stores.{figures-more}
use Rattle.packing.proofs.output.write_figures.Goals as goal

pub loop-s-init : goal.loop-s-init
unfolding stored_figures
loop-s-init c = refl

pub loop-s-preserved : goal.loop-s-preserved
loop-s-preserved c =
    let a = c.args in
    let l = c.loop-s in
    let w = c.write_three in
    figures-more a.figures.now l.figures w.new.out a.grants.now a.priced.now.counts.now a.priced.now.ends.now l.s l.invariant w.ensures
