-- `tournament::refill` meets its contract. The loop's invariant: node i was stored last, and only its parent may be wrong.
-- Assumes nothing.
use native.Mathlib.Omega.{arith}
use Rattle.packing.proofs.Winner.{refill-first, refill-more, refill-last, refilled}
use Rattle.packing.proofs.tournament.refill.Goals as goal

pub loop-i-init : goal.loop-i-init
loop-i-init c = refill-first c.requires.1 (omega arith) c.args.s c.args.key c.requires.0

pub loop-i-preserved : goal.loop-i-preserved
loop-i-preserved c =
    let l = c.loop-i in
    rw c.max.ensures (refill-more _ l.i l.tree l.invariant (omega arith))

pub returns : goal.returns
returns c =
    let l = c.loop-i in
    record {
      tournament = refilled _ l.i l.tree l.invariant (omega arith);
      replaced = refill-last c.requires.1 (omega arith) c.args.s c.args.key c.requires.0 l.i l.tree l.invariant (omega arith);
    }
