-- `tournament::refill` meets its contract. The loop's invariant: node i was stored last, and only its parent may be wrong.
-- Assumes nothing.
use Rattle.packing.proofs.Winner.{Refilling}
use Rattle.packing.proofs.tournament.refill.Given as goal

abbrev pub invariant-loop-i : goal.invariant-loop-i
invariant-loop-i l = Refilling l.initial.tree l.i l.tree

abbrev pub decreases-loop-i : goal.decreases-loop-i
decreases-loop-i l = l.i
