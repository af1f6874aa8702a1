-- `tournament::Tree::new` meets its contract.
-- Assumes nothing.
use Rattle.packing.proofs.Winner.{tournament-none}
use Rattle.packing.proofs.tournament.Tree.new.Goals as goal

pub invariant_of-result : goal.invariant_of-result
invariant_of-result c = record { tournament = tournament-none }
