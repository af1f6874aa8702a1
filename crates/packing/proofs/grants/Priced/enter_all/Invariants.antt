-- `grants::Priced::enter_all` meets its contract. The loop's invariant: the services passed are entered.
-- Assumes nothing.
use Rattle.packing.specs.Inner.Stored.{savings}
use Rattle.packing.specs.Inner.Tournament.{Entered}
use Rattle.packing.proofs.grants.Priced.enter_all.Given as goal

abbrev pub invariant-loop-service : goal.invariant-loop-service
invariant-loop-service l = Entered (savings l.self.volumes.now l.self.stairs.now l.self.counts.now l.grants) l.service l.tree.nodes
