-- `grants::Priced::enter_all` meets its contract. The loop's invariant: the services passed are entered.
-- Assumes nothing.
use Rattle.packing.proofs.Winner.{entered-none}
use Rattle.packing.proofs.grants.Priced.enter_all.Goals as goal

pub loop-service-init : goal.loop-service-init
loop-service-init c = rw c.new-tree.ensures (entered-none _)
