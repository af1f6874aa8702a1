-- `Change::is_crowded` meets its contract. The invariant: the places from the index on are crowded where all are.
use mathlib.Core.Path.{◌≡◌}
use lib.ListN.{take, drop}
use Rattle.stages.specs.Inner.Changes.{crowded_in}
use Rattle.stages.proofs.change.Change.is_crowded.Given as goal

abbrev pub invariant-loop-p : goal.invariant-loop-p
invariant-loop-p l =
    crowded_in l.self l.capacity (take l.n l.row) ≡ crowded_in l.self l.capacity (drop l.p-index l.p-items)
