-- `grants::Priced::total_cost` meets its contract. The loop's invariant: the sum is that of the services passed, and at most 2^54 for each.
-- Assumes nothing.
use Prim.Native.Nat.{◌*◌, ◌^◌, ◌≤◌}
use mathlib.Core.Path.{◌≡◌}
use lib.ListN.{get_or}
use Rattle.numerals.specs.Sums.{sum_to}
use Rattle.packing.specs.Inner.Stored.{stored_cost}
use Rattle.packing.proofs.grants.Priced.total_cost.Given as goal

abbrev pub invariant-loop-s : goal.invariant-loop-s
invariant-loop-s l =
    (l.sum ≡ sum_to l.s (λ i. stored_cost l.self.volumes.now l.self.stairs.now l.self.counts.now i (get_or l.grants i 0)))
    × (l.sum ≤ l.s * 2 ^ 54)
