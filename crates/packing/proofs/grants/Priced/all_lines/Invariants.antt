-- `grants::Priced::all_lines` meets its contract. The loop's invariant: the number is that of the services passed, and at most `most_rules` for each.
-- Assumes nothing.
use Prim.Native.Nat.{◌*◌, ◌≤◌}
use mathlib.Core.Path.{◌≡◌}
use Rattle.numerals.specs.Limits.{most_rules}
use Rattle.numerals.specs.Sums.{sum_to}
use Rattle.packing.specs.Inner.Stored.{stored_lines}
use Rattle.packing.proofs.grants.Priced.all_lines.Given as goal

abbrev pub invariant-loop-service : goal.invariant-loop-service
invariant-loop-service l =
    (l.lines ≡ sum_to l.service (stored_lines l.grants l.self.counts.now)) × (l.lines ≤ most_rules * l.service)
