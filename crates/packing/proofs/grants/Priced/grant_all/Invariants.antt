-- `grants::Priced::grant_all` meets its contract. The loop's invariant: the grants are those of some turn of the run, `rules` is their sum, and the
-- tournament has the services with their savings.
-- Assumes nothing.
use Prim.Native.Nat.{◌≤◌}
use mathlib.Core.Path.{◌≡◌}
use lib.ListN.{length}
use Rattle.numerals.specs.Limits.{most_services}
use Rattle.packing.specs.Inner.Stored.{held}
use Rattle.packing.proofs.Granting.{Turn}
use Rattle.packing.proofs.grants.Priced.grant_all.Given as goal

abbrev pub invariant-loop-rules : goal.invariant-loop-rules
invariant-loop-rules l =
    (l.rules ≤ l.capacity)
    × (length l.grants ≡ most_services)
    × Turn (held l.initial.grants) l.capacity l.self.volumes.now l.self.stairs.now l.self.counts.now l.grants l.tree.nodes l.rules
