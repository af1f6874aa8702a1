-- `ledger::opened`: the entries passed are those of the weights and the shares.
use Prim.Native.Nat.{ℕ, ◌<◌}
use mathlib.Core.Path.{◌≡◌}
use lib.ListN.{length, get_or}
use Rattle.numerals.specs.Limits.{most_known, unit}
use Rattle.expansion.specs.KeptShares.{entry_at, entry_of}
use Rattle.expansion.proofs.ledger.opened.Given as goal

abbrev pub invariant-loop-b : goal.invariant-loop-b
invariant-loop-b l =
    (length l.ledger.at ≡ most_known)
    × ((i : ℕ) → i < l.b → entry_at l.ledger i ≡ entry_of unit l.service.k (get_or l.service.weights.now i 0) (get_or l.shares i 0))
