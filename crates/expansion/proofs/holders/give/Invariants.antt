-- `holders::give` meets its contract. The loop's invariant: the places passed went to the receiver.
use Prim.Native.Nat.{ℕ, ◌<◌}
use mathlib.Core.Path.{◌≡◌}
use lib.ListN.{get_or}
use Rattle.expansion.proofs.holders.give.Given as goal

abbrev pub invariant-loop-place : goal.invariant-loop-place
invariant-loop-place l = (k : ℕ) → k < l.place-index → get_or l.place-items k 0 ≡ l.receiver
