-- `address::read_quad` meets its contract. The invariant: v is what the bytes before `at` are, and the others stand from there on.
use Prim.Native.Nat.{suc, ◌-◌}
use lib.ListN.{length}
use Rattle.commands.proofs.Quads.{ReadTo}
use Rattle.commands.proofs.address.read_quad.Given as goal

abbrev pub invariant-loop-at : goal.invariant-loop-at
invariant-loop-at l = ReadTo l.s l.v l.at

abbrev pub decreases-loop-at : goal.decreases-loop-at
decreases-loop-at l = suc (length l.s) - l.at
