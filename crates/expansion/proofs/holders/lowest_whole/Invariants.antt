-- `holders::lowest_whole` meets its contract. The outer loop's invariant: no node passed is the giver's. The inner one's: the giver holds the node's
-- suffixes from `left` on, and a multiple of four of them is left.
use Prim.Native.Nat.{ℕ, ◌+◌, ◌%◌, ◌≤◌, ◌<◌}
use mathlib.Core.Bool.{false}
use mathlib.Core.Path.{◌≡◌}
use lib.ListN.{get_or}
use Rattle.expansion.specs.Inner.Holders.{held_by}
use Rattle.expansion.proofs.holders.lowest_whole.Given as goal

abbrev pub invariant-nodes : goal.invariant-nodes
invariant-nodes l = (l.lowest ≡ l.nodes) × ((j : ℕ) → j < l.node → l.from ≤ j → held_by l.holder l.size l.giver j ≡ false)

abbrev pub invariant-loop-left : goal.invariant-loop-left
invariant-loop-left l =
    (l.left ≤ l.size) × (l.left % 4 ≡ 0) × ((j : ℕ) → l.left ≤ j → j < l.size → get_or l.holder (l.at + j) 0 ≡ l.giver)

abbrev pub decreases-loop-left : goal.decreases-loop-left
decreases-loop-left l = l.left
