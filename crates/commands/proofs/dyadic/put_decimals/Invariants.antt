-- `dyadic::put_decimals` meets its contract. The invariant: whoever writes the digits that are left has written all of them.
use Prim.Native.Nat.{ℕ, ◌+◌, ◌-◌, ◌^◌, ◌<◌, ◌≤◌}
use mathlib.Core.Path.{◌≡◌}
use mathlib.Core.List.{List}
use lib.ListN.{length}
use Rattle.numerals.specs.Limits.{most_bits}
use Rattle.sheets.specs.Inner.Writing.{Wrote}
use Rattle.commands.specs.Dyadic.{decimals_of}
use Rattle.commands.proofs.dyadic.put_decimals.Given as goal

abbrev pub invariant-loop-left : goal.invariant-loop-left
invariant-loop-left l =
    (l.at ≤ l.end)
    × (l.end ≤ l.at + most_bits)
    × (l.all ≡ 2 ^ (l.at + most_bits - l.end))
    × (l.left < l.all)
    × (length l.out ≡ length l.initial.out)
    × ((last : List ℕ) (next : ℕ) → Wrote l.out last l.end next (decimals_of (l.at + most_bits - l.end) l.left) → Wrote l.initial.out last l.at next
    (decimals_of most_bits l.rest))

abbrev pub decreases-loop-left : goal.decreases-loop-left
decreases-loop-left l = l.at + most_bits - l.end
