-- `churning::count_unlike` meets its contract. The invariant: of the places below p, those that don't differ are counted.
use Prim.Native.Nat.{ℕ, ◌+◌, ◌^◌, ◌≤◌}
use mathlib.Core.Path.{◌≡◌}
use mathlib.Core.Bool.{Bool, not}
use mathlib.Core.List.{List}
use lib.Dec.{eqb}
use lib.ListN.{get_or}
use Rattle.numerals.specs.Sums.{count_to}
use Rattle.expansion.proofs.churning.count_unlike.Given as goal

abbrev pub differs : List ℕ → List ℕ → ℕ → Bool
differs before after p = not (eqb (get_or before p 0) (get_or after p 0))

abbrev pub invariant-loop-p : goal.invariant-loop-p
invariant-loop-p l = (l.p ≤ 2 ^ l.k) × (l.same + count_to l.p (differs l.before l.after) ≡ l.p)
