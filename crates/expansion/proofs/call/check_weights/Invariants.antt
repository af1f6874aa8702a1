-- `call::check_weights` meets its contract. The loop's invariant: the first b backends are in their limits, `before` is the last of their ids, and
-- `sum` is the sum of their weights.
use Prim.Native.Nat.{◌*◌, ◌≤◌}
use mathlib.Core.Bool.{true}
use mathlib.Core.Path.{◌≡◌}
use lib.ListN.{get_or}
use Rattle.numerals.specs.Sums.{sum_to, all_to}
use Rattle.expansion.specs.Answer.{id_before, is_backend}
use Rattle.numerals.specs.Limits.{unit}
use Rattle.expansion.proofs.call.check_weights.Given as goal

abbrev pub invariant-loop-b : goal.invariant-loop-b
invariant-loop-b l =
    (l.sum ≤ unit * l.b)
    × (l.sum ≡ sum_to l.b (λ j. get_or l.weights j 0))
    × (l.before ≡ id_before l.ids l.b)
    × (all_to l.b (is_backend l.ids l.weights) ≡ true)
