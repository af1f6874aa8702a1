-- `run::heaviest` meets its contract. The loop's invariant: `best` is the place of the greatest of the first b weights.
use Prim.Native.Nat.{◌<◌}
use mathlib.Core.Path.{◌≡◌}
use lib.ListN.{get_or}
use Rattle.numerals.specs.Sums.{argmax}
use Rattle.expansion.proofs.run.heaviest.Given as goal

abbrev pub invariant-loop-b : goal.invariant-loop-b
invariant-loop-b l =
    (l.best < l.b) × (l.best ≡ argmax (λ j. get_or l.service.weights.now j 0) l.b)
