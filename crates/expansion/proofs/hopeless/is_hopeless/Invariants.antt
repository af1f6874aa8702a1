-- `hopeless::is_hopeless` meets its contract. The loop's invariant: `count` of the first b backends are beyond the tolerance.
use Prim.Native.Nat.{◌≤◌}
use mathlib.Core.Path.{◌≡◌}
use Rattle.expansion.specs.Inner.Hopeless.{beyond_to}
use Rattle.expansion.proofs.hopeless.is_hopeless.Given as goal

abbrev pub invariant-loop-b : goal.invariant-loop-b
invariant-loop-b l = (l.count ≤ l.b) × (l.count ≡ beyond_to l.service.k l.service.tolerance l.service.weights.now l.shares l.b)
