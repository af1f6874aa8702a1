-- `numbers::decimal_width` meets its contract. The loop's invariant: the digits counted and those of what is left make one more than the width.
-- Assumes nothing.
use Prim.Native.Nat.{◌+◌, ◌≤◌}
use mathlib.Core.Path.{◌≡◌}
use Rattle.numerals.specs.Decimal.{width}
use Rattle.numerals.proofs.numbers.decimal_width.Given as goal

abbrev pub invariant-loop-rest : goal.invariant-loop-rest
invariant-loop-rest l = (l.rest ≤ l.n) × (l.w + width l.rest ≡ width l.n + 1)

abbrev pub decreases-loop-rest : goal.decreases-loop-rest
decreases-loop-rest l = l.rest
