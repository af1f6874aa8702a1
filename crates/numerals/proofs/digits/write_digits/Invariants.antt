-- `digits::write_digits` meets its contract. The loop's invariant: once the digits of what is left are written too, the buffer is what it is to be.
-- Assumes nothing.
use Prim.Native.Nat.{◌-◌, ◌≤◌}
use mathlib.Core.Path.{◌≡◌}
use lib.Seq.{sets}
use Rattle.numerals.specs.Digits.{lowest}
use Rattle.numerals.proofs.digits.write_digits.Given as goal

abbrev pub invariant-loop-i : goal.invariant-loop-i
invariant-loop-i l =
    (l.at ≤ l.i) × (sets l.initial.out l.at (lowest l.base l.len l.n) ≡ sets l.out l.at (lowest l.base (l.i - l.at) l.rest))
