-- `digits::read_digits` meets its contract. The loop's invariant: the digits that are left, read after v, are read as the whole is.
-- Assumes nothing.
use Prim.Native.Nat.{◌≤◌}
use mathlib.Core.Path.{◌≡◌}
use lib.Seq.{slice}
use Rattle.numerals.specs.Inner.Digits.{read_digits}
use Rattle.numerals.proofs.Base.{read_from}
use Rattle.numerals.proofs.digits.read_digits.Given as goal

abbrev pub invariant-loop-i : goal.invariant-loop-i
invariant-loop-i l =
    (l.v ≤ l.most) × (read_digits l.base l.most (slice l.from l.to l.s) ≡ read_from l.base l.most l.v (slice l.i l.to l.s))
