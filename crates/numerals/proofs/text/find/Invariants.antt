-- `text::find` meets its contract. The invariant: what is left is searched for from i on.
use mathlib.Core.Path.{◌≡◌}
use Prim.Native.Nat.{◌+◌}
use lib.Seq.{slice}
use Rattle.numerals.specs.Text.{index_of}
use Rattle.numerals.proofs.text.find.Given as goal

abbrev pub invariant-loop-i : goal.invariant-loop-i
invariant-loop-i l = l.i + index_of l.c (slice l.i l.to l.s) ≡ l.from + index_of l.c (slice l.from l.to l.s)
