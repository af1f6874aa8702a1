-- `text::count_fields` meets its contract. The invariant: the fields counted and those from i on, the field that i stands in being among both.
use mathlib.Core.Path.{◌≡◌}
use Prim.Native.Nat.{suc, ◌+◌, ◌≤◌}
use lib.ListN.{length}
use lib.Seq.{slice}
use Rattle.numerals.specs.Text.{split}
use Rattle.numerals.proofs.text.count_fields.Given as goal

abbrev pub invariant-loop-i : goal.invariant-loop-i
invariant-loop-i l =
    (l.n ≤ suc l.i) × (l.n + length (split l.c (slice l.i l.to l.s)) ≡ suc (length (split l.c (slice l.from l.to l.s))))
