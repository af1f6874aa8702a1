-- `printing::text_width` meets its contract: the width so far and that of the numbers left make the width of the whole text, as far as it is counted.
use Prim.Native.Nat.{◌+◌, ◌*◌, ◌≤◌}
use mathlib.Core.Path.{◌≡◌}
use lib.ListN.{length}
use lib.Seq.{slice}
use Rattle.sheets.specs.Calls.{handed_text}
use Rattle.sheets.specs.Inner.Writing.{over_long, counted}
use Rattle.sheets.proofs.NumbersText.{handed_width}
use Rattle.sheets.proofs.printing.text_width.Given as goal

abbrev pub invariant-loop-i : goal.invariant-loop-i
invariant-loop-i l =
    (l.width ≤ over_long) × (counted (l.width + handed_width (slice (4 * l.i) (length l.cells) l.cells)) ≡ counted
    (length (handed_text l.k l.total l.cells)))
