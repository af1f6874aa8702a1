-- `printing::put_table` meets its contract: once the lines left are written too, the whole text is.
use Prim.Native.Nat.{ℕ, ◌+◌, ◌*◌, ◌≤◌}
use mathlib.Core.Path.{◌≡◌}
use mathlib.Core.List.{List}
use lib.ListN.{length}
use lib.Seq.{slice}
use Rattle.sheets.specs.RuleSheet.{lines_text}
use Rattle.sheets.specs.Calls.{lines_from}
use Rattle.sheets.specs.Inner.Writing.{Wrote}
use Rattle.sheets.proofs.TableTexts.{lines_width}
use Rattle.sheets.proofs.printing.put_table.Given as goal

-- at line i: the buffer is as long as it was, the lines left fit, and once they are written too, all are
pub record Going (table : List ℕ) (n : ℕ) (out₀ : List ℕ) (at₀ : ℕ) (out : List ℕ) (at i : ℕ) : Type 0 where
  pub same : length out ≡ length out₀
  pub room : at + lines_width (lines_from (slice (4 * i) (4 * n) table)) ≤ length out
  pub rest :
      (after : List ℕ) (end : ℕ) → Wrote out after at end (lines_text (lines_from (slice (4 * i) (4 * n) table)))
      → Wrote out₀ after at₀ end (lines_text (lines_from (slice 0 (4 * n) table)))

abbrev pub invariant-loop-i : goal.invariant-loop-i
invariant-loop-i l = Going l.table.lines.cells.now l.table.lines.n l.initial.out l.initial.at l.out l.at l.i
