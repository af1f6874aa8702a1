-- `updating::put_lines` meets its contract: once the lines left are written too, all are.
use Prim.Native.Nat.{ℕ, ◌+◌, ◌*◌, ◌≤◌}
use mathlib.Core.Path.{◌≡◌}
use mathlib.Core.List.{List}
use lib.ListN.{length}
use Rattle.sheets.specs.Inner.Writing.{Wrote}
use Rattle.commands.specs.Inner.Update.{line_room}
use Rattle.commands.proofs.UpdateLines.{text_from}
use Rattle.commands.proofs.updating.put_lines.Given as goal

-- at rule i: the buffer is as long as it was, the lines so far took no more than their room, and once those left are written too, all are
pub record Going (service : ℕ) (rules : List ℕ) (n : ℕ) (out₀ : List ℕ) (at : ℕ) (out : List ℕ) (end i : ℕ) : Type 0 where
  pub same : length out ≡ length out₀
  pub room : end ≤ at + line_room * i
  pub rest :
      (after : List ℕ) (next : ℕ) → Wrote out after end next (text_from service rules n i)
      → Wrote out₀ after at next (text_from service rules n 0)

abbrev pub invariant-loop-i : goal.invariant-loop-i
invariant-loop-i l = Going l.service l.rules l.n l.initial.out l.at l.out l.end l.i
