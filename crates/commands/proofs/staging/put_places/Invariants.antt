-- `staging::put_places` meets its contract: once the lines left are written too, all are.
use Prim.Native.Nat.{ℕ, ◌*◌, ◌≤◌}
use mathlib.Core.Path.{◌≡◌}
use mathlib.Core.List.{List}
use lib.ListN.{length}
use Rattle.sheets.specs.Inner.Writing.{Wrote}
use Rattle.commands.specs.Inner.Stages.{place_room}
use Rattle.commands.proofs.StageRows.{lines_from}
use Rattle.commands.proofs.staging.put_places.Given as goal

-- at place i: the buffer is as long as it was, the lines so far took no more than their room, and once those left are written too, all are
pub record Going (places out₀ out : List ℕ) (end i : ℕ) : Type 0 where
  pub same : length out ≡ length out₀
  pub room : end ≤ place_room * i
  pub rest : (after : List ℕ) (next : ℕ) → Wrote out after end next (lines_from places i) → Wrote out₀ after 0 next (lines_from places 0)

abbrev pub invariant-loop-place : goal.invariant-loop-place
invariant-loop-place l = Going l.place-items l.initial.out l.out l.end l.place-index
