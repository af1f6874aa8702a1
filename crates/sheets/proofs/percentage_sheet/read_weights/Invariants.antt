-- `percentage_sheet::read_weights` meets its contract. The invariant: the backends read so far stand in both rows, and before what is read from `start` on.
use Prim.Native.Nat.{ℕ, ◌+◌, ◌*◌, ◌≤◌}
use mathlib.Core.Path.{◌≡◌}
use mathlib.Core.List.{List, ◌++◌}
use lib.ListN.{length, take}
use Rattle.numerals.specs.Limits.{most_backends, most_id, unit, decimals}
use Rattle.numerals.specs.Text.{split}
use Rattle.sheets.specs.PercentageSheet.{Weights, weight_fields}
use Rattle.sheets.specs.PercentageSheet as sheet
use Rattle.sheets.proofs.FieldParts.{fields_left}
use Rattle.sheets.proofs.Steps.{joined}
use Rattle.sheets.proofs.percentage_sheet.read_weights.Given as goal

pub record Weighing (fields ids₀ weights₀ : List ℕ) (at : ℕ) (ids weights : List ℕ) (start before count sum : ℕ) : Type 0 where
  pub done : Weights
  pub named : length done.ids ≡ count
  pub size : length done.weights ≡ count
  pub total : sheet.sum done.weights ≡ sum
  pub known : before ≤ most_id
  pub small : sum ≤ count * unit
  pub ids_row : take (at + count) ids ≡ take at ids₀ ++ done.ids
  pub row : take (at + count) weights ≡ take at weights₀ ++ done.weights
  pub few : count + length (fields_left 32 start (length fields) fields) ≤ most_backends
  pub whole :
      (line : ℕ) → weight_fields decimals line 0 (split 32 fields)
      ≡ joined done (weight_fields decimals line before (fields_left 32 start (length fields) fields))

abbrev pub invariant-loop-start : goal.invariant-loop-start
invariant-loop-start l =
    Weighing l.fields l.initial.ids l.initial.weights l.at l.ids l.weights l.start l.before l.count l.sum

abbrev pub decreases-loop-start : goal.decreases-loop-start
decreases-loop-start l = length (fields_left 32 l.start (length l.fields) l.fields)
