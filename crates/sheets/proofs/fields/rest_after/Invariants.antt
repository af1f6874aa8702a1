-- `fields::rest_after` meets its contract. The invariant: `rest` has the fields behind the first ones that were passed.
use Prim.Native.Nat.{◌≤◌}
use mathlib.Core.Path.{◌≡◌}
use lib.ListN.{length, drop}
use Rattle.numerals.specs.Text.{split}
use Rattle.sheets.proofs.fields.rest_after.Given as goal

abbrev pub invariant-loop : goal.invariant-loop
invariant-loop l = (length l.rest ≤ length l.line) × (split 32 l.rest ≡ drop l.counter (split 32 l.line))
