-- `numeral::is_numeral` meets its contract: no zero leads, and each byte is a digit.
use Prim.Native.Nat.{ℕ, ◌≤◌, ◌<◌}
use mathlib.Core.Bool.{true}
use mathlib.Core.Path.{◌≡◌, sym, ◌∙◌}
use lib.ListN.{length, get_or}
use Rattle.std.proofs.Common.{rules}
use Rattle.std.specs.Bool.{Decides}
use Rattle.std.proofs.lemmas.Bool.Decides.{same_from_decides}
use Rattle.numerals.specs.Decimal.{no_leading_zero}
use Rattle.commands.proofs.Numerals.{none, zero-leads, lone-zero, other-leads, by_digits, digits-decide}
use Rattle.commands.proofs.numeral.is_numeral.Goals as goal
use Rattle.commands.proofs.numeral.is_numeral.Goals.{After-all, else-s-eq48-via-then-s-eq48+else-s-gt1, else-s-eq48-via-else-s-eq48}

pub returns-then-is_empty : goal.returns-then-is_empty
returns-then-is_empty c = sym (none c.args.s.now (search rules))

pub returns-then-s-gt1 : goal.returns-then-s-gt1
returns-then-s-gt1 c = sym (zero-leads c.args.s.now c.if-s-eq48.true c.if-s-gt1.true)

some : (c : After-all) → length c.args.s.now ≡ 0 → ⊥
some c = search rules

leads : (c : After-all) → no_leading_zero c.args.s.now ≡ true
leads c =
    elim c.else-s-eq48.branch [
      | else-s-eq48-via-then-s-eq48+else-s-gt1 w ↦ lone-zero c.args.s.now w.if-s-gt1.false (some c)
      | else-s-eq48-via-else-s-eq48 w ↦ other-leads c.args.s.now w.if-s-eq48.false (some c)
    ]

pub returns : goal.returns
returns c =
    let s = c.args.s.now in
    let d : Decides c.all.result ((k : ℕ) → k < length s → (48 ≤ get_or s k 0) × (get_or s k 0 ≤ 57)) = search rules in
    same_from_decides c.all.result _ d (digits-decide s) ∙ sym (by_digits s (leads c))
