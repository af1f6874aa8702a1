-- `numbers::read_number` meets its contract: after the test for a leading zero the number is what the digits are read as, and its lower limit.
-- Assumes nothing.
use Rattle.std.specs.Prelude.{None, Some}
use Prim.Native.Nat.{◌+◌, ◌≤◌, min}
use native.Mathlib.Omega.{arith}
use mathlib.Core.Path.{◌≡◌, sym, ap, ◌∙◌}
use mathlib.Core.List.{◌∷◌}
use mathlib.Core.Bool.{true}
use lib.Dec.{leb}
use lib.ListN.{length, get_or}
use lib.Seq.{slice}
use borrow.Author.Tests.{le-leb, lt-leb}
use Rattle.numerals.specs.Pick.{pick}
use Rattle.numerals.specs.Digits.{on_value}
use Rattle.numerals.specs.Decimal.{number, no_leading_zero}
use Rattle.numerals.proofs.Slice.{slice-more, slice-none, slice-end}
use Rattle.numerals.proofs.Decimal.{number_read, number-none, number-zero, lone, other-first}
use Rattle.numerals.proofs.numbers.read_number.Goals as goal
use Rattle.numerals.proofs.numbers.read_number.Goals.{then-s-from-eq48+else-end-from-gt1, else-s-from-eq48}
use Rattle.numerals.proofs.numbers.read_number.Goals.{After-min-end, After-read_digits, Joined-s-from-eq48}

-- the part that is read ends with the text
part :
    (c : After-min-end)
    → let a = c.args in slice a.from a.to a.s.now ≡ slice a.from c.min-end.result a.s.now
part c = let a = c.args in slice-end a.from a.to c.min-end.result a.s.now c.min-end.ensures

pub returns-then-end-from : goal.returns-then-end-from
returns-then-end-from c =
    let a = c.args in
    let e = c.min-end.result in
    sym
    (ap (number a.least a.most) (part (goal.at.returns-then-end-from c).After-min-end ∙ slice-none a.from e a.s.now (omega arith)) ∙ number-none _ _)

pub returns-then-end-from-gt1 : goal.returns-then-end-from-gt1
returns-then-end-from-gt1 c =
    let a = c.args in
    let e = c.min-end.result in
    sym
    (ap (number a.least a.most)
    (part (goal.at.returns-then-end-from-gt1 c).After-min-end
    ∙ slice-more a.from e a.s.now (omega arith) (omega arith)
    ∙ ap (λ l. get_or a.s.now a.from 0 ∷ l) (slice-more (a.from + 1) e a.s.now (omega arith) (omega arith)))
    ∙ number-zero _ _ _ _ _ c.if-s-from-eq48.true)

-- no zero leads once the tests are passed
clean :
    (c : Joined-s-from-eq48)
    → let a = c.args in
    no_leading_zero (slice a.from c.min-end.result a.s.now) ≡ true
clean c =
    let a = c.args in
    let e = c.min-end.result in
    rw (slice-more a.from e a.s.now (omega arith) (omega arith))
    (elim c.if-s-from-eq48.branch as (λ v. no_leading_zero (get_or a.s.now a.from 0 ∷ slice (a.from + 1) e a.s.now) ≡ true) [
      | then-s-from-eq48+else-end-from-gt1 w ↦
          let end : min e (length a.s.now) ≤ a.from + 1 = omega (arith, w.if-end-from-gt1.false) in
          rw (slice-none (a.from + 1) e a.s.now end) (lone _)
      | else-s-from-eq48 w ↦ other-first _ _ w.if-s-from-eq48.false
    ])

whole :
    (c : After-read_digits)
    → let a = c.args in
    number a.least a.most (slice a.from a.to a.s.now)
    ≡ on_value c.read_digits.result (λ v. pick (leb a.least v) (Some v) None)
whole c =
    let a = c.args in
    ap (number a.least a.most) (part (goal.at.After-read_digits c).After-min-end)
    ∙ number_read _ _ _ (clean (goal.at.After-read_digits c).Joined-s-from-eq48)
    ∙ ap (λ r. on_value r (λ v. pick (leb a.least v) (Some v) None)) (sym c.read_digits.ensures)

pub returns-in_err-v : goal.returns-in_err-v
unfolding on_value
returns-in_err-v c = sym (whole (goal.at.returns-in_err-v c).After-read_digits ∙ rw (c.in_err-v.was, c.from_residual.ensures))

pub returns-then-v-least : goal.returns-then-v-least
unfolding on_value
returns-then-v-least c = sym (whole (goal.at.returns-then-v-least c).After-read_digits ∙ rw (c.in_ok-v.was, lt-leb _ _ c.if-v-least.true))

pub returns : goal.returns
unfolding on_value
returns c = sym (whole (goal.at.returns c).After-read_digits ∙ rw (c.in_ok-v.was, le-leb _ _ c.if-v-least.false))
