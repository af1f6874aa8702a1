-- `percentages::read_percentage` meets its contract: the number before the dot, and the fraction between it and the end where there is no second dot.
-- Assumes nothing.
use Rattle.std.specs.Prelude.{Some}
use Prim.Native.Nat.{◌+◌, ◌*◌, ◌^◌}
use native.Mathlib.Omega.{arith}
use mathlib.Core.Path.{◌≡◌, sym, ap, ◌∙◌}
use lib.Seq.{slice}
use Rattle.numerals.specs.Limits.{decimals}
use Rattle.numerals.specs.Digits.{on_value}
use Rattle.numerals.specs.Decimal.{number}
use Rattle.numerals.specs.Percentage.{at_most_all, percentage}
use Rattle.numerals.proofs.Slice.{slice-end}
use Rattle.numerals.proofs.Decimal.{only-text}
use Rattle.numerals.proofs.Fields.{cut-le}
use Rattle.numerals.proofs.Percent.{fraction-below, percent-last, percent-cut, percent-two, percent-bad}
use Rattle.numerals.proofs.percentages.read_percentage.Goals as goal
use Rattle.numerals.proofs.percentages.read_percentage.Goals.{After-min-end, After-read_fraction, In_ok-whole, Then-end-dot}

-- the part that is read ends with the text
part :
    (c : After-min-end)
    → let a =
    c.args in percentage decimals (slice a.from a.to a.s.now)
    ≡ percentage decimals (slice a.from c.min-end.result a.s.now)
part c =
    let a = c.args in
    ap (percentage decimals) (slice-end a.from a.to c.min-end.result a.s.now c.min-end.ensures)

-- the number before the dot
before-dot :
    (c : In_ok-whole)
    → let a = c.args in
    number 0 999 (slice a.from c.find-dot.result a.s.now) ≡ Some c.in_ok-whole.whole
before-dot c = sym c.read_number.ensures ∙ c.in_ok-whole.was

-- no number before the dot
pub returns-in_err-whole : goal.returns-in_err-whole
returns-in_err-whole c =
    let a = c.args in
    c.from_residual.ensures
    ∙ sym
    (part (goal.at.returns-in_err-whole c).After-min-end
    ∙ percent-bad decimals a.from c.min-end.result c.find-dot.result a.s.now (omega arith) c.find-dot.ensures
    (sym c.read_number.ensures ∙ c.in_err-whole.was))

pub overflow_mul-whole : goal.overflow_mul-whole
overflow_mul-whole c = omega (arith, (only-text 0 999 _ _ (before-dot (goal.at.overflow_mul-whole c).In_ok-whole)).high)

-- no dot, or a dot and the fraction after it
no-dot :
    (c : Then-end-dot)
    → let a = c.args in
    percentage decimals (slice a.from a.to a.s.now) ≡ at_most_all decimals (c.in_ok-whole.whole * 10 ^ decimals)
unfolding on_value
no-dot c =
    let a = c.args in
    part (goal.at.Then-end-dot c).After-min-end
    ∙ percent-last decimals a.from c.min-end.result c.find-dot.result a.s.now (omega arith) c.find-dot.ensures c.if-end-dot.true
    ∙ rw (before-dot (goal.at.Then-end-dot c).In_ok-whole)

dot :
    (c : After-read_fraction)
    → let a = c.args in
    percentage decimals (slice a.from a.to a.s.now)
    ≡ on_value c.read_fraction.result (λ u. at_most_all decimals (c.in_ok-whole.whole * 10 ^ decimals + u))
unfolding on_value
dot c =
    let a = c.args in
    part (goal.at.After-read_fraction c).After-min-end
    ∙ percent-cut decimals a.from c.min-end.result c.find-dot.result a.s.now (omega arith) c.find-dot.ensures
    c.find-next.result c.if-end-dot.false c.find-next.ensures (omega (arith, c.if-next-end.false))
    ∙ rw (before-dot (goal.at.After-read_fraction c).In_ok-whole, c.read_fraction.ensures)

pub returns-then-end-dot : goal.returns-then-end-dot
returns-then-end-dot c = c.at_most_all.ensures ∙ sym (no-dot (goal.at.returns-then-end-dot c).Then-end-dot)

-- a second dot
pub returns-then-next-end : goal.returns-then-next-end
returns-then-next-end c =
    let a = c.args in
    sym
    (part (goal.at.returns-then-next-end c).After-min-end
    ∙ percent-two decimals a.from c.min-end.result c.find-dot.result a.s.now (omega arith) c.find-dot.ensures
    c.find-next.result c.if-end-dot.false c.find-next.ensures (omega (arith, c.if-next-end.true)))

pub read_fraction-requires : goal.read_fraction-requires
read_fraction-requires c =
    let a = c.args in
    omega
    (arith, cut-le 46 (c.find-dot.result + 1) c.min-end.result c.find-next.result a.s.now (omega arith) c.find-next.ensures (omega arith))

pub returns-in_err-fraction : goal.returns-in_err-fraction
unfolding on_value
returns-in_err-fraction c = sym (dot (goal.at.returns-in_err-fraction c).After-read_fraction ∙ rw (c.in_err-fraction.was, c.from_residual-in_err-fraction.ensures))

pub overflow_mul-whole-2 : goal.overflow_mul-whole-2
overflow_mul-whole-2 c = omega (arith, (only-text 0 999 _ _ (before-dot (goal.at.overflow_mul-whole-2 c).In_ok-whole)).high)

pub overflow_add-whole : goal.overflow_add-whole
overflow_add-whole c =
    omega (
      arith,
      (only-text 0 999 _ _ (before-dot (goal.at.overflow_add-whole c).In_ok-whole)).high,
      fraction-below decimals _ _ (sym c.read_fraction.ensures ∙ c.in_ok-fraction.was),
    )

pub returns : goal.returns
unfolding on_value
returns c = c.at_most_all-2.ensures ∙ sym (dot (goal.at.returns c).After-read_fraction ∙ rw c.in_ok-fraction.was)
