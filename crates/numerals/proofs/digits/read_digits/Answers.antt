-- `digits::read_digits` meets its contract. The loop's invariant: the digits that are left, read after v, are read as the whole is.
-- Assumes nothing.
use Prim.Native.Nat.{◌+◌, ◌-◌, ◌*◌, ◌≤◌}
use native.Mathlib.Omega.{arith}
use mathlib.Core.Path.{◌≡◌, sym, ap, ◌∙◌}
use mathlib.Core.List.{◌∷◌}
use lib.Seq.{slice}
use Rattle.numerals.specs.Inner.Digits.{read_digits}
use Rattle.numerals.proofs.Slice.{slice-more, slice-none}
use Rattle.numerals.proofs.Base.{read_from, read-start, read_none, read_low, read-high, read-over, read_next, over, within}
use Rattle.numerals.proofs.digits.read_digits.Goals as goal
use Rattle.numerals.proofs.digits.read_digits.Goals.{After-from-b, Else-most-d-2}

pub loop-i-init : goal.loop-i-init
loop-i-init c = (omega arith, read-start _ _ _)

-- the whole, with the byte that was read last in front of what is left
turn :
    (c : After-from-b)
    → let a = c.args in
    let l = c.loop-i in
    read_digits a.base a.most (slice a.from a.to a.s.now)
    ≡ read_from a.base a.most l.v (c.from-b.result ∷ slice (l.i + 1) a.to a.s.now)
turn c =
    let a = c.args in
    let l = c.loop-i in
    let cut : slice l.i a.to a.s.now ≡ c.from-b.result ∷ slice (l.i + 1) a.to a.s.now =
    rw c.from-b.ensures (slice-more l.i a.to a.s.now (omega arith) (omega arith)) in
    l.invariant.1 ∙ ap (read_from a.base a.most l.v) cut

pub returns-then-b-lt48 : goal.returns-then-b-lt48
returns-then-b-lt48 c = sym (turn (goal.at.returns-then-b-lt48 c).After-from-b ∙ read_low _ _ _ _ _ c.if-b-lt48.true)

pub returns-then-base-d : goal.returns-then-base-d
returns-then-base-d c = sym (turn (goal.at.returns-then-base-d c).After-from-b ∙ read-high _ _ _ _ _ (omega arith))

pub returns-then-most-d : goal.returns-then-most-d
returns-then-most-d c = sym (turn (goal.at.returns-then-most-d c).After-from-b ∙ read-over _ _ _ _ _ (omega arith) (omega arith))

pub returns-then-most-d-2 : goal.returns-then-most-d-2
returns-then-most-d-2 c = sym (turn (goal.at.returns-then-most-d-2 c).After-from-b ∙ read-over _ _ _ _ _ (omega arith)
    (over _ _ _ _ (omega arith) c.if-most-d-2.true))

-- the next v is at most `most`
small :
    (c : Else-most-d-2)
    → let a = c.args in
    c.loop-i.v * a.base + (c.from-b.result - 48) ≤ a.most
small c = within _ _ _ _ (omega arith) c.if-most-d.false c.if-most-d-2.false

pub overflow_mul-v : goal.overflow_mul-v
overflow_mul-v c = omega (arith, small c)

pub overflow_add-v : goal.overflow_add-v
overflow_add-v c = omega (arith, small c)

pub loop-i-preserved : goal.loop-i-preserved
loop-i-preserved c = (small c, turn (goal.at.loop-i-preserved c).After-from-b ∙ read_next _ _ _ _ _ c.if-b-lt48.false (omega arith))

pub returns : goal.returns
returns c =
    let a = c.args in
    let l = c.loop-i in
    sym
    (l.invariant.1 ∙ ap (read_from a.base a.most l.v) (slice-none l.i a.to a.s.now (omega arith)) ∙ read_none _ _ _ l.invariant.0)
