-- `run::decide`: its tests are those of `next_for`, over naturals, since neither size is negative.
use Prim.Native.Nat.{ℕ, ◌*◌, ◌%◌, ◌^◌, ◌<◌}
use mathlib.Core.Bool.{Bool, true, false}
use mathlib.Core.Path.{◌≡◌, refl, sym, ap, subst, ◌∙◌}
use native.Mathlib.Omega.{arith}
use lib.Dec.{leb, eqb}
use lib.IntN.{ℤ, pos}
use lib.Signed.{le_z}
use mir.Syntax.{w64}
use mir.Val.{to_z, of_z}
use borrow.Author.Tests.{leb-true, leb-false, eq-eqb, ne_eqb}
use Rattle.numerals.specs.Pick.{pick, both}
use Rattle.numerals.specs.Limits.{unit}
use Rattle.numerals.specs.Sums.{lastmax}
use Rattle.expansion.specs.Steps.{reduction}
use Rattle.expansion.specs.Inner.Ledger.{over, Sized}
use Rattle.expansion.specs.Inner.Terms.{Best, next_for}
use Rattle.expansion.specs.declared.rule.Ended.TheVariants.{Within, NoGain}
use Rattle.expansion.specs.declared.ledger.Extreme.{Extreme}
use Rattle.numerals.proofs.Powers.{shifted}
use Rattle.expansion.proofs.Reduction.{reduction-le}
use Rattle.expansion.proofs.Signed.{back, plain, wants-few}
use Rattle.expansion.proofs.run.decide.Goals as goal
use Rattle.expansion.proofs.run.decide.Goals.{After-best_term-term, Start, else-o-slack-via-then-o-slack+else-u-slack, else-o-slack-via-else-o-slack}
use Rattle.std.specs.declared.ops.ControlFlow.{ControlFlow}
use Rattle.expansion.specs.declared.rule.Ended.{Ended}
use Rattle.expansion.specs.declared.rule.Move.{Move}
use Rattle.std.specs.declared.ops.ControlFlow.TheVariants.{Break, Continue}

-- a size as the machine has it
read : (e : Extreme) → Sized e → to_z w64 (of_z w64 e.size) ≡ pos (over e.size)
read e S =
    ap (λ (x : ℤ). to_z w64 (of_z w64 x)) S.natural ∙ back (pos (over e.size)) (omega (arith, S.few))

module _ (z : Start) where
  abbrev k : ℕ
  k = z.args.service.now.k

  abbrev tolerance : ℕ
  tolerance = z.args.service.now.tolerance

  abbrev o : ℕ
  o = over z.args.give.size

  abbrev u : ℕ
  u = over z.args.take.size

  abbrev slack : ℕ
  slack = z.args.service.now.tolerance * 2 ^ z.args.service.now.k

  slack-few : slack < 2 ^ 40
  slack-few = wants-few z.args.service.now.tolerance z.args.service.now.k z.args.service.now.valid.tolerable z.args.service.now.valid.few_bits

  -- a test against the slack
  test : (e : Extreme) → Sized e
      → le_z (to_z w64 (of_z w64 e.size)) (to_z w64 (tolerance * (1 * 2 ^ k % 18446744073709551616))) ≡ leb (over e.size) slack
  test e S = rw (shifted z.args.service.now.k z.args.service.now.valid.few_bits, plain slack (omega (arith, slack-few)), read e S)

  o-test : le_z (to_z w64 (of_z w64 z.args.give.size)) (to_z w64 (tolerance * (1 * 2 ^ k % 18446744073709551616))) ≡ leb o slack
  o-test = test z.args.give z.requires.sized.0

  u-test : le_z (to_z w64 (of_z w64 z.args.take.size)) (to_z w64 (tolerance * (1 * 2 ^ k % 18446744073709551616))) ≡ leb u slack
  u-test = test z.args.take z.requires.sized.1

  -- the term of the greatest reduction, and what comes next
  abbrev gain : ℕ → ℕ
  gain i = reduction u o (2 ^ i * unit)

  abbrev index : ℕ
  index = lastmax gain z.args.cap

  abbrev next : ControlFlow Ended Move
  next = next_for z.args.give z.args.take z.args.service.now.k z.args.service.now.tolerance z.args.cap

  next-within : leb o slack ≡ true → leb u slack ≡ true → next ≡ Break Within
  unfolding next_for
  next-within p q = rw (p, q)

  next-else : both (leb o slack) (leb u slack) ≡ false
      → next ≡ pick (eqb (gain index) 0) (Break NoGain) (Continue (record { giver = z.args.give.backend; receiver = z.args.take.backend; index = index }))
  unfolding next_for
  next-else p = rw p

pub overflow_mul-slack : goal.overflow_mul-slack
overflow_mul-slack c =
    rw (shifted c.args.service.now.k c.args.service.now.valid.few_bits)
    (record { fits = omega (arith, slack-few (goal.at.overflow_mul-slack c).Start) })

pub overflow_cast-slack : goal.overflow_cast-slack
overflow_cast-slack c =
    rw (shifted c.args.service.now.k c.args.service.now.valid.few_bits)
    (record { sfits = omega (arith, slack-few (goal.at.overflow_cast-slack c).Start) })

pub returns-then-u-slack : goal.returns-then-u-slack
returns-then-u-slack c =
    sym (next-within (goal.at.returns-then-u-slack c).Start (sym (o-test (goal.at.returns-then-u-slack c).Start) ∙ c.if-o-slack.true)
    (sym (u-test (goal.at.returns-then-u-slack c).Start) ∙ c.if-u-slack.true))

module _ (c : After-best_term-term) where
  not_within : both (leb (o (goal.at.After-best_term-term c).Start) (slack (goal.at.After-best_term-term c).Start))
      (leb (u (goal.at.After-best_term-term c).Start) (slack (goal.at.After-best_term-term c).Start)) ≡ false
  not_within =
      elim c.else-o-slack.branch [
        | else-o-slack-via-then-o-slack+else-u-slack w ↦
            ap (λ (t : Bool). both (leb (o (goal.at.After-best_term-term c).Start) (slack (goal.at.After-best_term-term c).Start))
            t) (sym (u-test (goal.at.After-best_term-term c).Start) ∙ w.if-u-slack.false) ∙ none
            (leb (o (goal.at.After-best_term-term c).Start) (slack (goal.at.After-best_term-term c).Start))
        | else-o-slack-via-else-o-slack w ↦
            ap (λ (t : Bool). both t (leb (u (goal.at.After-best_term-term c).Start) (slack (goal.at.After-best_term-term c).Start)))
            (sym (o-test (goal.at.After-best_term-term c).Start) ∙ w.if-o-slack.false)
      ]
    where
      none : (t : Bool) → both t false ≡ false
      none true = refl
      none false = refl

  best : Best (u (goal.at.After-best_term-term c).Start) (o (goal.at.After-best_term-term c).Start) c.args.cap c.best_term-term.result
  best =
      subst (λ (u : ℕ). Best u (o (goal.at.After-best_term-term c).Start) c.args.cap c.best_term-term.result)
      (ap over (read c.args.take c.requires.sized.1))
      (subst (λ (o : ℕ). Best (over (to_z w64 (of_z w64 c.args.take.size))) o c.args.cap c.best_term-term.result)
      (ap over (read c.args.give c.requires.sized.0))
      c.best_term-term.ensures)

  gain-is : to_z w64 (of_z w64 c.best_term-term.result.reduction) ≡ pos (gain (goal.at.After-best_term-term c).Start
      (index (goal.at.After-best_term-term c).Start))
  gain-is =
      ap (λ (x : ℤ). to_z w64 (of_z w64 x)) (best.gain ∙ ap (λ (i : ℕ). pos (gain (goal.at.After-best_term-term c).Start i)) best.index)
      ∙ back (pos (gain (goal.at.After-best_term-term c).Start (index (goal.at.After-best_term-term c).Start)))
      (omega (
        arith,
        reduction-le (u (goal.at.After-best_term-term c).Start) (o (goal.at.After-best_term-term c).Start)
            (2 ^ index (goal.at.After-best_term-term c).Start * unit),
        c.requires.sized.1.few,
      ))

  gain-test : le_z (to_z w64 (of_z w64 c.best_term-term.result.reduction)) (pos 0) ≡ leb
      (gain (goal.at.After-best_term-term c).Start (index (goal.at.After-best_term-term c).Start)) 0
  gain-test = ap (λ (x : ℤ). le_z x (pos 0)) gain-is

pub returns-then-term-le0 : goal.returns-then-term-le0
returns-then-term-le0 c =
    let g = gain (goal.at.returns-then-term-le0 c).Start (index (goal.at.returns-then-term-le0 c).Start) in
    let l = leb-true g 0 (sym (gain-test (goal.at.returns-then-term-le0 c).After-best_term-term) ∙ c.if-term-le0.true) in
    sym (next-else (goal.at.returns-then-term-le0 c).Start (not_within (goal.at.returns-then-term-le0 c).After-best_term-term) ∙ rw (eq-eqb g 0 (omega arith)))

pub returns : goal.returns
returns c =
    let g = gain (goal.at.returns c).Start (index (goal.at.returns c).Start) in
    let l = leb-false g 0 (sym (gain-test (goal.at.returns c).After-best_term-term) ∙ c.if-term-le0.false) in
    sym (next-else (goal.at.returns c).Start (not_within (goal.at.returns c).After-best_term-term) ∙ rw
    (ne_eqb g 0 (λ e. omega arith), ← (best (goal.at.returns c).After-best_term-term).index))
