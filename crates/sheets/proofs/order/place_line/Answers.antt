-- `order::place_line` meets its contract: the two tests, and the tally of one line more.
use mathlib.Core.Path.{◌≡◌, sym, ◌∙◌}
use mathlib.Core.Bool.{true}
use native.Mathlib.Omega.{arith}
use borrow.Author.Rules.{rules}
use Rattle.sheets.specs.Reading.{unless}
use Rattle.sheets.specs.Inner.TableNumbers.{line}
use Rattle.sheets.proofs.Following.{too_many, by_order, behind-next}
use Rattle.sheets.proofs.order.place_line.Goals as goal
use Rattle.sheets.proofs.order.place_line.Goals.{
  Else-n-ge-MOST_RULES,
  else-not-in_order-via-then-not-in_order+else-n-lt-MOST_RULES,
  else-not-in_order-via-else-not-in_order,
}

pub returns-then-n-lt-MOST_RULES : goal.returns-then-n-lt-MOST_RULES
unfolding unless
returns-then-n-lt-MOST_RULES c =
    λ before v b passed.
    by_order before _ (omega (arith, passed.tallied c.args.service (search rules)))
    ∙ rw (sym (c.in_order.ensures before v b passed.is), c.if-not-in_order.true)

pub returns-then-n-ge-MOST_RULES : goal.returns-then-n-ge-MOST_RULES
returns-then-n-ge-MOST_RULES c =
    λ before v b passed. too_many before _ (omega (arith, c.if-n-ge-MOST_RULES.true, passed.tallied c.args.service (search rules)))

-- the line is in order: otherwise there were 32 before it
sorted : (c : Else-n-ge-MOST_RULES) → c.in_order.result ≡ true
sorted c =
    elim c.else-not-in_order.branch [
      | else-not-in_order-via-then-not-in_order+else-n-lt-MOST_RULES w ↦ absurd (omega arith)
      | else-not-in_order-via-else-not-in_order w ↦ w.if-not-in_order.false
    ]

pub returns : goal.returns
unfolding unless
returns c =
    let a = c.args in
    λ before v b passed. (
      by_order before _ (omega (arith, c.if-n-ge-MOST_RULES.false, passed.tallied a.service (search rules)))
          ∙ rw (sym (c.in_order.ensures before v b passed.is), sorted (goal.at.returns c).Else-n-ge-MOST_RULES),
      behind-next before (line a.service a.len v b) a.last a.tally.now passed (search rules),
    )
