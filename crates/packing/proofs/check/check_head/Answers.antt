-- `check::check_head` meets its contract: each of its tests is one of the definition's, in the same order.
use mathlib.Core.Path.{◌≡◌}
use mathlib.Core.Bool.{true, false}
use Prim.Native.Nat.{ℕ, ◌≤◌}
use borrow.Author.Tests.{le-leb, lt-leb}
use Rattle.std.proofs.Common.{rules}
use Rattle.numerals.specs.Limits.{unit, most_bits, most_capacity}
use Rattle.numerals.proofs.Choice.{by_less}
use Rattle.expansion.specs.Answer.{in_limits}
use Rattle.packing.specs.Answer.{check_head}
use Rattle.packing.proofs.check.check_head.Goals as goal

-- the test of limits, passed and failed
inside : (least most x : ℕ) → (least ≤ x) × (x ≤ most) → in_limits least most x ≡ true
unfolding in_limits
inside least most x h = simp (le-leb least x h.0, le-leb x most h.1)

outside : (least most x : ℕ) → ((least ≤ x) × (x ≤ most) → ⊥) → in_limits least most x ≡ false
unfolding in_limits
outside least most x h =
    by_less x least (λ l. simp (lt-leb least x l))
    (λ l. by_less most x (λ m. simp (le-leb least x l, lt-leb x most m)) (λ m. absurd (h (l, m))))

pub returns-then-not-contains : goal.returns-then-not-contains
unfolding check_head
returns-then-not-contains c = simp (outside 1 most_bits c.args.k (search rules))

pub returns-then-tolerance-gt-UNIT : goal.returns-then-tolerance-gt-UNIT
unfolding check_head unit
returns-then-tolerance-gt-UNIT c = simp (inside 1 most_bits c.args.k (search rules), lt-leb _ _ c.if-tolerance-gt-UNIT.true)

pub returns-then-not-contains-2 : goal.returns-then-not-contains-2
unfolding check_head unit
returns-then-not-contains-2 c =
    simp (
      inside 1 most_bits c.args.k (search rules),
      le-leb _ _ c.if-tolerance-gt-UNIT.false,
      outside 1 most_capacity c.args.capacity (search rules),
    )

pub returns : goal.returns
unfolding check_head unit
returns c =
    simp (
      inside 1 most_bits c.args.k (search rules),
      le-leb _ _ c.if-tolerance-gt-UNIT.false,
      inside 1 most_capacity c.args.capacity (search rules),
    )
