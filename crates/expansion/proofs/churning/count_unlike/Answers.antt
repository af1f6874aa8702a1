-- `churning::count_unlike` meets its contract. The invariant: of the places below p, those that don't differ are counted.
use Prim.Native.Nat.{ℕ, ◌+◌, ◌^◌, ◌<◌}
use mathlib.Core.Path.{◌≡◌, ap, ◌∙◌}
use mathlib.Core.Bool.{Bool, true, false, not}
use native.Mathlib.Numerals.{add-one}
use native.Mathlib.Omega.{arith}
use borrow.Author.Tests.{eq-eqb, ne_eqb}
use Rattle.numerals.specs.Limits.{most_suffixes}
use Rattle.numerals.specs.Pick.{pick}
use Rattle.numerals.specs.Sums.{count_to}
use Rattle.numerals.proofs.Powers.{shifted, pow-few}
use Rattle.numerals.proofs.Sums.{sum-none, count-suc}
use Rattle.expansion.proofs.churning.count_unlike.Goals as goal
use Rattle.expansion.proofs.churning.count_unlike.Goals.{then-before-p, else-before-p}
use Rattle.expansion.proofs.churning.count_unlike.Invariants.{differs}
use Rattle.expansion.proofs.churning.count_unlike.Goals.{After-loop-p, In-loop-p}

-- one place more
one : (p : ℕ) (t : ℕ → Bool) → t p ≡ true → count_to (p + 1) t ≡ count_to p t + 1
one p t e = rw (add-one p) (count-suc p t ∙ rw e)

none : (p : ℕ) (t : ℕ → Bool) → t p ≡ false → count_to (p + 1) t ≡ count_to p t
none p t e = rw (add-one p) (count-suc p t ∙ rw e (omega arith))

pub loop-p-init : goal.loop-p-init
unfolding count_to
loop-p-init c = (omega arith, omega (arith, sum-none (λ (i : ℕ). pick (differs c.args.before.now c.args.after.now i) 1 0)))

-- the place is one of all
inside : (c : In-loop-p) → c.loop-p.p < 2 ^ c.args.k
inside c = omega (arith, shifted c.args.k c.requires)

below : (c : In-loop-p) → c.loop-p.p < most_suffixes
below c = omega (arith, inside c, pow-few c.args.k c.requires)

pub bounds-before-p : goal.bounds-before-p
bounds-before-p c = omega (arith, below (goal.at.bounds-before-p c).In-loop-p)

pub bounds-after-p : goal.bounds-after-p
bounds-after-p c = omega (arith, below (goal.at.bounds-after-p c).In-loop-p)

pub overflow_add-same : goal.overflow_add-same
overflow_add-same c = omega (arith, below (goal.at.overflow_add-same c).In-loop-p, c.loop-p.invariant.1)

pub loop-p-preserved : goal.loop-p-preserved
loop-p-preserved c =
    let a = c.args in
    let l = c.loop-p in
    let test = differs a.before.now a.after.now in (
      omega (arith, inside (goal.at.loop-p-preserved c).In-loop-p),
      elim c.if-before-p.branch [
        | then-before-p w ↦ omega (arith, w.same-is, l.invariant.1, none l.p test (ap not (eq-eqb _ _ w.if-before-p.true)))
        | else-before-p w ↦ omega (arith, w.same-is, l.invariant.1, one l.p test (ap not (ne_eqb _ _ w.if-before-p.false)))
      ],
    )

pub overflow_cast-result : goal.overflow_cast-result
overflow_cast-result c =
    let l = c.loop-p in
    omega (arith, pow-few c.args.k c.requires, l.invariant.0, l.invariant.1)

-- all places were looked at
all_seen : (c : After-loop-p) → c.loop-p.p ≡ 2 ^ c.args.k
all_seen c = omega (arith, shifted c.args.k c.requires)

pub overflow_sub-result : goal.overflow_sub-result
overflow_sub-result c = omega (arith, shifted c.args.k c.requires, all_seen c, c.loop-p.invariant.1)

pub returns : goal.returns
returns c =
    let a = c.args in
    let test = differs a.before.now a.after.now in
    let same : count_to c.loop-p.p test ≡ count_to (2 ^ a.k) test = ap (λ (n : ℕ). count_to n test) (all_seen c) in
    omega (arith, shifted a.k c.requires, all_seen c, c.loop-p.invariant.1, same)
