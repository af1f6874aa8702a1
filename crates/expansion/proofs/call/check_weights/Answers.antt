-- `call::check_weights` meets its contract. The loop's invariant: the first b backends are in their limits, `before` is the last of their ids, and
-- `sum` is the sum of their weights.
use Prim.Native.Nat.{ℕ, suc, ◌+◌, ◌≤◌}
use mathlib.Core.Bool.{true}
use mathlib.Core.Path.{◌≡◌, refl, sym, ap, ◌∙◌}
use native.Mathlib.Numerals.{add-one}
use native.Mathlib.Omega.{arith}
use lib.Dec.{leb, eqb}
use lib.ListN.{length, get_or}
use borrow.Author.Tests.{eq-eqb, ne_eqb, not-true, not-false}
use Rattle.numerals.specs.Pick.{both}
use Rattle.numerals.specs.Sums.{sum_to, all_to}
use Rattle.expansion.specs.Answer.{or_else, in_limits, id_before, is_backend, check_weights}
use Rattle.numerals.specs.Limits.{most_id, unit}
use Rattle.numerals.specs.declared.refusal.Refusal.TheVariants.{Unbalanced}
use Rattle.numerals.proofs.Sums.{sum-suc}
use Rattle.numerals.proofs.Searches.{true-both, all-suc}
use Rattle.expansion.proofs.Checks.{weights-bad, weights-sum, is-backend}
use Rattle.expansion.proofs.call.check_weights.Goals as goal
use Rattle.expansion.proofs.call.check_weights.Goals.{After-is_backend, After-loop-b, Else-not-is_backend}

pub loop-b-init : goal.loop-b-init
unfolding sum_to all_to id_before
loop-b-init c = (omega arith, refl, refl, refl)

-- the test is the definition's
tested : (c : After-is_backend)
    → c.is_backend.result ≡ is_backend c.args.ids.now c.args.weights.now c.loop-b.b
unfolding is_backend
tested c =
    let a = c.args in
    let l = c.loop-b in
    c.is_backend.ensures
    ∙ ap (λ (x : ℕ). both (in_limits (suc x) most_id (get_or a.ids.now l.b 0)) (leb (get_or a.weights.now l.b 0) unit)) l.invariant.2

pub returns-then-not-is_backend : goal.returns-then-not-is_backend
returns-then-not-is_backend c =
    sym
    (weights-bad _ _ (omega arith) (omega arith) (omega arith) c.loop-b.b (omega arith)
    (sym (tested (goal.at.returns-then-not-is_backend c).After-is_backend) ∙ not-true _ c.if-not-is_backend.true-raw))

-- the limits of a backend that passed
passed : (c : Else-not-is_backend)
    → is_backend c.args.ids.now c.args.weights.now c.loop-b.b
    ≡ true
passed c = sym (tested (goal.at.Else-not-is_backend c).After-is_backend) ∙ not-false _ c.if-not-is_backend.false-raw

small : (c : Else-not-is_backend)
    → get_or c.args.weights.now c.loop-b.b 0 ≤ unit
small c =
    let a = c.args in
    (is-backend a.ids.now a.weights.now c.loop-b.b (passed c)).1.1

pub loop-b-preserved : goal.loop-b-preserved
unfolding id_before
loop-b-preserved c =
    let a = c.args in
    let ids = a.ids.now in
    let ws = a.weights.now in
    let l = c.loop-b in
    let all : all_to (l.b + 1) (is_backend ids ws) ≡ true =
    rw add-one (all-suc l.b (is_backend ids ws) ∙ true-both _ _ l.invariant.3 (passed c)) in
    let last : get_or ids l.b 0 ≡ id_before ids (l.b + 1) = rw add-one refl in (
      omega (arith, small c),
      rw add-one (sym (sum-suc l.b (λ j. get_or ws j 0) ∙ ap (λ (x : ℕ). x + get_or ws l.b 0) (sym l.invariant.1))),
      last,
      all,
    )

-- at the loop's end the sum is that of all
ended :
    (c : After-loop-b)
    → check_weights c.args.ids.now c.args.weights.now ≡ or_else (eqb c.loop-b.sum unit) Unbalanced
ended c =
    let ids = c.args.ids.now in
    let ws = c.args.weights.now in
    let l = c.loop-b in
    let all : l.b ≡ length ws = omega arith in
    rw (l.invariant.1, all) (weights-sum ids ws (omega arith) (omega arith) (omega arith) (rw (← all) l.invariant.3))

pub returns-then-sum-eq-UNIT : goal.returns-then-sum-eq-UNIT
unfolding unit
returns-then-sum-eq-UNIT c = sym (ended (goal.at.returns-then-sum-eq-UNIT c).After-loop-b ∙ rw (eq-eqb _ _ c.if-sum-eq-UNIT.true))

pub returns-else-sum-eq-UNIT : goal.returns-else-sum-eq-UNIT
unfolding unit
returns-else-sum-eq-UNIT c = sym (ended (goal.at.returns-else-sum-eq-UNIT c).After-loop-b ∙ rw (ne_eqb _ _ c.if-sum-eq-UNIT.false))
