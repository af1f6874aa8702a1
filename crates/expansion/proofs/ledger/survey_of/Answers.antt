-- `ledger::survey_of`: the extremes so far are those of the backends passed, and the sum is that of their excesses, each of them small.
use Prim.Native.Nat.{ℕ, ◌^◌, ◌≤◌, ◌<◌}
use mathlib.Core.Bool.{true, false}
use mathlib.Core.Path.{◌≡◌, sym, ap, ◌∙◌}
use native.Mathlib.Omega.{arith}
use lib.IntN.{ℤ, pos, neg_ℤ, nat_abs, ◌-ℤ◌, +ℤ_idl}
use lib.ListN.{length}
use lib.Signed.{mag, lt_z}
use mir.Syntax.{w64}
use mir.Val.{to_z, of_z}
use Rattle.expansion.specs.Inner.Ledger.{over, under, Small, error_at}
use Rattle.numerals.proofs.Sums.{sum-none, sum-next, sum-most}
use Rattle.expansion.proofs.Signed.{over-mag, mag-neg, above, below-zero, back, small-read}
use Rattle.expansion.proofs.Surveys.{top, top-none, top-raised, top-zero, top-largest}
use Rattle.expansion.proofs.ledger.survey_of.Goals as goal
use Rattle.expansion.proofs.ledger.survey_of.Goals.{then-e-gt0, else-e-gt0}
use Rattle.expansion.proofs.ledger.survey_of.Goals.{In-loop-b}

pub loop-b-init : goal.loop-b-init
loop-b-init c =
    let excess : ℕ → ℕ = λ i. over (error_at c.args.ledger i) in
    let shortfall : ℕ → ℕ = λ i. under (error_at c.args.ledger i) in
    (sym (top-none excess), sym (top-none shortfall), sym (sum-none excess))

-- the error of this turn, small, and as the machine has it
module _ (c : In-loop-b) where
  abbrev b : ℕ
  b = c.loop-b.b

  abbrev excess : ℕ → ℕ
  excess i = over (error_at c.args.ledger i)

  abbrev shortfall : ℕ → ℕ
  shortfall i = under (error_at c.args.ledger i)

  abbrev e : ℤ
  e = error_at c.args.ledger b

  small : Small e
  small = c.requires b (omega arith)

  few : (i : ℕ) → i ≤ b → excess i ≤ 2 ^ 50
  few i m = omega (arith, over-mag (error_at c.args.ledger i), (c.requires i (omega arith)).small)

  read : to_z w64 (of_z w64 e) ≡ e
  read = small-read e small

  is-above : lt_z (pos 0) (to_z w64 (of_z w64 e)) ≡ true → e ≡ pos (over e)
  is-above t = above 0 e (ap (lt_z (pos 0)) (sym read) ∙ t)

  is_below : lt_z (pos 0) (to_z w64 (of_z w64 e)) ≡ false → (over e ≡ 0) × (neg_ℤ e ≡ pos (under e))
  is_below t = below-zero e (ap (lt_z (pos 0)) (sym read) ∙ t)

  neg-few : mag (neg_ℤ e) < 2 ^ 63
  neg-few = omega (arith, mag-neg e, small.small)

  negated : to_z w64 (of_z w64 (pos 0 -ℤ to_z w64 (of_z w64 e))) ≡ neg_ℤ e
  negated = rw (read, +ℤ_idl (neg_ℤ e)) (back (neg_ℤ e) neg-few)

pub overflow_add-imbalance : goal.overflow_add-imbalance
overflow_add-imbalance c =
    rw (read (goal.at.overflow_add-imbalance c).In-loop-b ∙ is-above (goal.at.overflow_add-imbalance c).In-loop-b c.if-e-gt0.true)
    (record {
      fits = omega (
        arith,
        few (goal.at.overflow_add-imbalance c).In-loop-b (b (goal.at.overflow_add-imbalance c).In-loop-b) (omega arith),
        sum-most (b (goal.at.overflow_add-imbalance c).In-loop-b) (excess (goal.at.overflow_add-imbalance c).In-loop-b) (2 ^ 50)
            (λ i m. few (goal.at.overflow_add-imbalance c).In-loop-b i (omega arith)),
      );
    })

pub loop-b-preserved : goal.loop-b-preserved
loop-b-preserved c =
    let inv = c.loop-b.invariant in
    let more = sum-next (b (goal.at.loop-b-preserved c).In-loop-b) (excess (goal.at.loop-b-preserved c).In-loop-b) in
    elim c.if-e-gt0.branch [
      | then-e-gt0 w ↦ let h = is-above (goal.at.loop-b-preserved c).In-loop-b w.if-e-gt0.true in (
        w.give-is ∙ top-raised (excess (goal.at.loop-b-preserved c).In-loop-b) (b (goal.at.loop-b-preserved c).In-loop-b) c.loop-b.give
            w.raised-give.result (to_z w64 (of_z w64 (e (goal.at.loop-b-preserved c).In-loop-b))) inv.0
            (read (goal.at.loop-b-preserved c).In-loop-b ∙ h) w.raised-give.ensures,
        w.take-is ∙ inv.1 ∙ sym (top-zero (shortfall (goal.at.loop-b-preserved c).In-loop-b) (b (goal.at.loop-b-preserved c).In-loop-b)
            (ap under h)),
        omega (arith, w.imbalance-is, inv.2, more, ap nat_abs (read (goal.at.loop-b-preserved c).In-loop-b ∙ h)),
      )
      | else-e-gt0 w ↦ let h = is_below (goal.at.loop-b-preserved c).In-loop-b w.if-e-gt0.false in (
        w.give-is ∙ inv.0 ∙ sym (top-zero (excess (goal.at.loop-b-preserved c).In-loop-b) (b (goal.at.loop-b-preserved c).In-loop-b) h.0),
        w.take-is ∙ top-raised (shortfall (goal.at.loop-b-preserved c).In-loop-b) (b (goal.at.loop-b-preserved c).In-loop-b) c.loop-b.take
            w.raised-take.result (to_z w64 (of_z w64 (pos 0 -ℤ to_z w64 (of_z w64 (e (goal.at.loop-b-preserved c).In-loop-b))))) inv.1
            (negated (goal.at.loop-b-preserved c).In-loop-b ∙ h.1) w.raised-take.ensures,
        omega (arith, w.imbalance-is, inv.2, more, h.0),
      )
    ]

pub returns : goal.returns
returns c =
    let L = c.args.ledger in
    let s = c.args.service.now in
    let n = length s.weights.now in
    let inv = c.loop-b.invariant in
    let e : c.loop-b.b ≡ n = omega arith in
    record {
      give = inv.0 ∙ ap (top (λ i. over (error_at L i))) e ∙ top-largest L n false s.valid.someone;
      take = inv.1 ∙ ap (top (λ i. under (error_at L i))) e ∙ top-largest L n true s.valid.someone;
      imbalance = inv.2 ∙ rw e;
    }
