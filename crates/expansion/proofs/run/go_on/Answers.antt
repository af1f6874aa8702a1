-- `run::go_on` meets its contract. The loop's invariant: in each frame in which state and list stood at the start, they stand after some turns.
use Prim.Native.Nat.{ℕ, suc, ◌<◌}
use mathlib.Core.List.{List}
use mathlib.Core.Path.{◌≡◌, ap, sym, ◌∙◌, subst}
use native.Mathlib.Omega.{arith}
use lib.ListN.{length, length-set}
use Rattle.numerals.specs.Limits.{most_rules}
use Rattle.expansion.specs.Steps.{Frame, after}
use Rattle.expansion.specs.KeptShares.{SharesKept}
use Rattle.expansion.specs.Inner.Holders.{Holds}
use Rattle.expansion.specs.Inner.Lists.{Listed}
use Rattle.expansion.specs.Inner.Service.{frame_for}
use Rattle.expansion.specs.declared.list.RuleList.{RuleList}
use Rattle.expansion.specs.declared.rule.Rule.{Rule}
use Rattle.expansion.proofs.KeptAlong.{kept-none, kept_then}
use Rattle.expansion.proofs.Turning.{listed-count, listed_more, made-ended, in-budget}
use Rattle.expansion.proofs.run.go_on.Goals as goal
use Rattle.expansion.proofs.run.go_on.Invariants.{After, Kept}
use Rattle.expansion.proofs.run.go_on.Goals.{At-loop-ended, In-Continue, Start}
use Rattle.std.specs.declared.ops.ControlFlow.TheVariants.{Continue}

-- the arrays of the list
rules-long : (c : Start) → length c.args.list.rules ≡ most_rules
rules-long c = omega arith

stairs-long : (c : Start) → length c.args.list.stairs ≡ most_rules
stairs-long c = omega arith

pub loop-ended-init : goal.loop-ended-init
loop-ended-init c =
    let a = c.args in (
      λ cap x start A.
          let F : Frame = frame_for a.service.now cap start in (
            x,
            A,
            kept-none F.targets (after F x) a.list.count a.state.ledger
                (listed-count F x a.list A.listed) A.stands.keeps,
          ),
      (c.requires.count_le_budget.0, (rules-long (goal.at.loop-ended-init c).Start, stairs-long (goal.at.loop-ended-init c).Start)),
    )

-- a frame that is known to be there, at the start of a turn
module _ (c : At-loop-ended) where
  abbrev F : Frame
  F = frame_for c.args.service.now c.requires.by_index.0 c.requires.by_index.2

  at : (y : ℕ) × After F y c.loop-ended.holder c.loop-ended.low c.loop-ended.state c.loop-ended.list × Kept F y c.args.list c.args.state c.loop-ended.state
  at = c.loop-ended.invariant.0 c.requires.by_index.0 c.requires.by_index.1 c.requires.by_index.2
      (record { stands = c.requires.by_index.3.0; listed = c.requires.by_index.3.1 })

  holders-long : length c.loop-ended.holder ≡ length c.args.holder.now
  holders-long = at.1.stands.long.0 ∙ sym c.requires.by_index.3.0.long.0

  lows-long : length c.loop-ended.low ≡ length c.args.low.now
  lows-long = at.1.stands.long.1 ∙ sym c.requires.by_index.3.0.long.1

pub returns-in-Break : goal.returns-in-Break
returns-in-Break c =
    let l = c.loop-ended in
    let a = c.args in
    λ cap x start S L.
    let F : Frame = frame_for a.service.now cap start in
    let now = l.invariant.0 cap x start (record { stands = S; listed = L }) in
    let made = made-ended F now.0 l.holder l.low l.state now.1.stands l.list now.1.listed a.budget l.invariant.1.0
    c.in-Break.ended (sym c.in_budget-next.ensures ∙ c.in-Break.is) in (
      made,
      subst (λ (rs : List Rule). SharesKept F.targets rs a.list.count a.state.ledger l.state.ledger
          × Holds F.targets rs l.holder l.low)
          (sym now.1.listed.rules ∙ made.rules) (now.2, now.1.stands.holds),
    )

-- the move that was let through
let_through : (c : In-Continue)
    → let l = c.loop-ended in
    (l.state.next ≡ Continue c.in-Continue.m) × (l.list.count < c.args.budget)
let_through c =
    let l = c.loop-ended in
    in-budget l.state.next l.list.count c.args.budget c.in-Continue.m
    (sym c.in_budget-next.ensures ∙ c.in-Continue.is)

pub advance-state-requires : goal.advance-state-requires
advance-state-requires c =
    record {
      by_index = (
        c.requires.by_index.0,
        (at (goal.at.advance-state-requires c).At-loop-ended).0,
        c.requires.by_index.2,
        (at (goal.at.advance-state-requires c).At-loop-ended).1.stands,
      );
      next = (let_through (goal.at.advance-state-requires c).In-Continue).0;
    }

-- there is room for a rule more
room : (c : In-Continue) → c.loop-ended.list.count < most_rules
room c = omega (arith, (let_through c).1, c.requires.count_le_budget.1)

pub push-requires : goal.push-requires
push-requires c = room (goal.at.push-requires c).In-Continue

pub loop-ended-smaller : goal.loop-ended-smaller
loop-ended-smaller c = omega (arith, ap (λ (l : RuleList). l.count) c.push.ensures.1, (let_through (goal.at.loop-ended-smaller c).In-Continue).1)

pub loop-ended-preserved : goal.loop-ended-preserved
loop-ended-preserved c =
    let l = c.loop-ended in
    let a = c.args in
    let r = c.advance-state.result in
    let e = c.push.ensures.1 in (
      λ cap x start A.
          let E : Frame = frame_for a.service.now cap start in
          let now = l.invariant.0 cap x start A in
          let more = c.advance-state.ensures cap now.0 start now.1.stands in (
            suc now.0,
            record {
              stands = more.0;
              listed =
                  subst (Listed E (suc now.0)) (sym e)
                  (listed_more E now.1.stands.fits now.0 l.list r.rule r.imbalance now.1.listed
                  c.push.ensures.0 l.invariant.1.1.0 l.invariant.1.1.1 more.1 more.0.stair);
            },
            subst (λ (rs : List Rule). SharesKept E.targets rs a.list.count a.state.ledger r.ledger) (sym more.1.rules)
                (kept_then E.targets (after E now.0) r.rule a.list.count a.state.ledger l.state.ledger r.ledger now.2 more.2),
          ),
      (
        omega (arith, ap (λ (l : RuleList). l.count) e, (let_through (goal.at.loop-ended-preserved c).In-Continue).1),
        (
          ap (λ (l : RuleList). length l.rules) e ∙ length-set l.list.rules l.list.count r.rule ∙ l.invariant.1.1.0,
          ap (λ (l : RuleList). length l.stairs) e ∙ length-set l.list.stairs l.list.count r.imbalance ∙ l.invariant.1.1.1,
        ),
      ),
    )
