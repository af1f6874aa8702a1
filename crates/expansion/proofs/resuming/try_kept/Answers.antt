-- `resuming::try_kept` meets its contract: a hopeless start ends in no list that is within, and otherwise the run says.
use Prim.Native.Nat.{ℕ}
use mathlib.Core.Bool.{false}
use mathlib.Core.List.{List}
use mathlib.Core.Logic.{◌≢◌, ◌⊎◌, inl, inr}
use mathlib.Core.Path.{◌≡◌, sym, ◌∙◌}
use native.Mathlib.Omega.{arith}
use Rattle.expansion.specs.Steps.{Frame, is_within, list_of}
use Rattle.expansion.specs.Resume.{frame_from}
use Rattle.expansion.specs.Inner.Holders.{Holds}
use Rattle.expansion.specs.Inner.Lists.{newest_first}
use Rattle.expansion.specs.Inner.Laying.{Starts}
use Rattle.expansion.specs.Inner.Service.{targets_for}
use Rattle.expansion.specs.declared.rule.Rule.{Rule}
use Rattle.expansion.specs.declared.rule.Ended.{Ended}
use Rattle.expansion.specs.declared.rule.Ended.TheVariants.{Within, NoGain, Budget}
use Rattle.expansion.proofs.ChurnPlaces.{unlike-churn}
use Rattle.expansion.proofs.HopelessStarts.{small, tried-hopeless, tried_other, tried-within}
use Rattle.expansion.proofs.resuming.try_kept.Goals as goal
use Rattle.expansion.proofs.resuming.try_kept.Goals.{After-run_kept-run, Start}

module _ (s : Start) where
  abbrev starts : Starts s.args.service.now s.args.list s.args.holder s.args.shares.now s.args.budget
  starts = s.requires

  abbrev F : Frame
  F = frame_from (targets_for s.args.service.now) s.args.service.now.tolerance (newest_first s.args.list.rules s.args.list.count)

pub overflow_sub-budget : goal.overflow_sub-budget
overflow_sub-budget c = (starts (goal.at.overflow_sub-budget c).Start).within

pub is_hopeless-requires : goal.is_hopeless-requires
is_hopeless-requires c =
    let S = starts (goal.at.is_hopeless-requires c).Start in
    let a = c.args in
    record {
      moves_le_most_rules = omega (arith, S.few);
      by_index = small a.service.now a.list a.holder a.shares.now
          a.budget S;
    }

pub returns-then-is_hopeless : goal.returns-then-is_hopeless
returns-then-is_hopeless c =
    let a = c.args in
    λ old held H.
    tried-hopeless a.service.now a.list a.holder
    a.shares.now a.budget (starts (goal.at.returns-then-is_hopeless c).Start)
    (sym c.is_hopeless.ensures ∙ c.if-is_hopeless.true)

pub run_kept-run-requires : goal.run_kept-run-requires
run_kept-run-requires c = c.requires

pub count_unlike-churn-requires : goal.count_unlike-churn-requires
count_unlike-churn-requires c = c.args.service.now.valid.few_bits

-- the run
module _ (r : After-run_kept-run) where
  abbrev new : List Rule
  new = list_of (F (goal.at.After-run_kept-run r).Start) r.args.budget

  holds : (low : List ℕ) × Holds (targets_for r.args.service.now) new
      r.run_kept-run.new.holder low
  unfolding frame_from
  holds = r.run_kept-run.ensures.holds

  stopped : r.run_kept-run.result.ended ≢ Within → is_within (F (goal.at.After-run_kept-run r).Start) new ≡ false
  stopped d =
      let a = r.args in
      tried_other a.service.now a.list a.holder a.shares.now a.budget
      (starts (goal.at.After-run_kept-run r).Start)
      r.run_kept-run.result r.run_kept-run.ensures.made d

pub returns-in-Within : goal.returns-in-Within
returns-in-Within c =
    let a = c.args in
    λ old held H.
    tried-within a.service.now a.list a.holder a.shares.now a.budget
    (starts (goal.at.returns-in-Within c).Start) c.run_kept-run.result
    c.run_kept-run.ensures.made c.in-Within.is old c.count_unlike-churn.result
    (c.count_unlike-churn.ensures
    ∙ unlike-churn a.service.now.k a.service.now.tolerance a.service.now.labels.now a.service.now.weights.now
    a.service.now.valid old (new (goal.at.returns-in-Within c).After-run_kept-run) a.whole.now held
    c.run_kept-run.new.holder (holds (goal.at.returns-in-Within c).After-run_kept-run).0 H
    (holds (goal.at.returns-in-Within c).After-run_kept-run).1)

stops : (ended : Ended) → (ended ≡ NoGain) ⊎ (ended ≡ Budget) → ended ≢ Within
stops ended (inl n) w = cc
stops ended (inr b) w = cc

pub returns-in-NoGain : goal.returns-in-NoGain
returns-in-NoGain c old held H =
    stopped (goal.at.returns-in-NoGain c).After-run_kept-run (stops c.run_kept-run.result.ended c.in-NoGain.is)
