-- `resuming::run_kept` meets its contract: the run from the kept rules.
use Prim.Native.Nat.{ℕ, ◌-◌, ◌≤◌}
use mathlib.Core.List.{List}
use mathlib.Core.Path.{◌≡◌, sym, subst}
use native.Mathlib.Omega.{arith}
use lib.ListN.{length, set, length-replicate}
use Rattle.numerals.specs.Limits.{most_known, most_rules}
use Rattle.expansion.specs.Steps.{Frame, after, list_of}
use Rattle.expansion.specs.KeptShares.{SharesKept}
use Rattle.expansion.specs.Resume.{cap_from, frame_from}
use Rattle.expansion.specs.Inner.Holders.{Holds}
use Rattle.expansion.specs.Inner.Lists.{newest_first, Listed}
use Rattle.expansion.specs.Inner.Run.{Fits, Shared, Stands, Made}
use Rattle.expansion.specs.Inner.Service.{targets_for, frame_for}
use Rattle.expansion.specs.Inner.Laying.{Starts}
use Rattle.expansion.specs.declared.rule.Rule.{Rule}
use Rattle.expansion.specs.declared.list.RuleList.{RuleList}
use Rattle.expansion.specs.declared.run.State.{State}
use Rattle.expansion.proofs.KeptStart.{some-kept, longest-few, holds, fits, shared, listed}
use Rattle.expansion.proofs.LaidRules.{no_lows}
use Rattle.expansion.proofs.resuming.run_kept.Goals as goal
use Rattle.expansion.proofs.resuming.run_kept.Goals.{After-begin-state, After-cap_from-cap, Start}

module _ (s : Start) where
  abbrev list : RuleList
  list = s.args.kept

  abbrev kept : List Rule
  kept = newest_first list.rules list.count

  abbrev starts :
      Starts s.args.service.now list s.args.holder.now s.args.shares.now s.args.budget
  starts = s.requires

  some : 1 ≤ list.count
  some =
      some-kept s.args.service.now list s.args.holder.now s.args.shares.now
      s.args.budget starts

  few : list.count ≤ most_rules
  few = omega (arith, starts.within, starts.few)

  abbrev F : Frame
  F = frame_for s.args.service.now (cap_from s.args.service.now.k kept) kept

  fitting : Fits F
  fitting =
      fits s.args.service.now list s.args.holder.now s.args.shares.now s.args.budget
      starts

  sharing : Shared F s.args.shares.now
  sharing =
      shared s.args.service.now list s.args.holder.now s.args.shares.now s.args.budget
      starts

  holding : Holds (targets_for s.args.service.now) kept s.args.holder.now no_lows
  holding =
      holds s.args.service.now list s.args.holder.now s.args.shares.now s.args.budget
      starts

  -- the arrays of the list
  rules-long : length list.rules ≡ most_rules
  rules-long = omega arith

  stairs-long : length list.stairs ≡ most_rules
  stairs-long = omega arith

pub cap_from-cap-requires : goal.cap_from-cap-requires
cap_from-cap-requires c =
    let a = c.args in
    longest-few a.service.now (list (goal.at.cap_from-cap-requires c).Start) a.holder.now a.shares.now a.budget
    (starts (goal.at.cap_from-cap-requires c).Start)

pub overflow_sub-last : goal.overflow_sub-last
overflow_sub-last c = some (goal.at.overflow_sub-last c).Start

pub offset_bounds-list-last : goal.offset_bounds-list-last
offset_bounds-list-last c = omega (arith, few (goal.at.offset_bounds-list-last c).Start)

pub bounds-list-last : goal.bounds-list-last
bounds-list-last c = omega (
  arith,
  few (goal.at.bounds-list-last c).Start,
  some (goal.at.bounds-list-last c).Start,
  rules-long
      (goal.at.bounds-list-last c).Start,
)

-- the start
module _ (c : After-cap_from-cap) where
  abbrev G : ℕ → Frame
  G x = frame_for c.args.service.now x (kept (goal.at.After-cap_from-cap c).Start)

  here : (P : Frame → Type 0) → P (F (goal.at.After-cap_from-cap c).Start) → P (G c.cap_from-cap.result)
  here P = subst (λ (x : ℕ). P (G x)) (sym c.cap_from-cap.ensures)

pub begin-state-requires : goal.begin-state-requires
begin-state-requires c = (
  c.args.service.now.labels.now,
  kept (goal.at.begin-state-requires c).Start,
  (
    here (goal.at.begin-state-requires c).After-cap_from-cap Fits
        (fitting (goal.at.begin-state-requires c).Start),
    here (goal.at.begin-state-requires c).After-cap_from-cap (λ E. Shared E c.args.shares.now)
        (sharing (goal.at.begin-state-requires c).Start),
  ),
)

pub offset_bounds-list-last-2 : goal.offset_bounds-list-last-2
offset_bounds-list-last-2 c = omega (arith, few (goal.at.offset_bounds-list-last-2 c).Start)

pub bounds-list-last-2 : goal.bounds-list-last-2
bounds-list-last-2 c = omega (
  arith,
  few (goal.at.bounds-list-last-2 c).Start,
  some (goal.at.bounds-list-last-2 c).Start,
  stairs-long
      (goal.at.bounds-list-last-2 c).Start,
)

-- state and list at the start
module _ (c : After-begin-state) where
  abbrev s : Start
  s = (goal.at.After-begin-state c).Start

  abbrev begun : State
  begun = c.begin-state.result

  abbrev full : (list s).count ≤ most_rules → RuleList
  full few = record { rules = (list s).rules; stairs = set (list s).stairs ((list s).count - 1) begun.imbalance; count = (list s).count; few = few }

  stands : Stands (G (goal.at.After-begin-state c).After-cap_from-cap c.cap_from-cap.result) 0 s.args.holder.now no_lows begun
  stands =
      c.begin-state.ensures.stands s.args.service.now.labels.now (kept s) s.args.holder.now no_lows
      (here (goal.at.After-begin-state c).After-cap_from-cap Fits (fitting s))
      (here (goal.at.After-begin-state c).After-cap_from-cap (λ E. Shared E s.args.shares.now) (sharing s)) (holding s) (starts s).held.wide
      (length-replicate {A = ℕ} most_known 0)

  listing : (few : (list s).count ≤ most_rules) → Listed (G (goal.at.After-begin-state c).After-cap_from-cap c.cap_from-cap.result) 0 (full few)
  unfolding after
  listing few =
      here (goal.at.After-begin-state c).After-cap_from-cap (λ E. Listed E 0 (full few))
      (listed s.args.service.now (list s) s.args.holder.now s.args.shares.now
      s.args.budget (starts s) few begun.imbalance stands.stair (stairs-long s))

pub go_on-requires : goal.go_on-requires
go_on-requires c =
    let a = s (goal.at.go_on-requires c).After-begin-state in
    record {
      by_index = (
        c.cap_from-cap.result,
        0,
        kept a,
        (
          stands (goal.at.go_on-requires c).After-begin-state,
          listing (goal.at.go_on-requires c).After-begin-state _,
        ),
      );
      count_le_budget = ((starts a).within, (starts a).few);
    }

pub returns : goal.returns
unfolding frame_from
returns c =
    let a = s (goal.at.returns c).After-begin-state in
    let run = c.go_on.result in
    let low = c.go_on.new.low in
    let Q : Frame → Type 0 = λ E.
    Made E a.args.budget run × (SharesKept E.targets (list_of E a.args.budget) (list a).count (begun (goal.at.returns c).After-begin-state).ledger run.kept
    × Holds E.targets (list_of E a.args.budget) c.go_on.new.holder low) in
    let made : Q (G (goal.at.returns c).After-cap_from-cap c.cap_from-cap.result) = c.go_on.ensures c.cap_from-cap.result 0 (kept a)
    (stands (goal.at.returns c).After-begin-state) (listing (goal.at.returns c).After-begin-state _) in
    let r : Q (F a) = subst (λ (x : ℕ). Q (G (goal.at.returns c).After-cap_from-cap x)) c.cap_from-cap.ensures made in
    record {
      made = r.0;
      shares = ((begun (goal.at.returns c).After-begin-state).ledger, r.1.0);
      holds = (low, r.1.1);
    }
