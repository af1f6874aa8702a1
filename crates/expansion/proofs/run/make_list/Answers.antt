-- `run::make_list` meets its contract: document 01's start, where the largest weight has everything, and the run from there.
use Prim.Native.Nat.{ℕ, ◌-◌, ◌*◌, ◌%◌, ◌^◌, ◌<◌}
use mathlib.Core.List.{List}
use mathlib.Core.Path.{ap, sym, subst}
use native.Mathlib.Omega.{arith}
use lib.ListN.{set, replicate, length-replicate}
use Rattle.numerals.specs.Limits.{most_known, most_suffixes}
use Rattle.expansion.specs.Imbalance.{backends}
use Rattle.expansion.specs.Steps.{Frame, frame, first_rule, list_of}
use Rattle.expansion.specs.KeptShares.{SharesKept}
use Rattle.expansion.specs.Inner.Lists.{Listed}
use Rattle.expansion.specs.Inner.Run.{Fits, Shared, Stands}
use Rattle.expansion.specs.Inner.Service.{frame_of}
use Rattle.expansion.specs.declared.list.RuleList.{RuleList}
use Rattle.expansion.specs.declared.run.State.{State}
use Rattle.numerals.proofs.Powers.{shifted}
use Rattle.expansion.proofs.Holdings.{holds-first}
use Rattle.expansion.proofs.Checks.{first-lt, fits}
use Rattle.expansion.proofs.Turning.{shared-first, listed-first}
use Rattle.expansion.proofs.run.make_list.Goals as goal
use Rattle.expansion.proofs.run.make_list.Goals.{After-heaviest-first, After-of_one-list}

first-in : (c : After-heaviest-first) → c.heaviest-first.result < most_known
first-in c =
    omega (arith, c.heaviest-first.ensures, first-lt c.args.service.now, c.args.service.now.valid.few)

pub offset_bounds-service-first : goal.offset_bounds-service-first
offset_bounds-service-first c = omega (arith, first-in c)

pub bounds-service-first : goal.bounds-service-first
bounds-service-first c =
    omega (
      arith,
      c.heaviest-first.ensures,
      first-lt c.args.service.now,
      c.args.service.now.valid.labelled,
    )

pub overflow_shl-shares : goal.overflow_shl-shares
overflow_shl-shares c = omega (arith, c.args.service.now.valid.few_bits)

pub offset_bounds-shares-first : goal.offset_bounds-shares-first
offset_bounds-shares-first c = omega (arith, first-in (goal.at.offset_bounds-shares-first c).After-heaviest-first)

pub bounds-shares-first : goal.bounds-shares-first
bounds-shares-first c = first-in (goal.at.bounds-shares-first c).After-heaviest-first

pub overflow_cast-holder : goal.overflow_cast-holder
overflow_cast-holder c = omega (arith, first-in (goal.at.overflow_cast-holder c).After-heaviest-first)

-- the start
module _ (c : After-heaviest-first) where
  abbrev F : Frame
  F = frame_of c.args.service.now

  abbrev first : ℕ
  first = c.heaviest-first.result

  abbrev shares : List ℕ
  shares = set (replicate most_known 0) first (1 * 2 ^ c.args.service.now.k % 18446744073709551616)

  fitting : Fits F
  fitting = fits c.args.service.now

  shared : Shared F shares
  shared =
      rw (shifted c.args.service.now.k c.args.service.now.valid.few_bits)
      (shared-first c.args.service.now first c.heaviest-first.ensures)

pub overflow_sub-k : goal.overflow_sub-k
overflow_sub-k c = c.args.service.now.valid.some_bits

pub begin-state-requires : goal.begin-state-requires
unfolding frame
begin-state-requires c = (
  c.args.service.now.labels.now,
  first_rule c.args.service.now.labels.now c.args.service.now.weights.now,
  (fitting (goal.at.begin-state-requires c).After-heaviest-first, shared (goal.at.begin-state-requires c).After-heaviest-first),
)

-- state and list at the start
module _ (c : After-of_one-list) where
  abbrev begun : State
  begun = c.begin-state.result

  stands : Stands (F (goal.at.After-of_one-list c).After-heaviest-first) 0 (replicate most_suffixes
      (first (goal.at.After-of_one-list c).After-heaviest-first)) (replicate most_known 0) begun
  unfolding frame backends
  stands =
      let s = c.args.service.now in
      c.begin-state.ensures.stands s.labels.now (first_rule s.labels.now s.weights.now)
      (replicate most_suffixes (first (goal.at.After-of_one-list c).After-heaviest-first)) (replicate most_known 0)
      (fitting (goal.at.After-of_one-list c).After-heaviest-first) (shared (goal.at.After-of_one-list c).After-heaviest-first)
      (holds-first (F (goal.at.After-of_one-list c).After-heaviest-first).targets c.args.service.now.valid.few_bits
      (first (goal.at.After-of_one-list c).After-heaviest-first)
      (omega (arith, c.heaviest-first.ensures, first-lt c.args.service.now)) c.heaviest-first.ensures)
      (length-replicate most_suffixes (first (goal.at.After-of_one-list c).After-heaviest-first)) (length-replicate {A = ℕ} most_known 0)

  listed : Listed (F (goal.at.After-of_one-list c).After-heaviest-first) 0 c.of_one-list.result
  listed =
      subst (Listed (F (goal.at.After-of_one-list c).After-heaviest-first) 0) (sym c.of_one-list.ensures.1)
      (listed-first c.args.service.now (first (goal.at.After-of_one-list c).After-heaviest-first)
      c.heaviest-first.ensures c.of_one-list.ensures.0
      begun.imbalance stands.stair)

pub go_on-requires : goal.go_on-requires
unfolding frame
go_on-requires c =
    record {
      by_index = (
        c.args.service.now.k - 1,
        0,
        first_rule c.args.service.now.labels.now c.args.service.now.weights.now,
        (
          stands (goal.at.go_on-requires c).After-of_one-list,
          listed
              (goal.at.go_on-requires c).After-of_one-list,
        ),
      );
      count_le_budget = (omega (arith, ap (λ (l : RuleList). l.count) c.of_one-list.ensures.1, c.requires.0), c.requires.1);
    }

pub returns : goal.returns
unfolding frame
returns c =
    let s = c.args.service.now in
    let r = c.go_on.ensures (s.k - 1) 0 (first_rule s.labels.now s.weights.now) (stands (goal.at.returns c).After-of_one-list)
    (listed (goal.at.returns c).After-of_one-list) in
    record {
      made = r.0;
      kept = (
        (begun (goal.at.returns c).After-of_one-list).ledger,
        subst (λ (n : ℕ). SharesKept (F (goal.at.returns c).After-heaviest-first).targets (list_of (F (goal.at.returns c).After-heaviest-first) c.args.budget)
            n (begun (goal.at.returns c).After-of_one-list).ledger c.go_on.result.kept)
            (ap (λ (l : RuleList). l.count) c.of_one-list.ensures.1) r.1.0,
      );
    }
