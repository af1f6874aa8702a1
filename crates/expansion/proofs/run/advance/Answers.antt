-- `run::advance` meets its contract: the move that comes next can be made, and after it the state stands with its rule.
use Prim.Native.Nat.{ℕ, ◌-◌, ◌^◌, ◌≤◌, ◌<◌}
use mathlib.Core.List.{List, ◌∷◌}
use mathlib.Core.Path.{◌≡◌, sym, ◌∙◌}
use native.Mathlib.Omega.{arith}
use lib.ListN.{length, get_or}
use Rattle.numerals.specs.Limits.{most_bits, most_known}
use Rattle.expansion.specs.FirstMatch.{nobody}
use Rattle.expansion.specs.Imbalance.{backends, label}
use Rattle.expansion.specs.Steps.{Frame, new_rule, after}
use Rattle.expansion.specs.KeptShares.{entry_at}
use Rattle.expansion.specs.Inner.Ledger.{Small, error_at, Changeable}
use Rattle.expansion.specs.Inner.Terms.{next_for, next_of}
use Rattle.expansion.specs.Inner.Run.{Fits, Stands}
use Rattle.expansion.specs.Inner.Service.{frame_for}
use Rattle.expansion.specs.declared.rule.Rule.{Rule}
use Rattle.expansion.specs.declared.rule.Move.{Move}
use Rattle.numerals.proofs.Powers.{pow-few, shifted}
use Rattle.expansion.proofs.KeptShares.{kept-change}
use Rattle.expansion.proofs.NextMove.{Feasible, moved_by, next-fewer}
use Rattle.expansion.proofs.Surveys.{surveyed-sized, surveyed-next}
use Rattle.expansion.proofs.Turning.{small, someone, feasible-go, index-falls, adds-rule, kept-go, stands-moved}
use Rattle.expansion.proofs.run.advance.Goals as goal
use Rattle.expansion.proofs.run.advance.Goals.{After-decide, After-moved-ledger, After-survey_of-seen, Start}
use Rattle.std.specs.declared.ops.ControlFlow.TheVariants.{Continue}

-- the frame of a cap and a start
abbrev at : Start → ℕ → List Rule → Frame
at s cap start = frame_for s.args.service.now cap start

-- the one that is known to be there
module _ (s : Start) where
  abbrev F : Frame
  F = at s s.requires.by_index.0 s.requires.by_index.2

  abbrev x : ℕ
  x = s.requires.by_index.1

  abbrev S : Stands F x s.args.holder.now s.args.low.now s.args.state
  S = s.requires.by_index.3

  abbrev fits : Fits F
  fits = S.fits

  feasible : Feasible F s.args.holder.now s.args.low.now (after F x) s.args.state.ledger s.args.m
  feasible = feasible-go F x s.args.holder.now s.args.low.now s.args.state S s.args.m s.requires.next

  some : 0 < length s.args.service.now.weights.now
  unfolding backends
  some = someone F fits

  few : length s.args.service.now.weights.now ≤ most_known
  unfolding backends
  few = fits.few

  -- the term
  low : s.args.m.index ≤ most_bits
  low = omega (arith, feasible.index, fits.sound.below, fits.few_bits)

  -- `moved` may be called with any backend as receiver: a wrong one is refused by the ledger that comes out
  entries : length s.args.state.ledger.at ≡ most_known
  entries = omega arith

  takes : (b : ℕ) → b < length s.args.service.now.weights.now → Changeable (entry_at s.args.state.ledger b) 0 (2 ^ s.args.m.index)
  unfolding backends
  takes b l =
      kept-change F (after F x) s.args.state.ledger S.keeps fits.sound fits.in_unit fits.few_bits b l 0 (2 ^ s.args.m.index)
      (omega arith) (pow-few s.args.m.index low)

pub offset_bounds-service-receiver : goal.offset_bounds-service-receiver
offset_bounds-service-receiver c = omega (
  arith,
  (feasible (goal.at.offset_bounds-service-receiver c).Start).receiver,
  (fits (goal.at.offset_bounds-service-receiver c).Start).few,
)

pub bounds-service-receiver : goal.bounds-service-receiver
unfolding backends
bounds-service-receiver c =
    omega (arith, (feasible (goal.at.bounds-service-receiver c).Start).receiver, (fits (goal.at.bounds-service-receiver c).Start).labelled)

pub hand_over-value-requires : goal.hand_over-value-requires
hand_over-value-requires c =
    let R = feasible (goal.at.hand_over-value-requires c).Start in
    let f = fits (goal.at.hand_over-value-requires c).Start in
    record {
      k_le_most_bits = (f.few_bits, (omega (arith, R.index, f.sound.below), (omega (arith, R.giver, f.few), omega (arith, R.receiver, f.few))));
      low_bound = R.found;
    }

pub overflow_shl-m : goal.overflow_shl-m
overflow_shl-m c = omega (arith, low (goal.at.overflow_shl-m c).Start)

pub moved-ledger-requires : goal.moved-ledger-requires
unfolding backends
moved-ledger-requires c =
    let R = feasible (goal.at.moved-ledger-requires c).Start in
    rw (shifted c.args.m.index (low (goal.at.moved-ledger-requires c).Start))
    (record {
      giver_in = omega (arith, entries (goal.at.moved-ledger-requires c).Start, R.giver, R.receiver, few (goal.at.moved-ledger-requires c).Start);
      receiver_in = omega (arith, entries (goal.at.moved-ledger-requires c).Start, R.receiver, few (goal.at.moved-ledger-requires c).Start);
      gives = R.movable.gives;
      takes = takes (goal.at.moved-ledger-requires c).Start _ (omega (arith, R.receiver, some (goal.at.moved-ledger-requires c).Start));
    })

-- the ledger afterwards
moved_at : (c : After-moved-ledger) → let a = c.args in c.moved-ledger.result.at ≡ moved_by a.state.ledger a.m
moved_at c = simp (shifted c.args.m.index (low (goal.at.After-moved-ledger c).Start)) at c.moved-ledger.ensures

moved-small : (c : After-moved-ledger) (b : ℕ) → b < length c.args.service.now.weights.now → Small (error_at c.moved-ledger.result b)
unfolding backends
moved-small c =
    let rs = after (F (goal.at.After-moved-ledger c).Start) (x (goal.at.After-moved-ledger c).Start) in
    small (F (goal.at.After-moved-ledger c).Start) (fits (goal.at.After-moved-ledger c).Start) (new_rule (F (goal.at.After-moved-ledger c).Start) rs ∷ rs)
    c.moved-ledger.result ((feasible (goal.at.After-moved-ledger c).Start).moved c.moved-ledger.result (moved_at c))

pub survey_of-seen-requires : goal.survey_of-seen-requires
survey_of-seen-requires c = moved-small c

pub overflow_sub-result : goal.overflow_sub-result
overflow_sub-result c = omega (arith, (feasible (goal.at.overflow_sub-result c).Start).index, (fits (goal.at.overflow_sub-result c).Start).sound.below)

pub decide-requires : goal.decide-requires
decide-requires c =
    record {
      cap_le_most_bits = low (goal.at.decide-requires c).Start;
      sized = surveyed-sized c.moved-ledger.result (length c.args.service.now.weights.now) c.survey_of-seen.result c.survey_of-seen.ensures
          (some (goal.at.decide-requires c).Start) (moved-small (goal.at.decide-requires c).After-moved-ledger);
    }

-- in each frame that the state stands in
module _ (c : After-decide) (cap y : ℕ) (start : List Rule) where
  abbrev z : Start
  z = (goal.at.After-decide c).Start

  abbrev E : Frame
  E = at z cap start

  module _ (T : Stands E y z.args.holder.now z.args.low.now z.args.state) where
    next-is : c.decide.result ≡ next_of c.moved-ledger.result (backends E.targets) z.args.service.now.k z.args.service.now.tolerance cap
    unfolding backends
    next-is =
        let a = z.args in
        let s = a.service.now in
        let seen = c.survey_of-seen.result in
        let next = surveyed-next c.moved-ledger.result (length s.weights.now) seen c.survey_of-seen.ensures s.k s.tolerance cap in
        let falls : (o : Move) → next_for seen.give seen.take s.k s.tolerance cap ≡ Continue o → o.index ≤ a.m.index =
        λ o h. index-falls E y a.holder.now a.low.now a.state T a.m z.requires.next c.moved-ledger.result
        (moved_at (goal.at.After-decide c).After-moved-ledger) o (sym next ∙ h) in
        let less : a.m.index ≤ cap = (feasible-go E y a.holder.now a.low.now a.state T a.m z.requires.next).index in
        c.decide.ensures ∙ next-fewer seen.give seen.take s.k s.tolerance cap a.m.index less falls ∙ next

pub returns : goal.returns
unfolding backends label
returns c =
    let a = c.args in
    let H = c.hand_over-value.ensures in
    λ cap y start T.
    let s = a.service.now in
    let rule : Rule = record { len = s.k - a.m.index; value = c.hand_over-value.result; backend = get_or s.labels.now a.m.receiver nobody } in
    let adds = adds-rule (at (goal.at.returns c).Start cap start) y a.holder.now a.low.now a.state T a.m c.requires.next c.hand_over-value.result H.is in (
      stands-moved (at (goal.at.returns c).Start cap start) y a.holder.now a.low.now a.state T a.m c.requires.next
          c.hand_over-value.result c.hand_over-value.new.holder c.hand_over-value.new.low H
          c.moved-ledger.result (moved_at (goal.at.returns c).After-moved-ledger)
          c.survey_of-seen.result.imbalance c.survey_of-seen.ensures.imbalance
          c.decide.result (next-is c cap y start T) rule,
      adds,
      kept-go (at (goal.at.returns c).Start cap start) y a.holder.now a.low.now a.state T a.m c.requires.next c.moved-ledger.result
          (moved_at (goal.at.returns c).After-moved-ledger) rule adds,
    )
