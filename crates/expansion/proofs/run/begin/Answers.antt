-- `run::begin` meets its contract.
use Prim.Native.Nat.{ℕ, ◌≤◌, ◌<◌}
use mathlib.Core.List.{List}
use mathlib.Core.Path.{◌≡◌, refl, ◌∙◌}
use native.Mathlib.Omega.{arith}
use lib.ListN.{length, get_or}
use Rattle.numerals.specs.Limits.{most_suffixes}
use Rattle.expansion.specs.Steps.{Frame}
use Rattle.expansion.specs.Imbalance.{backends, label, weight}
use Rattle.expansion.specs.KeptShares.{Keeps}
use Rattle.expansion.specs.Inner.Ledger.{Small, error_at}
use Rattle.expansion.specs.Inner.Terms.{next_of}
use Rattle.expansion.specs.Inner.Run.{framed, Fits, Shared}
use Rattle.expansion.specs.declared.rule.Rule.{Rule}
use Rattle.numerals.proofs.Powers.{pow-few}
use Rattle.expansion.proofs.Bounds.{share-le}
use Rattle.expansion.proofs.Surveys.{surveyed-sized, surveyed-next}
use Rattle.expansion.proofs.Turning.{small, someone, keeps-start, stands-start}
use Rattle.expansion.proofs.run.begin.Goals as goal
use Rattle.expansion.proofs.run.begin.Goals.{After-decide, After-opened-ledger, Start}

-- the frame of labels and a start
abbrev at : Start → List ℕ → List Rule → Frame
at s labels start = framed s.args.service.now.k s.args.cap s.args.service.now.tolerance labels s.args.service.now.weights.now start

-- the one that is known to be there
abbrev frame : Start → Frame
frame s = at s s.requires.0 s.requires.1

each-share : (s : Start) (b : ℕ) → b < backends (frame s).targets → get_or s.args.shares.now b 0 ≤ most_suffixes
each-share s b l =
    let k = s.args.service.now.k in
    omega (arith, s.requires.2.1.each b l, share-le k s.requires.1 (label (frame s).targets b), pow-few k s.requires.2.0.few_bits)

pub opened-ledger-requires : goal.opened-ledger-requires
unfolding backends
opened-ledger-requires c = each-share (goal.at.opened-ledger-requires c).Start

module _ (c : After-opened-ledger) where
  keeps : (labels : List ℕ) (start : List Rule) → Fits (at (goal.at.After-opened-ledger c).Start labels start) → Shared
      (at (goal.at.After-opened-ledger c).Start labels start) c.args.shares.now
      → Keeps (at (goal.at.After-opened-ledger c).Start labels start).targets start c.opened-ledger.result
  unfolding backends weight
  keeps labels start fits shared = keeps-start (at (goal.at.After-opened-ledger c).Start labels start) fits c.args.shares.now shared c.opened-ledger.result
      c.opened-ledger.ensures

  smalls : (b : ℕ) → b < length c.args.service.now.weights.now → Small (error_at c.opened-ledger.result b)
  unfolding backends
  smalls = small (frame (goal.at.After-opened-ledger c).Start) c.requires.2.0 c.requires.1 c.opened-ledger.result
      (keeps c.requires.0 c.requires.1 c.requires.2.0 c.requires.2.1)

  some : 0 < length c.args.service.now.weights.now
  unfolding backends
  some = someone (frame (goal.at.After-opened-ledger c).Start) c.requires.2.0

pub survey_of-seen-requires : goal.survey_of-seen-requires
unfolding backends
survey_of-seen-requires c = smalls c

pub decide-requires : goal.decide-requires
decide-requires c =
    let f = c.requires.2.0 in
    record {
      cap_le_most_bits = omega (arith, f.few_bits, f.sound.below);
      sized = surveyed-sized c.opened-ledger.result (length c.args.service.now.weights.now) c.survey_of-seen.result c.survey_of-seen.ensures
          (some (goal.at.decide-requires c).After-opened-ledger) (smalls (goal.at.decide-requires c).After-opened-ledger);
    }

next-is : (c : After-decide)
    → let s = c.args.service.now in
    c.decide.result ≡ next_of c.opened-ledger.result (length s.weights.now) s.k s.tolerance c.args.cap
next-is c =
    let s = c.args.service.now in
    let seen = c.survey_of-seen in
    c.decide.ensures ∙ surveyed-next c.opened-ledger.result (length s.weights.now) seen.result seen.ensures s.k s.tolerance c.args.cap

pub returns : goal.returns
unfolding backends
returns c =
    record {
      stands = λ labels start holder low fits shared H l m.
          stands-start (at (goal.at.returns c).Start labels start) fits c.opened-ledger.result
          (keeps (goal.at.returns c).After-opened-ledger labels start fits shared) holder low H l m
          c.survey_of-seen.result.imbalance c.survey_of-seen.ensures.imbalance
          c.decide.result (next-is c) c.args.newest;
      newest = refl;
    }
