-- `Change::compose` meets its contract: one place more of the stage.
use Prim.Native.Nat.{◌<◌}
use mathlib.Core.Path.{sym}
use native.Mathlib.Omega.{arith}
use lib.ListN.{length}
use Rattle.numerals.specs.Limits.{most_suffixes}
use Rattle.numerals.proofs.Powers.{pow-few, shifted}
use Rattle.stages.specs.Inner.Nodes.{at}
use Rattle.stages.specs.Inner.Changes.{stage_in}
use Rattle.stages.proofs.NodeLaws.{cut_below, cut-from}
use Rattle.stages.proofs.StageText.{listed_more}
use Rattle.stages.proofs.change.Change.compose.Goals as goal
use Rattle.stages.proofs.change.Change.compose.Goals.{In-loop-q, then-q-p, else-q-p}

-- the place that the loop has come to
below : (t : In-loop-q) → t.loop-q.q < most_suffixes
below t = omega (arith, shifted t.args.self.k t.args.self.few_bits, pow-few t.args.self.k t.args.self.few_bits)

pub bounds-self-q : goal.bounds-self-q
bounds-self-q c = omega (arith, below (goal.at.bounds-self-q c).In-loop-q)

pub bounds-stage-q : goal.bounds-stage-q
bounds-stage-q c = omega (arith, below (goal.at.bounds-stage-q c).In-loop-q)

pub bounds-self-q-else-q-p : goal.bounds-self-q-else-q-p
bounds-self-q-else-q-p c = omega (arith, below (goal.at.bounds-self-q-else-q-p c).In-loop-q)

pub bounds-stage-q-else-q-p : goal.bounds-stage-q-else-q-p
bounds-stage-q-else-q-p c = omega (arith, below (goal.at.bounds-stage-q-else-q-p c).In-loop-q)

pub loop-q-preserved : goal.loop-q-preserved
loop-q-preserved c =
    let a = c.args in
    let l = c.loop-q in
    let f = stage_in a.self a.p in
    let old = at a.self.old.now in
    let new = at a.self.new.now in
    let in_stage : l.q < length c.if-q-p.stage = omega (arith, below (goal.at.loop-q-preserved c).In-loop-q) in
    elim c.if-q-p.branch [
      | then-q-p w ↦
          listed_more f l.stage _ l.q _ w.stage-is in_stage l.invariant (sym (cut_below a.p old new l.q (omega (arith, w.if-q-p.true))))
      | else-q-p w ↦
          listed_more f l.stage _ l.q _ w.stage-is in_stage l.invariant (sym (cut-from a.p old new l.q (omega (arith, w.if-q-p.false))))
    ]
