-- `Change::is_crowded` meets its contract: the stage at a place has as many lines as were counted.
use Prim.Native.Nat.{ℕ, ◌≤◌, ◌<◌}
use mathlib.Core.Path.{◌≡◌, sym, subst, ◌∙◌}
use native.Mathlib.Omega.{arith}
use lib.ListN.{get_or, take}
use Rattle.stages.specs.Inner.Nodes.{at, lines_at}
use Rattle.stages.specs.Inner.Changes.{stage_in}
use Rattle.stages.proofs.CutRow.{crowded-here, crowded-later, crowded-none}
use Rattle.stages.proofs.change.Change.is_crowded.Goals as goal
use Rattle.stages.proofs.change.Change.is_crowded.Goals.{After-count_lines-lines}

-- what was counted are the lines of the stage
counted : (c : After-count_lines-lines)
    → let a = c.args in c.count_lines-lines.result ≡ lines_at (stage_in a.self (get_or (take a.n a.row.now) c.loop-p.p-index 0)) a.self.k 0
counted c =
    let old = c.fill-old.ensures in
    let new = c.fill-new.ensures in
    rw (old.holder, new.holder, old.k) at c.count_lines-lines.ensures

pub returns-then-capacity-lines : goal.returns-then-capacity-lines
returns-then-capacity-lines c =
    let a = c.args in
    sym
    (c.loop-p.invariant
    ∙ crowded-here a.self.k (at a.self.old.now) (at a.self.new.now) a.capacity (take a.n a.row.now) c.loop-p.p-index (omega arith)
    (subst (λ (x : ℕ). a.capacity < x) (counted (goal.at.returns-then-capacity-lines c).After-count_lines-lines) c.if-capacity-lines.true))

pub loop-p-preserved : goal.loop-p-preserved
loop-p-preserved c =
    let a = c.args in
    c.loop-p.invariant
    ∙ crowded-later a.self.k (at a.self.old.now) (at a.self.new.now) a.capacity (take a.n a.row.now) c.loop-p.p-index (omega arith)
    (subst (λ (x : ℕ). x ≤ a.capacity) (counted (goal.at.loop-p-preserved c).After-count_lines-lines) c.if-capacity-lines.false)

pub returns : goal.returns
returns c =
    let a = c.args in
    sym (c.loop-p.invariant ∙ crowded-none a.self.k (at a.self.old.now) (at a.self.new.now) a.capacity (take a.n a.row.now) c.loop-p.p-index (omega arith))
