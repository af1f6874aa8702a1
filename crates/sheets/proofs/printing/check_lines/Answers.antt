-- `printing::check_lines` meets its contract. The invariant: the lines so far passed, and the rest decides.
use Prim.Native.Nat.{◌≤◌}
use mathlib.Core.Path.{◌≡◌, sym, ap, subst, ◌∙◌}
use mathlib.Core.List.{◌∷◌, []}
use native.Mathlib.Nat.{le_refl}
use native.Mathlib.Omega.{arith}
use lib.ListN.{length}
use Rattle.numerals.specs.Limits.{most_capacity}
use Rattle.numerals.proofs.Exits.{handed_on}
use Rattle.packing.specs.Count.{Line}
use Rattle.sheets.specs.Calls.{broken_from}
use Rattle.sheets.specs.Inner.TableNumbers.{line_at}
use Rattle.sheets.specs.Inner.Writing.{checked_from, checked_cells, Checking}
use Rattle.sheets.specs.declared.order.Last.{Last}
use Rattle.sheets.proofs.TableNumbers.{lines_more, lines_none}
use Rattle.sheets.proofs.NumbersText.{count-broken}
use Rattle.sheets.proofs.Checking.{none-checked, few-checked, too_few, all_sound, left_open}
use Rattle.sheets.proofs.printing.check_lines.Goals as goal
use Rattle.sheets.proofs.printing.check_lines.Goals.{After-loop-i, After-check_line}

pub loop-i-init : goal.loop-i-init
loop-i-init c = none-checked _ _

pub check_line-requires : goal.check_line-requires
check_line-requires c =
    let l = c.loop-i in
    let few : l.last.count ≤ most_capacity = omega (arith, few-checked _ _ _ _ _ l.invariant, c.loop-i-test.true, c.args.table.now.few) in
    few

-- what the check says of line i
checks-it :
    (c : After-check_line)
    → let r = c.check_line in
    Checking c.args.table.now.k c.loop-i.last (line_at c.args.table.now.cells.now c.loop-i.i) c.loop-i.tally r.result r.new.tally
checks-it c =
    let r = c.check_line in
    subst (λ (x : Line). Checking c.args.table.now.k c.loop-i.last x c.loop-i.tally r.result r.new.tally) c.at.ensures r.ensures

pub returns-in_err-last : goal.returns-in_err-last
returns-in_err-last c =
    let t = c.args.table.now.cells.now in
    let l = c.loop-i in
    let C = l.invariant in
    let h = c.loop-i-test.true in
    let checks = checks-it (goal.at.returns-in_err-last c).After-check_line in
    let line = rw c.in_err-last.was at (checks C.before C.behind) in
    rw (handed_on _ _ c.from_residual.ensures)
    (C.left ∙ ap (checked_from _ _ C.before) (lines_more t (length t) (le_refl _) l.i (omega (arith, h))) ∙ line _ _)

pub loop-i-preserved : goal.loop-i-preserved
loop-i-preserved c =
    let t = c.args.table.now.cells.now in
    let l = c.loop-i in
    let C = l.invariant in
    let h = c.loop-i-test.true in
    let checks = checks-it (goal.at.loop-i-preserved c).After-check_line in
    let line = rw c.in_ok-last.was at (checks C.before C.behind) in
    record {
      before = line_at t l.i ∷ C.before;
      passed = omega (arith, C.passed);
      behind = line.1;
      left = C.left ∙ ap (checked_from _ _ C.before) (lines_more t (length t) (le_refl _) l.i (omega (arith, h))) ∙ line.0 _ _;
    }

-- no line is left: what was kept of them decides
ends :
    (c : After-loop-i)
    → let t = c.args.table.now.cells.now in
    let k = c.args.table.now.k in
    let before = c.loop-i.invariant.before in
    checked_cells k t ≡ checked_from k (length (broken_from t)) before []
ends c =
    let t = c.args.table.now.cells.now in
    let C = c.loop-i.invariant in
    C.left ∙ ap (checked_from _ _ C.before) (lines_none t (length t) (le_refl _) c.loop-i.i (omega (arith, c.loop-i-test.false)))

pub returns-then-table-ne0 : goal.returns-then-table-ne0
returns-then-table-ne0 c =
    ends (goal.at.returns-then-table-ne0 c).After-loop-i ∙ too_few _ _ c.loop-i.invariant.before
    (λ e. c.if-table-ne0.true (omega (arith, count-broken c.args.table.now.cells.now)))

pub returns-then-last-eq0 : goal.returns-then-last-eq0
returns-then-last-eq0 c =
    let C = c.loop-i.invariant in
    ends (goal.at.returns-then-last-eq0 c).After-loop-i
    ∙ all_sound _ _ C.before (omega (arith, count-broken c.args.table.now.cells.now, c.if-table-ne0.false))
    (ap (λ (q : Last). q.len) (sym C.behind.is) ∙ c.if-last-eq0.true)

pub returns-else-last-eq0 : goal.returns-else-last-eq0
returns-else-last-eq0 c =
    let C = c.loop-i.invariant in
    ends (goal.at.returns-else-last-eq0 c).After-loop-i
    ∙ left_open _ _ C.before (omega (arith, count-broken c.args.table.now.cells.now, c.if-table-ne0.false))
    (λ e. c.if-last-eq0.false (ap (λ (q : Last). q.len) C.behind.is ∙ e))
