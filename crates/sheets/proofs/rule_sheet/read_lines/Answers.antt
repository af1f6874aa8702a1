-- `rule_sheet::read_lines` meets its contract. The invariant: the lines passed are kept, and what is left is read behind them.
use Rattle.std.specs.Prelude.{Err}
use Prim.Native.Nat.{ℕ, ◌+◌, ◌≤◌, ◌<◌}
use mathlib.Core.Path.{refl, sym, ap, ◌∙◌, ◌≡◌}
use mathlib.Core.List.{◌∷◌, []}
use native.Mathlib.Omega.{arith}
use lib.ListN.{length, length-drop}
use mir.Syntax.{w64}
use mir.Val.{Fits}
use borrow.Author.Tests.{eqb-true, eqb-false}
use Rattle.std.proofs.lemmas.List.{take_rest}
use Rattle.numerals.specs.Limits.{most_capacity}
use Rattle.numerals.specs.declared.refusal.Refusal.{Refusal}
use Rattle.numerals.specs.declared.refusal.Refusal.TheVariants.{Malformed}
use Rattle.sheets.specs.Reading.{Reading, refused}
use Rattle.sheets.specs.RuleSheet.{Table}
use Rattle.sheets.specs.Inner.TableReader.{sheet_answer}
use Rattle.sheets.proofs.Reader.{passed-few, passed-count, passed_none, next-none, next-cut, next-refused, next-got, refused-by, whole-filled}
use Rattle.sheets.proofs.rule_sheet.read_lines.Goals as goal
use Rattle.sheets.proofs.rule_sheet.read_lines.Goals.{At-loop-rest, After-find-end}

pub loop-rest-init : goal.loop-rest-init
loop-rest-init c = (omega arith, record { before = []; passed = passed_none _ _; whole = refl })

count : (c : At-loop-rest) → c.loop-rest.last.count ≤ most_capacity
count c = passed-few _ _ _ _ _ c.loop-rest.invariant.1.passed

few : (c : At-loop-rest) → Fits w64 (c.loop-rest.last.count + 2)
few c = omega (arith, count c)

pub overflow_add-last : goal.overflow_add-last
overflow_add-last c = few (goal.at.overflow_add-last c).At-loop-rest

-- a refusal at the line behind those
at :
    (why : Refusal) (c : At-loop-rest)
    → ◌≡◌ {A = Reading Table} (refused why (length c.loop-rest.invariant.1.before + 2)) (refused why (c.loop-rest.last.count + 2))
at why c = ap (λ (n : ℕ). refused why (n + 2)) (sym (passed-count _ _ _ _ _ c.loop-rest.invariant.1.passed))

-- a line is left
some : (c : After-find-end) → 0 < length c.loop-rest.rest.now
some c = omega (arith, eqb-false _ 0 (sym c.is_empty.ensures ∙ c.loop-rest-test.true))

pub returns-then-rest-end : goal.returns-then-rest-end
returns-then-rest-end c =
    let rest = c.loop-rest.rest.now in
    let r = c.loop-rest.invariant.1 in
    let e = r.whole ∙ next-cut c.args.head rest r.before _ c.find-end.ensures (some (goal.at.returns-then-rest-end c).After-find-end) c.if-rest-end.true
    ∙ at Malformed (goal.at.returns-then-rest-end c).At-loop-rest in
    let back = refused-by _ _ _ _ e in
    record {
      answer = ap Err c.refused_at.ensures ∙ back.0;
      buffer = back.1;
    }

pub slice_bounds-take_line-end : goal.slice_bounds-take_line-end
slice_bounds-take_line-end c = sym c.loop-rest.invariant.1.passed.behind.places

pub take_line-placed-requires : goal.take_line-placed-requires
take_line-placed-requires c =
    let r = c.loop-rest.invariant.1 in (r.before, r.passed)

pub overflow_add-last-in-Err : goal.overflow_add-last-in-Err
overflow_add-last-in-Err c = few (goal.at.overflow_add-last-in-Err c).At-loop-rest

pub returns-in-Err : goal.returns-in-Err
returns-in-Err c =
    let r = c.loop-rest.invariant.1 in
    let taken = rw c.in-Err.is at (c.take_line-placed.ensures r.before r.passed) in
    let e = r.whole ∙ next-refused c.args.head c.loop-rest.rest.now r.before _ c.find-end.ensures c.if-rest-end.false _ taken
    ∙ at _ (goal.at.returns-in-Err c).At-loop-rest in
    let back = refused-by _ _ _ _ e in
    record {
      answer = ap Err c.refused_at-in-Err.ensures ∙ back.0;
      buffer = back.1;
    }

pub loop-rest-smaller : goal.loop-rest-smaller
loop-rest-smaller c =
    let rest = c.loop-rest.rest.now in
    omega (arith, c.if-rest-end.false, ap length (take_rest rest (c.find-end.result + 1)), length-drop (c.find-end.result + 1) rest)

pub loop-rest-preserved : goal.loop-rest-preserved
loop-rest-preserved c =
    let rest = c.loop-rest.rest.now in
    let r = c.loop-rest.invariant.1 in
    let taken = rw c.in-Ok.is at (c.take_line-placed.ensures r.before r.passed) in
    let behind = take_rest rest (c.find-end.result + 1) in (
      omega (arith, ap length behind, length-drop (c.find-end.result + 1) rest),
      record {
        before = taken.0 ∷ r.before;
        passed = taken.1.1;
        whole = r.whole ∙ rw behind (next-got c.args.head rest r.before _ c.find-end.ensures c.if-rest-end.false _ taken.1.0);
      },
    )

pub finish-requires : goal.finish-requires
finish-requires c = count (goal.at.finish-requires c).At-loop-rest

pub returns : goal.returns
returns c =
    let r = c.loop-rest.invariant.1 in
    let none : length c.loop-rest.rest.now ≡ 0 = eqb-true _ 0 (sym c.is_empty.ensures ∙ c.loop-rest-test.false) in
    let e = r.whole ∙ next-none c.args.head c.loop-rest.rest.now r.before none in
    record {
      answer = c.finish.ensures r.before r.passed.behind.is ∙ ap sheet_answer (sym e);
      buffer = rw e (whole-filled _ _ _ r.passed.stored);
    }
