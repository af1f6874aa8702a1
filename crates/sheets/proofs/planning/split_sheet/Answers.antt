-- `planning::split_sheet` meets its contract: the plan's table is printed; its buffers are long enough; demand 3 holds of what is printed, and what is
-- promised of four-place percentages.
use mathlib.Core.Path.{refl, sym, ◌∙◌}
use Rattle.numerals.proofs.Exits.{handed_on}
use Rattle.sheets.proofs.FourPlaces.{four-places}
use Rattle.sheets.proofs.OneCall.{Left, plan-left, plan-refused, sheet-printed}
use Rattle.sheets.proofs.planning.split_sheet.Goals as goal
use Rattle.sheets.proofs.planning.split_sheet.Goals.{In_ok-p}

-- the table that was planned
left :
    (c : In_ok-p)
    → Left c.args.text.now c.in_ok-p.p
    c.plan.new.table
left c =
    let e = c.plan.ensures in
    plan-left _ _ _ _ _ refl e.answer c.in_ok-p.was e.table

pub invariant_of-table : goal.invariant_of-table
invariant_of-table c = record { ruled = (left (goal.at.invariant_of-table c).In_ok-p).ruled }

pub invariant_of-table-2 : goal.invariant_of-table-2
invariant_of-table-2 c =
    let L = left (goal.at.invariant_of-table-2 c).In_ok-p in
    record { few_bits = L.few_bits; few = L.few; found = L.found }

pub returns : goal.returns
returns c =
    let L = left (goal.at.returns c).In_ok-p in
    let p = c.print.ensures in
    let all = sheet-printed _ L.sheet _ L.read L.table _ _ _ (p.answer, p.buffer) in
    record { answer = all.0; buffer = all.1.0; demand = all.1.1.0; four_places = all.1.1.1 }

pub returns-in_err-p : goal.returns-in_err-p
returns-in_err-p c =
    let e = handed_on _ _ c.from_residual.ensures in
    let answered = e ∙ plan-refused _ _ (sym c.plan.ensures.answer ∙ c.in_err-p.was) _ in
    record {
      answer = answered;
      buffer = rw e;
      demand = rw e tt;
      four_places = four-places _ _ _ _ answered (rw e);
    }
