-- `planning::plan` meets its contract: what the memory holds is packed.
use Rattle.std.specs.Prelude.{Err}
use Prim.Native.Nat.{◌≤◌}
use mathlib.Core.Path.{◌≡◌, sym, ap}
use native.Mathlib.Omega.{arith}
use lib.ListN.{length}
use lib.Seq.{length-take-le}
use Rattle.numerals.proofs.Exits.{handed_on}
use Rattle.sheets.specs.PercentageSheet.{read_sheet}
use Rattle.sheets.specs.Calls.{values_of, afterwards, is_plan, plan_answer, figures_for, cells_for}
use Rattle.sheets.specs.Inner.SheetReader.{SheetHeld}
use Rattle.sheets.proofs.Reader.{about-none}
use Rattle.sheets.proofs.Packable.{held-figures, held-cells, plan_from, plan-made, plan-buffer}
use Rattle.sheets.proofs.planning.plan.Goals as goal
use Rattle.sheets.proofs.planning.plan.Goals.{After-pack, In_ok-sheet}

held :
    (c : In_ok-sheet)
    → let l = c.read_sheet.new in
    SheetHeld (read_sheet c.args.text.now)
    l.volumes l.sizes l.ids l.weights c.in_ok-sheet.sheet.head c.in_ok-sheet.sheet.services c.in_ok-sheet.sheet.row
held c = rw c.in_ok-sheet.was at c.read_sheet.ensures

-- the arrays are long enough
room-volumes : (c : In_ok-sheet) → c.in_ok-sheet.sheet.services ≤ length c.read_sheet.new.volumes
room-volumes c = omega (arith, (held c).holds.few, c.read_sheet.auto.volumes)

room-sizes : (c : In_ok-sheet) → c.in_ok-sheet.sheet.services ≤ length c.read_sheet.new.sizes
room-sizes c = omega (arith, (held c).holds.few, c.read_sheet.auto.sizes)

room-ids : (c : In_ok-sheet) → c.in_ok-sheet.sheet.row ≤ length c.read_sheet.new.ids
room-ids c = omega (arith, (held c).holds.few, (held c).holds.short, c.read_sheet.auto.ids)

room-weights : (c : In_ok-sheet) → c.in_ok-sheet.sheet.row ≤ length c.read_sheet.new.weights
room-weights c = omega (arith, (held c).holds.few, (held c).holds.short, c.read_sheet.auto.weights)

pub slice_bounds-volumes-end : goal.slice_bounds-volumes-end
slice_bounds-volumes-end c = room-volumes c

pub slice_bounds-pack-end : goal.slice_bounds-pack-end
slice_bounds-pack-end c = sym (length-take-le _ _ (room-volumes (goal.at.slice_bounds-pack-end c).In_ok-sheet))

pub slice_bounds-sizes-end : goal.slice_bounds-sizes-end
slice_bounds-sizes-end c = room-sizes (goal.at.slice_bounds-sizes-end c).In_ok-sheet

pub slice_bounds-pack-end-2 : goal.slice_bounds-pack-end-2
slice_bounds-pack-end-2 c = sym (length-take-le _ _ (room-sizes (goal.at.slice_bounds-pack-end-2 c).In_ok-sheet))

pub slice_bounds-ids-end : goal.slice_bounds-ids-end
slice_bounds-ids-end c = room-ids (goal.at.slice_bounds-ids-end c).In_ok-sheet

pub slice_bounds-pack-end-3 : goal.slice_bounds-pack-end-3
slice_bounds-pack-end-3 c = sym (length-take-le _ _ (room-ids (goal.at.slice_bounds-pack-end-3 c).In_ok-sheet))

pub slice_bounds-weights-end : goal.slice_bounds-weights-end
slice_bounds-weights-end c = room-weights (goal.at.slice_bounds-weights-end c).In_ok-sheet

pub slice_bounds-pack-end-4 : goal.slice_bounds-pack-end-4
slice_bounds-pack-end-4 c = sym (length-take-le _ _ (room-weights (goal.at.slice_bounds-pack-end-4 c).In_ok-sheet))

pub returns-in_err-sheet : goal.returns-in_err-sheet
unfolding plan_answer
returns-in_err-sheet c =
    let no = rw c.in_err-sheet.was at c.read_sheet.ensures in
    let e = handed_on _ _ c.from_residual.ensures in
    record {
      answer = rw e (rw no.0 (ap Err (sym (about-none _ no.1))));
      figures = rw e;
      table = rw e;
    }

-- the answer and the buffers, from the packing's
packed :
    (c : After-pack)
    → let a = c.args in
    let r = plan_from c.in_ok-sheet.sheet.head.k c.in_ok-sheet.sheet.services c.pack.result in
    let l = c.pack.new in
    (r ≡ plan_answer a.text.now (length a.figures.now) (length a.table.now))
    × ((l.figures ≡ afterwards (is_plan r) a.figures.now (values_of (read_sheet a.text.now) figures_for))
    × (l.table ≡ afterwards (is_plan r) a.table.now (values_of (read_sheet a.text.now) cells_for)))
packed c =
    let a = c.args in
    let text = a.text.now in
    let p = c.pack.result in (
      plan-made text (held (goal.at.After-pack c).In_ok-sheet) p (length a.figures.now) (length a.table.now) c.pack.ensures.answer,
      (
        plan-buffer text (held (goal.at.After-pack c).In_ok-sheet) p figures_for _ a.figures.now _
            (held-figures text (held (goal.at.After-pack c).In_ok-sheet)) c.pack.ensures.figures,
        plan-buffer text (held (goal.at.After-pack c).In_ok-sheet) p cells_for _ a.table.now _
            (held-cells text (held (goal.at.After-pack c).In_ok-sheet)) c.pack.ensures.table,
      ),
    )

pub returns-in_err-packed : goal.returns-in_err-packed
returns-in_err-packed c =
    let p = packed (goal.at.returns-in_err-packed c).After-pack in
    let e = handed_on _ _ c.from_residual-in_err-packed.ensures in
    let w = rw c.in_err-packed.was at p in
    record { answer = rw e w.0; figures = rw e w.1.0; table = rw e w.1.1 }

pub returns : goal.returns
returns c =
    let p = packed (goal.at.returns c).After-pack in
    let w = rw c.in_ok-packed.was at p in
    record { answer = w.0; figures = w.1.0; table = w.1.1 }
