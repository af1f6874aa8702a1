-- `update_read::read_second` meets its contract: what the memory holds of the percentage sheet is selected from.
use Rattle.std.specs.Prelude.{Err}
use Prim.Native.Nat.{◌≤◌}
use mathlib.Core.Path.{◌≡◌, sym, ap, ◌∙◌}
use native.Mathlib.Omega.{arith}
use lib.ListN.{length}
use lib.Seq.{length-take-le}
use Rattle.numerals.proofs.Exits.{handed_on, had_ok, had_err}
use Rattle.std.proofs.Common.{rules}
use Rattle.sheets.specs.declared.answer.Refused.{Refused}
use Rattle.sheets.specs.PercentageSheet.{read_sheet}
use Rattle.sheets.specs.Calls.{about, afterwards}
use Rattle.sheets.specs.Update.{is_read}
use Rattle.sheets.specs.Inner.SheetReader.{SheetHeld}
use Rattle.sheets.specs.Inner.HeldTable.{table_of}
use Rattle.sheets.proofs.Judging.{held-named, held-sum, held-few, held_update, held-new-ids, held_new}
use Rattle.sheets.proofs.update_read.read_second.Goals as goal
use Rattle.sheets.proofs.update_read.read_second.Goals.{In_ok-read}

held :
    (c : In_ok-read)
    → let n = c.read_sheet.new in
    SheetHeld (read_sheet c.args.sheet.now)
    n.volumes n.sizes n.ids n.weights c.in_ok-read.read.head c.in_ok-read.read.services c.in_ok-read.read.row
held c = rw (had_ok _ c.read_sheet.result c.map_err.ensures.cases c.in_ok-read.was) at c.read_sheet.ensures

-- the arrays are long enough
room-sizes : (c : In_ok-read) → c.in_ok-read.read.services ≤ length c.read_sheet.new.sizes
room-sizes c = omega (arith, (held c).holds.few)

room-named : (c : In_ok-read) → c.in_ok-read.read.row ≤ length c.read_sheet.new.ids
room-named c = omega (arith, (held c).holds.few, (held c).holds.short)

room-all : (c : In_ok-read) → c.in_ok-read.read.row ≤ length c.read_sheet.new.weights
room-all c = omega (arith, (held c).holds.few, (held c).holds.short)

pub slice_bounds-sizes-end : goal.slice_bounds-sizes-end
slice_bounds-sizes-end c = room-sizes (goal.at.slice_bounds-sizes-end c).In_ok-read

pub slice_bounds-new-end : goal.slice_bounds-new-end
slice_bounds-new-end c = sym (length-take-le _ _ (room-sizes (goal.at.slice_bounds-new-end c).In_ok-read))

pub slice_bounds-named-end : goal.slice_bounds-named-end
slice_bounds-named-end c = room-named (goal.at.slice_bounds-named-end c).In_ok-read

pub slice_bounds-new-end-2 : goal.slice_bounds-new-end-2
slice_bounds-new-end-2 c = sym (length-take-le _ _ (room-named (goal.at.slice_bounds-new-end-2 c).In_ok-read))

pub slice_bounds-all-end : goal.slice_bounds-all-end
slice_bounds-all-end c = room-all (goal.at.slice_bounds-all-end c).In_ok-read

pub slice_bounds-new-end-3 : goal.slice_bounds-new-end-3
slice_bounds-new-end-3 c = sym (length-take-le _ _ (room-all (goal.at.slice_bounds-new-end-3 c).In_ok-read))

pub invariant_of-new : goal.invariant_of-new
invariant_of-new c =
    let h = held (goal.at.invariant_of-new c).In_ok-read in
    record { named = held-named _ h; weighed = held-sum _ h; few = held-few _ h }

pub returns-in_err-read : goal.returns-in_err-read
returns-in_err-read c =
    let w = had_err {E = Refused} {D = Refused} _ c.read_sheet.result c.map_err.ensures.cases c.in_err-read.was in
    let q : c.in_err-read.field-0.0 ≡ about 2 w.0.why w.0.line = search rules in
    let no = rw w.1 at c.read_sheet.ensures in
    let e = handed_on _ _ c.from_residual.ensures in
    record {
      answer = e ∙ rw no.0 (ap Err q);
      rules = rw e;
      ids = rw e;
      weights = rw e;
    }

pub returns : goal.returns
returns c =
    let a = c.args in
    let r = c.select in
    let e = r.ensures in
    record {
      answer = e.answer
          ∙ held_update _ (held (goal.at.returns c).In_ok-read) (table_of a.table.now) a.service (length a.rules.now) (length a.ids.now)
          (length a.weights.now);
      rules = e.rules;
      ids = e.ids ∙ ap (afterwards (is_read r.result) a.ids.now) (held-new-ids _ (held (goal.at.returns c).In_ok-read) a.service);
      weights = e.weights ∙ ap (afterwards (is_read r.result) a.weights.now) (held_new _ (held (goal.at.returns c).In_ok-read) a.service);
    }
