-- `tables::read_table` meets its contract: the table that was read, copied where there is room.
use Rattle.std.specs.Prelude.{Err}
use Prim.Native.Nat.{◌*◌}
use mathlib.Core.Path.{◌≡◌, refl, sym, ap, ◌∙◌}
use native.Mathlib.Omega.{arith}
use lib.ListN.{length, take}
use lib.Seq.{sets, length-take-le}
use Rattle.packing.specs.Answer.{cells}
use Rattle.numerals.proofs.Exits.{handed_on}
use Rattle.sheets.specs.Reading.{Reading}
use Rattle.sheets.specs.RuleSheet.{Table}
use Rattle.sheets.specs.Calls.{values_of, read_answer}
use Rattle.sheets.proofs.Copies.{copied}
use Rattle.sheets.proofs.HeldTables.{TableHeld, table-held, refused-answer, read_made, read_short}
use Rattle.sheets.proofs.tables.read_table.Goals as goal
use Rattle.sheets.proofs.tables.read_table.Goals.{In_ok-head}

-- the sheet was read
has :
    (c : In_ok-head)
    → TableHeld c.args.text.now c.in_ok-head.head
    c.read_sheet_lines.new.table
has c =
    let read = c.read_sheet_lines in
    table-held _ _ _ (omega arith) (sym c.in_ok-head.was ∙ read.ensures.answer) read.ensures.buffer

pub overflow_mul-n : goal.overflow_mul-n
overflow_mul-n c = omega (arith, (has (goal.at.overflow_mul-n c).In_ok-head).ruled.room)

pub returns-then-table-n : goal.returns-then-table-n
returns-then-table-n c =
    record {
      answer = rw c.refused_at.ensures (read_short _ _ _ (has (goal.at.returns-then-table-n c).In_ok-head) _ c.if-table-n.true);
      buffer = refl;
    }

-- so many numbers were read
long :
    (c : In_ok-head)
    → let n = 4 * c.in_ok-head.head.n in
    length (take n c.read_sheet_lines.new.table) ≡ n
long c = length-take-le _ _ (has c).ruled.room

pub slice_bounds-lines-end : goal.slice_bounds-lines-end
slice_bounds-lines-end c = (has (goal.at.slice_bounds-lines-end c).In_ok-head).ruled.room

pub slice_bounds-copy_from_slice-end-2 : goal.slice_bounds-copy_from_slice-end-2
slice_bounds-copy_from_slice-end-2 c = sym (length-take-le _ _ c.if-table-n.false)

pub slice_bounds-copy_from_slice-end-3 : goal.slice_bounds-copy_from_slice-end-3
slice_bounds-copy_from_slice-end-3 c = sym (long (goal.at.slice_bounds-copy_from_slice-end-3 c).In_ok-head)

pub copy_from_slice-requires : goal.copy_from_slice-requires
copy_from_slice-requires c =
    length-take-le _ _ c.if-table-n.false ∙ sym (long (goal.at.copy_from_slice-requires c).In_ok-head)

pub returns-in_err-head : goal.returns-in_err-head
unfolding read_answer
returns-in_err-head c =
    let read = c.read_sheet_lines in
    let e = handed_on _ _ c.from_residual.ensures in
    record {
      answer = e ∙ refused-answer Err _ _ _ (sym c.in_err-head.was ∙ read.ensures.answer);
      buffer = rw e;
    }

pub returns : goal.returns
returns c =
    let h = has (goal.at.returns c).In_ok-head in
    record {
      answer = read_made _ _ _ h _ c.if-table-n.false;
      buffer = rw c.copy_from_slice.ensures.after
          (copied c.args.table.now _ _ (long (goal.at.returns c).In_ok-head) c.if-table-n.false)
          ∙ ap (sets c.args.table.now 0)
          (h.stored ∙ sym (ap (λ (r : Reading Table). values_of r (λ t. cells t.lines)) h.read));
    }
