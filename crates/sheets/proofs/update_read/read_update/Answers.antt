-- `update_read::read_update` meets its contract: the refusal of the rule sheet, or what the second sheet comes to beside its table.
use Rattle.std.specs.Prelude.{Err}
use mathlib.Core.Path.{◌≡◌, sym, ap, ◌∙◌}
use native.Mathlib.Omega.{arith}
use lib.ListN.{length}
use Rattle.numerals.proofs.Exits.{handed_on, had_ok, had_err}
use Rattle.std.proofs.Common.{rules}
use Rattle.sheets.specs.declared.answer.Refused.{Refused}
use Rattle.sheets.specs.Calls.{about, afterwards}
use Rattle.sheets.specs.Update.{update_read_answer, is_read}
use Rattle.sheets.proofs.HeldTables.{TableHeld, table-held, sheet-refused, few-bits, few_held, found-there}
use Rattle.sheets.proofs.Judging.{held-answer, held-rules}
use Rattle.sheets.proofs.update_read.read_update.Goals as goal
use Rattle.sheets.proofs.update_read.read_update.Goals.{In_ok-head}

-- the rule sheet was read
has :
    (c : In_ok-head)
    → TableHeld c.args.old.now c.in_ok-head.head c.read_sheet_lines.new.table
has c =
    let read = c.read_sheet_lines in
    table-held _ _ _ (omega arith) (sym (had_ok _ _ c.map_err.ensures.cases c.in_ok-head.was) ∙ read.ensures.answer) read.ensures.buffer

pub invariant_of-table : goal.invariant_of-table
invariant_of-table c = record { ruled = (has (goal.at.invariant_of-table c).In_ok-head).ruled }

pub invariant_of-table-2 : goal.invariant_of-table-2
invariant_of-table-2 c =
    let h = has (goal.at.invariant_of-table-2 c).In_ok-head in
    record { few_bits = few-bits _ _ _ h; few = few_held _ _ _ h; found = found-there _ _ _ h }

pub returns-in_err-head : goal.returns-in_err-head
unfolding update_read_answer
returns-in_err-head c =
    let w = had_err {E = Refused} {D = Refused} _ _ c.map_err.ensures.cases c.in_err-head.was in
    let q : c.in_err-head.field-0.0 ≡ about 1 w.0.why w.0.line = search rules in
    let no = sheet-refused _ _ (sym w.1 ∙ c.read_sheet_lines.ensures.answer) in
    let e = handed_on _ _ c.from_residual.ensures in
    record {
      answer = e ∙ ap Err q ∙ sym (rw no);
      rules = rw e;
      ids = rw e;
      weights = rw e;
    }

pub returns : goal.returns
returns c =
    let a = c.args in
    let r = c.read_second in
    let e = r.ensures in
    record {
      answer = e.answer
          ∙ held-answer _ _ _ (has (goal.at.returns c).In_ok-head) a.service a.sheet.now (length a.rules.now) (length a.ids.now) (length a.weights.now);
      rules = e.rules ∙ ap (afterwards (is_read r.result) a.rules.now) (held-rules _ _ _ (has (goal.at.returns c).In_ok-head) a.service);
      ids = e.ids;
      weights = e.weights;
    }
