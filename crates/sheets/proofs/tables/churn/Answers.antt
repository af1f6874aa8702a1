-- `tables::churn` meets its contract: the refusal of a sheet, or what is found between the two tables.
use Rattle.std.specs.Prelude.{Err}
use mathlib.Core.Path.{◌≡◌, sym, ap, ◌∙◌}
use native.Mathlib.Omega.{arith}
use Rattle.numerals.proofs.Exits.{handed_on, had_ok, had_err}
use Rattle.std.proofs.Common.{rules}
use Rattle.sheets.specs.declared.answer.Refused.{Refused}
use Rattle.sheets.specs.Calls.{about, churn_answer}
use Rattle.sheets.proofs.HeldTables.{TableHeld, table-held, sheet-refused, in_memory, few-bits, few_held, found-there}
use Rattle.sheets.proofs.tables.churn.Goals as goal
use Rattle.sheets.proofs.tables.churn.Goals.{In_ok-a, In_ok-b}

-- the sheets were read
old-held :
    (c : In_ok-a)
    → TableHeld c.args.old.now c.in_ok-a.a
    c.read_sheet_lines.new.table
old-held c =
    let read = c.read_sheet_lines in
    table-held _ _ _ (omega arith) (sym (had_ok _ _ c.map_err.ensures.cases c.in_ok-a.was) ∙ read.ensures.answer) read.ensures.buffer

new-held :
    (c : In_ok-b)
    → TableHeld c.args.new.now
    c.in_ok-b.b c.read_sheet_lines-2.new.table
new-held c =
    let read = c.read_sheet_lines-2 in
    table-held _ _ _ (omega arith) (sym (had_ok _ _ c.map_err-2.ensures.cases c.in_ok-b.was) ∙ read.ensures.answer) read.ensures.buffer

pub returns-in_err-a : goal.returns-in_err-a
unfolding churn_answer
returns-in_err-a c =
    let w = had_err {E = Refused} {D = Refused} _ _ c.map_err.ensures.cases c.in_err-a.was in
    let q : c.in_err-a.field-0.0 ≡ about 1 w.0.why w.0.line = search rules in
    handed_on _ _ c.from_residual.ensures ∙ ap Err q ∙ sym (rw (sheet-refused _ _ (sym w.1 ∙ c.read_sheet_lines.ensures.answer)))

pub returns-in_err-b : goal.returns-in_err-b
unfolding churn_answer
returns-in_err-b c =
    let w = had_err {E = Refused} {D = Refused} _ _ c.map_err-2.ensures.cases c.in_err-b.was in
    let q : c.in_err-b.field-0.0 ≡ about 2 w.0.why w.0.line = search rules in
    handed_on _ _ c.from_residual-in_err-b.ensures
    ∙ ap Err q
    ∙ sym (rw (
      (old-held (goal.at.returns-in_err-b c).In_ok-a).read,
      sheet-refused _ _ (sym w.1 ∙ c.read_sheet_lines-2.ensures.answer),
    ))

pub invariant_of-old : goal.invariant_of-old
invariant_of-old c = record { ruled = (old-held (goal.at.invariant_of-old c).In_ok-a).ruled }

pub invariant_of-old-2 : goal.invariant_of-old-2
invariant_of-old-2 c =
    let h = old-held (goal.at.invariant_of-old-2 c).In_ok-a in
    record { few_bits = few-bits _ _ _ h; few = few_held _ _ _ h; found = found-there _ _ _ h }

pub invariant_of-new : goal.invariant_of-new
invariant_of-new c = record { ruled = (new-held (goal.at.invariant_of-new c).In_ok-b).ruled }

pub invariant_of-new-2 : goal.invariant_of-new-2
invariant_of-new-2 c =
    let h = new-held (goal.at.invariant_of-new-2 c).In_ok-b in
    record { few_bits = few-bits _ _ _ h; few = few_held _ _ _ h; found = found-there _ _ _ h }

pub returns : goal.returns
unfolding churn_answer
returns c =
    let old = old-held (goal.at.returns c).In_ok-a in
    let new = new-held (goal.at.returns c).In_ok-b in
    c.compare.ensures ∙ sym (rw (old.read, new.read, ← in_memory _ _ _ old, ← in_memory _ _ _ new))
