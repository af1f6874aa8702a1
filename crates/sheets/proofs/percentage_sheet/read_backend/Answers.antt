-- `percentage_sheet::read_backend` meets its contract: the field is cut at the colon that was found, and each part is read.
use Rattle.std.specs.Prelude.{Some}
use Prim.Native.Nat.{◌+◌}
use mathlib.Core.Path.{◌≡◌, sym, ◌∙◌}
use lib.ListN.{take}
use Rattle.numerals.specs.Decimal.{number}
use Rattle.numerals.specs.Limits.{most_id}
use Rattle.sheets.proofs.BackendFields.{field-none, field-no-id, field-no-weight, field-got}
use Rattle.sheets.proofs.percentage_sheet.read_backend.Goals as goal
use Rattle.sheets.proofs.percentage_sheet.read_backend.Goals.{In_ok-id}

pub returns-then-field-colon : goal.returns-then-field-colon
returns-then-field-colon c =
    let a = c.args in
    field-none c.find-colon.result a.field.now c.find-colon.ensures a.before c.if-field-colon.true

pub returns-in_err-id : goal.returns-in_err-id
returns-in_err-id c =
    let f = c.find-colon in
    let a = c.args in
    rw c.from_residual.ensures
    (field-no-id f.result a.field.now f.ensures a.before c.if-field-colon.false
    (sym c.read_number.ensures ∙ c.in_err-id.was))

-- the id that was read
named :
    (c : In_ok-id)
    → let a = c.args in
    number (a.before + 1) most_id (take c.find-colon.result a.field.now) ≡ Some c.in_ok-id.id
named c = sym c.read_number.ensures ∙ c.in_ok-id.was

pub returns-in_err-weight : goal.returns-in_err-weight
returns-in_err-weight c =
    let f = c.find-colon in
    let a = c.args in
    rw c.from_residual-in_err-weight.ensures
    (field-no-weight f.result a.field.now f.ensures a.before c.if-field-colon.false _
    (named (goal.at.returns-in_err-weight c).In_ok-id)
    (sym c.read_percentage.ensures ∙ c.in_err-weight.was))

pub returns : goal.returns
returns c =
    let f = c.find-colon in
    let a = c.args in
    field-got f.result a.field.now f.ensures a.before c.if-field-colon.false _ _ (named (goal.at.returns c).In_ok-id)
    (sym c.read_percentage.ensures ∙ c.in_ok-weight.was)
