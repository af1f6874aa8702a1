-- `tables::lookup` meets its contract: the first match of the table that was read.
use Rattle.std.specs.Prelude.{Err, Ok}
use Prim.Native.Nat.{ℕ, ◌<◌}
use mathlib.Core.Path.{◌≡◌, sym, ap, ◌∙◌}
use mathlib.Core.List.{List}
use native.Mathlib.Omega.{arith}
use lib.Dec.{ltb}
use borrow.Author.Tests.{lt-ltb}
use Rattle.numerals.specs.Pick.{pick}
use Rattle.numerals.specs.declared.refusal.Refusal.TheVariants.{UnknownService}
use Rattle.expansion.specs.FirstMatch.{first_match}
use Rattle.packing.specs.Count.{Line, own_rules}
use Rattle.numerals.proofs.Exits.{handed_on}
use Rattle.sheets.specs.Reading.{Reading}
use Rattle.sheets.specs.RuleSheet.{Table}
use Rattle.sheets.specs.Calls.{refused_at, answered, lookup_in, lookup_answer}
use Rattle.sheets.proofs.FirstMatch.{by-match}
use Rattle.sheets.proofs.HeldTables.{TableHeld, table-held, refused-answer}
use Rattle.sheets.proofs.tables.lookup.Goals as goal
use Rattle.sheets.proofs.tables.lookup.Goals.{After-first_backend-b, In_ok-head}

-- the sheet was read
has :
    (c : In_ok-head)
    → TableHeld c.args.text.now c.in_ok-head.head
    c.read_sheet_lines.new.table
has c =
    let read = c.read_sheet_lines in
    table-held _ _ _ (omega arith) (sym c.in_ok-head.was ∙ read.ensures.answer) read.ensures.buffer

-- and gives the service's first match
gives :
    (c : After-first_backend-b)
    → let a = c.args in
    lookup_answer a.text.now a.service a.address
    ≡ pick (ltb 0 c.first_backend-b.result) (Ok c.first_backend-b.result) (Err (refused_at UnknownService 0))
unfolding lookup_answer
gives c =
    let a = c.args in
    let h = has (goal.at.After-first_backend-b c).In_ok-head in
    ap (λ (r : Reading Table). answered Err 0 r (λ t. lookup_in t a.service a.address)) h.read
    ∙ by-match h.table h.proper a.service a.address
    ∙ ap (λ (r : ℕ). pick (ltb 0 r) (Ok r) (Err (refused_at UnknownService 0)))
    (ap (λ (ls : List Line). first_match (own_rules a.service ls) a.address) (sym h.lines) ∙ sym c.first_backend-b.ensures)

pub invariant_of-lines : goal.invariant_of-lines
invariant_of-lines c = record { ruled = (has (goal.at.invariant_of-lines c).In_ok-head).ruled }

pub returns-then-b-eq0 : goal.returns-then-b-eq0
returns-then-b-eq0 c = ap Err c.refused_at.ensures ∙ sym (gives (goal.at.returns-then-b-eq0 c).After-first_backend-b ∙ rw c.if-b-eq0.true)

pub returns-in_err-head : goal.returns-in_err-head
unfolding lookup_answer
returns-in_err-head c =
    let read = c.read_sheet_lines in
    handed_on _ _ c.from_residual.ensures ∙ refused-answer Err _ _ _ (sym c.in_err-head.was ∙ read.ensures.answer)

pub returns : goal.returns
returns c =
    let some : 0 < c.first_backend-b.result = omega (arith, c.if-b-eq0.false) in
    sym (gives (goal.at.returns c).After-first_backend-b ∙ rw (lt-ltb 0 _ some))
