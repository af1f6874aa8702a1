-- `printing::write_table` meets its contract: a table that passes is printed, any other is refused.
use mathlib.Core.Path.{◌≡◌}
use Rattle.numerals.proofs.Exits.{handed_on}
use Rattle.sheets.specs.Reading.{got}
use Rattle.sheets.specs.Calls as calls
use Rattle.sheets.specs.Inner.Writing.{handed}
use Rattle.sheets.proofs.TableHanded.{accepted}
use Rattle.sheets.proofs.printing.write_table.Goals as goal
use Rattle.sheets.proofs.printing.write_table.Goals.{In_ok-check_table}

pub returns-in_err-check_table : goal.returns-in_err-check_table
returns-in_err-check_table c =
    let e = rw c.in_err-check_table.was at c.check_table.ensures in
    let x = handed_on _ _ c.from_residual.ensures in
    record { answer = rw (x, e); buffer = rw x }

-- the table passed
passed :
    (c : In_ok-check_table)
    → let a = c.args in
    calls.table_handed a.k a.total a.table.now ≡ got (handed a.k a.total a.table.now)
passed c = rw c.in_ok-check_table.was at c.check_table.ensures

pub invariant_of-table : goal.invariant_of-table
invariant_of-table c = record { ruled = (accepted _ _ _ _ (passed (goal.at.invariant_of-table c).In_ok-check_table)).ruled }

pub invariant_of-table-2 : goal.invariant_of-table-2
invariant_of-table-2 c =
    let A = accepted _ _ _ _ (passed (goal.at.invariant_of-table-2 c).In_ok-check_table) in
    record { few_bits = A.few_bits; few = A.few; found = A.found }

pub returns : goal.returns
returns c =
    let p = c.print.ensures in
    let e = passed (goal.at.returns c).In_ok-check_table in
    let A = accepted _ _ _ _ e in
    record {
      answer = rw (e, ← A.table) p.answer;
      buffer = rw (e, ← A.table) p.buffer;
    }
