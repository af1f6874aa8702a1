-- `printing::check_table` meets its contract: one check after the other, in the order of the sheet.
use Prim.Native.Nat.{◌+◌, ◌/◌, ◌≤◌}
use mathlib.Core.Path.{◌≡◌, sym, ◌∙◌}
use native.Mathlib.Omega.{arith}
use lib.ListN.{length}
use borrow.Author.Tests.{lt-leb}
use Rattle.numerals.specs.Limits.{most_bits, most_capacity, text_limit, total_limit}
use Rattle.expansion.specs.Answer.{in_limits}
use Rattle.sheets.specs.Calls.{handed_text}
use Rattle.sheets.proofs.TableChecks.{contains-is}
use Rattle.sheets.proofs.TableHanded.{handed-long, handed-bits, handed-count, handed-total, handed-lines}
use Rattle.sheets.proofs.printing.check_table.Goals as goal
use Rattle.sheets.proofs.printing.check_table.Goals.{After-contains, After-contains-2, Else-text_width-gt-TEXT_LIMIT}

short : (c : Else-text_width-gt-TEXT_LIMIT) → let a = c.args in length (handed_text a.k a.total a.table.now) ≤ text_limit
unfolding text_limit
short c =
    let a = c.args in
    omega (arith, c.if-text_width-gt-TEXT_LIMIT.false, c.text_width.ensures)

pub returns-then-text_width-gt-TEXT_LIMIT : goal.returns-then-text_width-gt-TEXT_LIMIT
unfolding text_limit
returns-then-text_width-gt-TEXT_LIMIT c =
    let a = c.args in
    handed-long _ _ _ (omega (arith, c.if-text_width-gt-TEXT_LIMIT.true, c.text_width.ensures))

-- what is tested of k, and then of the number of lines
bits : (c : After-contains) → in_limits 1 most_bits c.args.k ≡ c.contains.result
bits c = let r = c.new.ensures in sym (rw (r.start, r.end, r.exhausted) at c.contains.ensures.value ∙ contains-is 1 most_bits c.args.k)

count : (c : After-contains-2) → in_limits 1 most_capacity ((length c.args.table.now + 3) / 4) ≡ c.contains-2.result
count c =
    let r = c.new-2.ensures in
    let n : c.div_ceil-n.result ≡ (length c.args.table.now + 3) / 4 = omega (arith, c.div_ceil-n.ensures) in
    sym (rw (r.start, r.end, r.exhausted, n) at c.contains-2.ensures.value ∙ contains-is 1 most_capacity ((length c.args.table.now + 3) / 4))

pub returns-then-not-contains : goal.returns-then-not-contains
returns-then-not-contains c =
    let g = goal.at.returns-then-not-contains c in
    handed-bits _ _ _ (short g.Else-text_width-gt-TEXT_LIMIT) (bits g.After-contains ∙ c.if-not-contains.true)

pub returns-then-not-contains-2 : goal.returns-then-not-contains-2
returns-then-not-contains-2 c =
    let g = goal.at.returns-then-not-contains-2 c in
    handed-count _ _ _ (short g.Else-text_width-gt-TEXT_LIMIT) (bits g.After-contains ∙ c.if-not-contains.false)
    (count g.After-contains-2 ∙ c.if-not-contains-2.true)

pub returns-then-total-gt-TOTAL_LIMIT : goal.returns-then-total-gt-TOTAL_LIMIT
unfolding total_limit
returns-then-total-gt-TOTAL_LIMIT c =
    let g = goal.at.returns-then-total-gt-TOTAL_LIMIT c in
    handed-total _ _ _ (short g.Else-text_width-gt-TEXT_LIMIT) (bits g.After-contains ∙ c.if-not-contains.false)
    (count g.After-contains-2 ∙ c.if-not-contains-2.false)
    (lt-leb c.args.total total_limit (omega (arith, c.if-total-gt-TOTAL_LIMIT.true)))

pub returns : goal.returns
unfolding total_limit
returns c =
    let g = goal.at.returns c in
    handed-lines _ _ _ (short g.Else-text_width-gt-TEXT_LIMIT) (bits g.After-contains ∙ c.if-not-contains.false)
    (count g.After-contains-2 ∙ c.if-not-contains-2.false)
    (omega (arith, c.if-total-gt-TOTAL_LIMIT.false)) c.check_lines.result c.check_lines.ensures
