-- `fields::field_at` meets its contract: the first field of what the line has from that field on.
use mathlib.Core.Path.{sym}
use native.Mathlib.Omega.{arith}
use lib.ListN.{length, length-take, get_or-eq_default}
use lib.Seq.{take-nil}
use Rattle.numerals.specs.Text.{split}
use Rattle.numerals.proofs.Choice.{by_less}
use Rattle.numerals.proofs.Fields.{index-le}
use Rattle.sheets.proofs.FieldParts.{found-whole, field-here}
use Rattle.sheets.proofs.fields.field_at.Goals as goal

pub slice_bounds-result-end : goal.slice_bounds-result-end
slice_bounds-result-end c =
    let rest = c.rest_after-rest.result.now in
    omega (arith, found-whole 32 c.find-end.result rest c.find-end.ensures, index-le 32 rest, length-take c.find-end.result rest)

pub returns : goal.returns
returns c =
    let a = c.args in
    let fs = split 32 a.line.now in
    let rest = c.rest_after-rest in
    by_less a.n (length fs)
    (λ h. field-here 32 c.find-end.result a.n rest.result.now fs c.find-end.ensures (rest.ensures.rest h))
    (λ h. rw (rest.ensures.none h, take-nil) (sym (get_or-eq_default fs _ h)))
