-- `printing::print` meets its contract: nothing is written where the text doesn't fit.
use mathlib.Core.Path.{sym, ◌∙◌}
use borrow.Author.Tests.{leb-true, leb-false}
use Rattle.sheets.proofs.Prints.{no_room, printed}
use Rattle.sheets.proofs.printing.print.Goals as goal

pub returns-then-not-fits : goal.returns-then-not-fits
returns-then-not-fits c =
    let none = no_room _ _ (leb-false _ _ (sym c.fits.ensures ∙ c.if-not-fits.true)) in
    rw c.refused_at.ensures (record { answer = none.0; buffer = none.1 })

pub put_table-requires : goal.put_table-requires
put_table-requires c =
    leb-true _ _ (sym c.fits.ensures ∙ c.if-not-fits.false)

pub returns : goal.returns
returns c =
    let all = printed _ _ _ _ (leb-true _ _ (sym c.fits.ensures ∙ c.if-not-fits.false)) c.put_table.ensures in
    record { answer = all.0; buffer = all.1 }
