-- `printing::fits` meets its contract: a text of at most 65,536 bytes fits where there is room for that.
use mathlib.Core.Path.{sym, ap, ◌∙◌}
use native.Mathlib.Omega.{arith}
use lib.Dec.{leb}
use lib.ListN.{length}
use borrow.Author.Tests.{le-leb}
use Rattle.numerals.specs.Limits.{text_limit}
use Rattle.sheets.specs.RuleSheet.{table_text}
use Rattle.sheets.specs.Inner.HeldTable.{table_of}
use Rattle.sheets.proofs.NumbersText.{table-short, table_counted}
use Rattle.sheets.proofs.printing.fits.Goals as goal

pub returns-then-room-ge-TEXT_LIMIT : goal.returns-then-room-ge-TEXT_LIMIT
unfolding text_limit
returns-then-room-ge-TEXT_LIMIT c =
    let t = c.args.table.now in
    let short = table-short t.lines.cells.now t.lines.n t.lines.ruled t.k t.total t.few (omega arith) (omega arith) in
    sym (le-leb (length (table_text (table_of t))) c.args.room (omega (arith, c.if-room-ge-TEXT_LIMIT.true, short)))

pub returns : goal.returns
returns c =
    let t = c.args.table.now in
    ap (λ (w : _). leb w c.args.room)
    (c.text_width.ensures
    ∙ table_counted t.lines.cells.now t.lines.n t.lines.ruled t.k t.total t.few (omega arith) (omega arith))
