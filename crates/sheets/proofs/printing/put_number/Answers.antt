-- `printing::put_number` meets its contract: the number, since it fits, and the separator behind it.
use Rattle.sheets.proofs.Writes.{chain, text, before-end}
use Rattle.sheets.proofs.printing.put_number.Goals as goal

pub separate-requires : goal.separate-requires
separate-requires c =
    let w = c.write_number-written in
    before-end _ _ _ c.requires _ _ w.ensures.answer w.ensures.buffer

pub returns : goal.returns
returns c =
    let w = c.write_number-written in
    chain (text _ _ _ c.requires _ _ w.ensures.answer w.ensures.buffer) c.separate.ensures
