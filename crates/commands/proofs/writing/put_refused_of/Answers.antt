-- `writing::put_refused_of` meets its contract: the refusal, and the sheet behind it.
use native.Mathlib.Omega.{arith}
use Rattle.sheets.proofs.Writes.{chain, same_length}
use Rattle.commands.proofs.Refusals.{parts-of}
use Rattle.commands.proofs.writing.put_refused_of.Goals as goal

pub put_number-requires : goal.put_number-requires
put_number-requires c =
    let w = c.put_refusal-at.ensures in
    omega (arith, c.requires, w.end, same_length w.text)

pub returns : goal.returns
returns c =
    let a = c.args in
    let w = c.put_refusal-at.ensures in
    rw (← parts-of a.r) (chain w.text c.put_number.ensures.text)
