-- `writing::put_refusal` meets its contract: the word, and the number and the line behind it.
use native.Mathlib.Omega.{arith}
use Rattle.sheets.proofs.Writes.{chain, same_length}
use Rattle.commands.proofs.Refusals.{parts}
use Rattle.commands.proofs.writing.put_refusal.Goals as goal

pub put_pair-requires : goal.put_pair-requires
put_pair-requires c =
    let w = c.put_bytes-at.ensures in
    omega (arith, c.requires, w.ends, same_length w)

pub returns : goal.returns
returns c =
    let a = c.args in
    let v = c.put_bytes-at.ensures in
    let w = c.put_pair.ensures in
    let all = rw c.from.ensures at (chain v w.text) in
    record {
      text = rw (← parts a.r a.separator) all;
      end = omega (arith, v.ends, w.end);
    }
