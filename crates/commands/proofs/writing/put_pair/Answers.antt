-- `writing::put_pair` meets its contract: one number behind the other.
use native.Mathlib.Omega.{arith}
use Rattle.sheets.proofs.Writes.{chain, same_length}
use Rattle.commands.proofs.writing.put_pair.Goals as goal

pub put_number-requires : goal.put_number-requires
put_number-requires c =
    let w = c.put_number-next.ensures in
    omega (arith, c.requires, w.end, same_length w.text)

pub returns : goal.returns
returns c =
    let w = c.put_number-next.ensures in
    let x = c.put_number.ensures in
    record {
      text = chain w.text x.text;
      end = omega (arith, w.end, x.end);
    }
