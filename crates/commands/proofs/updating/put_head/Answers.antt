-- `updating::put_head` meets its contract: the word, and two pairs of numbers behind it.
use native.Mathlib.Omega.{arith}
use Rattle.sheets.proofs.Writes.{chain}
use Rattle.commands.proofs.UpdateLines.{head-parts}
use Rattle.commands.proofs.updating.put_head.Goals as goal

pub returns : goal.returns
returns c =
    let v = c.put_bytes-at.ensures in
    let w = c.put_pair-next.ensures in
    let x = c.put_pair.ensures in
    record {
      text = rw (← head-parts c.args.u) (chain (chain v w.text) x.text);
      end = omega (arith, v.ends, w.end, x.end);
    }
