-- `updating::put_line` meets its contract: service, suffix and backend one after the other.
use native.Mathlib.Omega.{arith}
use Rattle.expansion.specs.FirstMatch.{is_rule}
use Rattle.sheets.proofs.Writes.{chain, same_length as length-kept}
use Rattle.commands.proofs.UpdateLines.{line-parts}
use Rattle.commands.proofs.updating.put_line.Goals as goal

pub put_suffix-backend-requires : goal.put_suffix-backend-requires
unfolding is_rule
put_suffix-backend-requires c =
    let w = c.put_number-suffix.ensures in
    (c.requires.0, omega (arith, c.requires.1, w.end, length-kept w.text))

pub returns : goal.returns
returns c =
    let a = c.args in
    let v = c.put_number-suffix.ensures in
    let w = c.put_suffix-backend.ensures in
    let x = c.put_number.ensures in
    record {
      text = rw (← line-parts a.service a.rule) (chain (chain v.text w.text) x.text);
      end = omega (arith, v.end, w.end, x.end);
    }
