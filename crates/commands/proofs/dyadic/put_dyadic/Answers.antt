-- `dyadic::put_dyadic` meets its contract: the whole part, and where something is left, the dot and its digits.
use Prim.Native.Nat.{◌%◌, ◌<◌}
use mathlib.Core.Path.{◌≡◌}
use native.Mathlib.Omega.{arith}
use Rattle.numerals.specs.Limits.{most_bits, most_suffixes}
use Rattle.sheets.proofs.Writes.{chain, byte}
use Rattle.commands.proofs.Decimals.{dyadic-whole, dyadic-broken}
use Rattle.commands.proofs.dyadic.put_dyadic.Goals as goal
use Rattle.commands.proofs.dyadic.put_dyadic.Goals.{Else-rest-eq0, Then-rest-eq0}

pub returns-then-rest-eq0 : goal.returns-then-rest-eq0
returns-then-rest-eq0 c =
    let w = c.put_number.ensures in
    let a = c.args in
    let none : a.n % most_suffixes ≡ 0 = omega (arith, (goal.at.returns-then-rest-eq0 c).Then-rest-eq0) in
    record {
      text = rw (dyadic-whole a.n most_bits none) w.text;
      end = omega (arith, w.end);
    }

pub returns : goal.returns
returns c =
    let a = c.args in
    let v = c.put_number-dot.ensures in
    let w = c.put_decimals-end.ensures in
    let some : 0 < a.n % most_suffixes = omega (arith, (goal.at.returns c).Else-rest-eq0) in
    record {
      text = rw (dyadic-broken a.n most_bits some) (chain (chain v.text w.text) (byte _ _ _));
      end = omega (arith, v.end, w.end);
    }
