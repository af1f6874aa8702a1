-- `rule_sheet::store_line` meets its contract.
use Prim.Native.Nat.{suc, ◌+◌, ◌*◌}
use mathlib.Core.Path.{◌≡◌}
use native.Mathlib.Omega.{arith}
use Rattle.packing.specs.Answer.{cells}
use Rattle.sheets.proofs.rule_sheet.store_line.Goals as goal

pub returns : goal.returns
unfolding cells
returns c =
    let at = 4 * c.args.i in
    let one : at + 1 ≡ suc at = omega arith in
    let two : at + 2 ≡ suc (suc at) = omega arith in
    let three : at + 3 ≡ suc (suc (suc at)) = omega arith in
    rw (one, two, three)
