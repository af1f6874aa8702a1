-- `laying::pass_on` meets its contract.
use native.Mathlib.Omega.{arith}
use Rattle.expansion.proofs.LaidRules.{less-few}
use Rattle.expansion.proofs.laying.pass_on.Goals as goal

pub overflow_add-shares : goal.overflow_add-shares
overflow_add-shares c =
    let P = c.requires in
    let a = c.args in
    omega (
      arith,
      less-few a.shares.now a.from a.to a.size P.long P.from_known P.to_known P.enough a.to,
      P.few.1,
      P.few.0,
    )
