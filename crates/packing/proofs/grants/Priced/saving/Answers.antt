-- `grants::Priced::saving` meets its contract: the stairs fall, and the product fits.
-- Assumes nothing.
use Prim.Native.Nat.{ℕ, suc, ◌+◌, ◌-◌, ◌*◌, ◌≤◌}
use mathlib.Core.Path.{◌≡◌, ap}
use native.Mathlib.Omega.{arith}
use lib.ListN.{get_or}
use borrow.Author.Tests.{lt-ltb, le-ltb}
use Rattle.packing.specs.Inner.Lists.{stride, place_of}
use Rattle.packing.specs.Inner.Stored.{stored_saving}
use Rattle.packing.proofs.Payable.{cost-small}
use Rattle.packing.proofs.grants.Priced.saving.Goals as goal
use Rattle.packing.proofs.grants.Priced.saving.Goals.{Then-grant-self}

-- the next stair is no higher
down :
    (c : Then-grant-self)
    → let a = c.args in
    get_or a.self.now.stairs.now (stride * a.s + a.grant + 1) 0 ≤ get_or a.self.now.stairs.now (place_of a.s a.grant) 0
down c =
    let e : stride * c.args.s + c.args.grant + 1 ≡ place_of c.args.s (suc c.args.grant) = omega arith in
    omega (
      arith,
      c.requires.1.falls c.args.grant (omega arith) c.if-grant-self.true,
      ap (λ (i : ℕ). get_or c.args.self.now.stairs.now i 0) e,
    )

pub overflow_sub-result : goal.overflow_sub-result
overflow_sub-result c = down (goal.at.overflow_sub-result c).Then-grant-self

pub overflow_mul-result : goal.overflow_mul-result
overflow_mul-result c =
    omega (
      arith,
      cost-small (c.args.self.now.payable.each c.args.s c.requires.0) c.args.grant (omega arith)
          (get_or c.args.self.now.stairs.now (place_of c.args.s c.args.grant) 0 - get_or c.args.self.now.stairs.now (stride * c.args.s + c.args.grant + 1) 0)
          (omega arith),
    )

pub returns-then-grant-self : goal.returns-then-grant-self
unfolding stored_saving
returns-then-grant-self c =
    let a = c.args in
    let e : stride * a.s + a.grant + 1 ≡ place_of a.s (suc a.grant) = omega arith in
    simp (lt-ltb _ _ c.if-grant-self.true, e)

pub returns-else-grant-self : goal.returns-else-grant-self
unfolding stored_saving
returns-else-grant-self c = simp (le-ltb _ _ c.if-grant-self.false)
