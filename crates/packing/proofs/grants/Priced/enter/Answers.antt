-- `grants::Priced::enter` meets its contract: the key fits, since a saving is below 2 ^ 54.
-- Assumes nothing.
use Prim.Native.Nat.{ℕ, ◌^◌, ◌<◌}
use mathlib.Core.Path.{◌≡◌}
use mathlib.Core.List.{List}
use native.Mathlib.Omega.{arith}
use lib.ListN.{get_or}
use Rattle.packing.specs.Inner.Stored.{savings}
use Rattle.packing.specs.Inner.Tournament.{Replaced}
use Rattle.packing.proofs.Payable.{saving-small}
use Rattle.packing.proofs.grants.Priced.enter.Goals as goal
use Rattle.packing.proofs.grants.Priced.enter.Goals.{After-saving-gain}

pub saving-gain-requires : goal.saving-gain-requires
saving-gain-requires c =
    c.requires

small : (c : After-saving-gain) → c.saving-gain.result < 2 ^ 54
small c =
    omega (
      arith,
      c.saving-gain.ensures,
      saving-small (c.args.self.now.payable.each c.args.s (omega arith)) (get_or c.args.grants.now c.args.s 0),
    )

pub overflow_mul-gain : goal.overflow_mul-gain
overflow_mul-gain c = omega (arith, small (goal.at.overflow_mul-gain c).After-saving-gain)

pub overflow_add-gain : goal.overflow_add-gain
overflow_add-gain c = omega (arith, small (goal.at.overflow_add-gain c).After-saving-gain)

-- the same key in other words
rekeyed : (before : List ℕ) (s key key' : ℕ) (tree : List ℕ) → Replaced before s key tree → key ≡ key' → Replaced before s key' tree
rekeyed before s key key' tree r e = rw (← e) r

pub returns : goal.returns
unfolding savings
returns c = rekeyed _ _ _ _ _ c.replace.ensures (omega (arith, c.saving-gain.ensures))
