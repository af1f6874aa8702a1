-- What is paid for a service fits: volume × stair stays far below the machine's limit.
use Prim.Native.Nat.{ℕ, suc, ◌-◌, ◌*◌, ◌^◌, ◌≤◌, ◌<◌}
use mathlib.Core.List.{List}
use native.Mathlib.Nat.{mul-le-mul}
use native.Mathlib.Decide.{dec_lt}
use native.Mathlib.Omega.{arith}
use lib.Dec.{ltb}
use lib.ListN.{get_or}
use borrow.Author.Tests.{lt-ltb, le-ltb}
use Rattle.numerals.specs.Pick.{pick}
use Rattle.packing.specs.Inner.Lists.{place_of}
use Rattle.packing.specs.Inner.Stored.{stored_saving, Payable, Falls}

-- stairs that fall from a grant on fall from a later one on
pub falls-later : (stairs : List ℕ) (s count a b : ℕ) → a ≤ b → Falls stairs s count a → Falls stairs s count b
falls-later stairs s count a b l f = record { falls = λ c m. f.falls c (omega arith) }

module _ {volume : ℕ} {stairs : List ℕ} {s count : ℕ} (p : Payable volume stairs s count) (c : ℕ) where
  -- so much at most, for a whole stair or a part
  pub cost-small : c ≤ count → (part : ℕ) → part ≤ get_or stairs (place_of s c) 0 → volume * part < 2 ^ 54
  cost-small l part h =
      let small : part ≤ 2 ^ 40 = omega (arith, p.small c l) in
      omega (arith, mul-le-mul p.limit small)

  -- and so is what the next rule saves
  pub saving-small : stored_saving volume stairs s count c < 2 ^ 54
  unfolding stored_saving
  saving-small = go (dec_lt c count)
    where
      drop : ℕ
      drop = get_or stairs (place_of s c) 0 - get_or stairs (place_of s (suc c)) 0

      go : Dec (c < count) → pick (ltb c count) (volume * drop) 0 < 2 ^ 54
      go (yes l) = rw (lt-ltb c count l) (cost-small (omega arith) drop (omega arith))
      go (no l) = rw (le-ltb c count (omega arith)) (omega arith)
