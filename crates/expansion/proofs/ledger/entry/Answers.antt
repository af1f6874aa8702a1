-- `ledger::entry`: neither product is large, and the error is their difference.
use Prim.Native.Nat.{ℕ, ◌*◌, ◌%◌, ◌^◌, ◌<◌}
use mathlib.Core.Path.{◌≡◌}
use native.Mathlib.Omega.{arith}
use lib.IntN.{sub_ℕ, ◌-ℤ◌}
use lib.Signed.{mag}
use mir.Syntax.{w64}
use mir.Val.{to_z}
use Rattle.numerals.specs.Limits.{unit}
use Rattle.expansion.specs.KeptShares.{entry_of}
use Rattle.numerals.proofs.Powers.{shifted}
use Rattle.expansion.proofs.Signed.{pos-less, mag-sub, back, plain, unit-few, parts-few, wants-few, parts-read}
use Rattle.expansion.proofs.ledger.entry.Goals as goal
use Rattle.expansion.proofs.ledger.entry.Goals.{Start}

pub overflow_cast-result : goal.overflow_cast-result
overflow_cast-result c = record { fits = omega (arith, unit-few) }

-- the parts wanted, and the error
module _ (c : Start) where
  abbrev a : ℕ
  a = c.args.share

  abbrev w : ℕ
  w = c.args.weight

  abbrev k : ℕ
  k = c.args.k

  wants : w * 2 ^ k < 2 ^ 40
  wants = wants-few w k c.requires.1.1 c.requires.0

  error : to_z w64 (a * unit) -ℤ to_z w64 (w * (1 * 2 ^ k % 18446744073709551616)) ≡ sub_ℕ (a * unit) (w * 2 ^ k)
  error =
      rw (shifted k c.requires.0, parts-read a c.requires.1.0, plain (w * 2 ^ k) (omega (arith, wants)))
      (pos-less (a * unit) (w * 2 ^ k))

  few : mag (sub_ℕ (a * unit) (w * 2 ^ k)) < 2 ^ 63
  few = omega (arith, mag-sub (a * unit) (w * 2 ^ k), parts-few a unit c.requires.1.0 (omega arith), wants)

pub overflow_mul-result-2 : goal.overflow_mul-result-2
overflow_mul-result-2 c = rw (shifted (k c) c.requires.0) (record { fits = omega (arith, wants c) })

pub overflow_cast-result-4 : goal.overflow_cast-result-4
overflow_cast-result-4 c = rw (shifted (k c) c.requires.0) (record { sfits = omega (arith, wants c) })

pub overflow_sub-result : goal.overflow_sub-result
unfolding unit
overflow_sub-result c = rw (error c) (record { sfits = few c })

pub returns : goal.returns
unfolding unit entry_of
returns c = rw (error c, back (sub_ℕ (a c * unit) (w c * 2 ^ k c)) (few c))
