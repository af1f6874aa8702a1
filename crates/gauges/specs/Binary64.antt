-- n / 2^k as a binary64 number, for an n below 2^53 and a k up to 1022 (zero and normal numbers): its bits from whole numbers, field by field as
-- IEEE 754 lays them out. Nothing here rounds.
use Rattle.std.specs.Prelude.{ℕ, ◌+◌, ◌-◌, ◌*◌, ◌%◌, ◌^◌, false, ◌≡◌, eqb, Float}
use Rattle.std.specs.Float.{binary64}
use Rattle.std.specs.Float.Ieee.{size, of_bits, to_bits}
use Rattle.std.specs.Float.Ieee.Exact.{HasValue}
use Rattle.numerals.specs.Pick.{pick}

-- the biased exponent: 1023 more than that of the leading digit of n / 2^k, which is size n - 1 - k, as n has `size n` binary digits; 0 for zero
unfoldable pub biased_exponent : ℕ → ℕ → ℕ
biased_exponent n k = pick (eqb n 0) 0 (1022 + size n - k)

-- the fraction field: the 52 binary digits behind the leading one
unfoldable pub fraction_field : ℕ → ℕ
fraction_field n = n * 2 ^ (53 - size n) % 2 ^ 52

-- the 64 bits of n / 2^k: the sign 0, eleven of the exponent, 52 of the fraction
unfoldable pub bits : ℕ → ℕ → ℕ
bits n k = biased_exponent n k * 2 ^ 52 + fraction_field n

-- n / 2^k: the binary64 number with these bits
unfoldable pub dyadic : ℕ → ℕ → Float
dyadic n k = of_bits binary64 (bits n k)

-- x is n / 2^k, as a number and bit by bit
pub record Exactly (x : Float) (n k : ℕ) : Type 0 where
  -- finite, its sign bit 0 (zero is plus zero), and equal to the fraction of whole numbers: x is m × 2^e with m × 2^e × 2^k = n
  pub value : HasValue x false n (2 ^ k)
  pub bitwise : to_bits binary64 x ≡ bits n k
