-- Powers of two up to 2 ^ most_bits, and the code's 1 << l.
use Prim.Native.Nat.{ℕ, ◌*◌, ◌%◌, ◌^◌, ◌≤◌}
use mathlib.Core.Path.{◌≡◌, ◌∙◌}
use native.Mathlib.Nat.{one-mul}
use native.Mathlib.Omega.{arith}
use lib.Dec.{lit<}
use lib.Pow.{pow_mono, shl_exact}
use Rattle.numerals.specs.Limits.{most_bits, most_suffixes}

pub pow-few : (k : ℕ) → k ≤ most_bits → 2 ^ k ≤ most_suffixes
pow-few k h = pow_mono h

pub shifted : (l : ℕ) → l ≤ most_bits → (1 * 2 ^ l) % 2 ^ 64 ≡ 2 ^ l
shifted l h = shl_exact 1 l 64 (lit< tt) (omega arith) ∙ one-mul (2 ^ l)
