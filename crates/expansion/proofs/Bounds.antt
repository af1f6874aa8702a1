-- No number gets large: everything that the expansion counts is at most unit × 2^k, a reduction at most twice that.
use Prim.Native.Nat.{ℕ, ◌*◌, ◌^◌, ◌≤◌, ◌<◌}
use mathlib.Core.List.{List}
use native.Mathlib.Decide.{dec_lt}
use native.Mathlib.Nat.{mul-le-mul_right}
use native.Mathlib.Omega.{arith}
use lib.ListN.{length, get_or, get_or-eq_default}
use Rattle.numerals.specs.Limits.{unit}
use Rattle.expansion.specs.FirstMatch.{gives, share}
use Rattle.expansion.specs.Imbalance.{backends, label, weight, has, wants, excess, shortfall, imbalance, receiver, largest_excess, largest_shortfall}
use Rattle.expansion.specs.Steps.{reduction_at, Frame}
use Rattle.expansion.specs.Inner.Sound.{Complete, Sound}
use Rattle.expansion.specs.declared.rule.Rule.{Rule}
use Rattle.expansion.specs.declared.service.Service.{Service}
use Rattle.numerals.proofs.Sums.{sum-le, sum-at, count-le}
use Rattle.expansion.proofs.Balance.{has-sum}
use Rattle.expansion.proofs.Reduction.{reduction-le}

pub share-le : (k : ℕ) (rs : List Rule) (b : ℕ) → share k rs b ≤ 2 ^ k
unfolding share
share-le k rs b = count-le (2 ^ k) (λ s. gives rs s b)

pub weight-le : (F : Frame) → Sound F → (b : ℕ) → weight F.targets b ≤ F.targets.unit
unfolding weight backends
weight-le F S b = go (dec_lt b (backends F.targets))
  where
    go : Dec (b < backends F.targets) → weight F.targets b ≤ F.targets.unit
    go (yes l) = omega (arith, sum-at (backends F.targets) (weight F.targets) b l, S.balanced)
    go (no l) = omega (arith, get_or-eq_default F.targets.weights 0 {n = b} (omega arith))

-- the same of a service
pub weight-few : (s : Service) (b : ℕ) → b < length s.weights.now → get_or s.weights.now b 0 ≤ unit
weight-few s b l = omega (arith, sum-at (length s.weights.now) (λ a. get_or s.weights.now a 0) b l, s.valid.balanced)

pub has-le : (F : Frame) (rs : List Rule) (b : ℕ) → has F.targets rs b ≤ F.targets.unit * 2 ^ F.targets.k
unfolding has
has-le F rs b = omega (arith, mul-le-mul_right F.targets.unit (share-le F.targets.k rs (label F.targets b)))

pub wants-le : (F : Frame) → Sound F → (b : ℕ) → wants F.targets b ≤ F.targets.unit * 2 ^ F.targets.k
unfolding wants
wants-le F S b = mul-le-mul_right (2 ^ F.targets.k) (weight-le F S b)

pub excess-bound : (F : Frame) (rs : List Rule) (b : ℕ) → excess F.targets rs b ≤ F.targets.unit * 2 ^ F.targets.k
unfolding excess
excess-bound F rs b = omega (arith, has-le F rs b)

pub shortfall-bound : (F : Frame) → Sound F → (rs : List Rule) (b : ℕ) → shortfall F.targets rs b ≤ F.targets.unit * 2 ^ F.targets.k
unfolding shortfall
shortfall-bound F S rs b = omega (arith, wants-le F S b)

pub imbalance-bound :
    (F : Frame) → Sound F → (rs : List Rule) → Complete (label F.targets) (backends F.targets) rs
    → imbalance F.targets rs ≤ F.targets.unit * 2 ^ F.targets.k
unfolding imbalance excess
imbalance-bound F S rs c =
    omega (arith, has-sum F S rs c, sum-le (backends F.targets) (excess F.targets rs) (has F.targets rs) (λ b l. omega arith))

pub reduction-bound : (F : Frame) → Sound F → (rs : List Rule) (i : ℕ) → reduction_at F rs i ≤ 2 * (F.targets.unit * 2 ^ F.targets.k)
unfolding reduction_at largest_shortfall
reduction-bound F S rs i =
    omega (
      arith,
      reduction-le (largest_shortfall F.targets rs) (largest_excess F.targets rs) (2 ^ i * F.targets.unit),
      shortfall-bound F S rs (receiver F.targets rs),
    )
