-- Excesses and shortfalls: their sums are equal, and each is at most the largest.
use Prim.Native.Nat.{ℕ, ◌+◌, ◌-◌, ◌*◌, ◌^◌, ◌≤◌, ◌<◌}
use mathlib.Core.List.{List}
use mathlib.Core.Path.{◌≡◌, ap, ◌∙◌}
use native.Mathlib.Nat.{mul_comm}
use native.Mathlib.Omega.{arith}
use Rattle.numerals.specs.Sums.{sum_to}
use Rattle.expansion.specs.FirstMatch.{share}
use Rattle.expansion.specs.Imbalance.{backends, label, weight, has, wants, excess, shortfall, imbalance, giver, receiver, largest_excess, largest_shortfall}
use Rattle.expansion.specs.Steps.{Frame}
use Rattle.expansion.specs.Inner.Sound.{Complete, Sound}
use Rattle.expansion.specs.declared.rule.Rule.{Rule}
use Rattle.numerals.proofs.Sums.{sum-ext, sum-add, sum-mul, sum-zero, sum-at}
use Rattle.numerals.proofs.Searches.{argmax-is}
use Rattle.expansion.proofs.Count.{share-sum}

pub some-backend : (F : Frame) → Sound F → 0 < backends F.targets
some-backend F S = omega (arith, (S.complete 0).1)

pub has-sum :
    (F : Frame) → Sound F → (rs : List Rule) → Complete (label F.targets) (backends F.targets) rs
    → sum_to (backends F.targets) (has F.targets rs) ≡ F.targets.unit * 2 ^ F.targets.k
unfolding has
has-sum F S rs c =
    sum-mul (backends F.targets) (λ b. share F.targets.k rs (label F.targets b)) F.targets.unit
    ∙ ap (λ (x : ℕ). x * F.targets.unit) (share-sum F.targets.k (label F.targets) (backends F.targets) S.distinct rs c)
    ∙ mul_comm (2 ^ F.targets.k) F.targets.unit

pub wants-sum : (F : Frame) → Sound F → sum_to (backends F.targets) (wants F.targets) ≡ F.targets.unit * 2 ^ F.targets.k
unfolding wants
wants-sum F S = sum-mul (backends F.targets) (weight F.targets) (2 ^ F.targets.k) ∙ ap (λ (x : ℕ). x * 2 ^ F.targets.k) S.balanced

-- the imbalance is the sum of the shortfalls too
pub balance :
    (F : Frame) → Sound F → (rs : List Rule) → Complete (label F.targets) (backends F.targets) rs
    → imbalance F.targets rs ≡ sum_to (backends F.targets) (shortfall F.targets rs)
unfolding imbalance excess shortfall
balance F S rs c =
    omega (
      arith,
      has-sum F S rs c,
      wants-sum F S,
      sum-add (backends F.targets) (has F.targets rs) (shortfall F.targets rs),
      sum-add (backends F.targets) (wants F.targets) (excess F.targets rs),
      sum-ext (backends F.targets) (λ b. has F.targets rs b + shortfall F.targets rs b) (λ b. wants F.targets b + excess F.targets rs b)
          (λ b l. sides (has F.targets rs b) (wants F.targets b)),
    )
  where
    sides : (x y : ℕ) → x + (y - x) ≡ y + (x - y)
    sides x y = omega arith

-- the largest

pub giver-lt : (F : Frame) → Sound F → (rs : List Rule) → giver F.targets rs < backends F.targets
unfolding giver
giver-lt F S rs = (argmax-is (excess F.targets rs) (backends F.targets) (some-backend F S)).inside

pub receiver-lt : (F : Frame) → Sound F → (rs : List Rule) → receiver F.targets rs < backends F.targets
unfolding receiver
receiver-lt F S rs = (argmax-is (shortfall F.targets rs) (backends F.targets) (some-backend F S)).inside

pub excess-le : (F : Frame) → Sound F → (rs : List Rule) (b : ℕ) → b < backends F.targets → excess F.targets rs b ≤ largest_excess F.targets rs
unfolding largest_excess giver
excess-le F S rs = (argmax-is (excess F.targets rs) (backends F.targets) (some-backend F S)).best

pub shortfall-le : (F : Frame) → Sound F → (rs : List Rule) (b : ℕ) → b < backends F.targets → shortfall F.targets rs b ≤ largest_shortfall F.targets rs
unfolding largest_shortfall receiver
shortfall-le F S rs = (argmax-is (shortfall F.targets rs) (backends F.targets) (some-backend F S)).best

pub excess-most : (F : Frame) → Sound F → (rs : List Rule) → largest_excess F.targets rs ≤ imbalance F.targets rs
unfolding imbalance largest_excess
excess-most F S rs = sum-at (backends F.targets) (excess F.targets rs) (giver F.targets rs) (giver-lt F S rs)

pub shortfall-most :
    (F : Frame) → Sound F → (rs : List Rule) → Complete (label F.targets) (backends F.targets) rs
    → largest_shortfall F.targets rs ≤ imbalance F.targets rs
unfolding largest_shortfall
shortfall-most F S rs c =
    omega (arith, balance F S rs c, sum-at (backends F.targets) (shortfall F.targets rs) (receiver F.targets rs) (receiver-lt F S rs))

-- no excess, or no shortfall, is no imbalance
pub excess-none : (F : Frame) → Sound F → (rs : List Rule) → largest_excess F.targets rs ≡ 0 → imbalance F.targets rs ≡ 0
unfolding imbalance
excess-none F S rs e = sum-zero (backends F.targets) (excess F.targets rs) (λ b l. omega (arith, excess-le F S rs b l))

pub shortfall-none :
    (F : Frame) → Sound F → (rs : List Rule) → Complete (label F.targets) (backends F.targets) rs → largest_shortfall F.targets rs ≡ 0
    → imbalance F.targets rs ≡ 0
shortfall-none F S rs c e =
    balance F S rs c ∙ sum-zero (backends F.targets) (shortfall F.targets rs) (λ b l. omega (arith, shortfall-le F S rs b l))
