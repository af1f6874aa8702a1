-- The reduction of a term over plain numbers. Where shortfall and excess fall, reductions don't grow, and a larger term can only lose against a smaller one.
use Prim.Native.Nat.{ℕ, ◌+◌, ◌-◌, ◌*◌, ◌≤◌, ◌<◌, min}
use mathlib.Core.Logic.{◌⊎◌, inl, inr}
use mathlib.Core.Path.{◌≡◌}
use native.Mathlib.Omega.{arith}
use Rattle.expansion.specs.Steps.{reduction}

min-mono : (u u' t : ℕ) → u' ≤ u → min u' t ≤ min u t
min-mono u u' t h = omega arith

-- what a larger term adds doesn't grow
min-gap : (u u' s t : ℕ) → u' ≤ u → s ≤ t → min u' t + min u s ≤ min u t + min u' s
min-gap u u' s t h l = omega arith

pub reduction-mono : (u o u' o' t : ℕ) → u' ≤ u → o' ≤ o → reduction u' o' t ≤ reduction u o t
unfolding reduction
reduction-mono u o u' o' t h l = go (min u t) (min o t) (min u' t) (min o' t) (min-mono u u' t h) (min-mono o o' t l)
  where
    go : (a b c d : ℕ) → c ≤ a → d ≤ b → 2 * (c + d - t) ≤ 2 * (a + b - t)
    go a b c d h l = omega arith

pub reduction-gain : (u o t : ℕ) → 0 < reduction u o t → t < min u t + min o t
unfolding reduction
reduction-gain u o t h = omega arith

pub reduction-none : (u o t : ℕ) → reduction u o t ≡ 0 → min u t + min o t ≤ t
unfolding reduction
reduction-none u o t h = omega arith

pub reduction-le : (u o t : ℕ) → reduction u o t ≤ 2 * u
unfolding reduction
reduction-le u o t = omega arith

pub reduction-term : (u o t : ℕ) → reduction u o t ≤ 2 * t
unfolding reduction
reduction-term u o t = omega arith

-- up to the larger of the two errors, a larger term doesn't gain less
pub reduction-enough : (u o s t : ℕ) → (t ≤ u) ⊎ (t ≤ o) → s ≤ t → reduction u o s ≤ reduction u o t
unfolding reduction
reduction-enough u o s t (inl h) l = omega arith
reduction-enough u o s t (inr h) l = omega arith

pub reduction-larger : (u o u' o' s t : ℕ) → u' ≤ u → o' ≤ o → s ≤ t → reduction u o t < reduction u o s
    → 0 < reduction u' o' t → reduction u' o' t < reduction u' o' s
unfolding reduction
reduction-larger u o u' o' s t hu ho l =
    go (min u t) (min u s) (min o t) (min o s) (min u' t) (min u' s) (min o' t) (min o' s)
    (min-gap u u' s t hu l) (min-gap o o' s t ho l)
  where
    go : (a b c d e f g h : ℕ) → e + b ≤ a + f → g + d ≤ c + h → 2 * (a + c - t) < 2 * (b + d - s) → 0 < 2 * (e + g - t)
        → 2 * (e + g - t) < 2 * (f + h - s)
    go a b c d e f g h x y z w = omega arith
