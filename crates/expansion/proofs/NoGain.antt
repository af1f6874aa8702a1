-- Where no term has a gain, the largest excess and the largest shortfall together are at most one suffix.
use Prim.Native.Nat.{ℕ, ◌+◌, ◌≤◌, ◌<◌, min}
use mathlib.Core.Bool.{true, false}
use mathlib.Core.List.{List}
use mathlib.Core.Path.{◌≡◌, ap, sym, ◌∙◌}
use native.Mathlib.Decide.{ℕ_discrete}
use native.Mathlib.Nat.{one-mul}
use native.Mathlib.Omega.{arith}
use borrow.Author.Tests.{eqb-true, eqb-false}
use Rattle.expansion.specs.Imbalance.{backends, label, largest_excess, largest_shortfall}
use Rattle.expansion.specs.Steps.{reduction, reduction_at, term, is_no_gain, Frame}
use Rattle.expansion.specs.Inner.Sound.{Complete, Sound}
use Rattle.expansion.specs.declared.rule.Rule.{Rule}
use Rattle.numerals.proofs.Searches.{lastmax-is}
use Rattle.expansion.proofs.Balance.{excess-none, shortfall-none, excess-most, shortfall-most}
use Rattle.expansion.proofs.Reduction.{reduction-none}

pub no-gain-zero : (F : Frame) (rs : List Rule) → is_no_gain F rs ≡ true → reduction_at F rs (term F rs) ≡ 0
unfolding is_no_gain
no-gain-zero F rs e = eqb-true (reduction_at F rs (term F rs)) 0 e

pub gain-above : (F : Frame) (rs : List Rule) → is_no_gain F rs ≡ false → 0 < reduction_at F rs (term F rs)
unfolding is_no_gain
gain-above F rs e =
    let d : reduction_at F rs (term F rs) ≡ 0 → ⊥ = eqb-false (reduction_at F rs (term F rs)) 0 e in omega arith

-- the term is the best, and the last of the best
pub term-le : (F : Frame) (rs : List Rule) → term F rs ≤ F.cap
unfolding term
term-le F rs = (lastmax-is (reduction_at F rs) F.cap).inside

pub term-best : (F : Frame) (rs : List Rule) (i : ℕ) → i ≤ F.cap → reduction_at F rs i ≤ reduction_at F rs (term F rs)
unfolding term
term-best F rs = (lastmax-is (reduction_at F rs) F.cap).best

pub term-last : (F : Frame) (rs : List Rule) (i : ℕ) → term F rs < i → i ≤ F.cap → reduction_at F rs i < reduction_at F rs (term F rs)
unfolding term
term-last F rs = (lastmax-is (reduction_at F rs) F.cap).last

-- over plain numbers, u and o the largest shortfall and excess, each 0 where the other is
one-suffix : (u o t : ℕ) → 0 < t → min u t + min o t ≤ t → (u ≡ 0 → o ≡ 0) → (o ≡ 0 → u ≡ 0) → o + u ≤ t
one-suffix u o t z h p q = go (ℕ_discrete u 0) (ℕ_discrete o 0)
  where
    go : Dec (u ≡ 0) → Dec (o ≡ 0) → o + u ≤ t
    go (yes e) y = omega (arith, p e)
    go (no l) (yes e) = omega (arith, q e)
    go (no l) (no m) = omega arith

pub no-gain-le :
    (F : Frame) → Sound F → (rs : List Rule) → Complete (label F.targets) (backends F.targets) rs → is_no_gain F rs ≡ true
    → largest_excess F.targets rs + largest_shortfall F.targets rs ≤ F.targets.unit
unfolding reduction_at
no-gain-le F S rs c e =
    one-suffix (largest_shortfall F.targets rs) (largest_excess F.targets rs) F.targets.unit S.positive
    (reduction-none (largest_shortfall F.targets rs) (largest_excess F.targets rs) F.targets.unit (smallest ∙ none))
    (λ z. omega (arith, shortfall-none F S rs c z, excess-most F S rs))
    (λ z. omega (arith, excess-none F S rs z, shortfall-most F S rs c))
  where
    smallest : reduction (largest_shortfall F.targets rs) (largest_excess F.targets rs) F.targets.unit ≡ reduction_at F rs 0
    smallest = ap (reduction (largest_shortfall F.targets rs) (largest_excess F.targets rs)) (sym (one-mul F.targets.unit))

    none : reduction_at F rs 0 ≡ 0
    none = omega (arith, term-best F rs 0 (omega arith), no-gain-zero F rs e)
