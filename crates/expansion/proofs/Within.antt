-- Every error is within the tolerance just where the largest excess and the largest shortfall are.
use Prim.Native.Nat.{ℕ, ◌*◌, ◌^◌, ◌<◌}
use mathlib.Core.Bool.{Bool, true}
use mathlib.Core.List.{List}
use mathlib.Core.Path.{◌≡◌}
use native.Mathlib.Omega.{arith}
use lib.Dec.{leb}
use borrow.Author.Tests.{leb-true, le-leb}
use Rattle.numerals.specs.Pick.{both}
use Rattle.expansion.specs.Imbalance.{backends, excess, shortfall, giver, receiver, largest_excess, largest_shortfall}
use Rattle.expansion.specs.Steps.{is_within, Frame}
use Rattle.expansion.specs.Inner.Sound.{Sound}
use Rattle.expansion.specs.declared.rule.Rule.{Rule}
use Rattle.numerals.proofs.Searches.{both_true, true-both, all_true, true-all, same_test}
use Rattle.expansion.proofs.Balance.{giver-lt, receiver-lt, excess-le, shortfall-le}

-- the two sides of one error
abbrev small : ℕ → ℕ → ℕ → Bool
small e s t = both (leb e t) (leb s t)

pub within-is : (F : Frame) → Sound F → (rs : List Rule)
    → is_within F rs ≡ both (leb (largest_excess F.targets rs) (F.tolerance * 2 ^ F.targets.k))
    (leb (largest_shortfall F.targets rs) (F.tolerance * 2 ^ F.targets.k))
unfolding is_within largest_excess largest_shortfall
within-is F S rs = same_test (is_within F rs) (small (largest_excess F.targets rs) (largest_shortfall F.targets rs) t) down up
  where
    t : ℕ
    t = F.tolerance * 2 ^ F.targets.k

    each : ℕ → Bool
    each b = small (excess F.targets rs b) (shortfall F.targets rs b) t

    down : is_within F rs ≡ true → small (largest_excess F.targets rs) (largest_shortfall F.targets rs) t ≡ true
    down e =
        let at : (b : ℕ) → b < backends F.targets → each b ≡ true = all_true (backends F.targets) each e in
        true-both (leb (largest_excess F.targets rs) t) (leb (largest_shortfall F.targets rs) t)
        (both_true (leb (excess F.targets rs (giver F.targets rs)) t) (leb (shortfall F.targets rs (giver F.targets rs)) t)
        (at (giver F.targets rs) (giver-lt F S rs))).0
        (both_true (leb (excess F.targets rs (receiver F.targets rs)) t) (leb (shortfall F.targets rs (receiver F.targets rs)) t)
        (at (receiver F.targets rs) (receiver-lt F S rs))).1

    up : small (largest_excess F.targets rs) (largest_shortfall F.targets rs) t ≡ true → is_within F rs ≡ true
    up e =
        let w = both_true (leb (largest_excess F.targets rs) t) (leb (largest_shortfall F.targets rs) t) e in
        true-all (backends F.targets) each (λ b l.
        true-both (leb (excess F.targets rs b) t) (leb (shortfall F.targets rs b) t)
        (le-leb (excess F.targets rs b) t (omega (arith, excess-le F S rs b l, leb-true (largest_excess F.targets rs) t w.0)))
        (le-leb (shortfall F.targets rs b) t (omega (arith, shortfall-le F S rs b l, leb-true (largest_shortfall F.targets rs) t w.1))))
