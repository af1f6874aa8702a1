-- The stairs: the imbalance falls from turn to turn, each drop at most the one before; terms and reductions never grow.
use Prim.Native.Nat.{ℕ, suc, ◌+◌, ◌-◌, ◌*◌, ◌≤◌, ◌<◌, min}
use mathlib.Core.Bool.{false}
use mathlib.Core.List.{List}
use mathlib.Core.Path.{◌≡◌, refl, ap, ◌∙◌}
use native.Mathlib.Decide.{dec_lt}
use native.Mathlib.Omega.{arith}
use lib.ListN.{length}
use Rattle.expansion.specs.Imbalance.{imbalance}
use Rattle.expansion.specs.Steps.{reduction_at, term, is_no_gain, step, after, list_of, stair, Frame}
use Rattle.expansion.specs.Inner.Sound.{Sound}
use Rattle.expansion.specs.declared.rule.Rule.{Rule}
use Rattle.expansion.proofs.Moves.{Good, imbalance-falls, reduction-falls, term-falls}
use Rattle.expansion.proofs.Turns.{Going, Turn, stays, moves, turn, step-moves, good-after, oldest-after}

-- the greatest reduction at a list
abbrev best : Frame → List Rule → ℕ
best F rs = reduction_at F rs (term F rs)

-- one turn

step_falls : (F : Frame) → Sound F → (rs : List Rule) → Good F rs → imbalance F.targets (step F rs) ≤ imbalance F.targets rs
step_falls F S rs G = go (turn F rs)
  where
    go : Turn F rs → imbalance F.targets (step F rs) ≤ imbalance F.targets rs
    go (stays e) = omega (arith, ap (imbalance F.targets) e)
    go (moves g e) = omega (arith, ap (imbalance F.targets) e, imbalance-falls F S rs G g.gain)

step-best : (F : Frame) → Sound F → (rs : List Rule) → Good F rs → best F (step F rs) ≤ best F rs
step-best F S rs G = go (turn F rs)
  where
    go : Turn F rs → best F (step F rs) ≤ best F rs
    go (stays e) = omega (arith, ap (best F) e)
    go (moves g e) = omega (arith, ap (best F) e, reduction-falls F S rs G g.gain)

step-term : (F : Frame) → Sound F → (rs : List Rule) → Good F rs → is_no_gain F (step F rs) ≡ false → term F (step F rs) ≤ term F rs
step-term F S rs G more = go (turn F rs)
  where
    go : Turn F rs → term F (step F rs) ≤ term F rs
    go (stays e) = omega (arith, ap (term F) e)
    go (moves g e) = omega (arith, ap (term F) e, term-falls F S rs G g.gain (rw e at more))

-- a drop is at most half the reduction, and just that where the list goes on
drop-most : (F : Frame) → Sound F → (rs : List Rule) → Good F rs → 2 * (imbalance F.targets rs - imbalance F.targets (step F rs)) ≤ best F rs
drop-most F S rs G = go (turn F rs)
  where
    go : Turn F rs → 2 * (imbalance F.targets rs - imbalance F.targets (step F rs)) ≤ best F rs
    go (stays e) = omega (arith, ap (imbalance F.targets) e)
    go (moves g e) = omega (arith, ap (imbalance F.targets) e, imbalance-falls F S rs G g.gain)

step-convex :
    (F : Frame) → Sound F → (rs : List Rule) → Good F rs → Good F (step F rs)
    → imbalance F.targets (step F rs) - imbalance F.targets (step F (step F rs)) ≤ imbalance F.targets rs - imbalance F.targets (step F rs)
step-convex F S rs G H = go (turn F rs)
  where
    go :
        Turn F rs → imbalance F.targets (step F rs) - imbalance F.targets (step F (step F rs))
        ≤ imbalance F.targets rs - imbalance F.targets (step F rs)
    go (stays e) = omega (arith, ap (imbalance F.targets) e, ap (λ (l : List Rule). imbalance F.targets (step F l)) e)
    go (moves g e) =
        omega (arith, drop-most F S (step F rs) H, step-best F S rs G, imbalance-falls F S rs G g.gain, ap (imbalance F.targets) e)

-- along a run

pub falling : (F : Frame) → Sound F → (x : ℕ) → imbalance F.targets (after F (suc x)) ≤ imbalance F.targets (after F x)
unfolding after
falling F S x = step_falls F S (after F x) (good-after F S x)

pub convex : (F : Frame) → Sound F → (x : ℕ)
    → imbalance F.targets (after F (suc x)) - imbalance F.targets (after F (suc (suc x)))
    ≤ imbalance F.targets (after F x) - imbalance F.targets (after F (suc x))
unfolding after
convex F S x = step-convex F S (after F x) (good-after F S x) (good-after F S (suc x))

pub reductions-fall : (F : Frame) → Sound F → (x : ℕ)
    → reduction_at F (after F (suc x)) (term F (after F (suc x))) ≤ reduction_at F (after F x) (term F (after F x))
unfolding after
reductions-fall F S x = step-best F S (after F x) (good-after F S x)

-- as long as there is a gain
pub terms-fall : (F : Frame) → Sound F → (x : ℕ) → is_no_gain F (after F (suc x)) ≡ false → term F (after F (suc x)) ≤ term F (after F x)
unfolding after
terms-fall F S x = step-term F S (after F x) (good-after F S x)

-- the drop of a turn is half its reduction
pub drop-is : (F : Frame) → Sound F → (x : ℕ) → Going F (after F x)
    → 2 * imbalance F.targets (after F (suc x)) + reduction_at F (after F x) (term F (after F x)) ≡ 2 * imbalance F.targets (after F x)
unfolding after
drop-is F S x g =
    omega (
      arith,
      ap (imbalance F.targets) (step-moves F (after F x) g.outside g.gain),
      imbalance-falls F S (after F x) (good-after F S x) g.gain,
    )

-- the stairs of a list of any budget, for every cut, past the list's end too

pub stair-is : (F : Frame) (c budget : ℕ) → length F.start ≤ c
    → stair F c (list_of F budget) ≡ imbalance F.targets (after F (min (c - length F.start) (budget - length F.start)))
unfolding stair list_of
stair-is F c budget l = ap (imbalance F.targets) (oldest-after F c (budget - length F.start) l)

-- a falling convex sequence that ends at b is falling and convex
module _ (f : ℕ → ℕ) (falls : (x : ℕ) → f (suc x) ≤ f x) (b d : ℕ) where
  cut-falls : f (min (suc d) b) ≤ f (min d b)
  cut-falls = go (dec_lt d b)
    where
      go : Dec (d < b) → f (min (suc d) b) ≤ f (min d b)
      go (yes l) =
          let p : min (suc d) b ≡ suc d = omega arith in
          let q : min d b ≡ d = omega arith in
          omega (arith, ap f p, ap f q, falls d)
      go (no l) = let p : min (suc d) b ≡ min d b = omega arith in omega (arith, ap f p)

  cut-convex :
      ((x : ℕ) → f (suc x) - f (suc (suc x)) ≤ f x - f (suc x))
      → f (min (suc d) b) - f (min (suc (suc d)) b) ≤ f (min d b) - f (min (suc d) b)
  cut-convex bends = go (dec_lt (suc d) b)
    where
      go : Dec (suc d < b) → f (min (suc d) b) - f (min (suc (suc d)) b) ≤ f (min d b) - f (min (suc d) b)
      go (yes l) =
          let p : min (suc (suc d)) b ≡ suc (suc d) = omega arith in
          let q : min (suc d) b ≡ suc d = omega arith in
          let r : min d b ≡ d = omega arith in
          omega (arith, ap f p, ap f q, ap f r, bends d)
      go (no l) = let p : min (suc (suc d)) b ≡ min (suc d) b = omega arith in omega (arith, ap f p)

stair-at : (F : Frame) (budget c d : ℕ) → length F.start ≤ c → c - length F.start ≡ d
    → stair F c (list_of F budget) ≡ imbalance F.targets (after F (min d (budget - length F.start)))
stair-at F budget c d l e = stair-is F c budget l ∙ ap (λ (x : ℕ). imbalance F.targets (after F (min x (budget - length F.start)))) e

module _ (F : Frame) (S : Sound F) (budget c : ℕ) (l : length F.start ≤ c) where
  pub stair-falls : stair F (suc c) (list_of F budget) ≤ stair F c (list_of F budget)
  stair-falls =
      let d : ℕ = c - length F.start in
      omega (
        arith,
        stair-at F budget c d l refl,
        stair-at F budget (suc c) (suc d) (omega arith) (omega arith),
        cut-falls (λ x. imbalance F.targets (after F x)) (falling F S) (budget - length F.start) d,
      )

  pub stair-convex :
      stair F (suc c) (list_of F budget) - stair F (suc (suc c)) (list_of F budget)
      ≤ stair F c (list_of F budget) - stair F (suc c) (list_of F budget)
  stair-convex =
      let d : ℕ = c - length F.start in
      omega (
        arith,
        stair-at F budget c d l refl,
        stair-at F budget (suc c) (suc d) (omega arith) (omega arith),
        stair-at F budget (suc (suc c)) (suc (suc d)) (omega arith) (omega arith),
        cut-convex (λ x. imbalance F.targets (after F x)) (falling F S) (budget - length F.start) d (convex F S),
      )
