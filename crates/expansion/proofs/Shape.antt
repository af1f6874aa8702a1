-- The shape of a list: no rule is longer than one before it, and before the rules that it started from none is `*`.
use Prim.Native.Nat.{ℕ, zero, suc}
use mathlib.Core.List.{List, [], ◌∷◌, ◌++◌}
use mathlib.Core.Path.{◌≡◌, refl, ap, sym, ◌∙◌, subst}
use native.Mathlib.Omega.{arith}
use Rattle.expansion.specs.Steps.{term_length, new_rule, step, after, Frame}
use Rattle.expansion.specs.Inner.Sound.{Lengths, Falling, NoStar, Sound}
use Rattle.expansion.specs.declared.rule.Rule.{Rule}
use Rattle.expansion.proofs.NoGain.{term-le}
use Rattle.expansion.proofs.Turns.{Turn, stays, moves, turn, good-after}

new-falling : (F : Frame) (rs : List Rule) → Lengths (term_length F rs) rs → Falling rs → Falling (new_rule F rs ∷ rs)
unfolding Falling new_rule
new-falling F rs h H = (h, H)

pub falling-after : (F : Frame) → Sound F → Falling F.start → (x : ℕ) → Falling (after F x)
unfolding after
falling-after F S h zero = h
falling-after F S h (suc x) = go (falling-after F S h x) (turn F (after F x))
  where
    go : Falling (after F x) → Turn F (after F x) → Falling (step F (after F x))
    go H (stays e) = subst Falling (sym e) H
    go H (moves g e) = subst Falling (sym e) (new-falling F (after F x) ((good-after F S x).short g.gain) H)

new-long : (F : Frame) → Sound F → (rs front : List Rule) → NoStar front → NoStar (new_rule F rs ∷ front)
unfolding NoStar new_rule term_length
new-long F S rs front h = (omega (arith, term-le F rs, S.below), h)

pub front-after : (F : Frame) → Sound F → (x : ℕ) → (front : List Rule) × (after F x ≡ front ++ F.start) × NoStar front
unfolding after NoStar
front-after F S zero = ([], refl, tt)
front-after F S (suc x) = go (front-after F S x) (turn F (after F x))
  where
    go : (front : List Rule) × (after F x ≡ front ++ F.start) × NoStar front → Turn F (after F x)
        → (front : List Rule) × (step F (after F x) ≡ front ++ F.start) × NoStar front
    go h (stays e) = (h.0, e ∙ h.1, h.2)
    go h (moves g e) =
        (new_rule F (after F x) ∷ h.0, e ∙ ap (λ (l : List Rule). new_rule F (after F x) ∷ l) h.1, new-long F S (after F x) h.0 h.2)
