-- What a conjunction of tests says of each, and the two cases of a comparison.
use Prim.Native.Nat.{ℕ, ◌<◌, ◌≤◌}
use mathlib.Core.Path.{◌≡◌, refl, sym}
use mathlib.Core.Bool.{Bool, true, false, true≢false}
use lib.Dec.{ltb}
use borrow.Author.Tests.{ltb-true, ltb-false}
use Rattle.numerals.specs.Pick.{both}

pub both_false : (t : Bool) → both t false ≡ false
both_false true = refl
both_false false = refl

pub both_left : (s t : Bool) → both s t ≡ true → s ≡ true
both_left true t h = refl
both_left false t h = absurd (true≢false (sym h))

pub both_right : (s t : Bool) → both s t ≡ true → t ≡ true
both_right true t h = h
both_right false t h = absurd (true≢false (sym h))

pub by_less : (a b : ℕ) {P : Type 0} → (a < b → P) → (b ≤ a → P) → P
by_less a b {P} less more = cases (ltb a b) refl
  where
    cases : (t : Bool) → ltb a b ≡ t → P
    cases true e = less (ltb-true a b e)
    cases false e = more (ltb-false a b e)
