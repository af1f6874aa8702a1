-- Ascending ids: no two are equal, none is nobody's, and the lower place has the lower id.
use Prim.Native.Nat.{ℕ, zero, suc, ◌<◌}
use mathlib.Core.Bool.{Bool, true, false}
use mathlib.Core.List.{List}
use mathlib.Core.Path.{◌≡◌, refl}
use native.Mathlib.Omega.{arith}
use lib.Dec.{ltb}
use lib.ListN.{get_or}
use borrow.Author.Tests.{ltb-true, ltb-false}
use Rattle.expansion.specs.FirstMatch.{nobody}
use Rattle.expansion.specs.Answer.{id_before}
use Rattle.expansion.specs.Inner.Sound.{Distinct, Labelled}

-- each of the first n ids is above the one before it
abbrev pub Rises : List ℕ → ℕ → Type 0
Rises ids n = (b : ℕ) → b < n → id_before ids b < get_or ids b 0

module _ (ids : List ℕ) (n : ℕ) (R : Rises ids n) where
  next : (b : ℕ) → suc b < n → get_or ids b 0 < get_or ids (suc b) 0
  unfolding id_before
  next b l = R (suc b) l

  pub rises-lt : (a b : ℕ) → a < b → b < n → get_or ids a 0 < get_or ids b 0
  rises-lt a zero l m = absurd (omega arith)
  rises-lt a (suc b) l m = go (ltb a b) refl (λ h. rises-lt a b h (omega arith))
    where
      go : (t : Bool) → ltb a b ≡ t → (a < b → get_or ids a 0 < get_or ids b 0) → get_or ids a 0 < get_or ids (suc b) 0
      go true e ih = omega (arith, ih (ltb-true a b e), next b m)
      go false e ih =
          let same : a ≡ b = omega (arith, ltb-false a b e) in
          rw same (next b m)

  pub rises-distinct : Distinct (λ b. get_or ids b nobody) n
  rises-distinct a b l m e = go (ltb a b) refl (ltb b a) refl
    where
      go : (t : Bool) → ltb a b ≡ t → (u : Bool) → ltb b a ≡ u → a ≡ b
      go true s u v = absurd (omega (arith, rises-lt a b (ltb-true a b s) m))
      go false s true v = absurd (omega (arith, rises-lt b a (ltb-true b a v) l))
      go false s false v = omega (arith, ltb-false a b s, ltb-false b a v)

  pub rises-named : Labelled (λ b. get_or ids b nobody) n
  rises-named b l e = omega (arith, R b l)
