-- Ids in memory, the first `count` of so many places, and one more put in its place.
use Prim.Native.Nat.{ℕ, ◌+◌, ◌≤◌}
use mathlib.Core.Bool.{Bool, true, false}
use mathlib.Core.List.{List, [], ◌∷◌}
use mathlib.Core.Path.{◌≡◌, ap, ap₂, sym, ◌∙◌}
use native.Mathlib.Omega.{arith}
use lib.ListN.{length, take}
use Rattle.numerals.specs.Limits.{most_known}
use Rattle.numerals.specs.Pick.{pick}
use Rattle.expansion.specs.Known.{include, known_ids}
use Rattle.expansion.specs.Inner.Known.{Above, place_in, is_there, insert_at, Knows, Included}
use Rattle.expansion.specs.declared.rule.Rule.{Rule}
use Rattle.expansion.proofs.KnownIds.{include-is, include-rises, known_more, weights-are}

-- one id more among the first `count`
module _ (id count : ℕ) (ids ws : List ℕ) (h : 1 ≤ id) where
  abbrev xs : List ℕ
  xs = take count ids

  pub included-there : is_there id xs ≡ true → Included id count count ids ws ids ws
  included-there e =
      record {
        few = omega arith;
        labels = sym (include-is id xs h ∙ simp e);
        weights = sym (ap (λ (t : Bool). pick t (take count ws) (insert_at (place_in id xs) 0 (take count ws))) e);
      }

  pub included-new : (ids' ws' : List ℕ) → is_there id xs ≡ false → take (count + 1) ids' ≡ insert_at (place_in id xs) id xs
      → take (count + 1) ws' ≡ insert_at (place_in id xs) 0 (take count ws) → Included id count (count + 1) ids ws ids' ws'
  included-new ids' ws' e p q =
      record {
        few = omega arith;
        labels = p ∙ sym (include-is id xs h ∙ simp e);
        weights = q ∙ sym (ap (λ (t : Bool). pick t (take count ws) (insert_at (place_in id xs) 0 (take count ws))) e);
      }

-- what is known of no rule, and of one more
module _ (ids ws : List ℕ) where
  pub knows-first : (known wanted : List ℕ) → Above 0 ids → length ids ≡ length ws → (length known ≡ most_known) × (length wanted ≡ most_known)
      → take (length ids) known ≡ ids → take (length ids) wanted ≡ ws → Knows [] ids ws known wanted (length ids)
  unfolding known_ids
  knows-first known wanted rising paired long p q =
      record { long = long; inside = omega arith; above = rising; labels = p; weighed = q ∙ sym (weights-are 0 ids ws rising paired) }

  pub knows_more : (r : Rule) (rs : List Rule) (known wanted : List ℕ) (count : ℕ) (known' wanted' : List ℕ) (count' : ℕ)
      → Knows rs ids ws known wanted count → Included r.backend count count' known wanted known' wanted' → 1 ≤ r.backend
      → (length known' ≡ most_known) × (length wanted' ≡ most_known) → Knows (r ∷ rs) ids ws known' wanted' count'
  unfolding known_ids
  knows_more r rs known wanted count known' wanted' count' K I h long =
      record {
        long = long;
        inside = omega (arith, K.inside, I.few);
        above = include-rises 0 r.backend (known_ids rs ids) h K.above;
        labels = I.labels ∙ ap (include r.backend) K.labels;
        weighed =
            I.weights
            ∙ ap₂ (λ (xs vs : List ℕ). pick (is_there r.backend xs) vs (insert_at (place_in r.backend xs) 0 vs)) K.labels K.weighed
            ∙ known_more r rs ids ws h K.above;
      }
