-- Ties go to the lowest id (document 02, Req 04): where ids ascend with the places, the lowest place of the greatest has the lowest id of the greatest.
use Prim.Native.Nat.{ℕ, ◌≤◌, ◌<◌}
use mathlib.Core.Bool.{Bool, true, false}
use mathlib.Core.List.{List}
use mathlib.Core.Path.{◌≡◌, refl, ap}
use native.Mathlib.Omega.{arith}
use lib.Dec.{ltb}
use lib.ListN.{length, get_or}
use borrow.Author.Tests.{ltb-true, ltb-false}
use Rattle.numerals.specs.Sums.{argmax}
use Rattle.numerals.proofs.Searches.{argmax-is}
use Rattle.expansion.specs.Imbalance.{Targets, backends, label, excess, shortfall, giver, receiver, largest_excess, largest_shortfall}
use Rattle.expansion.specs.declared.rule.Rule.{Rule}
use Rattle.expansion.proofs.Ids.{Rises, rises-lt}

module _ (ids : List ℕ) (n : ℕ) (R : Rises ids n) (f : ℕ → ℕ) where
  abbrev i : ℕ
  i = argmax f n

  pub lowest-id : (b : ℕ) → b < n → f b ≡ f (argmax f n) → get_or ids (argmax f n) 0 ≤ get_or ids b 0
  lowest-id b l e = go (ltb b i) refl (ltb i b) refl
    where
      go : (t : Bool) → ltb b i ≡ t → (u : Bool) → ltb i b ≡ u → get_or ids i 0 ≤ get_or ids b 0
      go true below u v = absurd (omega (arith, (argmax-is f n (omega arith)).lowest b (ltb-true b i below)))
      go false below true v = omega (arith, rises-lt ids n R i b (ltb-true i b v) l)
      go false below false v =
          let same : i ≡ b = omega (arith, ltb-false b i below, ltb-false i b v) in
          omega (arith, ap (λ (x : ℕ). get_or ids x 0) same)

-- the giver, the receiver, and the backend of the first rule
module _ (T : Targets) (R : Rises T.labels (backends T)) where
  pub giver-lowest : (rs : List Rule) (b : ℕ) → b < backends T → excess T rs b ≡ largest_excess T rs → label T (giver T rs) ≤ label T b
  unfolding giver largest_excess label
  giver-lowest rs b l e = lowest-id T.labels (backends T) R (excess T rs) b l e

  pub receiver-lowest : (rs : List Rule) (b : ℕ) → b < backends T → shortfall T rs b ≡ largest_shortfall T rs → label T (receiver T rs) ≤ label T b
  unfolding receiver largest_shortfall label
  receiver-lowest rs b l e = lowest-id T.labels (backends T) R (shortfall T rs) b l e

pub first-lowest : (ids ws : List ℕ) → Rises ids (length ws) → (b : ℕ) → b < length ws
    → get_or ws b 0 ≡ get_or ws (argmax (λ j. get_or ws j 0) (length ws)) 0 → get_or ids (argmax (λ j. get_or ws j 0) (length ws)) 0 ≤ get_or ids b 0
first-lowest ids ws R b l e = lowest-id ids (length ws) R (λ j. get_or ws j 0) b l e
