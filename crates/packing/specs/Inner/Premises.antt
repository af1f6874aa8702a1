-- What laws of the packing ask: grants that a table may have, falling convex costs, and services as the percentage sheet has them.
use Rattle.std.specs.Prelude.{ℕ, suc, ◌-◌, ◌≤◌, ◌<◌, ◌≡◌}
use Rattle.numerals.specs.Sums.{sum_to}
use Rattle.expansion.specs.Imbalance.{backends, label, weight}
use Rattle.expansion.specs.Inner.Sound.{Distinct, Labelled}
use Rattle.packing.specs.Grants.{Problem, Grants, rules}
use Rattle.packing.specs.Count.{Services, services, targets_of}

-- grants that a table may have: at least the least to each service, at most the capacity in all
pub record Allowed (P : Problem) (g : Grants) : Type 0 where
  pub enough : (s : ℕ) → s < P.services → P.least s ≤ g s
  pub room : rules P g ≤ P.capacity

-- falling convex costs from the least grant on: what a rule saves is never more than what the one before it saved
pub record Convex (P : Problem) : Type 0 where
  pub falls : (s x : ℕ) → s < P.services → P.least s ≤ x → P.cost s (suc x) ≤ P.cost s x
  pub bends :
      (s x : ℕ) → s < P.services → P.least s ≤ x
      → P.cost s (suc x) - P.cost s (suc (suc x)) ≤ P.cost s x - P.cost s (suc x)

-- services as the percentage sheet has them: the weights of each sum to the unit, each backend has an id, and no two have one id
pub record Balanced (S : Services) : Type 0 where
  pub bits : 0 < S.k
  pub positive : 0 < S.unit
  pub weigh : (s : ℕ) → s < services S → sum_to (backends (targets_of S s)) (weight (targets_of S s)) ≡ S.unit
  pub distinct : (s : ℕ) → s < services S → Distinct (label (targets_of S s)) (backends (targets_of S s))
  pub labelled : (s : ℕ) → s < services S → Labelled (label (targets_of S s)) (backends (targets_of S s))
