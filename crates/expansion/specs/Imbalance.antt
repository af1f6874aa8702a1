-- Error and imbalance (document 01, "Expansion"), of a list of rules against the targets of a service. The unit is one part in unit × 2^k. The error
-- of a backend is share × unit - weight × 2^k; it is kept as its two sides, of which one is 0: the excess above zero and the shortfall below.
use Rattle.std.specs.Prelude.{ℕ, ◌-◌, ◌*◌, ◌^◌, List, length, get_or}
use Rattle.numerals.specs.Sums.{sum_to, argmax}
use Rattle.expansion.specs.FirstMatch.{share, nobody}
use Rattle.expansion.specs.declared.rule.Rule.{Rule}

-- What the shares of a service are measured against: k suffix bits, and for each backend, by its place from 0, the label that its rules carry and its
-- weight. The weights sum to the unit, which is 1,000,000 in document 01 and 100,000,000 since document 02, Req 07.
pub record Targets : Type 0 where
  pub k : ℕ
  pub unit : ℕ
  pub labels : List ℕ
  pub weights : List ℕ

unfoldable pub backends : Targets → ℕ
backends T = length T.weights

unfoldable pub label : Targets → ℕ → ℕ
label T b = get_or T.labels b nobody

unfoldable pub weight : Targets → ℕ → ℕ
weight T b = get_or T.weights b 0

-- what the backend at place b has and what it wants, in parts
unfoldable pub has : Targets → List Rule → ℕ → ℕ
has T rs b = share T.k rs (label T b) * T.unit

unfoldable pub wants : Targets → ℕ → ℕ
wants T b = weight T b * 2 ^ T.k

unfoldable pub excess : Targets → List Rule → ℕ → ℕ
excess T rs b = has T rs b - wants T b

unfoldable pub shortfall : Targets → List Rule → ℕ → ℕ
shortfall T rs b = wants T b - has T rs b

unfoldable pub imbalance : Targets → List Rule → ℕ
imbalance T rs = sum_to (backends T) (excess T rs)

-- the place of the largest excess, and of the largest shortfall, the lowest if equal
unfoldable pub giver : Targets → List Rule → ℕ
giver T rs = argmax (excess T rs) (backends T)

unfoldable pub receiver : Targets → List Rule → ℕ
receiver T rs = argmax (shortfall T rs) (backends T)

-- O and U of document 01
unfoldable pub largest_excess : Targets → List Rule → ℕ
largest_excess T rs = excess T rs (giver T rs)

unfoldable pub largest_shortfall : Targets → List Rule → ℕ
largest_shortfall T rs = shortfall T rs (receiver T rs)
