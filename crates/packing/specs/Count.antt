-- The count by first match over the lines of a table (document 01, under that heading). It is fed the k, the volumes and the weights of the
-- percentage sheet, and lines, and sees no share, stair or total that the program keeps.
use Rattle.std.specs.Prelude.{ℕ, suc, ◌*◌, List, [], ◌∷◌, eqb, length, get_or}
use Rattle.numerals.specs.Pick.{pick}
use Rattle.numerals.specs.Sums.{sum_to}
use Rattle.expansion.specs.Imbalance.{Targets, imbalance, largest_excess, largest_shortfall}
use Rattle.expansion.specs.declared.rule.Rule.{Rule}

-- A line of a table: a rule of one service, which has its printed number, from 1.
pub record Line : Type 0 where
  pub service : ℕ
  pub rule : Rule

-- What the count is fed: k, the unit (1,000,000 in document 01, 100,000,000 since document 02, Req 07), and the volume and the weights of each service, with
-- the label of each weight's backend. The service at place s has the number s + 1.
pub record Services : Type 0 where
  pub k : ℕ
  pub unit : ℕ
  pub volumes : List ℕ
  pub labels : List (List ℕ)
  pub weights : List (List ℕ)

unfoldable pub services : Services → ℕ
services S = length S.volumes

unfoldable pub volume : Services → ℕ → ℕ
volume S s = get_or S.volumes s 0

-- what the shares of service s are measured against
unfoldable pub targets_of : Services → ℕ → Targets
targets_of S s = record { k = S.k; unit = S.unit; labels = get_or S.labels s []; weights = get_or S.weights s [] }

-- the rules of the lines of service number n, in their order; the first match among them is the first matching line of that service
unfoldable pub own_rules : ℕ → List Line → List Rule
own_rules n [] = []
own_rules n (l ∷ ls) = pick (eqb l.service n) (l.rule ∷ own_rules n ls) (own_rules n ls)

-- error and imbalance follow as in the expansion, the shares counted over the lines of service s: its imbalance, largest excess and largest shortfall
unfoldable pub counted_imbalance : Services → List Line → ℕ → ℕ
counted_imbalance S ls s = imbalance (targets_of S s) (own_rules (suc s) ls)

unfoldable pub counted_largest_excess : Services → List Line → ℕ → ℕ
counted_largest_excess S ls s = largest_excess (targets_of S s) (own_rules (suc s) ls)

unfoldable pub counted_largest_shortfall : Services → List Line → ℕ → ℕ
counted_largest_shortfall S ls s = largest_shortfall (targets_of S s) (own_rules (suc s) ls)

-- the total: the sum over all services of volume × imbalance
unfoldable pub counted : Services → List Line → ℕ
counted S ls = sum_to (services S) (λ s. volume S s * counted_imbalance S ls s)
