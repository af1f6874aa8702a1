-- The table of grants (document 01, "Packing" and "The count by first match"), and the packing that finds the grants.
use Rattle.std.specs.Prelude.{ℕ, zero, suc, ◌*◌, List, [], ◌∷◌, ◌++◌}
use Rattle.numerals.specs.Limits.{most_rules}
use Rattle.expansion.specs.Steps.{Frame, frame, list_of, oldest, stair}
use Rattle.expansion.specs.declared.rule.Rule.{Rule}
use Rattle.packing.specs.Grants.{Problem, Grants, packed}
use Rattle.packing.specs.Count.{Line, Services, services, volume, targets_of}

-- each list is made with this budget
unfoldable pub rule_budget : ℕ
rule_budget = most_rules

-- the expansion of service s
unfoldable pub frame_of : Services → ℕ → ℕ → Frame
frame_of S tolerance s = frame S.k S.unit tolerance (targets_of S s).labels (targets_of S s).weights

-- the list of service s, the newest rule first
unfoldable pub list_for : Services → ℕ → ℕ → List Rule
list_for S tolerance s = list_of (frame_of S tolerance s) rule_budget

-- rules as lines of service number n
unfoldable pub lines_of : ℕ → List Rule → List Line
lines_of n [] = []
lines_of n (r ∷ rs) = record { service = n; rule = r } ∷ lines_of n rs

-- the lines of the first n services: of each, as many oldest rules as granted, or the whole list if it is shorter; services ascending, the newest rule first
unfoldable pub table_of : ℕ → (ℕ → List Rule) → Grants → List Line
table_of zero lists g = []
table_of (suc n) lists g = table_of n lists g ++ lines_of (suc n) (oldest (g n) (lists n))

-- the table of grants
unfoldable pub table : Services → ℕ → Grants → List Line
table S tolerance g = table_of (services S) (list_for S tolerance) g

-- what the packing packs: a service costs its volume × its stair, and is granted its least grant at least
unfoldable pub problem : Services → ℕ → Grants → ℕ → Problem
problem S tolerance least capacity =
    record {
      services = services S;
      cost = λ s x. volume S s * stair (frame_of S tolerance s) x (list_for S tolerance s);
      least = least;
      capacity = capacity;
    }

-- the grants of the packing
unfoldable pub granted : Services → ℕ → Grants → ℕ → Grants
granted S tolerance least capacity = packed (problem S tolerance least capacity)

-- the least grants of document 01: each service is granted one rule
abbrev pub one_each : Grants
one_each = λ s. 1
