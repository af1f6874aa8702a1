-- The backends that an update knows (document 02, Req 04): those of the old list's rules and those of the new weights. One that is missing from the new
-- weights counts as weight 0 there.
use Rattle.std.specs.Prelude.{ℕ, List, [], ◌∷◌, map, ltb, eqb}
use Rattle.numerals.specs.Limits.{unit}
use Rattle.numerals.specs.Pick.{pick}
use Rattle.expansion.specs.Imbalance.{Targets}
use Rattle.expansion.specs.declared.rule.Rule.{Rule}

-- ascending ids and one more, which may be among them
unfoldable pub include : ℕ → List ℕ → List ℕ
include id [] = id ∷ []
include id (x ∷ xs) = pick (ltb id x) (id ∷ x ∷ xs) (pick (eqb id x) (x ∷ xs) (x ∷ include id xs))

-- the ids of the old list's rules and of the new weights, ascending
unfoldable pub known_ids : List Rule → List ℕ → List ℕ
known_ids [] ids = ids
known_ids (r ∷ rs) ids = include r.backend (known_ids rs ids)

-- the new weight of an id: 0 where it is missing from the new weights
unfoldable pub weight_of : List ℕ → List ℕ → ℕ → ℕ
weight_of [] ws id = 0
weight_of (x ∷ xs) [] id = 0
weight_of (x ∷ xs) (w ∷ ws) id = pick (eqb x id) w (weight_of xs ws id)

-- what the shares of an update are measured against
unfoldable pub targets_known : ℕ → List Rule → List ℕ → List ℕ → Targets
targets_known k old ids ws =
    record { k = k; unit = unit; labels = known_ids old ids; weights = map (weight_of ids ws) (known_ids old ids) }
