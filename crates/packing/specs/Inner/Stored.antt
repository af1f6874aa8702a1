-- The packing read off the stored lists, place by place: costs and savings by the stairs, the total of the grants, the number of lines, the figures
-- and the cells of the table. `proofs/StoredCosts.antt` and `proofs/Written.antt` show that they are those of document 01 where the lists are.
use Rattle.std.specs.Prelude.{ℕ, zero, suc, ◌-◌, ◌*◌, ◌^◌, ◌≤◌, ◌<◌, min, ◌≡◌, List, [], ◌∷◌, ◌++◌, ltb, length, get_or}
use Rattle.numerals.specs.Pick.{pick}
use Rattle.numerals.specs.Limits.{most_services, most_rules, most_volume}
use Rattle.numerals.specs.Sums.{sum_to}
use Rattle.packing.specs.Grants.{Problem, Grants, packed}
use Rattle.packing.specs.Inner.Lists.{place_of}

-- what service s costs at the grant x: its volume × the stair after so many rules; past the end of its list it stays at the last stair
unfoldable pub stored_cost : List ℕ → List ℕ → List ℕ → ℕ → ℕ → ℕ
stored_cost volumes stairs counts s x = get_or volumes s 0 * get_or stairs (place_of s (min x (get_or counts s 0))) 0

unfoldable pub stored_problem : Grants → ℕ → List ℕ → List ℕ → List ℕ → Problem
stored_problem least capacity volumes stairs counts =
    record {
      services = length volumes;
      cost = stored_cost volumes stairs counts;
      least = least;
      capacity = capacity;
    }

-- what the next rule of a service saves: nothing past the end of its list
unfoldable pub stored_saving : ℕ → List ℕ → ℕ → ℕ → ℕ → ℕ
stored_saving volume stairs s count grant =
    pick (ltb grant count) (volume * (get_or stairs (place_of s grant) 0 - get_or stairs (place_of s (suc grant)) 0)) 0

-- of each service, at its grant
unfoldable pub savings : List ℕ → List ℕ → List ℕ → List ℕ → ℕ → ℕ
savings volumes stairs counts grants s =
    stored_saving (get_or volumes s 0) stairs s (get_or counts s 0) (get_or grants s 0)

unfoldable pub stored_total : List ℕ → List ℕ → List ℕ → List ℕ → ℕ
stored_total volumes stairs counts grants =
    sum_to (length volumes) (λ s. stored_cost volumes stairs counts s (get_or grants s 0))

-- the grants held in a listing
abbrev pub held : List ℕ → Grants
held grants = λ s. get_or grants s 0

-- the lines of service s: as many as granted, or its whole list if that is shorter
abbrev pub stored_lines : List ℕ → List ℕ → ℕ → ℕ
stored_lines grants counts s = min (get_or grants s 0) (get_or counts s 0)

-- the figures of the first n services
unfoldable pub stored_figures : List ℕ → List ℕ → List ℕ → ℕ → List ℕ
stored_figures grants counts ends zero = []
stored_figures grants counts ends (suc n) =
    stored_figures grants counts ends n ++ get_or grants n 0 ∷ get_or counts n 0 ∷ get_or ends n 0 ∷ []

-- the cells of the c oldest rules of service s, the newest first
unfoldable pub stored_cells : List ℕ → List ℕ → List ℕ → ℕ → ℕ → List ℕ
stored_cells lens values backends s zero = []
stored_cells lens values backends s (suc c) =
    suc s
    ∷ get_or lens (place_of s (suc c)) 0
    ∷ get_or values (place_of s (suc c)) 0
    ∷ get_or backends (place_of s (suc c)) 0
    ∷ stored_cells lens values backends s c

-- the cells of the first n services, so many lines of each
unfoldable pub stored_table : (ℕ → ℕ) → List ℕ → List ℕ → List ℕ → ℕ → List ℕ
stored_table lines lens values backends zero = []
stored_table lines lens values backends (suc n) =
    stored_table lines lens values backends n ++ stored_cells lens values backends n (lines n)

-- a service whose stairs, before any rule and after each of `count` rules, are so small that no cost wraps
pub record Payable (volume : ℕ) (stairs : List ℕ) (s count : ℕ) : Type 0 where
  pub limit : volume ≤ most_volume
  pub service : s < most_services
  pub most : count ≤ most_rules
  pub small : (c : ℕ) → c ≤ count → get_or stairs (place_of s c) 0 < 2 ^ 40

-- its stairs fall from a grant on
pub record Falls (stairs : List ℕ) (s count grant : ℕ) : Type 0 where
  pub falls : (c : ℕ) → grant ≤ c → c < count → get_or stairs (place_of s (suc c)) 0 ≤ get_or stairs (place_of s c) 0

-- all services are so
pub record AllPayable (volumes stairs counts : List ℕ) : Type 0 where
  pub few : length volumes ≤ most_services
  pub each : (s : ℕ) → s < length volumes → Payable (get_or volumes s 0) stairs s (get_or counts s 0)

-- a grant for each service, from which on its stairs fall
pub record Started (volumes stairs counts grants : List ℕ) : Type 0 where
  pub each : (s : ℕ) → s < length volumes → Falls stairs s (get_or counts s 0) (get_or grants s 0)

-- the grants of the packing over these least grants, and their sum
pub record Allotted (least : Grants) (capacity : ℕ) (volumes stairs counts grants : List ℕ) (r : ℕ) : Type 0 where
  pub grant : (s : ℕ) → s < length volumes → get_or grants s 0 ≡ packed (stored_problem least capacity volumes stairs counts) s
  pub sum : r ≡ sum_to (length volumes) (packed (stored_problem least capacity volumes stairs counts))
