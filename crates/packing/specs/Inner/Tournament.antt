-- The tournament that the program keeps to find the greatest saving: a tree with a key for each service in its leaves, the places from `leaves` on.
-- `proofs/Winner.antt` shows that its root, node 1, names the service that document 01 asks for.
use Rattle.std.specs.Prelude.{ℕ, ◌+◌, ◌-◌, ◌*◌, ◌≤◌, ◌<◌, max, ◌≡◌, List, get_or}
use Rattle.numerals.specs.Limits.{most_services}

-- the leaves, one for each service, and with them the nodes above; src/tournament.rt has the same names as constants
abbrev pub leaves : ℕ
leaves = most_services

abbrev pub nodes : ℕ
nodes = 2 * leaves

-- the greater of the children of node i
abbrev pub greater_child : List ℕ → ℕ → ℕ
greater_child tree i = max (get_or tree (2 * i) 0) (get_or tree (2 * i + 1) 0)

pub record Tournament (tree : List ℕ) : Type 0 where
  pub node : (i : ℕ) → 0 < i → i < leaves → get_or tree i 0 ≡ greater_child tree i

-- a tree in which leaf s has another key than before
pub record Replaced (before : List ℕ) (s key : ℕ) (tree : List ℕ) : Type 0 where
  pub here : get_or tree (leaves + s) 0 ≡ key
  pub others : (t : ℕ) → t < leaves → (t ≡ s → ⊥) → get_or tree (leaves + t) 0 ≡ get_or before (leaves + t) 0

-- the key of a service: the greater the saving the greater, and of equal savings the greatest for the lowest number
abbrev pub key_of : ℕ → ℕ → ℕ
key_of saving s = leaves * saving + (leaves - 1 - s)

-- the first n services have the keys of their savings, and the other keys are 0
pub record Entered (savings : ℕ → ℕ) (n : ℕ) (tree : List ℕ) : Type 0 where
  pub key : (s : ℕ) → s < n → get_or tree (leaves + s) 0 ≡ key_of (savings s) s
  pub none : (s : ℕ) → n ≤ s → s < leaves → get_or tree (leaves + s) 0 ≡ 0
