-- The lists of all services as the program stores them, and how that stands to the definitions. Service s has the places from stride * s on: the
-- first is for no rule, the c-th after it for the c-th oldest rule.
use Rattle.std.specs.Prelude.{ℕ, zero, suc, ◌+◌, ◌*◌, ◌≤◌, ◌<◌, min, ◌≡◌, List, [], ◌∷◌, reverse, length, get_or, take, drop, Ok}
use Rattle.numerals.specs.Limits.{most_services, most_rules}
use Rattle.expansion.specs.Answer.{check_call}
use Rattle.expansion.specs.Inner.Lists.{no_rule}
use Rattle.expansion.specs.Steps.{Frame, end_of, stair}
use Rattle.packing.specs.Grants.{Grants}
use Rattle.packing.specs.Count.{services}
use Rattle.packing.specs.Table.{rule_budget, frame_of, list_for}
use Rattle.packing.specs.Answer.{services_of, end_number}
use Rattle.expansion.specs.declared.rule.Rule.{Rule}

-- the places of one service; src/lists.rt has the same name as a constant
abbrev pub stride : ℕ
stride = most_rules + 1

-- place c of service s
abbrev pub place_of : ℕ → ℕ → ℕ
place_of s c = stride * s + c

-- rule j of the list of service s, the oldest being 0
unfoldable pub rule_at : (ℕ → List Rule) → ℕ → ℕ → Rule
rule_at lists s j = get_or (reverse (lists s)) j no_rule

-- the numbers of rules of n services, by any frames and lists, and their stairs, that before any rule too
pub record Stepped (n : ℕ) (frames : ℕ → Frame) (lists : ℕ → List Rule) (stairs counts : List ℕ) : Type 0 where
  pub count : (s : ℕ) → s < n → get_or counts s 0 ≡ length (lists s)
  pub few : (s : ℕ) → s < n → length (lists s) ≤ most_rules
  pub step : (s c : ℕ) → s < n → c ≤ length (lists s) → get_or stairs (place_of s c) 0 ≡ stair (frames s) c (lists s)

-- their rules and ends too
pub record Listed (n : ℕ) (frames : ℕ → Frame) (lists : ℕ → List Rule) (lens values backends stairs counts ends : List ℕ) : Type 0 where
  pub stepped : Stepped n frames lists stairs counts
  pub ended : (s : ℕ) → s < n → get_or ends s 0 ≡ end_number (end_of (frames s) (lists s))
  pub len : (s j : ℕ) → s < n → j < length (lists s) → get_or lens (place_of s (suc j)) 0 ≡ (rule_at lists s j).len
  pub value : (s j : ℕ) → s < n → j < length (lists s) → get_or values (place_of s (suc j)) 0 ≡ (rule_at lists s j).value
  pub backend : (s j : ℕ) → s < n → j < length (lists s) → get_or backends (place_of s (suc j)) 0 ≡ (rule_at lists s j).backend

-- the lists of the first n services by the frames of document 01: no list looks at a volume
abbrev pub ListedTo : ℕ → ℕ → List ℕ → List ℕ → List ℕ → ℕ → List ℕ → List ℕ → List ℕ → List ℕ → List ℕ → List ℕ → Type 0
ListedTo k tolerance sizes ids ws n lens values backends stairs counts ends =
    (volumes : List ℕ) → length volumes ≡ n
    → let S = services_of k volumes sizes ids ws in
    Listed (services S) (frame_of S tolerance) (list_for S tolerance) lens values backends stairs counts ends

-- where the ids and the weights of service s begin in their rows: after those of the services before it
unfoldable pub start : List ℕ → ℕ → ℕ
start [] s = 0
start (n ∷ ns) zero = 0
start (n ∷ ns) (suc s) = n + start ns s

-- the numbers of service s in a row
unfoldable pub part : List ℕ → List ℕ → ℕ → List ℕ
part sizes row s = take (get_or sizes s 0) (drop (start sizes s) row)

-- what the checks leave for the lists: the ids and the weights of each service stand in their rows and pass the checks of the expansion
pub record Sized (k tolerance : ℕ) (sizes ids ws : List ℕ) : Type 0 where
  pub few : length sizes ≤ most_services
  pub inside : (s : ℕ) → s < length sizes → start sizes s + get_or sizes s 0 ≤ min (length ids) (length ws)
  pub sound : (s : ℕ) → s < length sizes → check_call k tolerance rule_budget (part sizes ids s) (part sizes ws s) ≡ Ok tt

-- the grants of n services kept in a listing
pub record Granted (n : ℕ) (g : Grants) (grants : List ℕ) : Type 0 where
  pub grant : (s : ℕ) → s < n → get_or grants s 0 ≡ g s
