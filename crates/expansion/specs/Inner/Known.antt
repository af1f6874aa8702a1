-- Ascending ids, the place of one among them, and one more put in its place.
use Rattle.std.specs.Prelude.{ℕ, suc, ◌+◌, ◌≤◌, ◌<◌, Bool, ◌≡◌, List, [], ◌∷◌, ◌++◌, map, ltb, eqb, length, get_or, take, drop}
use Rattle.numerals.specs.Limits.{most_backends, most_known, most_rules}
use Rattle.numerals.specs.Pick.{pick}
use Rattle.expansion.specs.Known.{include, known_ids, weight_of}
use Rattle.expansion.specs.Inner.Lists.{no_rule}
use Rattle.expansion.specs.declared.rule.Rule.{Rule}

-- ascending numbers above m
unfoldable pub Above : ℕ → List ℕ → Type 0
Above m [] = Unit {0}
Above m (x ∷ xs) = (m < x) × Above x xs

-- ids, ascending from 1 on, as many as an update may know
pub record Ascending (ids : List ℕ) : Type 0 where
  pub few : length ids ≤ most_known
  pub above : Above 0 ids

-- an id is among these
abbrev pub Among : ℕ → List ℕ → Type 0
Among id ids = (b : ℕ) × (b < length ids) × (id ≡ get_or ids b 0)

-- the place of an id among ascending ones, or where it belongs: how many are below it
unfoldable pub place_in : ℕ → List ℕ → ℕ
place_in id [] = 0
place_in id (x ∷ xs) = pick (ltb x id) (suc (place_in id xs)) 0

-- an id, from 1 on, is at its place
abbrev pub is_there : ℕ → List ℕ → Bool
is_there id ids = eqb (get_or ids (place_in id ids) 0) id

-- a list with one more, which stands at place `at`
abbrev pub insert_at : {A : Type 0} → ℕ → A → List A → List A
insert_at at y xs = take at xs ++ y ∷ drop at xs

-- so many of the places are the ids that are known, with their new weights
pub record Knows (old : List Rule) (ids ws known weights : List ℕ) (count : ℕ) : Type 0 where
  pub long : (length known ≡ most_known) × (length weights ≡ most_known)
  pub inside : count ≤ length old + length ids
  pub above : Above 0 (known_ids old ids)
  pub labels : take count known ≡ known_ids old ids
  pub weighed : take count weights ≡ map (weight_of ids ws) (known_ids old ids)

-- what the checks leave: few ids with as many weights, ascending from 1 on, and few rules with ids from 1 on
pub record Knowable (old : List Rule) (ids ws : List ℕ) : Type 0 where
  pub few_rules : length old ≤ most_rules
  pub few_ids : length ids ≤ most_backends
  pub paired : length ids ≡ length ws
  pub above : Above 0 ids
  pub named : (i : ℕ) → i < length old → 1 ≤ (get_or old i no_rule).backend

-- one id more among the first `count`, unless it is there, which makes r of them; its weight is 0
pub record Included (id count r : ℕ) (ids ws ids' ws' : List ℕ) : Type 0 where
  pub few : r ≤ count + 1
  pub labels : take r ids' ≡ include id (take count ids)
  pub weights : take r ws' ≡ pick (is_there id (take count ids)) (take count ws) (insert_at (place_in id (take count ids)) 0 (take count ws))
