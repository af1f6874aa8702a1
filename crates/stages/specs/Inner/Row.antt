-- The row of places as one walk over the places finds it, and the crowded test over it.
use Rattle.std.specs.Prelude.{Err, Ok, Result}
use Rattle.std.specs.Prelude.{ℕ, zero, suc, ◌+◌, ◌^◌, ◌≤◌, ◌<◌, ◌≡◌, Bool, true, false, not, List, [], ◌∷◌, ◌++◌, ltb, eqb, length, take, get_or}
use Rattle.numerals.specs.Limits.{most_suffixes, most_capacity, most_services, most_id}
use Rattle.numerals.specs.Pick.{pick, both}
use Rattle.numerals.specs.Refusals.{no2, no14}
use Rattle.expansion.specs.Answer.{in_limits}
use Rattle.stages.specs.Inner.Nodes.{cut_at, lines_at}
use Rattle.numerals.specs.declared.refusal.Refusal.{Refusal}

-- the backends of a place differ
abbrev pub unlike : (ℕ → ℕ) → (ℕ → ℕ) → ℕ → Bool
unlike f g p = not (eqb (f p) (g p))

-- d tells which places differ. How many of them the walk counted since the last cut, once it stands before place p
unfoldable pub moved_to : (ℕ → Bool) → ℕ → ℕ → ℕ
moved_to d limit zero = 0
moved_to d limit (suc p) = let m = moved_to d limit p in pick (d p) (pick (eqb m limit) 1 (m + 1)) m

-- the places below p at which it cut
unfoldable pub cuts_to : (ℕ → Bool) → ℕ → ℕ → List ℕ
cuts_to d limit zero = []
cuts_to d limit (suc p) = cuts_to d limit p ++ pick (both (d p) (eqb (moved_to d limit p) limit)) (p ∷ []) []

-- the whole row: the cuts, and the end
unfoldable pub row_of : ℕ → (ℕ → ℕ) → (ℕ → ℕ) → ℕ → List ℕ
row_of k old new limit = cuts_to (unlike old new) limit (2 ^ k) ++ 2 ^ k ∷ []

-- some stage has more lines than the capacity
unfoldable pub crowded_at : ℕ → (ℕ → ℕ) → (ℕ → ℕ) → ℕ → List ℕ → Bool
crowded_at k old new capacity [] = false
crowded_at k old new capacity (p ∷ ps) = pick (ltb capacity (lines_at (cut_at p old new) k 0)) true (crowded_at k old new capacity ps)

-- limit, capacity and the number of a stage, then the crowded test: how many stages there are
unfoldable pub judged : ℕ → (ℕ → ℕ) → (ℕ → ℕ) → ℕ → ℕ → ℕ → Result ℕ Refusal
judged k old new limit capacity number =
    pick (both (in_limits 1 most_suffixes limit) (both (in_limits 1 most_capacity capacity) (in_limits 1 (length (row_of k old new limit)) number)))
    (pick (crowded_at k old new capacity (row_of k old new limit)) (Err no14) (Ok (length (row_of k old new limit))))
    (Err no2)

-- where a row was judged to be one, it stands in the listing
abbrev pub RowIn : ℕ → (ℕ → ℕ) → (ℕ → ℕ) → ℕ → Result ℕ Refusal → List ℕ → Type 0
RowIn k old new limit (Ok n) listing = take n listing ≡ row_of k old new limit
RowIn k old new limit (Err why) listing = length listing ≡ most_suffixes

-- the holders of the places of a service's suffixes have ids
pub record Served (k service : ℕ) (holder : List ℕ) : Type 0 where
  pub numbered : (1 ≤ service) × (service ≤ most_services)
  pub long : length holder ≡ most_suffixes
  pub held : (p : ℕ) → p < 2 ^ k → (1 ≤ get_or holder p 0) × (get_or holder p 0 ≤ most_id)
