-- Turned-back work: the name no_n is the refusal with number N, and every refusal is one of them.
use Prim.Native.Nat.{ℕ, ◌-◌}
use mathlib.Core.Path.{◌≡◌, refl}
use mathlib.Core.List.{List, [], ◌∷◌}
use lib.ListN.{get_or}
use Rattle.numerals.specs.Refusals.{number_of, no1, no2, no3, no4, no5, no6, no7, no8, no9, no10, no11, no12, no13, no14}
use Rattle.numerals.specs.declared.refusal.Refusal.{Refusal}
use Rattle.numerals.specs.declared.refusal.Refusal.TheVariants.{Malformed, BadField, Unbalanced, TooMany, NoService, TableShort, ShortLoan}
use Rattle.numerals.specs.declared.refusal.Refusal.TheVariants.{UnknownService, Order, Miscount, TooLong, Depth, Stuck, Crowded}

pub all : List Refusal
all = no1 ∷ no2 ∷ no3 ∷ no4 ∷ no5 ∷ no6 ∷ no7 ∷ no8 ∷ no9 ∷ no10 ∷ no11 ∷ no12 ∷ no13 ∷ no14 ∷ []

pub each : (Refusal → ℕ) → List Refusal → List ℕ
each f [] = []
each f (r ∷ rs) = f r ∷ each f rs

pub numbers-right : each number_of all ≡ 1 ∷ 2 ∷ 3 ∷ 4 ∷ 5 ∷ 6 ∷ 7 ∷ 8 ∷ 9 ∷ 10 ∷ 11 ∷ 12 ∷ 13 ∷ 14 ∷ []
unfolding number_of each all
numbers-right = refl

-- a refusal is the one with its number
pub numbered : (r : Refusal) → get_or all (number_of r - 1) no1 ≡ r
unfolding number_of all
numbered Malformed = refl
numbered BadField = refl
numbered Unbalanced = refl
numbered TooMany = refl
numbered NoService = refl
numbered TableShort = refl
numbered ShortLoan = refl
numbered UnknownService = refl
numbered Order = refl
numbered Miscount = refl
numbered TooLong = refl
numbered Depth = refl
numbered Stuck = refl
numbered Crowded = refl
