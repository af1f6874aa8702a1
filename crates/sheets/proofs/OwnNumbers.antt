-- The rules of a service among lines in numbers, from a line on: one line more, none left; and their numbers, three of each, stored.
use Prim.Native.Nat.{ℕ, suc, ◌+◌, ◌*◌, ◌≤◌, ◌<◌}
use mathlib.Core.Path.{◌≡◌, refl, ap, ◌∙◌}
use mathlib.Core.List.{List, [], ◌∷◌}
use native.Mathlib.Omega.{arith}
use lib.ListN.{length, get_or, set}
use lib.Seq.{slice, sets}
use Rattle.expansion.specs.OldList.{numbers_of}
use Rattle.expansion.specs.declared.rule.Rule.{Rule}
use Rattle.packing.specs.Count.{own_rules}
use Rattle.sheets.specs.Calls.{lines_from}
use Rattle.sheets.specs.Inner.TableNumbers.{line_at}
use Rattle.sheets.proofs.TableNumbers.{rows_more, rows_none}
use Rattle.sheets.proofs.FirstMatch.{own-here, own-other}

pub length-numbers : (rs : List Rule) → length (numbers_of rs) ≡ 3 * length rs
unfolding numbers_of
length-numbers [] = refl
length-numbers (r ∷ rs) = omega (arith, length-numbers rs)

-- the rules of a service from line i on
abbrev pub own_from : List ℕ → ℕ → ℕ → ℕ → List Rule
own_from table n service i = own_rules service (lines_from (slice (4 * i) (4 * n) table))

module _ (table : List ℕ) (n : ℕ) (room : 4 * n ≤ length table) (service i : ℕ) where
  pub own-more : i < n → get_or table (4 * i) 0 ≡ service → own_from table n service i ≡ (line_at table i).rule ∷ own_from table n service (i + 1)
  own-more h e = ap (own_rules service) (rows_more table n room i h) ∙ own-here service (line_at table i) _ e

  pub own-past : i < n → (get_or table (4 * i) 0 ≡ service → ⊥) → own_from table n service i ≡ own_from table n service (i + 1)
  own-past h d = ap (own_rules service) (rows_more table n room i h) ∙ own-other service (line_at table i) _ d

  pub own-none : n ≤ i → own_from table n service i ≡ []
  unfolding own_rules
  own-none h = ap (own_rules service) (rows_none table n room i h)

  -- a rule that is stored
  pub own-stored :
      (out : List ℕ) (at : ℕ) → i < n → get_or table (4 * i) 0 ≡ service
      → sets
      (set (set (set out at (get_or table (4 * i + 1) 0)) (at + 1) (get_or table (4 * i + 2) 0)) (at + 2) (get_or table (4 * i + 3) 0))
      (at + 3)
      (numbers_of (own_from table n service (i + 1)))
      ≡ sets out at (numbers_of (own_from table n service i))
  unfolding numbers_of
  own-stored out at h e =
      let one : at + 1 ≡ suc at = omega arith in
      let two : at + 2 ≡ suc (suc at) = omega arith in
      let three : at + 3 ≡ suc (suc (suc at)) = omega arith in
      rw (one, two, three, own-more h e)
