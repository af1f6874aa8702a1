-- A change in stages (document 02, Req 06; the paper's section 6.2): the change of a service's rules, cut along the tree places of k-bit suffixes.
use Rattle.std.specs.Prelude.{ℕ, zero, suc, ◌^◌, not, List, [], ◌∷◌, leb, ltb, eqb}
use Rattle.numerals.specs.Pick.{pick}
use Rattle.numerals.specs.Suffix.{place}
use Rattle.numerals.specs.Sums.{count_to, largest_to}
use Rattle.expansion.specs.FirstMatch.{first_match}
use Rattle.expansion.specs.declared.rule.Rule.{Rule}

-- a service's rules in the old table and in the new one, of equal k
pub record Change : Type 0 where
  pub k : ℕ
  pub old : List Rule
  pub new : List Rule

-- a stage: the new backends below a place p and the old ones from it on. The id of the backend of suffix s in it
unfoldable pub stage_at : Change → ℕ → ℕ → ℕ
stage_at C p s = pick (ltb (place C.k s) p) (first_match C.new s) (first_match C.old s)

-- the churn from the stage at p to the stage at q: how many of the 2^k suffixes have a backend of another id
unfoldable pub stage_churn : Change → ℕ → ℕ → ℕ
stage_churn C p q = count_to (2 ^ C.k) (λ s. not (eqb (stage_at C p s) (stage_at C q s)))

-- where the next stage after the one at p ends: at the largest place whose churn from that one is within the limit
unfoldable pub next_place : Change → ℕ → ℕ → ℕ
next_place C limit p = largest_to (2 ^ C.k) (λ q. leb (stage_churn C p q) limit)

-- the places of the stages after the one at p, up to 2^k, where the stage is the new table; at most n of them
unfoldable pub row_from : Change → ℕ → ℕ → ℕ → List ℕ
row_from C limit zero p = []
row_from C limit (suc n) p = let q = next_place C limit p in q ∷ pick (ltb q (2 ^ C.k)) (row_from C limit n q) []

-- the row of places: the stage before the first is the old table, which is the stage at 0. For a limit from 1 on each place is above the one before it, so
-- there are no more than 2^k
unfoldable pub row : Change → ℕ → List ℕ
row C limit = row_from C limit (2 ^ C.k) 0
