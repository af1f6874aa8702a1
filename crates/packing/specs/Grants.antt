-- Packing (document 01, under that heading), over any cost of each service by its grant and any least grants.
use Rattle.std.specs.Prelude.{ℕ, zero, suc, ◌-◌, true, false, ltb, eqb}
use Rattle.numerals.specs.Pick.{pick}
use Rattle.numerals.specs.Sums.{sum_to, argmax}

-- The services, what each costs (volume × imbalance) at a grant, its least grant, and the capacity of the table.
pub record Problem : Type 0 where
  pub services : ℕ
  pub cost : ℕ → ℕ → ℕ
  pub least : ℕ → ℕ
  pub capacity : ℕ

-- a grant for each service, by its place from 0
abbrev pub Grants : Type 0
Grants = ℕ → ℕ

-- what the next rule of a service saves: volume × drop of its next stair
unfoldable pub saving : Problem → Grants → ℕ → ℕ
saving P g s = P.cost s (g s) - P.cost s (suc (g s))

-- the service of the greatest saving, the lowest number if equal
unfoldable pub next : Problem → Grants → ℕ
next P g = argmax (saving P g) P.services

unfoldable pub rules : Problem → Grants → ℕ
rules P g = sum_to P.services g

unfoldable pub total : Problem → Grants → ℕ
total P g = sum_to P.services (λ s. P.cost s (g s))

-- one rule more to service s
unfoldable pub more : Grants → ℕ → Grants
more g s = λ i. pick (eqb i s) (suc (g i)) (g i)

-- the next rule goes to the greatest saving; it ends at the capacity, or when that saving is zero
unfoldable pub grant_step : Problem → Grants → Grants
grant_step P g =
    elim (ltb (rules P g) P.capacity) [
      | true ↦ elim (eqb (saving P g (next P g)) 0) [ true ↦ g | false ↦ more g (next P g) ]
      | false ↦ g
    ]

unfoldable pub grants_after : Problem → ℕ → Grants
grants_after P zero = P.least
grants_after P (suc x) = grant_step P (grants_after P x)

-- the grants of the packing: no more turns than the capacity are needed
unfoldable pub packed : Problem → Grants
packed P = grants_after P P.capacity
