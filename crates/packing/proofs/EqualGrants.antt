-- The packing looks at the grants of its services only: grants that agree there have the same rules, savings, total and turns. So a program may keep
-- them in a list.
use Prim.Native.Nat.{ℕ, zero, suc, ◌<◌}
use mathlib.Core.Path.{◌≡◌, sym, ap, ◌∙◌}
use mathlib.Core.List.{List}
use mathlib.Core.Logic.{◌⊎◌, inl, inr}
use native.Mathlib.Omega.{arith}
use native.Mathlib.Decide.{ℕ_discrete}
use lib.ListN.{length, get_or, set}
use lib.Seq.{get_or-set_same, get_or-set_other}
use Rattle.numerals.proofs.Sums.{sum-ext}
use Rattle.numerals.proofs.Searches.{argmax-ext}
use Rattle.packing.specs.Grants.{Problem, Grants, saving, next, rules, total, more, grant_step, grants_after, packed}
use Rattle.packing.proofs.GrantSteps.{more_same, more-other, Goes, Stops, goes-or-stops, step-goes, step-stops, next-lt}

abbrev pub Agree : Problem → Grants → Grants → Type 0
Agree P g h = (s : ℕ) → s < P.services → g s ≡ h s

-- one rule more, in a list
pub more-set :
    (gs : List ℕ) (n : ℕ) → n < length gs → (i : ℕ)
    → get_or (set gs n (suc (get_or gs n 0))) i 0 ≡ more (λ s. get_or gs s 0) n i
more-set gs n l i = go (ℕ_discrete i n)
  where
    go : Dec (i ≡ n) → get_or (set gs n (suc (get_or gs n 0))) i 0 ≡ more (λ s. get_or gs s 0) n i
    go (yes e) = rw e (get_or-set_same gs n (suc (get_or gs n 0)) 0 l ∙ sym (more_same (λ s. get_or gs s 0) n))
    go (no d) = get_or-set_other gs n i (suc (get_or gs n 0)) 0 d ∙ sym (more-other (λ s. get_or gs s 0) n i d)

module _ (P : Problem) (g h : Grants) (agree : Agree P g h) where
  pub rules-agree : rules P g ≡ rules P h
  unfolding rules
  rules-agree = sum-ext P.services g h agree

  pub total-agree : total P g ≡ total P h
  unfolding total
  total-agree =
      sum-ext P.services (λ s. P.cost s (g s)) (λ s. P.cost s (h s)) (λ s l. ap (P.cost s) (agree s l))

  pub saving-agree : (s : ℕ) → s < P.services → saving P g s ≡ saving P h s
  unfolding saving
  saving-agree s l = rw (agree s l)

  pub next_agree : next P g ≡ next P h
  unfolding next
  next_agree = argmax-ext (saving P g) (saving P h) P.services saving-agree

  pub more-agree : (n : ℕ) → Agree P (more g n) (more h n)
  unfolding more
  more-agree n s l = rw (agree s l)

  -- where there is a service at all
  module _ (some : 0 < P.services) where
    gain-agree : saving P g (next P g) ≡ saving P h (next P h)
    gain-agree = saving-agree (next P g) (next-lt P some g) ∙ ap (saving P h) next_agree

    pub goes-agree : Goes P g → Goes P h
    goes-agree k = record { room = omega (arith, rules-agree); gains = omega (arith, gain-agree) }

    pub stops-agree : Stops P g → Stops P h
    stops-agree (inl k) = inl (omega (arith, rules-agree))
    stops-agree (inr k) = inr (omega (arith, gain-agree))

    pub step-agree : Agree P (grant_step P g) (grant_step P h)
    step-agree = go (goes-or-stops P g)
      where
        go : Goes P g ⊎ Stops P g → Agree P (grant_step P g) (grant_step P h)
        go (inl k) s l =
            rw (step-goes P g k, step-goes P h (goes-agree k), ← next_agree) (more-agree (next P g) s l)
        go (inr k) s l = rw (step-stops P g k, step-stops P h (stops-agree k)) (agree s l)

-- the same problem from other least grants
abbrev pub with_least : Problem → Grants → Problem
with_least P h = record { services = P.services; cost = P.cost; least = h; capacity = P.capacity }

-- least grants that agree lead to grants that agree
module _ (P : Problem) (h : Grants) (agree : Agree P P.least h) (some : 0 < P.services) where
  after-agree : (x : ℕ) → Agree P (grants_after P x) (grants_after (with_least P h) x)
  unfolding grants_after grant_step saving next rules more
  after-agree zero = agree
  after-agree (suc x) =
      step-agree P (grants_after P x) (grants_after (with_least P h) x) (after-agree x) some

  pub packed-agree : Agree P (packed P) (packed (with_least P h))
  unfolding packed
  packed-agree = after-agree P.capacity
