-- No allowed grants have a smaller total than the packing's, for falling convex costs. The proof goes by a price for a rule: the greatest saving left
-- at the end. Every rule granted saved at least that price, every next one saves at most that, so for each service cost + rules × price is least at
-- its grant; and the price is zero or all the capacity is spent.
use Prim.Native.Nat.{ℕ, suc, ◌+◌, ◌-◌, ◌*◌, ◌≤◌, ◌<◌}
use mathlib.Core.Path.{◌≡◌}
use mathlib.Core.Logic.{inl, inr}
use native.Mathlib.Omega.{arith}
use native.Mathlib.Nat.{mul-le-mul_right, le_trans}
use native.Mathlib.Decide.{ℕ_discrete, dec_le, dec_lt, le_ind}
use Rattle.numerals.specs.Sums.{sum_to}
use Rattle.numerals.proofs.Sums.{sum-le, sum-add, sum-mul}
use Rattle.packing.specs.Grants.{Problem, Grants, saving, next, rules, total, more, grants_after, packed}
use Rattle.packing.specs.Inner.Premises.{Allowed, Convex}
use Rattle.packing.proofs.GrantSteps.{more_same, more-other, more-le, along, next-max, packed-allowed, Ends, packed_ends, next-lt}

-- A cost c and a price p: where no rule from a on saves more than p, more rules than a don't pay.
pub no_more :
    (c : ℕ → ℕ) (p a x : ℕ) → a ≤ x → ((y : ℕ) → a ≤ y → c y ≤ c (suc y) + p) → c a + a * p ≤ c x + x * p
no_more c p a x l h =
    le_ind (λ x. c a + a * p ≤ c x + x * p) (omega arith) (λ y k ih. omega (arith, ih, h y k)) x l

-- Where every rule from b up to a saves p or more, fewer rules than a don't pay.
pub no-fewer :
    (c : ℕ → ℕ) (p b a : ℕ) → b ≤ a → ((y : ℕ) → b ≤ y → y < a → c (suc y) + p ≤ c y) → c a + a * p ≤ c b + b * p
no-fewer c p b a l h =
    le_ind (λ x. x ≤ a → c x + x * p ≤ c b + b * p) (omega arith)
    (λ y k ih m. omega (arith, ih (omega arith), h y k m)) a l (omega arith)

saving-same :
    (P : Problem) (g : Grants) (s : ℕ)
    → saving P (more g s) s ≡ P.cost s (suc (g s)) - P.cost s (suc (suc (g s)))
unfolding saving
saving-same P g s = rw (more_same g s)

saving-other : (P : Problem) (g : Grants) (s t : ℕ) → (t ≡ s → ⊥) → saving P (more g s) t ≡ saving P g t
unfolding saving
saving-other P g s t h = rw (more-other g s t h)

-- every rule granted saved as much as any next one would
pub record Priced (P : Problem) (g : Grants) : Type 0 where
  pub enough : (s : ℕ) → s < P.services → P.least s ≤ g s
  pub saved :
      (s t y : ℕ) → s < P.services → t < P.services → P.least s ≤ y → y < g s
      → saving P g t ≤ P.cost s y - P.cost s (suc y)

module _ (P : Problem) (convex : Convex P) where
  -- a rule more to a service of the greatest saving keeps that
  priced-more :
      (g : Grants) (n : ℕ) → n < P.services → ((t : ℕ) → t < P.services → saving P g t ≤ saving P g n)
      → Priced P g → Priced P (more g n)
  unfolding saving
  priced-more g n ln most k =
      record {
        enough = λ s l. omega (arith, k.enough s l, more-le g n s);
        saved = λ s t y ls lt low high. go s t y ls lt low (ℕ_discrete s n) (ℕ_discrete y (g n)) high;
      }
    where
      down : (t : ℕ) → t < P.services → Dec (t ≡ n) → saving P (more g n) t ≤ saving P g n
      down t l (yes e) = rw (e, saving-same P g n) (convex.bends n (g n) ln (k.enough n ln))
      down t l (no e) = rw (saving-other P g n t e) (most t l)

      go :
          (s t y : ℕ) → s < P.services → t < P.services → P.least s ≤ y → Dec (s ≡ n) → Dec (y ≡ g n)
          → y < more g n s → saving P (more g n) t ≤ P.cost s y - P.cost s (suc y)
      go s t y ls lt low (yes e) (yes f) high = rw (e, f) (down t lt (ℕ_discrete t n))
      go s t y ls lt low (yes e) (no f) high =
          rw e
          (omega (arith, down t lt (ℕ_discrete t n), k.saved n n y ln ln (rw e at low) (omega (arith, rw (e, more_same g n) at high))))
      go s t y ls lt low (no e) _ high =
          omega (arith, down t lt (ℕ_discrete t n), k.saved s n y ls ln low (omega (arith, more-other g n s e)))

  pub priced : 0 < P.services → (x : ℕ) → Priced P (grants_after P x)
  priced some =
      along P (Priced P)
      (record { enough = λ s _. omega arith; saved = λ s t y _ _ low high. absurd (omega arith) })
      (λ g _ k. priced-more g (next P g) (next-lt P some g) (next-max P g) k)

-- a price of a rule: no rule left saves more, and every rule granted saved as much
pub record Price (P : Problem) (g : Grants) (p : ℕ) : Type 0 where
  pub left : (s : ℕ) → s < P.services → saving P g s ≤ p
  pub made :
      (s y : ℕ) → s < P.services → P.least s ≤ y → y < g s → p ≤ P.cost s y - P.cost s (suc y)

module _ (P : Problem) (convex : Convex P) (g : Grants) (p : ℕ) (price : Price P g p) where
  -- cost and price of each service are least at its grant
  least_at :
      (s x : ℕ) → s < P.services → P.least s ≤ g s → P.least s ≤ x
      → P.cost s (g s) + g s * p ≤ P.cost s x + x * p
  unfolding saving
  least_at s x l enough low = go (dec_le (g s) x)
    where
      later : (y : ℕ) → g s ≤ y → P.cost s y - P.cost s (suc y) ≤ p
      later y h =
          le_ind (λ y. P.cost s y - P.cost s (suc y) ≤ p) (price.left s l)
          (λ m a ih. le_trans (convex.bends s m l (le_trans enough a)) ih) y h

      go : Dec (g s ≤ x) → P.cost s (g s) + g s * p ≤ P.cost s x + x * p
      go (yes h) = no_more (P.cost s) p (g s) x h (λ y a. omega (arith, later y a))
      go (no h) =
          no-fewer (P.cost s) p x (g s) (omega arith)
          (λ y a b. omega (arith, price.made s y l (omega arith) b, convex.falls s y l (omega arith)))

  -- so total and price of all rules are least at g
  pub by-price :
      (h : Grants) → Allowed P g → Allowed P h → total P g + rules P g * p ≤ total P h + rules P h * p
  unfolding total rules
  by-price h a b =
      rw (← worth g, ← worth h)
      (sum-le P.services (both g) (both h) (λ s l. least_at s (h s) l (a.enough s l) (b.enough s l)))
    where
      both : Grants → ℕ → ℕ
      both f s = P.cost s (f s) + f s * p

      worth :
          (f : Grants)
          → sum_to P.services (both f) ≡ sum_to P.services (λ s. P.cost s (f s)) + sum_to P.services f * p
      worth f =
          omega (arith, sum-add P.services (λ s. P.cost s (f s)) (λ s. f s * p), sum-mul P.services f p)

-- the packing's total is the least that the capacity allows
pub best :
    (P : Problem) → Convex P → rules P P.least ≤ P.capacity → (h : Grants) → Allowed P h
    → total P (packed P) ≤ total P h
unfolding packed
best P convex fits h a = go (dec_lt 0 P.services) (packed_ends P fits)
  where
    by : (p : ℕ) → Price P (packed P) p → total P (packed P) + rules P (packed P) * p ≤ total P h + rules P h * p
    by p price = by-price P convex (packed P) p price h (packed-allowed P fits) a

    free : ((s : ℕ) → s < P.services → saving P (packed P) s ≡ 0) → total P (packed P) ≤ total P h
    free none =
        omega
        (arith, by 0 (record { left = λ s l. omega (arith, none s l); made = λ s y _ _ _. omega arith }))

    go : Dec (0 < P.services) → Ends P (packed P) → total P (packed P) ≤ total P h
    go _ (inr none) = free none
    go (no none) (inl _) = free (λ s l. absurd (omega arith))
    go (yes some) (inl full) =
        let n : ℕ = next P (packed P) in
        let p : ℕ = saving P (packed P) n in
        let price : Price P (packed P) p =
        record {
          left = next-max P (packed P);
          made = λ s y l. (priced P convex some P.capacity).saved s n y l (next-lt P some (packed P));
        }
        in
        let room : rules P h * p ≤ rules P (packed P) * p = mul-le-mul_right p (rw full a.room) in
        omega (arith, by p price, room)
