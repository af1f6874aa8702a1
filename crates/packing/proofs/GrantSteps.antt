-- The run of the grants: what one turn does, that every turn's grants are allowed, and that the run has come to rest after as many turns as the capacity.
use Prim.Native.Nat.{ℕ, zero, suc, ◌+◌, ◌≤◌, ◌<◌}
use mathlib.Core.Path.{◌≡◌, refl, sym, ap, ◌∙◌}
use mathlib.Core.Bool.{Bool, true, false}
use mathlib.Core.Logic.{◌⊎◌, inl, inr}
use native.Mathlib.Omega.{arith}
use native.Mathlib.Decide.{ℕ_discrete, dec_le, dec_lt, le_ind}
use lib.Dec.{ltb, eqb}
use borrow.Author.Tests.{ltb-true, ltb-false, lt-ltb, le-ltb, eq-eqb, ne_eqb}
use Rattle.numerals.specs.Pick.{pick}
use Rattle.numerals.specs.Sums.{sum_to}
use Rattle.numerals.proofs.Sums.{sum_one}
use Rattle.numerals.proofs.Searches.{argmax-is}
use Rattle.packing.specs.Grants.{Problem, Grants, saving, next, rules, more, grant_step, grants_after, packed}
use Rattle.packing.specs.Inner.Premises.{Allowed}

pub more_same : (g : Grants) (s : ℕ) → more g s s ≡ suc (g s)
unfolding more
more_same g s = rw (eq-eqb s s refl)

pub more-other : (g : Grants) (s i : ℕ) → (i ≡ s → ⊥) → more g s i ≡ g i
unfolding more
more-other g s i h = rw (ne_eqb i s h)

pub more-le : (g : Grants) (s i : ℕ) → g i ≤ more g s i
unfolding more
more-le g s i = go (eqb i s)
  where
    go : (t : Bool) → g i ≤ pick t (suc (g i)) (g i)
    go true = omega arith
    go false = omega arith

-- A turn goes on while there is room and the greatest saving is above zero, and stops otherwise.
pub record Goes (P : Problem) (g : Grants) : Type 0 where
  pub room : rules P g < P.capacity
  pub gains : 0 < saving P g (next P g)

abbrev pub Stops : Problem → Grants → Type 0
Stops P g = (P.capacity ≤ rules P g) ⊎ (saving P g (next P g) ≡ 0)

pub goes-or-stops : (P : Problem) (g : Grants) → Goes P g ⊎ Stops P g
goes-or-stops P g = go (ltb (rules P g) P.capacity) refl (ℕ_discrete (saving P g (next P g)) 0)
  where
    go : (t : Bool) → ltb (rules P g) P.capacity ≡ t → Dec (saving P g (next P g) ≡ 0) → Goes P g ⊎ Stops P g
    go true e (yes z) = inr (inr z)
    go true e (no z) = inl (record { room = omega (arith, ltb-true); gains = omega arith })
    go false e d = inr (inl (omega (arith, ltb-false)))

pub step-goes : (P : Problem) (g : Grants) → Goes P g → grant_step P g ≡ more g (next P g)
unfolding grant_step
step-goes P g h =
    rw
    (lt-ltb (rules P g) P.capacity h.room, grant_step, ne_eqb (saving P g (next P g)) 0 (λ e. omega arith))

pub step-stops : (P : Problem) (g : Grants) → Stops P g → grant_step P g ≡ g
unfolding grant_step
step-stops P g (inl h) = rw (le-ltb (rules P g) P.capacity h, grant_step)
step-stops P g (inr h) = go (ltb (rules P g) P.capacity)
  where
    go :
        (t : Bool)
        → elim t as (λ _. Grants) [
          | true ↦ elim (eqb (saving P g (next P g)) 0) as (λ _. Grants) [ true ↦ g | false ↦ more g (next P g) ]
          | false ↦ g
        ] ≡ g
    go true = rw (eq-eqb (saving P g (next P g)) 0 h)
    go false = refl

-- a fact of all grants of the run holds if it holds of the least grants and is kept by each rule more
pub along :
    (P : Problem) (K : Grants → Type 0) → K P.least
    → ((g : Grants) → Goes P g → K g → K (more g (next P g))) → (x : ℕ) → K (grants_after P x)
unfolding grants_after
along P K base keeps zero = base
along P K base keeps (suc x) = go (goes-or-stops P (grants_after P x)) (along P K base keeps x)
  where
    go : Goes P (grants_after P x) ⊎ Stops P (grants_after P x) → K (grants_after P x) → K (grant_step P (grants_after P x))
    go (inl h) k = rw (step-goes P (grants_after P x) h) (keeps (grants_after P x) h k)
    go (inr h) k = rw (step-stops P (grants_after P x) h) k

-- grants never fall
pub step-rises : (P : Problem) (g : Grants) (i : ℕ) → g i ≤ grant_step P g i
step-rises P g i = go (goes-or-stops P g)
  where
    go : Goes P g ⊎ Stops P g → g i ≤ grant_step P g i
    go (inl h) = rw (step-goes P g h) (more-le g (next P g) i)
    go (inr h) = rw (step-stops P g h) (omega arith)

pub never-fall : (P : Problem) (x y i : ℕ) → x ≤ y → grants_after P x i ≤ grants_after P y i
unfolding grants_after
never-fall P x y i l =
    le_ind (λ m. grants_after P x i ≤ grants_after P m i) (omega arith)
    (λ m _ ih. omega (arith, ih, step-rises P (grants_after P m) i)) y l

-- once stopped, nothing changes any more
pub at_rest : (P : Problem) (x y : ℕ) → x ≤ y → Stops P (grants_after P x) → grants_after P y ≡ grants_after P x
unfolding grants_after
at_rest P x y l h =
    le_ind (λ m. grants_after P m ≡ grants_after P x) refl
    (λ m _ e. ap (grant_step P) e ∙ step-stops P (grants_after P x) h) y l

-- no service saves more than the next one
pub next-max : (P : Problem) (g : Grants) (s : ℕ) → s < P.services → saving P g s ≤ saving P g (next P g)
unfolding next
next-max P g s l = (argmax-is (saving P g) P.services (omega arith)).best s l

rules-none : (P : Problem) → P.services ≡ 0 → (g : Grants) → rules P g ≡ 0
unfolding rules sum_to
rules-none P e g = rw e

-- where there is a service at all
module _ (P : Problem) (some : 0 < P.services) where
  pub next-lt : (g : Grants) → next P g < P.services
  unfolding next
  next-lt g = (argmax-is (saving P g) P.services some).inside

  pub rules-more : (g : Grants) → rules P (more g (next P g)) ≡ rules P g + 1
  unfolding rules
  rules-more g =
      omega (
        arith,
        sum_one P.services (more g (next P g)) g (next P g) (next-lt g) (λ i _. more-other g (next P g) i),
        more_same g (next P g),
      )

  -- until it stops, every turn adds a rule
  stopped-or-used : (x : ℕ) → Stops P (grants_after P x) ⊎ (x ≤ rules P (grants_after P x))
  unfolding grants_after
  stopped-or-used zero = inr (omega arith)
  stopped-or-used (suc x) = go (goes-or-stops P (grants_after P x)) (stopped-or-used x)
    where
      go :
          Goes P (grants_after P x) ⊎ Stops P (grants_after P x)
          → Stops P (grants_after P x) ⊎ (x ≤ rules P (grants_after P x))
          → Stops P (grant_step P (grants_after P x)) ⊎ (suc x ≤ rules P (grant_step P (grants_after P x)))
      go (inl h) (inl (inl z)) = absurd (omega arith)
      go (inl h) (inl (inr z)) = absurd (omega arith)
      go (inl h) (inr ih) = inr (rw (step-goes P (grants_after P x) h) (omega (arith, rules-more (grants_after P x))))
      go (inr h) ih = inl (rw (step-stops P (grants_after P x) h) h)

  pub packed-stops : Stops P (packed P)
  unfolding packed
  packed-stops = go (stopped-or-used P.capacity)
    where
      go :
          Stops P (grants_after P P.capacity) ⊎ (P.capacity ≤ rules P (grants_after P P.capacity))
          → Stops P (grants_after P P.capacity)
      go (inl h) = h
      go (inr h) = inl h

  -- whoever stops where the run stops has the grants of the packing
  pub packed-at : (x : ℕ) → Stops P (grants_after P x) → packed P ≡ grants_after P x
  unfolding packed
  packed-at x h = go (dec_le x P.capacity)
    where
      go : Dec (x ≤ P.capacity) → grants_after P P.capacity ≡ grants_after P x
      go (yes l) = at_rest P x P.capacity l h
      go (no l) = sym (at_rest P P.capacity x (omega arith) packed-stops)

-- every turn's grants are allowed, if the least grants are
pub allowed : (P : Problem) → rules P P.least ≤ P.capacity → (x : ℕ) → Allowed P (grants_after P x)
allowed P fits =
    along P (Allowed P) (record { enough = λ s _. omega arith; room = fits })
    (λ g h a. record {
      enough = λ s l. omega (arith, a.enough s l, more-le g (next P g) s);
      room = go g h (dec_lt 0 P.services);
    })
  where
    go : (g : Grants) → Goes P g → Dec (0 < P.services) → rules P (more g (next P g)) ≤ P.capacity
    go g h (yes some) = omega (arith, rules-more P some g)
    go g h (no none) = omega (arith, rules-none P (omega arith) (more g (next P g)))

pub packed-allowed : (P : Problem) → rules P P.least ≤ P.capacity → Allowed P (packed P)
unfolding packed
packed-allowed P fits = allowed P fits P.capacity

-- at the end all the capacity is spent, or no service has anything left to save
abbrev pub Ends : Problem → Grants → Type 0
Ends P g = (rules P g ≡ P.capacity) ⊎ ((s : ℕ) → s < P.services → saving P g s ≡ 0)

pub packed_ends : (P : Problem) → rules P P.least ≤ P.capacity → Ends P (packed P)
packed_ends P fits = go (dec_lt 0 P.services)
  where
    stop : Stops P (packed P) → Ends P (packed P)
    stop (inl h) = inl (omega (arith, (packed-allowed P fits).room))
    stop (inr h) = inr (λ s l. omega (arith, next-max P (packed P) s l))

    go : Dec (0 < P.services) → Ends P (packed P)
    go (yes some) = stop (packed-stops P some)
    go (no none) = inr (λ s l. absurd (omega arith))
