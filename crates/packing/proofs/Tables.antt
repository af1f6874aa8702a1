-- The table of grants holds of each service the granted oldest rules, so that its counted total is the packing's total.
use Prim.Native.Nat.{ℕ, zero, suc, ◌-◌, ◌*◌, ◌≤◌, ◌<◌, min}
use mathlib.Core.Path.{◌≡◌, refl, sym, ap, ap₂, ◌∙◌}
use mathlib.Core.Bool.{Bool, true, false}
use mathlib.Core.List.{List, [], ◌∷◌, ◌++◌, append-nil}
use native.Mathlib.Nat.{mul-sub}
use native.Mathlib.Omega.{arith}
use native.Mathlib.Decide.{ℕ_discrete}
use lib.Dec.{eqb}
use lib.ListN.{length, drop, length-append}
use borrow.Author.Tests.{eq-eqb, ne_eqb}
use Rattle.numerals.specs.Pick.{pick}
use Rattle.numerals.specs.Sums.{sum_to}
use Rattle.numerals.proofs.Sums.{sum-ext}
use Rattle.expansion.proofs.Turns.{oldest-all, length-oldest}
use Rattle.expansion.specs.Imbalance.{imbalance}
use Rattle.expansion.specs.Steps.{frame, oldest, stair}
use Rattle.expansion.specs.declared.rule.Rule.{Rule}
use Rattle.packing.specs.Grants.{Grants, saving, total}
use Rattle.packing.specs.Count.{Line, Services, services, volume, targets_of, counted_imbalance, counted, own_rules}
use Rattle.packing.specs.Table.{frame_of, list_for, lines_of, table_of, table, problem}

pub own-append : (s : ℕ) (a b : List Line) → own_rules s (a ++ b) ≡ own_rules s a ++ own_rules s b
unfolding own_rules
own-append s [] b = refl
own-append s (l ∷ a) b = go (eqb l.service s) (own-append s a b)
  where
    go :
        (t : Bool) → own_rules s (a ++ b) ≡ own_rules s a ++ own_rules s b
        → pick t (l.rule ∷ own_rules s (a ++ b)) (own_rules s (a ++ b))
        ≡ pick t (l.rule ∷ own_rules s a) (own_rules s a) ++ own_rules s b
    go true e = ap (λ (rs : List Rule). l.rule ∷ rs) e
    go false e = e

pub own-lines : (s : ℕ) (rs : List Rule) → own_rules s (lines_of s rs) ≡ rs
unfolding own_rules lines_of
own-lines s [] = refl
own-lines s (r ∷ rs) = rw (eq-eqb s s refl, own-lines s rs)

pub own-others : (s t : ℕ) → (t ≡ s → ⊥) → (rs : List Rule) → own_rules s (lines_of t rs) ≡ []
unfolding own_rules lines_of
own-others s t d [] = refl
own-others s t d (r ∷ rs) = rw (ne_eqb t s d, own-others s t d rs)

own-none : (n s : ℕ) (lists : ℕ → List Rule) (g : Grants) → n ≤ s → own_rules (suc s) (table_of n lists g) ≡ []
unfolding table_of own_rules
own-none zero s lists g l = refl
own-none (suc n) s lists g l =
    own-append (suc s) (table_of n lists g) (lines_of (suc n) (oldest (g n) (lists n)))
    ∙ ap₂ ◌++◌ (own-none n s lists g (omega arith)) (own-others (suc s) (suc n) (λ e. omega arith) (oldest (g n) (lists n)))

-- a service's rules in the table are as many oldest of its list as it is granted
pub own-table :
    (n s : ℕ) (lists : ℕ → List Rule) (g : Grants) → s < n
    → own_rules (suc s) (table_of n lists g) ≡ oldest (g s) (lists s)
unfolding table_of
own-table zero s lists g l = absurd (omega arith)
own-table (suc n) s lists g l =
    own-append (suc s) (table_of n lists g) (lines_of (suc n) (oldest (g n) (lists n)))
    ∙ go (ℕ_discrete n s) (own-table n s lists g)
  where
    go :
        Dec (n ≡ s) → (s < n → own_rules (suc s) (table_of n lists g) ≡ oldest (g s) (lists s))
        → own_rules (suc s) (table_of n lists g) ++ own_rules (suc s) (lines_of (suc n) (oldest (g n) (lists n)))
        ≡ oldest (g s) (lists s)
    go (yes e) ih =
        rw e (ap₂ ◌++◌ (own-none s s lists g (omega arith)) (own-lines (suc s) (oldest (g s) (lists s))))
    go (no d) ih =
        ap₂ ◌++◌ (ih (omega arith)) (own-others (suc s) (suc n) (λ e. d (omega arith)) (oldest (g n) (lists n)))
        ∙ append-nil (oldest (g s) (lists s))

-- a list of which as many rules are kept as it has is kept whole
pub oldest-whole : (c : ℕ) (rs : List Rule) → length (oldest c rs) ≡ length rs → oldest c rs ≡ rs
oldest-whole c rs e = oldest-all c rs (omega (arith, length-oldest c rs))

pub length-lines : (s : ℕ) (rs : List Rule) → length (lines_of s rs) ≡ length rs
unfolding lines_of
length-lines s [] = refl
length-lines s (r ∷ rs) = ap suc (length-lines s rs)

-- the number of lines
pub length-table :
    (n : ℕ) (lists : ℕ → List Rule) (g : Grants)
    → length (table_of n lists g) ≡ sum_to n (λ s. min (g s) (length (lists s)))
unfolding table_of sum_to
length-table zero lists g = refl
length-table (suc n) lists g =
    simp (length-append, length-table n lists g, length-lines, length-oldest)

-- grants that agree, or go past the end of a list, have the same table
pub tables_agree :
    (n : ℕ) (lists : ℕ → List Rule) (g h : Grants)
    → ((s : ℕ) → s < n → min (g s) (length (lists s)) ≡ min (h s) (length (lists s)))
    → table_of n lists g ≡ table_of n lists h
unfolding table_of oldest
tables_agree zero lists g h e = refl
tables_agree (suc n) lists g h e =
    let same : length (lists n) - g n ≡ length (lists n) - h n = omega (arith, e n (omega arith)) in
    ap₂ ◌++◌ (tables_agree n lists g h (λ s l. e s (omega arith))) (ap (λ (d : ℕ). lines_of (suc n) (drop d (lists n))) same)

module _ (S : Services) (tolerance : ℕ) (g : Grants) (s : ℕ) (l : s < services S) where
  pub own_granted : own_rules (suc s) (table S tolerance g) ≡ oldest (g s) (list_for S tolerance s)
  unfolding table
  own_granted = own-table (services S) s (list_for S tolerance) g l

  -- a service with as many lines in the table as its list has rules has its whole list there
  pub own-whole :
      length (own_rules (suc s) (table S tolerance g)) ≡ length (list_for S tolerance s)
      → own_rules (suc s) (table S tolerance g) ≡ list_for S tolerance s
  own-whole e = own_granted ∙ oldest-whole (g s) (list_for S tolerance s) (sym (ap length own_granted) ∙ e)

-- the counted total of the table of grants is the packing's total
pub counted-table :
    (S : Services) (tolerance : ℕ) (least : Grants) (capacity : ℕ) (g : Grants)
    → counted S (table S tolerance g) ≡ total (problem S tolerance least capacity) g
unfolding counted counted_imbalance total problem stair frame_of frame targets_of
counted-table S tolerance least capacity g =
    sum-ext (services S) (λ s. volume S s * imbalance (targets_of S s) (own_rules (suc s) (table S tolerance g)))
    (λ s. volume S s * imbalance (targets_of S s) (oldest (g s) (list_for S tolerance s)))
    (λ s l. ap (λ (rs : List Rule). volume S s * imbalance (targets_of S s) rs) (own_granted S tolerance g s l))

-- what the next rule saves is the volume × the drop of the next stair
pub saving-drop :
    (S : Services) (tolerance : ℕ) (least : Grants) (capacity : ℕ) (g : Grants) (s : ℕ)
    → saving (problem S tolerance least capacity) g s
    ≡ volume S s
    * (stair (frame_of S tolerance s) (g s) (list_for S tolerance s) - stair (frame_of S tolerance s) (suc (g s)) (list_for S tolerance s))
unfolding saving problem
saving-drop S tolerance least capacity g s =
    sym
    (mul-sub (volume S s) (stair (frame_of S tolerance s) (g s) (list_for S tolerance s))
    (stair (frame_of S tolerance s) (suc (g s)) (list_for S tolerance s)))
