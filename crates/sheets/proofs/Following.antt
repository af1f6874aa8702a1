-- A line behind others: what is kept of those decides whether it may stand there, and is kept of it and them.
use Prim.Native.Nat.{ℕ, suc, ◌+◌, ◌≤◌, ◌<◌}
use mathlib.Core.Path.{◌≡◌, refl, sym, ◌∙◌, ap}
use mathlib.Core.Bool.{Bool, true, false}
use mathlib.Core.List.{List, [], ◌∷◌}
use native.Mathlib.Numerals.{add-one}
use native.Mathlib.Omega.{arith}
use lib.Dec.{leb, ltb, eqb, eqb-suc-zero}
use lib.ListN.{length, get_or, set, length-set}
use lib.Seq.{get_or-set_same, get_or-set_other}
use borrow.Author.Tests.{eqb-true, eqb-false, eq-eqb, ne_eqb, le-ltb, lt-ltb}
use Rattle.numerals.specs.Pick.{pick, both}
use Rattle.packing.specs.Count.{Line, own_rules}
use Rattle.numerals.specs.Limits.{most_services, most_rules}
use Rattle.numerals.specs.declared.refusal.Refusal.{Refusal}
use Rattle.numerals.specs.declared.refusal.Refusal.TheVariants.{TooMany, Order}
use Rattle.sheets.specs.Reading.{Reading, got, refused, unless}
use Rattle.sheets.specs.RuleSheet.{count_of, in_order, placed}
use Rattle.sheets.specs.Inner.Order.{last_of, Behind, placing}
use Rattle.sheets.specs.declared.order.Last.{Last}

-- the order by what is kept of the lines before
unfoldable pub order_by : Last → ℕ → ℕ → Bool
order_by last s l =
    pick (eqb last.count 0) true
    (pick (eqb last.service s) (both (ltb 0 last.len) (leb l last.len)) (both (ltb last.service s) (eqb last.len 0)))

pub order-last : (before : List Line) (l : Line) → in_order before l ≡ order_by (last_of before) l.service l.rule.len
unfolding in_order last_of order_by
order-last [] l = refl
order-last (p ∷ ps) l = rw (eqb-suc-zero (length ps))

-- one line more of a service
pub count_same : (l : Line) (ls : List Line) → count_of l.service (l ∷ ls) ≡ suc (count_of l.service ls)
unfolding count_of own_rules
count_same l ls = rw (eq-eqb l.service l.service refl)

pub count-other : (s : ℕ) (l : Line) (ls : List Line) → (l.service ≡ s → ⊥) → count_of s (l ∷ ls) ≡ count_of s ls
unfolding count_of own_rules
count-other s l ls n = rw (ne_eqb l.service s n)

-- a service is the line's, or another
pub by-service : (s : ℕ) (l : Line) {P : Type 0} → (l.service ≡ s → P) → ((l.service ≡ s → ⊥) → P) → P
by-service s l {P} same other = go (eqb l.service s) refl
  where
    go : (t : Bool) → eqb l.service s ≡ t → P
    go true e = same (eqb-true l.service s e)
    go false e = other (eqb-false l.service s e)

pub last-count : (before : List Line) → (last_of before).count ≡ length before
unfolding last_of
last-count [] = refl
last-count (l ∷ ls) = refl

-- what is kept once the line is tallied
module _ (before : List Line) (l : Line) (last : Last) (tally : List ℕ) (passed : Behind before last tally) (small : l.service ≤ most_services) where
  pub behind-next :
      Behind (l ∷ before) (record { count = last.count + 1; service = l.service; len = l.rule.len })
      (set tally l.service (get_or tally l.service 0 + 1))
  unfolding last_of
  behind-next =
      record {
        is = count (last.count + 1) (add-one last.count ∙ ap suc (ap (λ q. q.count) passed.is ∙ last-count before));
        places = length-set tally l.service (get_or tally l.service 0 + 1) ∙ passed.places;
        tallied = tallied;
      }
    where
      count : (n : ℕ) → n ≡ suc (length before)
          → ◌≡◌ {A = Last} (record { count = n; service = l.service; len = l.rule.len }) (last_of (l ∷ before))
      count n e = rw e

      tallied : (s : ℕ) → s ≤ most_services → get_or (set tally l.service (get_or tally l.service 0 + 1)) s 0 ≡ count_of s (l ∷ before)
      tallied s h =
          by-service s l
          (λ e. rw (← e) (get_or-set_same tally l.service (get_or tally l.service 0 + 1) 0 (omega (arith, passed.places))
          ∙ add-one (get_or tally l.service 0)
          ∙ ap suc (passed.tallied l.service small)
          ∙ sym (count_same l before)))
          (λ n. get_or-set_other tally l.service s (get_or tally l.service 0 + 1) 0 (λ e. n (sym e))
          ∙ passed.tallied s h
          ∙ sym (count-other s l before n))

-- the two tests of a line
module _ (before : List Line) (l : Line) where
  pub too_many : most_rules ≤ count_of l.service before → placing before l ≡ refused TooMany 0
  unfolding placing placed unless
  too_many h = rw (le-ltb (count_of l.service before) most_rules h)

  pub by_order : count_of l.service before < most_rules → placing before l ≡ unless (in_order before l) Order 0 (got tt)
  unfolding placing placed unless
  by_order h = rw (lt-ltb (count_of l.service before) most_rules h)

-- whether a line may stand behind others doesn't depend on what comes next
module _ {A : Type 0} (before : List Line) (l : Line) (at : ℕ) (next : Reading A) where
  pub placed-next : placing before l ≡ got tt → placed before l at next ≡ next
  unfolding placing placed unless
  placed-next h = go (ltb (count_of l.service before) most_rules) (in_order before l) h
    where
      go : (s t : Bool) → unless {A = Unit {0}} s TooMany 0 (unless t Order 0 (got tt)) ≡ got tt → unless s TooMany at (unless t Order at next) ≡ next
      go true true h = refl
      go true false h = cc
      go false t h = cc

  pub placed-refused : (why : Refusal) → placing before l ≡ refused why 0 → placed before l at next ≡ refused why at
  unfolding placing placed unless
  placed-refused why h = go (ltb (count_of l.service before) most_rules) (in_order before l) h
    where
      go :
          (s t : Bool) → unless {A = Unit {0}} s TooMany 0 (unless t Order 0 (got tt)) ≡ refused why 0
          → unless s TooMany at (unless t Order at next) ≡ refused why at
      go true true h = cc
      go true false h = cc
      go false t h = cc
