-- The frame of document 01 is sound where its weights sum to the unit; its list starts from one rule.
use Prim.Native.Nat.{ℕ, zero, suc, ◌-◌, ◌%◌, ◌^◌, ◌≤◌, ◌<◌, min}
use mathlib.Core.List.{List, [], ◌∷◌}
use mathlib.Core.Path.{◌≡◌, refl, ◌∙◌}
use native.Mathlib.Nat.{mod-one}
use native.Mathlib.Omega.{arith}
use lib.ListN.{length, get_or}
use lib.Dec.{eqb}
use borrow.Author.Tests.{eq-eqb}
use Rattle.numerals.specs.Pick.{pick}
use Rattle.numerals.specs.Sums.{sum_to, list_to, argmax}
use Rattle.expansion.specs.FirstMatch.{nobody, matches, gives, share}
use Rattle.expansion.specs.Imbalance.{backends, label, weight, imbalance}
use Rattle.expansion.specs.Steps.{first_rule, frame, after, list_of, stair}
use Rattle.expansion.specs.Inner.Sound.{Lengths, Distinct, Labelled, Complete, AllFormed, Falling, Sound}
use Rattle.numerals.proofs.Sums.{count-ext, count-const, list_at}
use Rattle.numerals.proofs.Searches.{argmax-is}
use Rattle.expansion.proofs.FirstMatch.{is-rule, gives-matched}
use Rattle.expansion.proofs.Stairs.{stair-is}

-- a sum that isn't zero has parts
parts-there : (n : ℕ) (f : ℕ → ℕ) → 0 < sum_to n f → 0 < n
unfolding sum_to
parts-there zero f h = h
parts-there (suc n) f h = omega arith

-- the ids 1, 2, .., as worked cases have them
pub numbers-distinct : (n : ℕ) → Distinct (λ b. get_or (list_to n suc) b nobody) n
numbers-distinct n a b l m e = omega (arith, list_at n suc a nobody l, list_at n suc b nobody m)

pub numbers-named : (n : ℕ) → Labelled (λ b. get_or (list_to n suc) b nobody) n
numbers-named n b l e = omega (arith, list_at n suc b nobody l)

-- a list of the one rule `*` gives its backend everything
pub star-share : (k b c : ℕ) → share k (record { len = 0; value = 0; backend = b } ∷ []) c ≡ pick (eqb b c) (2 ^ k) 0
unfolding share matches
star-share k b c =
    count-ext (2 ^ k) (λ s. gives (record { len = 0; value = 0; backend = b } ∷ []) s c) (λ s. eqb b c)
    (λ s l. gives-matched (record { len = 0; value = 0; backend = b }) [] s c (eq-eqb (s % 1) 0 (mod-one s)))
    ∙ count-const (2 ^ k) (eqb b c)

module _ (k unit tolerance : ℕ) (labels ws : List ℕ) (one : 1 ≤ k) (positive : 0 < unit)
    (balanced : sum_to (length ws) (λ b. get_or ws b 0) ≡ unit) (distinct : Distinct (λ b. get_or labels b nobody) (length ws)) where
  pub first-known : argmax (λ b. get_or ws b 0) (length ws) < length ws
  first-known =
      (argmax-is (λ b. get_or ws b 0) (length ws) (parts-there (length ws) (λ b. get_or ws b 0) (omega arith))).inside

  pub base-complete : Complete (λ b. get_or labels b nobody) (length ws) (first_rule labels ws)
  unfolding first_rule matches
  base-complete s =
      let b : ℕ = argmax (λ b. get_or ws b 0) (length ws) in
      let l : ℕ = get_or labels b nobody in
      (b, first-known, gives-matched (record { len = 0; value = 0; backend = l }) [] s l (eq-eqb (s % 1) 0 (mod-one s)) ∙ eq-eqb l l refl)

  pub base-sound : Labelled (λ b. get_or labels b nobody) (length ws) → Sound (frame k unit tolerance labels ws)
  unfolding frame backends label weight first_rule Lengths
  base-sound named =
      record {
        positive = positive;
        balanced = balanced;
        distinct = distinct;
        named = named;
        below = omega arith;
        short = (omega arith, tt);
        complete = base-complete;
      }

  pub base-formed : AllFormed k (λ b. get_or labels b nobody) (length ws) (first_rule labels ws)
  unfolding AllFormed first_rule
  base-formed =
      let b : ℕ = argmax (λ b. get_or ws b 0) (length ws) in (
        record {
          rule = is-rule k (record { len = 0; value = 0; backend = get_or labels b nobody }) (omega arith) (omega arith);
          known = (b, first-known, refl);
        },
        tt,
      )

pub base-falling : (labels ws : List ℕ) → Falling (first_rule labels ws)
unfolding Falling Lengths first_rule
base-falling labels ws = (tt, tt)

pub base-stair : (k unit tolerance : ℕ) (labels ws : List ℕ) (c budget : ℕ) → 1 ≤ c
    → stair (frame k unit tolerance labels ws) c (list_of (frame k unit tolerance labels ws) budget)
    ≡ imbalance (frame k unit tolerance labels ws).targets (after (frame k unit tolerance labels ws) (min (c - 1) (budget - 1)))
unfolding frame first_rule
base-stair k unit tolerance labels ws c budget l = stair-is (frame k unit tolerance labels ws) c budget l
