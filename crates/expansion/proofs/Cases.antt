-- The worked cases hold of the definitions.
use Prim.Native.Nat.{ℕ, zero, suc, ◌%◌, ◌≤◌, ◌<◌}
use mathlib.Core.Bool.{Bool, true, false}
use mathlib.Core.List.{List, [], ◌∷◌}
use mathlib.Core.Path.{◌≡◌, refl, ◌∙◌}
use native.Mathlib.Nat.{mod-one}
use native.Mathlib.Omega.{arith}
use lib.Dec.{eqb, lit<, lit≤}
use borrow.Author.Tests.{eq-eqb}
use Rattle.numerals.specs.Limits.{unit}
use Rattle.numerals.specs.Suffix.{place}
use Rattle.numerals.specs.Digits.{value, value_from, lowest}
use Rattle.numerals.specs.Sums.{list_to, sum_to, count_to, all_to, first_to, argmax, lastmax}
use Rattle.expansion.specs.FirstMatch.{matches, first_match, gives, share}
use Rattle.expansion.specs.Imbalance.{Targets, backends, label, weight, has, wants, excess, shortfall, imbalance, giver, receiver}
use Rattle.expansion.specs.Imbalance.{largest_excess, largest_shortfall}
use Rattle.expansion.specs.Steps.{first_rule, frame, is_within, reduction, reduction_at, term, is_no_gain, is_whole, term_length, lowest_place, new_rule}
use Rattle.expansion.specs.Steps.{Frame, step, after, end_of, list_of, oldest, stair, stairs_to}
use Rattle.expansion.specs.KeptShares.{entry_of, Keeps, OthersStay, SharesKept}
use Rattle.expansion.specs.Cases.{AllShow, p1, p6, worked, p1_ledger}
use Rattle.expansion.specs.Answer.{check_call, check_weights, is_backend, id_before, in_limits}
use Rattle.expansion.specs.Inner.Sound.{Complete, Lengths}
use Rattle.expansion.specs.Inner.Run.{framed, Fits}
use Rattle.expansion.specs.declared.rule.Rule.{Rule}
use Rattle.expansion.specs.declared.rule.Ended.TheVariants.{Budget}
use Rattle.expansion.proofs.FirstMatch.{gives-matched, gives-passed}
use Rattle.expansion.proofs.Checks.{call-passed}

pub worked-show : AllShow worked
unfolding list_to unit sum_to count_to all_to first_to argmax lastmax matches first_match gives share backends label weight has wants excess shortfall
    imbalance giver receiver largest_excess largest_shortfall first_rule frame is_within reduction reduction_at term is_no_gain is_whole term_length
    lowest_place new_rule step after end_of list_of oldest stair stairs_to place value value_from lowest
worked-show = (
  record { rules = refl; ended = refl; stairs = refl },
  (
    record { rules = refl; ended = refl; stairs = refl },
    (
      record { rules = refl; ended = refl; stairs = refl },
      (
        record { rules = refl; ended = refl; stairs = refl },
        (
          record { rules = refl; ended = refl; stairs = refl },
          (
            record { rules = refl; ended = refl; stairs = refl },
            (record { rules = refl; ended = refl; stairs = refl }, tt),
          ),
        ),
      ),
    ),
  ),
)

-- in P6 the largest excess and the largest shortfall make just one suffix
pub p6-one-suffix : (largest_excess p6.given.targets p6.rules ≡ 33333400) × (largest_shortfall p6.given.targets p6.rules ≡ 66666600)
unfolding list_to unit sum_to count_to argmax matches first_match gives share backends label weight has wants excess shortfall giver receiver
    largest_excess largest_shortfall frame
p6-one-suffix = (refl, refl)

-- the first two rules of P1, `*0` to 2 and `*` to 3
abbrev half : Rule
half = record { len = 1; value = 0; backend = 2 }

abbrev star : Rule
star = record { len = 0; value = 0; backend = 3 }

abbrev halved : List Rule
halved = half ∷ star ∷ []

-- P1 with a budget of two rules is cut after them
pub p1-cut : (list_of p1.given 2 ≡ halved) × (end_of p1.given (list_of p1.given 2) ≡ Budget)
unfolding list_to unit sum_to count_to all_to first_to argmax lastmax matches first_match gives share backends label weight has wants excess shortfall
    imbalance giver receiver largest_excess largest_shortfall first_rule frame is_within reduction reduction_at term is_no_gain is_whole term_length
    lowest_place new_rule step after end_of list_of oldest place value value_from lowest
p1-cut = (refl, refl)

-- the shares of P1 are kept, in these numbers
abbrev T : Targets
T = p1.given.targets

by_three : (P : ℕ → Type 0) → P 0 → P 1 → P 2 → ((b : ℕ) → P (suc (suc (suc b)))) → (b : ℕ) → P b
by_three P p q r more zero = p
by_three P p q r more (suc zero) = q
by_three P p q r more (suc (suc zero)) = r
by_three P p q r more (suc (suc (suc b))) = more b

p1-keeps : (c : ℕ) → 1 ≤ c → c ≤ 4 → Keeps T (oldest c p1.rules) (p1_ledger c)
unfolding list_to unit sum_to count_to matches first_match gives share backends label weight oldest entry_of frame
p1-keeps zero l m = absurd (omega arith)
p1-keeps (suc zero) l m = record { entries = by_three _ (λ _. refl) (λ _. refl) (λ _. refl) (λ b l. absurd (omega arith)) }
p1-keeps (suc (suc zero)) l m = record { entries = by_three _ (λ _. refl) (λ _. refl) (λ _. refl) (λ b l. absurd (omega arith)) }
p1-keeps (suc (suc (suc zero))) l m = record { entries = by_three _ (λ _. refl) (λ _. refl) (λ _. refl) (λ b l. absurd (omega arith)) }
p1-keeps (suc (suc (suc (suc zero)))) l m = record { entries = by_three _ (λ _. refl) (λ _. refl) (λ _. refl) (λ b l. absurd (omega arith)) }
p1-keeps (suc (suc (suc (suc (suc c))))) l m = absurd (omega arith)

-- the third gives to the second, which gives to the first, twice
p1-others : (c : ℕ) → 1 ≤ c → c < 4 → OthersStay T (oldest c p1.rules) (p1_ledger c) (p1_ledger (suc c))
unfolding list_to unit sum_to count_to argmax matches first_match gives share backends label weight has wants excess shortfall giver receiver oldest frame
p1-others zero l m = absurd (omega arith)
p1-others (suc zero) l m = record { entries = by_three _ (λ g r. refl) (λ g r. absurd (r refl)) (λ g r. absurd (g refl)) (λ b g r. refl) }
p1-others (suc (suc zero)) l m = record { entries = by_three _ (λ g r. absurd (r refl)) (λ g r. absurd (g refl)) (λ g r. refl) (λ b g r. refl) }
p1-others (suc (suc (suc zero))) l m = record { entries = by_three _ (λ g r. absurd (r refl)) (λ g r. absurd (g refl)) (λ g r. refl) (λ b g r. refl) }
p1-others (suc (suc (suc (suc c)))) l m = absurd (omega arith)

pub p1-kept : (from : ℕ) → 1 ≤ from → from ≤ 4 → SharesKept T p1.rules from (p1_ledger from) (p1_ledger 4)
p1-kept from l m =
    record {
      inside = m;
      ledger = p1_ledger;
      first = refl;
      last = refl;
      keeps = λ c n. p1-keeps c (omega arith);
      others = λ c n. p1-others c (omega arith);
    }

-- a start that isn't `*`: P1 taken up after its second rule, with terms of at most 2^3 suffixes, fits and comes to the same list
abbrev resumed : Frame
resumed = framed 5 3 2000000 T.labels T.weights halved

halved-complete : Complete (label T) (backends T) halved
unfolding list_to unit matches backends label frame
halved-complete s = go (eqb (s % 2) 0) refl
  where
    go : (t : Bool) → eqb (s % 2) 0 ≡ t → (b : ℕ) × (b < backends T) × (gives halved s (label T b) ≡ true)
    go true e = (1, lit< tt, gives-matched half (star ∷ []) s 2 e)
    go false e = (2, lit< tt, gives-passed half (star ∷ []) s 3 e ∙ gives-matched star [] s 3 (eq-eqb (s % 1) 0 (mod-one s)))

pub p1-resumed : Fits resumed × (list_of resumed 4 ≡ p1.rules)
unfolding list_to sum_to count_to all_to first_to argmax lastmax matches first_match gives share backends label weight has wants excess shortfall
    imbalance giver receiver largest_excess largest_shortfall frame is_within reduction reduction_at term is_no_gain is_whole term_length
    lowest_place new_rule step after list_of place value value_from lowest unit check_call check_weights is_backend id_before in_limits Lengths
p1-resumed =
    let valid = (call-passed 5 2000000 32 T.labels T.weights refl).0 in (
      record {
        in_unit = refl;
        few_bits = valid.few_bits;
        tolerable = valid.tolerable;
        few = valid.few;
        labelled = refl;
        sound =
            record {
              positive = lit< tt;
              balanced = valid.balanced;
              distinct = valid.distinct;
              named = valid.named;
              below = lit< tt;
              short = (lit≤ tt, (lit≤ tt, tt));
              complete = halved-complete;
            };
      },
      refl,
    )
