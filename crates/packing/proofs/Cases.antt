-- The worked case holds of the definitions.
use Prim.Native.Nat.{ℕ, zero, suc, ◌<◌}
use mathlib.Core.Path.{◌≡◌, refl, sym, ap, subst, fun_ext, ◌∙◌}
use mathlib.Core.List.{List, [], ◌∷◌}
use native.Mathlib.Omega.{arith}
use Rattle.numerals.specs.Limits.{unit}
use Rattle.numerals.specs.Suffix.{place}
use Rattle.numerals.specs.Digits.{value, value_from, lowest}
use Rattle.numerals.specs.Sums.{sum_to, list_to, count_to, all_to, first_to, argmax, lastmax}
use Rattle.expansion.specs.FirstMatch.{matches, first_match, gives, share}
use Rattle.expansion.specs.Imbalance.{backends, label, weight, has, wants, excess, shortfall, imbalance, giver, receiver, largest_excess, largest_shortfall}
use Rattle.expansion.specs.Steps.{first_rule, frame, is_within, reduction, reduction_at, term, is_no_gain, is_whole, term_length, lowest_place, new_rule, step}
use Rattle.expansion.specs.Steps.{after, list_of, oldest, stair}
use Rattle.expansion.specs.declared.rule.Rule.{Rule}
use Rattle.expansion.specs.Inner.Sound.{Distinct, Labelled}
use Rattle.expansion.proofs.Base.{numbers-distinct, numbers-named}
use Rattle.packing.specs.Grants.{Problem, saving, next, rules, total, more, grant_step, grants_after, packed}
use Rattle.packing.specs.Count.{services, volume, targets_of, own_rules, counted_imbalance, counted}
use Rattle.packing.specs.Table.{rule_budget, frame_of, list_for, lines_of, table_of, table, problem, granted, one_each}
use Rattle.packing.specs.Cases.{sample, p7_lines, P7}
use Rattle.packing.specs.Demand.{Demand}
use Rattle.packing.proofs.Demand.{demand}
use Rattle.packing.proofs.StoredCosts.{problem_of}

-- The lists of both services, which the packing asks for again and again, are computed once.

abbrev rule : ℕ → ℕ → ℕ → Rule
rule l v b = record { len = l; value = v; backend = b }

abbrev pub lists : ℕ → List Rule
lists zero = rule 5 4 1 ∷ rule 3 0 1 ∷ rule 1 0 2 ∷ rule 0 0 3 ∷ []
lists (suc zero) = rule 2 0 2 ∷ rule 1 0 1 ∷ rule 0 0 3 ∷ []
lists (suc (suc s)) = list_for sample 2000000 (suc (suc s))

pub lists-are : (s : ℕ) → list_for sample 2000000 s ≡ lists s
unfolding unit sum_to count_to all_to first_to argmax lastmax matches first_match gives share backends label weight has wants excess shortfall
    giver receiver largest_excess largest_shortfall first_rule frame is_within reduction reduction_at term is_no_gain is_whole term_length
    lowest_place new_rule step after list_of place value value_from lowest services volume targets_of rule_budget frame_of list_for
lists-are zero = refl
lists-are (suc zero) = refl
lists-are (suc (suc s)) = refl

-- grants, table and total, by any lists
abbrev packs : (ℕ → List Rule) → Problem
packs ls = problem_of sample.volumes (frame_of sample 2000000) ls one_each 5

pub record Packs (ls : ℕ → List Rule) : Type 0 where
  pub first : packed (packs ls) 0 ≡ 2
  pub second : packed (packs ls) 1 ≡ 3
  pub lines : table_of 2 ls (packed (packs ls)) ≡ p7_lines
  pub amount : total (packs ls) (packed (packs ls)) ≡ 29333392000

packs-right : Packs lists
unfolding unit sum_to count_to argmax matches first_match gives share backends label weight has wants excess imbalance frame oldest stair
    saving next rules total more grant_step grants_after packed services volume targets_of frame_of lines_of table_of
packs-right = record { first = refl; second = refl; lines = refl; amount = refl }

pub packs-sample : Packs (list_for sample 2000000)
packs-sample = subst Packs (sym (fun_ext lists-are)) packs-right

counted-right : counted sample p7_lines ≡ 29333392000
unfolding unit sum_to count_to matches first_match gives share backends label weight has wants excess imbalance services volume targets_of own_rules
    counted_imbalance counted
counted-right = refl

pub p7 : P7
unfolding services volume problem granted table
p7 =
    record {
      first = packs-sample.first;
      second = packs-sample.second;
      lines = packs-sample.lines;
      amount = ap (counted sample) packs-sample.lines ∙ counted-right;
    }

-- the case keeps the premises of demand 3
pub p7-demand :
    Demand sample 2000000 one_each 5 (total (problem sample 2000000 one_each 5) (granted sample 2000000 one_each 5))
    (table sample 2000000 (granted sample 2000000 one_each 5))
unfolding unit services targets_of backends label weight sum_to list_to
p7-demand =
    demand sample 2000000 (record { bits = omega arith; positive = omega arith; weigh = weigh; distinct = distinct; labelled = labelled }) one_each 5
    (λ s l. omega arith) (omega arith)
  where
    weigh :
        (s : ℕ) → s < 2
        → sum_to (backends (targets_of sample s)) (weight (targets_of sample s)) ≡ unit
    weigh zero l = refl
    weigh (suc zero) l = refl
    weigh (suc (suc s)) l = absurd (omega arith)

    distinct : (s : ℕ) → s < 2 → Distinct (label (targets_of sample s)) (backends (targets_of sample s))
    distinct zero l = numbers-distinct 3
    distinct (suc zero) l = numbers-distinct 3
    distinct (suc (suc s)) l = absurd (omega arith)

    labelled : (s : ℕ) → s < 2 → Labelled (label (targets_of sample s)) (backends (targets_of sample s))
    labelled zero l = numbers-named 3
    labelled (suc zero) l = numbers-named 3
    labelled (suc (suc s)) l = absurd (omega arith)
