-- The expansion of one service (document 01, "Expansion", steps 1 to 6).
use Rattle.std.specs.Prelude.{ℕ, zero, suc, ◌+◌, ◌-◌, ◌*◌, ◌^◌, min, Bool, true, false, List, [], ◌∷◌, ◌++◌, leb, eqb, length, drop, get_or}
use Rattle.numerals.specs.Pick.{pick, both}
use Rattle.numerals.specs.Suffix.{place}
use Rattle.numerals.specs.Sums.{all_to, first_to, argmax, lastmax}
use Rattle.expansion.specs.FirstMatch.{nobody, gives}
use Rattle.expansion.specs.Imbalance.{Targets, backends, label, excess, shortfall, imbalance, giver, receiver, largest_excess, largest_shortfall}
use Rattle.expansion.specs.declared.rule.Rule.{Rule}
use Rattle.expansion.specs.declared.rule.Ended.{Ended}
use Rattle.expansion.specs.declared.rule.Ended.TheVariants.{Within, NoGain, Budget}

-- One expansion: its targets, the tolerance in parts of the unit, terms of at most 2^cap suffixes, and the rules that it starts from. Document 01 has
-- the cap k - 1 and the one rule `*`.
pub record Frame : Type 0 where
  pub targets : Targets
  pub tolerance : ℕ
  pub cap : ℕ
  pub start : List Rule

-- step 1: the rule `*` goes to the largest weight, the lowest place if equal
unfoldable pub first_rule : List ℕ → List ℕ → List Rule
first_rule labels ws = record { len = 0; value = 0; backend = get_or labels (argmax (λ b. get_or ws b 0) (length ws)) nobody } ∷ []

-- the frame of document 01
unfoldable pub frame : ℕ → ℕ → ℕ → List ℕ → List ℕ → Frame
frame k unit tolerance labels ws =
    record {
      targets = record { k = k; unit = unit; labels = labels; weights = ws };
      tolerance = tolerance;
      cap = k - 1;
      start = first_rule labels ws;
    }

-- step 2: the size of each error is at most tolerance × 2^k
unfoldable pub is_within : Frame → List Rule → Bool
is_within F rs =
    all_to (backends F.targets)
    (λ b. both (leb (excess F.targets rs b) (F.tolerance * 2 ^ F.targets.k)) (leb (shortfall F.targets rs b) (F.tolerance * 2 ^ F.targets.k)))

-- step 4: the reduction of the term t, where it is above zero, and otherwise 0; u is the largest shortfall and o the largest excess
unfoldable pub reduction : ℕ → ℕ → ℕ → ℕ
reduction u o t = 2 * (min u t + min o t - t)

-- the reduction of the term of 2^i suffixes
unfoldable pub reduction_at : Frame → List Rule → ℕ → ℕ
reduction_at F rs i = reduction (largest_shortfall F.targets rs) (largest_excess F.targets rs) (2 ^ i * F.targets.unit)

-- the i of the greatest reduction, the larger term if equal
unfoldable pub term : Frame → List Rule → ℕ
term F rs = lastmax (reduction_at F rs) F.cap

unfoldable pub is_no_gain : Frame → List Rule → Bool
is_no_gain F rs = eqb (reduction_at F rs (term F rs)) 0

-- step 6: the suffix of l bits with this value is wholly held by the backend with label b; what it covers is value + j × 2^l
unfoldable pub is_whole : ℕ → List Rule → ℕ → ℕ → ℕ → Bool
is_whole k rs l v b = all_to (2 ^ (k - l)) (λ j. gives rs (v + j * 2 ^ l) b)

-- the length of a suffix that covers 2^i
unfoldable pub term_length : Frame → List Rule → ℕ
term_length F rs = F.targets.k - term F rs

-- the lowest tree place whose suffix the giver holds wholly
unfoldable pub lowest_place : Frame → List Rule → ℕ
lowest_place F rs =
    first_to (2 ^ term_length F rs)
    (λ p. is_whole F.targets.k rs (term_length F rs) (place (term_length F rs) p) (label F.targets (giver F.targets rs)))

-- the suffix with that place goes to the receiver
unfoldable pub new_rule : Frame → List Rule → Rule
new_rule F rs =
    record { len = term_length F rs; value = place (term_length F rs) (lowest_place F rs); backend = label F.targets (receiver F.targets rs) }

-- one turn of the steps: nothing changes once the list has stopped as within or as no gain
unfoldable pub step : Frame → List Rule → List Rule
step F rs =
    elim (is_within F rs) [
      | true ↦ rs
      | false ↦ elim (is_no_gain F rs) [ true ↦ rs | false ↦ new_rule F rs ∷ rs ]
    ]

-- the rules after x turns, the newest first
unfoldable pub after : Frame → ℕ → List Rule
after F zero = F.start
after F (suc x) = step F (after F x)

-- the order of the stops: within, no gain, budget
unfoldable pub end_of : Frame → List Rule → Ended
end_of F rs = pick (is_within F rs) Within (pick (is_no_gain F rs) NoGain Budget)

-- the list of a budget of at least the rules that it starts from: its rules, the newest first
unfoldable pub list_of : Frame → ℕ → List Rule
list_of F budget = after F (budget - length F.start)

-- a list cut to c rules keeps the c oldest
unfoldable pub oldest : ℕ → List Rule → List Rule
oldest c rs = drop (length rs - c) rs

-- the imbalance after the first rules, c of them
unfoldable pub stair : Frame → ℕ → List Rule → ℕ
stair F c rs = imbalance F.targets (oldest c rs)

-- the stairs of a list: its imbalance after 1, 2, .. c rules
unfoldable pub stairs_to : Frame → List Rule → ℕ → List ℕ
stairs_to F rs zero = []
stairs_to F rs (suc c) = stairs_to F rs c ++ stair F (suc c) rs ∷ []
