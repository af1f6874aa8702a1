-- The list that the program keeps: the rules of a run, the oldest first, and the imbalance after each.
use Rattle.std.specs.Prelude.{ℕ, zero, suc, ◌+◌, ◌-◌, ◌≤◌, ◌≡◌, List, [], ◌∷◌, length, get_or}
use Rattle.expansion.specs.Imbalance.{imbalance}
use Rattle.expansion.specs.Steps.{Frame, after}
use Rattle.expansion.specs.declared.rule.Rule.{Rule}
use Rattle.expansion.specs.declared.list.RuleList.{RuleList}

abbrev pub no_rule : Rule
no_rule = record { len = 0; value = 0; backend = 0 }

-- the first c rules of a listing of the oldest first, the newest first
unfoldable pub newest_first : List Rule → ℕ → List Rule
newest_first rs zero = []
newest_first rs (suc c) = get_or rs c no_rule ∷ newest_first rs c

-- the list after x turns that each added a rule: the rules, and the imbalance after the start and after each turn
pub record Listed (F : Frame) (x : ℕ) (list : RuleList) : Type 0 where
  pub count : list.count ≡ length F.start + x
  pub rules : newest_first list.rules list.count ≡ after F x
  pub stairs : (y : ℕ) → y ≤ x → get_or list.stairs (length F.start + y - 1) 0 ≡ imbalance F.targets (after F y)
