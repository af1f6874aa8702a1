-- Kept rules laid on the tree, the oldest first, and taken back: who holds which suffix after them, and how many each backend holds.
use Rattle.std.specs.Prelude.{ℕ, ◌+◌, ◌-◌, ◌^◌, ◌≤◌, ◌<◌, true, ◌≡◌, List, length, get_or, set}
use Rattle.numerals.specs.Limits.{most_known, most_rules, most_suffixes}
use Rattle.numerals.specs.Suffix.{place}
use Rattle.expansion.specs.FirstMatch.{nobody, is_rule, first_match, share}
use Rattle.expansion.specs.Steps.{is_whole, oldest}
use Rattle.expansion.specs.Inner.Lists.{no_rule, newest_first}
use Rattle.expansion.specs.Inner.OldList.{Proper}
use Rattle.expansion.specs.declared.rule.Rule.{Rule}
use Rattle.expansion.specs.declared.list.RuleList.{RuleList}
use Rattle.expansion.specs.declared.service.Service.{Service}

-- how many suffixes each backend holds, by its place, after `size` of them went from one to another
abbrev pub passed_on : List ℕ → ℕ → ℕ → ℕ → List ℕ
passed_on shares from to size = let less = set shares from (get_or shares from 0 - size) in set less to (get_or less to 0 + size)

-- places of the listing, and backends of which the first has so many; none has more than there are suffixes
pub record Passable (holder shares : List ℕ) (at size from to : ℕ) : Type 0 where
  pub inside : at + size ≤ length holder
  pub long : length shares ≡ most_known
  pub from_known : from < most_known
  pub to_known : to < most_known
  pub enough : size ≤ get_or shares from 0
  pub few : (get_or shares from 0 ≤ most_suffixes) × (get_or shares to 0 ≤ most_suffixes)

-- a rule of k bits for the backend that is at this place among those with these labels
pub record Placed (k : ℕ) (labels : List ℕ) (r : Rule) (b : ℕ) : Type 0 where
  pub rule : is_rule k r ≡ true
  pub inside : b < length labels
  pub is : r.backend ≡ get_or labels b nobody

-- after the rules: the backend, by its place, of the k-bit suffix at each tree place, and how many each has
pub record Held (k : ℕ) (labels : List ℕ) (rs : List Rule) (holder shares : List ℕ) : Type 0 where
  pub wide : length holder ≡ most_suffixes
  pub long : length shares ≡ most_known
  pub known : (p : ℕ) → p < 2 ^ k → get_or holder p 0 < length labels
  pub holders : (p : ℕ) → p < 2 ^ k → first_match rs (place k p) ≡ get_or labels (get_or holder p 0) nobody
  pub each : (b : ℕ) → b < length labels → get_or shares b 0 ≡ share k rs (get_or labels b nobody)

-- the backend, by its place, that the rules give a rule's suffix to wholly
pub record Had (k : ℕ) (labels : List ℕ) (rs : List Rule) (r : Rule) (b : ℕ) : Type 0 where
  pub known : b < length labels
  pub wholly : is_whole k rs r.len r.value (get_or labels b nobody) ≡ true

-- the i oldest of the rules are laid: who holds what, the rules in memory, the oldest first, and for each but the first who had its suffix before
pub record LaidTo (k : ℕ) (labels : List ℕ) (R : List Rule) (i : ℕ) (holder shares : List ℕ) (rules : List Rule) (had : List ℕ) : Type 0 where
  pub some : 1 ≤ i
  pub inside : i ≤ length R
  pub long : (length rules ≡ most_rules) × (length had ≡ most_rules)
  pub held : Held k labels (oldest i R) holder shares
  pub kept : newest_first rules i ≡ oldest i R
  pub before : (j : ℕ) → 1 ≤ j → j < i → Had k labels (oldest j R) (get_or rules j no_rule) (get_or had j 0)

-- a start that the run for a service can be taken up from: the kept rules in memory, who holds what after them, and how much
pub record Starts (s : Service) (list : RuleList) (holder shares : List ℕ) (budget : ℕ) : Type 0 where
  pub proper : Proper s.k s.labels.now (newest_first list.rules list.count)
  pub held : Held s.k s.labels.now (newest_first list.rules list.count) holder shares
  pub within : list.count ≤ budget
  pub few : budget ≤ most_rules
