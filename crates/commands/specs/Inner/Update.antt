-- What the writers of an update's lines ask of the rules, and of the buffer.
use Rattle.std.specs.Prelude.{ℕ, ◌+◌, ◌*◌, ◌≤◌, ◌<◌, ◌≡◌, true, List, length}
use Rattle.std.proofs.Math.Seq.{slice}
use Rattle.numerals.specs.Limits.{most_bits, most_rules}
use Rattle.expansion.specs.FirstMatch.{is_rule}
use Rattle.expansion.specs.OldList.{rules_from}
use Rattle.expansion.specs.Inner.OldList.{rule_at}
use Rattle.expansion.specs.declared.rule.Rule.{Rule}
use Rattle.packing.specs.Count.{Line}

-- a rule as a line of a service
abbrev pub line_of : ℕ → Rule → Line
line_of n r = record { service = n; rule = r }

-- the rules that the first numbers are, three of each
abbrev pub rules_in : List ℕ → ℕ → List Rule
rules_in cs n = rules_from (slice 0 (3 * n) cs)

-- there are n rules, no more than a service may have, and the suffix of each can be written
pub record Rules (cs : List ℕ) (n : ℕ) : Type 0 where
  pub room : 3 * n ≤ length cs
  pub few : n ≤ most_rules
  pub each : (i : ℕ) → i < n → is_rule most_bits (rule_at cs i) ≡ true

-- the room that is asked for a number and its separator: up to 20 digits (any u64)
abbrev pub number_room : ℕ
number_room = 20 + 1

-- for a suffix and its separator: a star and the bits
abbrev pub suffix_room : ℕ
suffix_room = 1 + most_bits + 1

-- for the first line: its word with a space, and four numbers
abbrev pub head_room : ℕ
head_room = 7 + 4 * number_room

-- for a rule line: service, suffix and backend
abbrev pub line_room : ℕ
line_room = number_room + suffix_room + number_room

-- for all lines
abbrev pub update_room : ℕ
update_room = head_room + line_room * most_rules
