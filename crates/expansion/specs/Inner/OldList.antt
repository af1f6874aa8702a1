-- What the checks leave of an old list, and its kept rules in memory.
use Rattle.std.specs.Prelude.{ℕ, ◌+◌, ◌-◌, ◌*◌, ◌≤◌, ◌<◌, ◌≡◌, List, length, get_or}
use Rattle.numerals.specs.Limits.{most_rules}
use Rattle.expansion.specs.FirstMatch.{nobody}
use Rattle.expansion.specs.Inner.Lists.{no_rule}
use Rattle.expansion.specs.Inner.Sound.{Formed, Falling}
use Rattle.expansion.specs.declared.rule.Rule.{Rule}

-- rule i from 0
abbrev pub rule_at : List ℕ → ℕ → Rule
rule_at cs i = record { len = get_or cs (3 * i) 0; value = get_or cs (3 * i + 1) 0; backend = get_or cs (3 * i + 2) 0 }

-- a rule of k bits for one of the backends with these labels
abbrev pub Known : ℕ → List ℕ → Rule → Type 0
Known k labels r = Formed k (λ b. get_or labels b nobody) (length labels) r

-- rules of k bits for these backends, as many as a service may have, none longer than one before it, the last of them a `*`
pub record Proper (k : ℕ) (labels : List ℕ) (rs : List Rule) : Type 0 where
  pub some : 0 < length rs
  pub few : length rs ≤ most_rules
  pub each : (i : ℕ) → i < length rs → Known k labels (get_or rs i no_rule)
  pub falling : Falling rs
  pub star : (get_or rs (length rs - 1) no_rule).len ≡ 0
