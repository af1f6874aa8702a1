-- `old_list::is_proper` meets its contract: one test after the other.
use Rattle.std.proofs.Common.{rules}
use Rattle.numerals.specs.Suffix.{is_suffix}
use Rattle.expansion.specs.FirstMatch.{is_rule}
use Rattle.expansion.specs.Answer.{in_limits}
use Rattle.expansion.specs.OldList.{is_proper}
use Rattle.expansion.proofs.old_list.is_proper.Goals as goal

pub returns-then-rule : goal.returns-then-rule
unfolding is_proper is_rule is_suffix in_limits
returns-then-rule c = search rules

pub returns-else-rule : goal.returns-else-rule
unfolding is_proper is_rule is_suffix in_limits
returns-else-rule c = search rules
