-- The worked cases, by computation.
use mathlib.Core.Path.{refl}
use Rattle.numerals.specs.Limits.{unit}
use Rattle.numerals.specs.Suffix.{place, is_suffix}
use Rattle.numerals.specs.Digits.{value, value_from, lowest}
use Rattle.numerals.specs.Sums.{list_to, sum_to, count_to, all_to, first_to, largest_to, argmax, lastmax}
use Rattle.expansion.specs.FirstMatch.{is_rule, matches, first_match, gives, share, differing, churn}
use Rattle.expansion.specs.Imbalance.{backends, label, weight, has, wants, excess, shortfall, imbalance, giver, receiver}
use Rattle.expansion.specs.Imbalance.{largest_excess, largest_shortfall}
use Rattle.expansion.specs.Steps.{is_within, reduction, reduction_at, term, is_no_gain, is_whole, term_length, lowest_place, new_rule, step, after}
use Rattle.expansion.specs.Steps.{list_of, oldest}
use Rattle.expansion.specs.Answer.{in_limits, id_before, is_backend, check_weights}
use Rattle.expansion.specs.Known.{include, known_ids, weight_of, targets_known}
use Rattle.expansion.specs.OldList.{rules_from, numbers_of, is_proper, check_rules, check_list}
use Rattle.expansion.specs.Resume.{longest, cap_from, frame_from, frame_kept, list_kept, ends_within, churn_kept, is_lowest, kept_of, list_resumed}
use Rattle.expansion.specs.Resume.{check_old, numbers_resumed, resume_of, resume_answer}
use Rattle.update.specs.Update.{update_answer}
use Rattle.update.specs.Cases.{Shows, unchanged, quarter, afresh, hidden, retired, replaced, Halted, Tied}
use Rattle.update.specs.Cases.{Chooses, lowest_at_one, lowest_between, equal_churn, longer_list, TooLong}

pub cases-show : Shows unchanged × Shows quarter × Shows afresh × Shows hidden × Shows retired × Shows replaced × Tied × Chooses lowest_at_one
    × Chooses lowest_between × Chooses equal_churn × Chooses longer_list × TooLong
unfolding list_to sum_to count_to all_to first_to argmax lastmax is_rule is_suffix matches first_match gives share differing backends label weight has wants
    excess shortfall imbalance giver receiver largest_excess largest_shortfall is_within reduction reduction_at term is_no_gain is_whole term_length
    lowest_place
    new_rule step after list_of oldest place value value_from lowest unit in_limits id_before is_backend check_weights include known_ids weight_of targets_known
    rules_from numbers_of is_proper check_rules
    check_list longest cap_from frame_from frame_kept list_kept ends_within churn_kept is_lowest largest_to kept_of list_resumed check_old numbers_resumed churn
    resume_of resume_answer update_answer
cases-show = (
  record { answer = refl; new = refl },
  record { answer = refl; new = refl },
  record { answer = refl; new = refl },
  record { answer = refl; new = refl },
  record { answer = refl; new = refl },
  record { answer = refl; new = refl },
  record { answer = refl; new = refl },
  record { within = refl; churns = refl; answer = refl; new = refl },
  record { within = refl; churns = refl; answer = refl; new = refl },
  record { within = refl; churns = refl; answer = refl; new = refl },
  record { within = refl; churns = refl; answer = refl; new = refl },
  refl,
)

pub halted : Halted
unfolding list_to sum_to count_to all_to first_to argmax lastmax is_rule is_suffix matches first_match gives share differing churn backends label weight has
    wants
    excess shortfall giver receiver largest_excess largest_shortfall is_within reduction reduction_at term is_no_gain is_whole term_length lowest_place new_rule
    step after list_of oldest place value value_from lowest unit in_limits id_before is_backend check_weights include known_ids weight_of targets_known
    rules_from is_proper check_rules check_list longest cap_from frame_from
    frame_kept list_kept ends_within churn_kept is_lowest largest_to kept_of check_old resume_of resume_answer update_answer
halted = refl
