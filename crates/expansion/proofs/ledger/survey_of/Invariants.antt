-- `ledger::survey_of`: the extremes so far are those of the backends passed, and the sum is that of their excesses, each of them small.
use mathlib.Core.Path.{◌≡◌}
use Rattle.numerals.specs.Sums.{sum_to}
use Rattle.expansion.specs.Inner.Ledger.{over, under, error_at}
use Rattle.expansion.proofs.Surveys.{top}
use Rattle.expansion.proofs.ledger.survey_of.Given as goal

abbrev pub invariant-loop-b : goal.invariant-loop-b
invariant-loop-b l =
    (l.give ≡ top (λ i. over (error_at l.ledger i)) l.b)
    × (l.take ≡ top (λ i. under (error_at l.ledger i)) l.b)
    × (l.imbalance ≡ sum_to l.b (λ i. over (error_at l.ledger i)))
