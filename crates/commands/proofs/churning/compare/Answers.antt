-- `churning::compare` meets its contract, by what `sheets::churn` answers.
use Rattle.commands.specs.Churn.{churned_text}
use Rattle.commands.proofs.churning.compare.Goals as goal

pub returns-in-Ok : goal.returns-in-Ok
unfolding churned_text
returns-in-Ok c = rw (← c.in-Ok.ensures) c.put_answer.ensures

pub returns-in-Err : goal.returns-in-Err
unfolding churned_text
returns-in-Err c = rw (← c.in-Err.ensures) c.put_refused_of.ensures
