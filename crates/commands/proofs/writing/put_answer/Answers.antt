-- `writing::put_answer` meets its contract.
use Rattle.commands.specs.Refused.{number_text}
use Rattle.commands.proofs.writing.put_answer.Goals as goal

pub returns : goal.returns
unfolding number_text
returns c = c.put_number.ensures.text
