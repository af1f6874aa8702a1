-- `writing::put_refused` meets its contract.
use Rattle.commands.specs.Refused.{refused_text}
use Rattle.commands.proofs.writing.put_refused.Goals as goal

pub returns : goal.returns
unfolding refused_text
returns c = c.put_refusal.ensures.text
