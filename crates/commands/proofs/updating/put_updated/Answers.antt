-- `updating::put_updated` meets its contract: the first line, and the rules' lines behind it.
use Rattle.sheets.proofs.Writes.{chain}
use Rattle.commands.specs.Update.{updated_text}
use Rattle.commands.proofs.updating.put_updated.Goals as goal

pub returns : goal.returns
unfolding updated_text
returns c = chain c.put_head-at.ensures.text c.put_lines.ensures
