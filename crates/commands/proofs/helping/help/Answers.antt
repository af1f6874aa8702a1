-- `helping::help` meets its contract: the text, by computing.
use Rattle.sheets.specs.Cases.{bytes}
use Rattle.commands.specs.Help.{lines, help_text}
use Rattle.commands.proofs.Texts.{whole}
use Rattle.commands.proofs.helping.help.Goals as goal

pub returns : goal.returns
unfolding help_text lines bytes
returns c =
    record {
      answer = (whole c.put_bytes.ensures).0;
      buffer = (whole c.put_bytes.ensures).1;
    }
