-- `holders::note_lows` meets its contract.
use borrow.Author.Rules.{rules}
use Rattle.expansion.specs.Inner.Holders.{lowered}
use Rattle.expansion.proofs.holders.note_lows.Goals as goal

pub returns : goal.returns
unfolding lowered
returns c = search rules
