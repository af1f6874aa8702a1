-- `gauge_answer::reading_refused` meets its contract: the number is that of the refusal.
use Rattle.gulmorzon.proofs.Gauges.{zero_is}
use Rattle.gulmorzon.proofs.gauge_answer.reading_refused.Goals as goal

pub returns : goal.returns
returns c = rw (c.from.ensures, zero_is)
