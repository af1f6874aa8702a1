-- A record's answer meets its contract: the number is that of the refusal, beside zeros.
use Rattle.gulmorzon.proofs.Gauges.{zero_is}
use Rattle.gulmorzon.proofs.gauge_answer.GaugesAnswerFromResultGaugesRefused.from.Goals as goal

pub returns-in-Err : goal.returns-in-Err
returns-in-Err c = rw (c.in-Err.is, c.from.ensures, zero_is)
