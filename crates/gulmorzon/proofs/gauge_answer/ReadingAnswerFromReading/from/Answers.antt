-- A reading's mark meets its contract: that of an absent service is the number of 8.
use Rattle.gulmorzon.proofs.Gauges.{zero_is}
use Rattle.gulmorzon.proofs.gauge_answer.ReadingAnswerFromReading.from.Goals as goal

pub returns-in-Absent : goal.returns-in-Absent
returns-in-Absent c = rw (c.in-Absent.is, c.from.ensures, zero_is)
