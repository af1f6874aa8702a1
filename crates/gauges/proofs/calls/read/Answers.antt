-- `calls::read` meets its contract.
use Rattle.gauges.specs.Gauges.{reading_of}
use Rattle.gauges.proofs.calls.read.Goals as goal

pub returns-in-Share : goal.returns-in-Share
unfolding reading_of
returns-in-Share c = rw c.in-Share.is

pub returns-in-Load : goal.returns-in-Load
unfolding reading_of
returns-in-Load c = rw c.in-Load.is
