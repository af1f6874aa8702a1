-- `gauging::measure` meets its contract: both floats of the record are gauges.
use mathlib.Core.Path.{sym, ◌∙◌}
use native.Mathlib.Omega.{arith}
use Rattle.sheets.proofs.Writes.{chain, same_length as length-kept}
use Rattle.commands.specs.Inner.Gauge.{IsGauge}
use Rattle.commands.specs.Gauge.{gauges_text}
use Rattle.commands.proofs.GaugeTexts.{made-gauges}
use Rattle.commands.proofs.gauging.measure.Goals as goal
use Rattle.commands.proofs.gauging.measure.Goals.{In-Ok}

-- both floats are gauges
both : (c : In-Ok) → let g = c.in-Ok.g in IsGauge g.share × IsGauge g.load
both c =
    let a = c.args in
    made-gauges a.table.now a.service a.volume a.backend _ (sym c.in-Ok.is ∙ c.gauge_record.ensures.answer)

pub put_gauge-at-requires : goal.put_gauge-at-requires
put_gauge-at-requires c = ((both (goal.at.put_gauge-at-requires c).In-Ok).0, omega (arith, c.requires))

pub put_gauge-requires : goal.put_gauge-requires
put_gauge-requires c =
    let first = c.put_gauge-at.ensures in
    ((both (goal.at.put_gauge-requires c).In-Ok).1, omega (arith, c.requires, first.end, length-kept first.text))

pub returns-in-Ok : goal.returns-in-Ok
unfolding gauges_text
returns-in-Ok c =
    let told = sym c.in-Ok.is ∙ c.gauge_record.ensures.answer in
    rw (← told) (chain c.put_gauge-at.ensures.text c.put_gauge.ensures.text)

pub returns-in-Err : goal.returns-in-Err
unfolding gauges_text
returns-in-Err c =
    let told = sym c.in-Err.is ∙ c.gauge_record.ensures.answer in
    rw (← told) c.put_refused.ensures
