-- `calls::gauge_reading` meets its contract: it reads the record, and marks a service that isn't there.
use Rattle.std.specs.Prelude.{Ok}
use mathlib.Core.Path.{sym, ap, ◌∙◌}
use Rattle.gauges.proofs.Answers.{reading-made, reading-refused, reading-exact}
use Rattle.gauges.proofs.calls.gauge_reading.Goals as goal

pub returns-in-Ok : goal.returns-in-Ok
returns-in-Ok c =
    let a = c.args in
    let told = sym c.in-Ok.is ∙ c.gauge_record.ensures.answer in
    let is = ap Ok c.read.ensures ∙ sym (reading-made _ _ _ _ a.gauge _ told) in
    record {
      answer = is;
      exact = λ t read. reading-exact _ _ _ _ t read a.gauge _ is;
    }

pub returns-in-Err : goal.returns-in-Err
returns-in-Err c =
    let a = c.args in
    let told = sym c.in-Err.is ∙ c.gauge_record.ensures.answer in
    let is = c.refused_or_absent.ensures ∙ sym (reading-refused _ _ _ _ a.gauge _ told) in
    record {
      answer = is;
      exact = λ t read. reading-exact _ _ _ _ t read a.gauge _ is;
    }
