-- `gulmorzon_reading` meets its contract: the answer of `gauges::gauge_reading` in plain numbers.
use mathlib.Core.Path.{sym, ap, ◌∙◌}
use Rattle.gauges.specs.declared.answer.Gauge.TheVariants.{Share}
use Rattle.gulmorzon.specs.Gauges.{of_reading}
use Rattle.gulmorzon.specs.Inner.Unnamed.{of_unnamed}
use Rattle.gulmorzon.proofs.Gauges.{no-gauge, called-share, called-load, called-none, reading-called}
use Rattle.gulmorzon.proofs.gulmorzon_reading.Goals as goal

pub returns-then-gauge-eq-SHARE : goal.returns-then-gauge-eq-SHARE
returns-then-gauge-eq-SHARE c =
    let gauge = c.args.gauge in
    let told = c.into.ensures ∙ ap of_reading c.gauge_reading.ensures.answer in
    let is = told ∙ sym (called-share _ _ _ _ gauge c.if-gauge-eq-SHARE.true) in
    record {
      answer = is;
      exact = reading-called _ _ _ _ gauge _ is;
    }

pub returns-then-gauge-eq-LOAD : goal.returns-then-gauge-eq-LOAD
returns-then-gauge-eq-LOAD c =
    let gauge = c.args.gauge in
    let told = c.into-then-gauge-eq-LOAD.ensures ∙ ap of_reading c.gauge_reading-then-gauge-eq-LOAD.ensures.answer in
    let is = told ∙ sym (called-load _ _ _ _ gauge c.if-gauge-eq-SHARE.false c.if-gauge-eq-LOAD.true) in
    record {
      answer = is;
      exact = reading-called _ _ _ _ gauge _ is;
    }

pub returns : goal.returns
returns c =
    let gauge = c.args.gauge in
    let told = c.of_unnamed.ensures ∙ ap of_unnamed c.gauge_reading-2.ensures.answer ∙ no-gauge _ _ _ _ Share in
    let is = told ∙ sym (called-none _ _ _ _ gauge c.if-gauge-eq-SHARE.false c.if-gauge-eq-LOAD.false) in
    record {
      answer = is;
      exact = reading-called _ _ _ _ gauge _ is;
    }
