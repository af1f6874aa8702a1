-- `gulmorzon_gauges` meets its contract: the answer of `gauges::gauge_record` in plain numbers.
use mathlib.Core.Path.{ap, ◌∙◌}
use Rattle.gulmorzon.specs.Gauges.{of_record}
use Rattle.gulmorzon.proofs.Gauges.{record-called}
use Rattle.gulmorzon.proofs.gulmorzon_gauges.Goals as goal

pub returns : goal.returns
returns c =
    let made = c.gauge_record in
    let is = made.ensures.answer in
    record {
      answer = c.into.ensures ∙ ap of_record is;
      exact = record-called made.result _ _ _ _ _ c.into.ensures is;
    }
