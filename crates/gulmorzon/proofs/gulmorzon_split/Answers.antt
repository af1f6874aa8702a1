-- `gulmorzon_split` meets its contract: the answer of `sheets::split_sheet` in plain numbers.
use mathlib.Core.Path.{ap, ◌∙◌}
use Rattle.sheets.specs.Calls.{is_value}
use Rattle.gulmorzon.specs.Answers.{of_answer}
use Rattle.gulmorzon.proofs.Lent.{lent}
use Rattle.gulmorzon.proofs.Promised.{promised}
use Rattle.gulmorzon.proofs.gulmorzon_split.Goals as goal

pub returns : goal.returns
returns c =
    let e = c.split_sheet.ensures in
    record {
      answer = c.into.ensures ∙ ap of_answer e.answer;
      buffer = lent _ _ (ap is_value e.answer) e.buffer;
      demand = promised c.split_sheet.result _ _ _ c.into.ensures e.demand;
      four_places = rw (← e.answer) e.four_places;
    }
