-- `gulmorzon_stage` meets its contract: the answer of `stages::stage_lines` in plain numbers.
use mathlib.Core.Path.{ap, ◌∙◌}
use Rattle.sheets.specs.Calls.{is_value}
use Rattle.gulmorzon.specs.Answers.{of_answer}
use Rattle.gulmorzon.proofs.Lent.{lent}
use Rattle.gulmorzon.proofs.Promised.{promised-stage}
use Rattle.gulmorzon.proofs.gulmorzon_stage.Goals as goal

pub returns : goal.returns
returns c =
    let e = c.stage_lines.ensures in
    record {
      answer = c.into.ensures ∙ ap of_answer e.answer;
      buffer = lent _ _ (ap is_value e.answer) e.buffer;
      promise = promised-stage c.stage_lines.result _ _ _ _ _ _ _ c.into.ensures e.promise;
    }
