-- `gulmorzon_plan` meets its contract: the answer of `sheets::plan` in plain numbers.
use mathlib.Core.Path.{ap, ◌∙◌}
use Rattle.sheets.specs.Calls.{is_plan}
use Rattle.gulmorzon.specs.Answers.{of_planned}
use Rattle.gulmorzon.proofs.Lent.{lent}
use Rattle.gulmorzon.proofs.gulmorzon_plan.Goals as goal

pub returns : goal.returns
returns c =
    let e = c.plan.ensures in
    record {
      answer = c.into.ensures ∙ ap of_planned e.answer;
      figures = lent _ _ (ap is_plan e.answer) e.figures;
      table = lent _ _ (ap is_plan e.answer) e.table;
    }
