-- `gulmorzon_update` meets its contract: the answer of `update::update_sheets` in plain numbers.
use mathlib.Core.Path.{ap, ◌∙◌}
use Rattle.update.specs.Sheets.{is_made}
use Rattle.gulmorzon.specs.Update.{of_update}
use Rattle.gulmorzon.proofs.Lent.{lent-filled}
use Rattle.gulmorzon.proofs.Promised.{promised-both}
use Rattle.gulmorzon.proofs.gulmorzon_update.Goals as goal

pub returns : goal.returns
returns c =
    let e = c.update_sheets.ensures in
    record {
      answer = c.into.ensures ∙ ap of_update e.answer;
      rules = lent-filled _ _ _ (ap is_made e.answer) e.rules;
      promise = promised-both _ _ _ _ e.answer e.promise;
    }
