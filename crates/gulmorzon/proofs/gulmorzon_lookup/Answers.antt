-- `gulmorzon_lookup` meets its contract: the answer of `sheets::lookup` in plain numbers.
use mathlib.Core.Path.{ap, ◌∙◌}
use Rattle.gulmorzon.specs.Answers.{of_answer}
use Rattle.gulmorzon.proofs.gulmorzon_lookup.Goals as goal

pub returns : goal.returns
returns c = c.into.ensures ∙ ap of_answer c.lookup.ensures
