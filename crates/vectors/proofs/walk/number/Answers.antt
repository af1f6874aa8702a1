use mathlib.Core.Path.{◌∙◌}
use Rattle.vectors.specs.Parts.{part}
use Rattle.vectors.proofs.Numbers.{number_read}
use Rattle.vectors.proofs.walk.number.Goals as goal

pub returns : goal.returns
returns c =
    let a = c.args in
    c.unwrap_or.ensures
    ∙ number_read c.part-field.result.now (part 32 a.from a.s.now) c.read_number.result c.part-field.ensures c.read_number.ensures
