use mathlib.Core.Path.{◌∙◌}
use Rattle.vectors.proofs.Parts.{part-found}
use Rattle.vectors.proofs.walk.part.Goals as goal

pub returns : goal.returns
returns c =
    let a = c.args in
    c.start.ensures ∙ part-found a.c a.from c.find.result a.s.now c.rest-tail.result.now c.rest-tail.ensures c.find.ensures
