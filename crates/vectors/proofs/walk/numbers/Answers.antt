use mathlib.Core.Path.{◌≡◌, ap, ◌∙◌}
use native.Mathlib.Omega.{arith}
use lib.Seq.{paste}
use Rattle.vectors.specs.Numbers.{numbers}
use Rattle.vectors.proofs.Numbers.{stored-none, stored_next}
use Rattle.vectors.proofs.walk.numbers.Goals as goal

pub loop-i-init : goal.loop-i-init
loop-i-init c = stored-none c.args.s.now c.args.out.now c.min-n.result (omega arith)

pub loop-i-preserved : goal.loop-i-preserved
loop-i-preserved c =
    stored_next c.loop-i.invariant c.number.result c.after-from.result (omega arith) c.number.ensures c.after-from.ensures

pub returns-clause-answer : goal.returns-clause-answer
returns-clause-answer c = c.loop-i.invariant.all

pub returns-clause-buffer : goal.returns-clause-buffer
returns-clause-buffer c =
    let all : c.loop-i.i ≡ c.min-n.result = omega arith in
    c.loop-i.invariant.is ∙ ap (paste c.args.out.now 0 (numbers c.args.s.now)) all
