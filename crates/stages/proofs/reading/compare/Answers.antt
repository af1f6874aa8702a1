-- `reading::compare` meets its contract: one test after the other.
use mathlib.Core.Path.{◌∙◌}
use native.Mathlib.Omega.{arith}
use borrow.Author.Tests.{lt-ltb, le-ltb, eq-eqb, ne_eqb}
use Rattle.stages.proofs.reading.compare.Goals as goal

pub returns-then-first-eq0 : goal.returns-then-first-eq0
returns-then-first-eq0 c =
    let a = c.args in
    c.refused.ensures ∙ rw (le-ltb 0 a.first (omega (arith, c.if-first-eq0.true)))

pub returns-then-second-eq0 : goal.returns-then-second-eq0
returns-then-second-eq0 c =
    let a = c.args in
    c.refused-then-second-eq0.ensures
    ∙ rw (lt-ltb 0 a.first (omega (arith, c.if-first-eq0.false)), le-ltb 0 a.second (omega (arith, c.if-second-eq0.true)))

pub returns-then-k-m : goal.returns-then-k-m
returns-then-k-m c =
    let a = c.args in
    c.refused-then-k-m.ensures
    ∙ rw (
      lt-ltb 0 a.first (omega (arith, c.if-first-eq0.false)),
      lt-ltb 0 a.second (omega (arith, c.if-second-eq0.false)),
      ne_eqb a.k a.m c.if-k-m.true,
    )

pub returns : goal.returns
returns c =
    let a = c.args in
    rw (
      lt-ltb 0 a.first (omega (arith, c.if-first-eq0.false)),
      lt-ltb 0 a.second (omega (arith, c.if-second-eq0.false)),
      eq-eqb a.k a.m c.if-k-m.false,
    )
