-- `percentage_sheet::finish` meets its contract.
use Rattle.std.specs.Prelude.{Err}
use Prim.Native.Nat.{◌<◌}
use mathlib.Core.Path.{ap, ◌∙◌}
use native.Mathlib.Omega.{arith}
use borrow.Author.Tests.{lt-ltb, le-ltb, lt-leb, le-leb}
use Rattle.sheets.specs.Inner.SheetReader.{finished}
use Rattle.sheets.proofs.percentage_sheet.finish.Goals as goal

pub returns-then-services-eq0 : goal.returns-then-services-eq0
unfolding finished
returns-then-services-eq0 c = ap Err c.refused_at.ensures ∙ simp (le-ltb 0 c.args.services (omega arith))

pub returns-then-head-services : goal.returns-then-head-services
unfolding finished
returns-then-head-services c =
    let some : 0 < c.args.services = omega arith in
    ap Err c.refused_at-then-head-services.ensures ∙ simp (lt-ltb 0 _ some, lt-leb _ _ c.if-head-services.true)

pub returns : goal.returns
unfolding finished
returns c =
    let some : 0 < c.args.services = omega arith in
    simp (lt-ltb 0 _ some, le-leb _ _ c.if-head-services.false)
