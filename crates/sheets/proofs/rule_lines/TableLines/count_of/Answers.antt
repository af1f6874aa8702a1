-- `TableLines::count_of` meets its contract. The invariant: those counted, and those of the lines that are left, are all.
use mathlib.Core.Path.{sym, ap, ◌∙◌}
use native.Mathlib.Omega.{arith}
use lib.ListN.{length}
use Rattle.packing.specs.Count.{Line}
use Rattle.sheets.specs.RuleSheet.{count_of}
use Rattle.sheets.proofs.OwnNumbers.{own-more, own-past, own-none}
use Rattle.sheets.proofs.rule_lines.TableLines.count_of.Goals as goal
use Rattle.sheets.proofs.rule_lines.TableLines.count_of.Goals.{then-line-service, else-line-service}

pub loop-i-init : goal.loop-i-init
loop-i-init c = (omega arith, omega arith)

pub loop-i-preserved : goal.loop-i-preserved
loop-i-preserved c =
    let l = c.loop-i in
    let t = c.args.self.now in
    let s = c.args.service in
    let is = ap (λ (x : Line). x.service) c.line.ensures.same in
    elim c.if-line-service.branch [
      | then-line-service w ↦ (
        omega (arith, w.count-is),
        omega (arith, w.count-is, l.invariant.1, ap length (own-more t.cells.now t.n t.ruled.room s l.i (omega arith) (sym is ∙ w.if-line-service.true))),
      )
      | else-line-service w ↦ (
        omega (arith, w.count-is),
        omega (arith, w.count-is, l.invariant.1, ap length (own-past t.cells.now t.n t.ruled.room s l.i (omega arith) (λ e. w.if-line-service.false (is ∙ e)))),
      )
    ]

pub returns : goal.returns
unfolding count_of
returns c =
    let l = c.loop-i in
    let t = c.args.self.now in
    record {
      few = omega arith;
      count = omega (arith, l.invariant.1, ap length (own-none t.cells.now t.n t.ruled.room c.args.service l.i (omega arith)));
    }
