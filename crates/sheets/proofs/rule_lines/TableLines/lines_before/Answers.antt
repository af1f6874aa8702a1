-- `TableLines::lines_before` meets its contract. The invariant: the service's rules are those of the lines from i on.
use Prim.Native.Nat.{◌+◌, ◌*◌}
use lib.ListN.{get_or}
use mathlib.Core.Path.{◌≡◌, sym, ap, ◌∙◌}
use native.Mathlib.Omega.{arith}
use Rattle.packing.specs.Count.{Line, own_rules}
use Rattle.sheets.proofs.OwnNumbers.{own-past}
use Rattle.sheets.proofs.TableNumbers.{lines-part}
use Rattle.sheets.proofs.rule_lines.TableLines.lines_before.Goals as goal

pub loop-i-preserved : goal.loop-i-preserved
loop-i-preserved c =
    let i = c.loop-i.i in
    let s = c.args.service in
    let t = c.args.self.now in
    let L = t.ruled.room in
    let other : get_or t.cells.now (4 * i) 0 ≡ s → ⊥ = λ e. c.if-line-service.false (ap (λ (l : Line). l.service) c.line.ensures.same ∙ e) in
    ap (own_rules s) (lines-part t.cells.now t.n L (i + 1) (omega arith))
    ∙ sym (own-past t.cells.now t.n L s i (omega arith) other)
    ∙ sym (ap (own_rules s) (lines-part t.cells.now t.n L i (omega arith)))
    ∙ c.loop-i.invariant
