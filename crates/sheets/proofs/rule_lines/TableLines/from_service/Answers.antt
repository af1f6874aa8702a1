-- `TableLines::from_service` meets its contract: the part that is lent has the service's rules, and each of its lines is a rule line.
use Prim.Native.Nat.{ℕ, ◌-◌, ◌*◌}
use mathlib.Core.Path.{◌≡◌, sym, ap, subst, ◌∙◌}
use mathlib.Core.List.{List}
use native.Mathlib.Omega.{arith}
use lib.ListN.{length, take, drop, length-drop}
use lib.Seq.{take_all}
use Rattle.packing.specs.Count.{own_rules}
use Rattle.sheets.specs.Inner.TableNumbers.{lines_in, RuleLines}
use Rattle.sheets.proofs.TableNumbers.{rules-part}
use Rattle.sheets.proofs.rule_lines.TableLines.from_service.Goals as goal

-- the part that is lent has all the lines from the service's first on
part : (table : List ℕ) (i : ℕ) → drop i table ≡ take (length table - i) (drop i table)
part table i = sym (take_all (length table - i) (drop i table) (omega (arith, length-drop i table)))

pub invariant_of-result : goal.invariant_of-result
invariant_of-result c =
    let t = c.args.self.now in
    let r = c.lines_before-before.result in
    let rules = rules-part t.cells.now r t.n c.lines_before-before.ensures.few t.ruled in
    record { ruled = subst (λ (cs : List ℕ). RuleLines cs (t.n - r)) (part t.cells.now (4 * r)) rules }

pub returns : goal.returns
returns c =
    let t = c.args.self.now in
    let before = c.lines_before-before in
    ap (λ (cs : List ℕ). own_rules c.args.service (lines_in cs (t.n - before.result))) (sym (part t.cells.now (4 * before.result)))
    ∙ before.ensures.same
