-- `rule_sheet::finish` meets its contract: each return by the tests that led to it.
use Rattle.std.specs.Prelude.{Err}
use Prim.Native.Nat.{◌≤◌, ◌<◌}
use mathlib.Core.Path.{◌≡◌, sym, ap, ◌∙◌}
use mathlib.Core.List.{reverse}
use mathlib.Core.Bool.{true}
use lib.Dec.{ltb}
use native.Mathlib.Omega.{arith}
use lib.ListN.{length, length-reverse}
use borrow.Author.Tests.{le-ltb, lt-ltb, eq-eqb, ne_eqb}
use Rattle.sheets.specs.Reading.{unless}
use Rattle.sheets.specs.Inner.TableReader.{sheet_answer}
use Rattle.sheets.specs.declared.order.Last.{Last}
use Rattle.sheets.proofs.Following.{last-count}
use Rattle.sheets.proofs.Reader.{whole_by}
use Rattle.sheets.proofs.rule_sheet.finish.Goals as goal
use Rattle.sheets.proofs.rule_sheet.finish.Goals.{Else-last-eq0}

some : (c : Else-last-eq0) → ltb 0 c.args.last.count ≡ true
some c = let h : 0 < c.args.last.count = omega (arith, c.if-last-eq0.false) in lt-ltb 0 _ h

pub returns-then-last-eq0 : goal.returns-then-last-eq0
unfolding unless sheet_answer
returns-then-last-eq0 c =
    λ all e.
    let none : c.args.last.count ≤ 0 = omega (arith, c.if-last-eq0.true) in
    ap Err c.refused_at.ensures ∙ sym (ap sheet_answer (whole_by _ all _ e) ∙ simp (le-ltb 0 _ none))

pub returns-then-last-head : goal.returns-then-last-head
unfolding unless sheet_answer
returns-then-last-head c =
    λ all e.
    ap Err c.refused_at-then-last-head.ensures
    ∙ sym (ap sheet_answer (whole_by _ all _ e) ∙ simp (some (goal.at.returns-then-last-head c).Else-last-eq0, ne_eqb _ _ c.if-last-head.true))

pub returns-then-last-ne0 : goal.returns-then-last-ne0
unfolding unless sheet_answer
returns-then-last-ne0 c =
    λ all e.
    ap Err c.refused_at-then-last-ne0.ensures
    ∙ sym (ap sheet_answer (whole_by _ all _ e)
    ∙ simp (
      some (goal.at.returns-then-last-ne0 c).Else-last-eq0,
      eq-eqb _ _ c.if-last-head.false,
      ne_eqb _ _ c.if-last-ne0.true,
    ))

pub returns : goal.returns
unfolding unless sheet_answer
returns c =
    λ all e.
    let n : length (reverse all) ≡ c.args.head.n =
    length-reverse all ∙ sym (last-count all) ∙ ap (λ (q : Last). q.count) (sym e) ∙ c.if-last-head.false in
    sym
    (ap sheet_answer (whole_by _ all _ e)
    ∙ simp (some (goal.at.returns c).Else-last-eq0, eq-eqb _ _ c.if-last-head.false, eq-eqb _ _ c.if-last-ne0.false) (rw n))
