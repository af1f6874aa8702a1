-- `fields::rest_after` meets its contract. The invariant: `rest` has the fields behind the first ones that were passed.
use Prim.Native.Nat.{◌+◌, ◌≤◌}
use mathlib.Core.Path.{◌≡◌, refl, ap, ◌∙◌}
use native.Mathlib.Omega.{arith}
use lib.ListN.{length, length-drop}
use Rattle.std.proofs.lemmas.List.{take_rest}
use Rattle.numerals.specs.Text.{split}
use Rattle.numerals.proofs.Fields.{split-some}
use Rattle.sheets.proofs.FieldParts.{field_next, field-last}
use Rattle.sheets.proofs.fields.rest_after.Goals as goal

pub returns-then-rest-end : goal.returns-then-rest-end
returns-then-rest-end c =
    let l = c.loop in
    let fs = split 32 c.args.line.now in
    let few : length fs ≤ c.args.n =
    omega (arith, field-last 32 c.find-end.result l.counter l.rest.now fs c.find-end.ensures l.invariant.1 c.if-rest-end.true) in
    record { none = λ h. refl; rest = λ h. absurd (omega arith) }

pub overflow_add-rest : goal.overflow_add-rest
overflow_add-rest c = omega arith

pub loop-preserved : goal.loop-preserved
loop-preserved c =
    let l = c.loop in
    let e = c.find-end.result in
    let s = l.rest.now in
    let behind = take_rest s (e + 1) in (
      omega (arith, ap length behind, length-drop (e + 1) s),
      ap (split 32) behind ∙ field_next 32 e l.counter s (split 32 c.args.line.now) c.find-end.ensures l.invariant.1 c.if-rest-end.false,
    )

pub returns : goal.returns
returns c =
    let l = c.loop in
    let same : l.counter ≡ c.args.n = omega arith in
    record {
      none = λ h. absurd (omega (arith, ap length l.invariant.1, length-drop l.counter (split 32 c.args.line.now), split-some 32 l.rest.now));
      rest = λ h. rw (← same) l.invariant.1;
    }
