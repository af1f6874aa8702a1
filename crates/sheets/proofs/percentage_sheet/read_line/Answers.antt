-- `percentage_sheet::read_line` meets its contract: the text is cut at the LF that was found.
use Prim.Native.Nat.{◌+◌}
use mathlib.Core.Path.{◌≡◌, ap, ◌∙◌}
use mathlib.Core.List.{◌∷◌}
use native.Mathlib.Omega.{arith}
use lib.ListN.{length, take, drop, length-drop}
use Rattle.std.proofs.lemmas.List.{take_rest}
use Rattle.numerals.specs.Limits.{decimals, unit}
use Rattle.numerals.specs.Text.{split}
use Rattle.numerals.proofs.Fields.{split-some}
use Rattle.numerals.proofs.Exits.{handed_on}
use Rattle.sheets.specs.Reading.{got, then}
use Rattle.sheets.specs.PercentageSheet.{service_fields, service_lines}
use Rattle.sheets.proofs.FieldParts.{cut-first, cut-none}
use Rattle.sheets.proofs.Steps.{lines_more, lines-open}
use Rattle.sheets.proofs.percentage_sheet.read_line.Goals as goal
use Rattle.sheets.proofs.percentage_sheet.read_line.Goals.{Else-lines-end}

pub returns-then-lines-end : goal.returns-then-lines-end
returns-then-lines-end c =
    let a = c.args in
    ap (service_lines decimals unit a.i) (cut-none 10 c.find-end.result a.lines.now c.find-end.ensures c.if-lines-end.true)
    ∙ lines-open a.i a.lines.now (omega (arith, c.requires.some))

-- the line and those behind it
line :
    (c : Else-lines-end)
    → let a = c.args in
    let e = c.find-end.result in
    service_lines decimals unit a.i (split 10 a.lines.now)
    ≡ then (service_fields decimals unit a.i (split 32 (take e a.lines.now))) (λ s.
    then (service_lines decimals unit (a.i + 1) (split 10 (drop (e + 1) a.lines.now))) (λ ss. got (s ∷ ss)))
line c =
    let a = c.args in
    let e = c.find-end.result in
    let behind = drop (e + 1) a.lines.now in
    ap (service_lines decimals unit a.i) (cut-first 10 e a.lines.now c.find-end.ensures c.if-lines-end.false)
    ∙ lines_more a.i (take e a.lines.now) (split 10 behind) (split-some 10 behind)

pub returns-in_err-count : goal.returns-in_err-count
unfolding then
returns-in_err-count c =
    let refused = rw c.in_err-count.was at c.read_service.ensures in
    rw (handed_on _ _ c.from_residual.ensures) (line (goal.at.returns-in_err-count c).Else-lines-end ∙ rw refused)

pub returns : goal.returns
unfolding then
returns c =
    let served = rw c.in_ok-count.was at c.read_service.ensures in
    let lines = c.args.lines.now in
    let behind = take_rest lines (c.find-end.result + 1) in
    record {
      service = served.service;
      read = rw behind (rw served.read at (line (goal.at.returns c).Else-lines-end));
      shorter = omega (arith, c.if-lines-end.false, ap length behind, length-drop (c.find-end.result + 1) lines);
      stored = served.stored;
    }
