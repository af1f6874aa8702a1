-- `reading::read_both` meets its contract: the first sheet, the second, then what they are compared by.
use Rattle.std.specs.Prelude.{Err, Ok}
use mathlib.Core.Path.{◌≡◌, ap, ◌∙◌}
use native.Mathlib.Omega.{arith}
use Rattle.std.proofs.Common.{rules}
use Rattle.numerals.proofs.Exits.{handed_on, had_ok, had_err}
use Rattle.sheets.specs.declared.answer.Refused.{Refused}
use Rattle.sheets.specs.Calls.{about}
use Rattle.stages.proofs.ReadSheets.{loaded-long, first-failed, second-failed, both-loaded}
use Rattle.stages.proofs.reading.read_both.Goals as goal
use Rattle.stages.proofs.reading.read_both.Goals.{In_ok-k, In_ok-m}

-- the sheets were loaded
first : (c : In_ok-k) → c.load.result ≡ Ok c.in_ok-k.k
first c = had_ok _ _ c.map_err.ensures.cases c.in_ok-k.was

second : (c : In_ok-m) → c.load-2.result ≡ Ok c.in_ok-m.m
second c = had_ok _ _ c.map_err-2.ensures.cases c.in_ok-m.was

pub returns-in_err-k : goal.returns-in_err-k
returns-in_err-k c =
    let w = had_err {E = Refused} {D = Refused} _ _ c.map_err.ensures.cases c.in_err-k.was in
    let q : c.in_err-k.field-0.0 ≡ about 1 w.0.why w.0.line = search rules in
    first-failed _ _ _ _ _ c.load.ensures w.0 w.1 _ (handed_on _ _ c.from_residual.ensures ∙ ap Err q) _ _

pub returns-in_err-m : goal.returns-in_err-m
returns-in_err-m c =
    let w = had_err {E = Refused} {D = Refused} _ _ c.map_err-2.ensures.cases c.in_err-m.was in
    let q : c.in_err-m.field-0.0 ≡ about 2 w.0.why w.0.line = search rules in
    second-failed _ _ _ _ _ c.load.ensures _ (first (goal.at.returns-in_err-m c).In_ok-k) _ _ c.load-2.ensures w.0 w.1 _
    (handed_on _ _ c.from_residual-in_err-m.ensures ∙ ap Err q) _ _

pub bounds-before-0 : goal.bounds-before-0
bounds-before-0 c = omega (arith, loaded-long _ _ _ _ c.load.ensures)

pub bounds-after-0 : goal.bounds-after-0
bounds-after-0 c = omega (arith, loaded-long _ _ _ _ c.load-2.ensures)

pub returns : goal.returns
returns c =
    both-loaded _ _ _ _ _ c.load.ensures _ (first (goal.at.returns c).In_ok-k) _ _ c.load-2.ensures _
    (second (goal.at.returns c).In_ok-m) _ c.compare.ensures
