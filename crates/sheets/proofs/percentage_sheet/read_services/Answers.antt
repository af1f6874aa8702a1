-- `percentage_sheet::read_services` meets its contract. The invariant: the memory holds the services read so far, and they stand before what is read
-- of `rest`.
use mathlib.Core.Path.{◌≡◌, refl, sym, ap, ◌∙◌}
use mathlib.Core.List.{◌∷◌, ◌++◌, []}
use native.Mathlib.Omega.{arith}
use lib.ListN.{length-append}
use borrow.Author.Tests.{eqb-true, eqb-false}
use Rattle.std.proofs.lemmas.List.{nil_from_length}
use Rattle.numerals.specs.Limits.{decimals, unit}
use Rattle.numerals.specs.Text.{split}
use Rattle.sheets.specs.Reading.{got, then}
use Rattle.sheets.specs.PercentageSheet.{service_lines, volumes_of, ids_of, weights_of}
use Rattle.sheets.specs.Inner.SheetReader.{Followed, sheet_from}
use Rattle.sheets.proofs.Steps.{behind, behind-none, behind-one, behind-all, behind-refused, lines_end}
use Rattle.sheets.proofs.Memory.{volumes-more, ids_more, weights-more, holds-none, holds_more, holds-whole}
use Rattle.sheets.proofs.percentage_sheet.read_services.Goals as goal
use Rattle.sheets.proofs.percentage_sheet.read_services.Goals.{In-Ok}

pub loop-rest-init : goal.loop-rest-init
unfolding volumes_of ids_of weights_of
loop-rest-init c =
    let a = c.args in
    record {
      done = [];
      count = refl;
      holds = holds-none a.volumes.now a.sizes.now a.ids.now a.weights.now;
      read = sym (behind-none (service_lines decimals unit 0 (split 10 a.lines.now)));
    }

pub read_line-read-requires : goal.read_line-read-requires
read_line-read-requires c =
    record {
      some = omega (arith, eqb-false _ 0 (sym c.is_empty.ensures ∙ c.loop-rest-test.true));
      at_bound = omega arith;
    }

pub overflow_add-i : goal.overflow_add-i
overflow_add-i c = omega (arith, c.loop-rest.invariant.holds.few)

pub returns-in-Err : goal.returns-in-Err
unfolding sheet_from then
returns-in-Err c =
    let i = c.loop-rest.invariant in
    let line = rw c.in-Err.is at
    c.read_line-read.ensures in
    rw (c.refused_at.ensures, i.read, line, behind-refused i.done) (refl, refl)

-- the line that was read
followed :
    (c : In-Ok)
    → let l = c.loop-rest in
    let after = c.read_line-read.new in
    Followed l.rest.now l.volumes after.volumes l.ids after.ids l.weights after.weights l.at l.i c.in-Ok.line.count
    c.in-Ok.line.behind.now
followed c = rw c.in-Ok.is at c.read_line-read.ensures

pub offset_bounds-sizes-i : goal.offset_bounds-sizes-i
offset_bounds-sizes-i c = omega (arith, followed c, c.loop-rest.invariant)

pub bounds-sizes-i : goal.bounds-sizes-i
bounds-sizes-i c = omega (arith, followed (goal.at.bounds-sizes-i c).In-Ok, c.loop-rest.invariant)

pub overflow_add-at : goal.overflow_add-at
overflow_add-at c = omega (arith, followed (goal.at.overflow_add-at c).In-Ok, c.loop-rest.invariant)

pub overflow_add-i-in-loop-rest : goal.overflow_add-i-in-loop-rest
overflow_add-i-in-loop-rest c = omega (arith, followed (goal.at.overflow_add-i-in-loop-rest c).In-Ok, c.loop-rest.invariant)

pub loop-rest-smaller : goal.loop-rest-smaller
loop-rest-smaller c = omega (arith, followed (goal.at.loop-rest-smaller c).In-Ok, c.loop-rest.invariant)

pub loop-rest-preserved : goal.loop-rest-preserved
loop-rest-preserved c =
    let f = followed (goal.at.loop-rest-preserved c).In-Ok in
    let l = c.loop-rest in
    let s = f.service in
    record {
      done = l.invariant.done ++ s ∷ [];
      count = length-append l.invariant.done (s ∷ []) ∙ omega (arith, l.invariant.count);
      holds =
          rw (volumes-more l.invariant.done s, ids_more l.invariant.done s, weights-more l.invariant.done s)
          (holds_more l.invariant.holds f.stored (omega (arith, f.stored.place)));
      read = l.invariant.read ∙ ap (behind l.invariant.done) f.read ∙ behind-one l.invariant.done s _;
    }

pub returns : goal.returns
unfolding sheet_from then split
returns c =
    let a = c.args in
    let l = c.loop-rest in
    let none : split 10 l.rest.now ≡ [] ∷ [] = rw (nil_from_length l.rest.now (eqb-true _ 0 (sym c.is_empty.ensures ∙ c.loop-rest-test.false))) in
    let all : service_lines decimals unit 0 (split 10 a.lines.now) ≡ got l.invariant.done =
    l.invariant.read ∙ rw (none, lines_end l.i) (behind-all l.invariant.done) in
    rw (c.finish.ensures, all) (holds-whole a.head l.invariant.done l.invariant.count l.invariant.holds)
