-- `percentage_sheet::read_service` meets its contract: the line up to its weights, the weights and their sum, then the volume is stored.
use Prim.Native.Nat.{ℕ}
use mathlib.Core.Path.{◌≡◌, sym, ap, ◌∙◌}
use mathlib.Core.List.{List}
use native.Mathlib.Omega.{arith}
use native.Mathlib.Numerals.{add-one}
use lib.ListN.{length, drop, length-drop}
use lib.Seq.{take-suc-set}
use borrow.Author.Tests.{eq-eqb, ne_eqb}
use Rattle.numerals.specs.Text.{split}
use Rattle.numerals.specs.Limits.{unit}
use Rattle.numerals.proofs.Exits.{handed_on}
use Rattle.sheets.specs.Reading.{then, unless}
use Rattle.sheets.specs.Inner.SheetReader.{Opened, Weighed}
use Rattle.sheets.proofs.percentage_sheet.read_service.Goals as goal
use Rattle.sheets.proofs.percentage_sheet.read_service.Goals.{After-rest_after, In_ok-volume, In_ok-read, Start}

-- the line's fields
abbrev fields : Start → List (List ℕ)
fields s = split 32 s.args.line.now

opened :
    (c : In_ok-volume)
    → Opened c.args.i (fields (goal.at.In_ok-volume c).Start) c.in_ok-volume.volume
opened c = rw c.in_ok-volume.was at c.read_volume.ensures

-- the fields from the third on are the backends
rest :
    (c : After-rest_after)
    → split 32 c.rest_after.result.now ≡ drop 2 (fields (goal.at.After-rest_after c).Start)
rest c = c.rest_after.ensures.rest (omega (arith, (opened (goal.at.After-rest_after c).In_ok-volume).some))

pub read_weights-requires : goal.read_weights-requires
read_weights-requires c =
    let o = opened (goal.at.read_weights-requires c).In_ok-volume in
    let all = rest (goal.at.read_weights-requires c).After-rest_after in
    record {
      few = omega (arith, ap length all, length-drop 2 (fields (goal.at.read_weights-requires c).Start));
      room = omega (arith, o.place);
    }

-- the backends that were read
weighed :
    (c : In_ok-read)
    → Weighed c.args.ids.now c.read_weights.new.ids c.args.weights.now c.read_weights.new.weights c.args.at
    (drop 2 (fields (goal.at.In_ok-read c).Start)) c.in_ok-read.read.count
    c.in_ok-read.read.sum
weighed c =
    rw (rest (goal.at.In_ok-read c).After-rest_after) at
    (rw c.in_ok-read.was at c.read_weights.ensures)

pub returns-then-read-ne-UNIT : goal.returns-then-read-ne-UNIT
unfolding then unless unit
returns-then-read-ne-UNIT c =
    let w = weighed (goal.at.returns-then-read-ne-UNIT c).In_ok-read in
    (opened (goal.at.returns-then-read-ne-UNIT c).In_ok-volume).rest
    ∙ rw (w.read _, ne_eqb _ unit (λ e. c.if-read-ne-UNIT.true (sym w.total ∙ e)))

pub offset_bounds-volumes-i : goal.offset_bounds-volumes-i
offset_bounds-volumes-i c = omega (arith, (opened (goal.at.offset_bounds-volumes-i c).In_ok-volume).place)

pub bounds-volumes-i : goal.bounds-volumes-i
bounds-volumes-i c = omega (arith, (opened (goal.at.bounds-volumes-i c).In_ok-volume).place)

pub returns-in_err-volume : goal.returns-in_err-volume
returns-in_err-volume c = rw (handed_on _ _ c.from_residual.ensures) (rw c.in_err-volume.was at c.read_volume.ensures)

pub returns-in_err-read : goal.returns-in_err-read
unfolding then
returns-in_err-read c =
    let refused = rw (rest (goal.at.returns-in_err-read c).After-rest_after) at
    (rw c.in_err-read.was at c.read_weights.ensures) in
    rw (handed_on _ _ c.from_residual-in_err-read.ensures) ((opened (goal.at.returns-in_err-read c).In_ok-volume).rest ∙ rw (refused _))

pub returns : goal.returns
unfolding then unless unit
returns c =
    let w = weighed (goal.at.returns c).In_ok-read in
    let o = opened (goal.at.returns c).In_ok-volume in
    let a = c.args in
    record {
      service = record { volume = c.in_ok-volume.volume; ids = w.found.ids; weights = w.found.weights };
      read = o.rest ∙ rw (w.read _, eq-eqb _ unit (w.total ∙ c.if-read-ne-UNIT.false));
      stored =
          record {
            place = o.place;
            named = w.named;
            size = w.size;
            few = w.few;
            volumes = rw add-one (take-suc-set a.volumes.now a.i _ (omega (arith, o.place)));
            ids_row = w.ids_row;
            row = w.row;
          };
    }
