-- `percentage_sheet::read_weights` meets its contract. The invariant: the backends read so far stand in both rows, and before what is read from `start` on.
use Prim.Native.Nat.{ℕ, ◌+◌, ◌-◌, ◌≤◌}
use mathlib.Core.Path.{◌≡◌, refl, sym, ap, ◌∙◌}
use mathlib.Core.List.{List, ◌∷◌, append-nil, []}
use native.Mathlib.Nat.{le_refl}
use native.Mathlib.Omega.{arith}
use lib.ListN.{length, take, drop, length-take, length-append}
use lib.Seq.{take-length}
use Rattle.numerals.specs.Limits.{unit, decimals}
use Rattle.numerals.specs.Text.{split}
use Rattle.numerals.proofs.Fields.{cut-le}
use Rattle.numerals.proofs.Exits.{handed_on, had, had_none}
use Rattle.sheets.specs.PercentageSheet.{weight_fields}
use Rattle.sheets.specs.PercentageSheet as sheet
use Rattle.sheets.specs.Inner.SheetReader.{Named}
use Rattle.sheets.proofs.FieldParts.{part-slice, fields_left, left-all, left-none, left-more}
use Rattle.sheets.proofs.Steps.{no_backend, backend_behind, joined-none, joined-all, joined-refused, joined-one, sum_more, row_more}
use Rattle.sheets.proofs.percentage_sheet.read_weights.Goals as goal
use Rattle.sheets.proofs.percentage_sheet.read_weights.Goals.{After-find-end, In_ok-backend}

pub loop-start-init : goal.loop-start-init
unfolding sheet.sum
loop-start-init c =
    let a = c.args in
    let z : a.at + 0 ≡ a.at = omega arith in
    let fields = a.fields.now in
    let all = left-all 32 0 (length fields) fields (omega arith) ∙ ap (split 32) (take-length fields) in
    record {
      done = no_backend;
      named = refl;
      size = refl;
      total = refl;
      known = omega arith;
      small = omega arith;
      ids_row = rw z (sym (append-nil _));
      row = rw z (sym (append-nil _));
      few = omega (arith, ap length all);
      whole = λ line. rw (all, joined-none (weight_fields decimals line 0 (split 32 fields)));
    }

-- it ends within the line
ends : (c : After-find-end) → c.find-end.result ≤ length c.args.fields.now
ends c =
    let s = c.args.fields.now in
    cut-le 32 c.loop-start.start (length s) c.find-end.result s (le_refl (length s)) c.find-end.ensures (omega arith)

-- the field at `start` and those behind it
next :
    (c : After-find-end)
    → let s = c.args.fields.now in
    let start = c.loop-start.start in
    let end = c.find-end.result in
    fields_left 32 start (length s) s ≡ take (end - start) (drop start s) ∷ fields_left 32 (end + 1) (length s) s
next c =
    let s = c.args.fields.now in
    let start = c.loop-start.start in
    let end = c.find-end.result in
    left-more 32 start (length s) end s (omega arith) (le_refl (length s)) c.find-end.ensures
    ∙ ap (λ (f : List ℕ). f ∷ fields_left 32 (end + 1) (length s) s) (sym (part-slice start end s (omega (arith, c.find-end.ensures))))

pub slice_bounds-read_backend-end : goal.slice_bounds-read_backend-end
slice_bounds-read_backend-end c =
    let s = c.args.fields.now in
    omega (arith, ends (goal.at.slice_bounds-read_backend-end c).After-find-end, length-take c.find-end.result s)

pub read_backend-requires : goal.read_backend-requires
read_backend-requires c = c.loop-start.invariant.known

pub returns-in_err-backend : goal.returns-in_err-backend
returns-in_err-backend c =
    let l = c.loop-start in
    let n = had_none _ _ c.ok_or.ensures.value c.in_err-backend.was in
    let bad = rw n.0 at c.read_backend.ensures in
    rw (handed_on _ _ c.from_residual.ensures, n.1)
    (λ line. l.invariant.whole line ∙ rw (next (goal.at.returns-in_err-backend c).After-find-end, bad line _) (joined-refused l.invariant.done _ line))

-- the backend that was read
found :
    (c : In_ok-backend)
    → let l = c.loop-start in
    let a = c.args in
    Named l.before (take (c.find-end.result - l.start) (drop l.start a.fields.now)) c.in_ok-backend.backend.id c.in_ok-backend.backend.weight
found c = rw (had _ _ c.ok_or.ensures.value c.in_ok-backend.was) at c.read_backend.ensures

pub overflow_add-ids : goal.overflow_add-ids
overflow_add-ids c = omega (arith, ap length (next (goal.at.overflow_add-ids c).After-find-end))

pub offset_bounds-ids-at : goal.offset_bounds-ids-at
offset_bounds-ids-at c = omega (arith, ap length (next (goal.at.offset_bounds-ids-at c).After-find-end))

pub bounds-ids-at : goal.bounds-ids-at
bounds-ids-at c = omega (arith, ap length (next (goal.at.bounds-ids-at c).After-find-end))

pub overflow_add-weights : goal.overflow_add-weights
overflow_add-weights c = omega (arith, ap length (next (goal.at.overflow_add-weights c).After-find-end))

pub offset_bounds-weights-at : goal.offset_bounds-weights-at
offset_bounds-weights-at c = omega (arith, ap length (next (goal.at.offset_bounds-weights-at c).After-find-end))

pub bounds-weights-at : goal.bounds-weights-at
bounds-weights-at c = omega (arith, ap length (next (goal.at.bounds-weights-at c).After-find-end))

pub overflow_add-sum : goal.overflow_add-sum
unfolding unit
overflow_add-sum c = omega (arith, ap length (next (goal.at.overflow_add-sum c).After-find-end), (found (goal.at.overflow_add-sum c).In_ok-backend).small)

pub overflow_add-count : goal.overflow_add-count
overflow_add-count c = omega (arith, ap length (next (goal.at.overflow_add-count c).After-find-end))

pub overflow_add-start : goal.overflow_add-start
overflow_add-start c = omega (arith, ends (goal.at.overflow_add-start c).After-find-end)

pub loop-start-smaller : goal.loop-start-smaller
loop-start-smaller c = omega (arith, ap length (next (goal.at.loop-start-smaller c).After-find-end))

pub loop-start-preserved : goal.loop-start-preserved
unfolding unit
loop-start-preserved c =
    let l = c.loop-start in
    let a = c.args in
    let id = c.in_ok-backend.backend.id in
    let w = c.in_ok-backend.backend.weight in
    let more = next (goal.at.loop-start-preserved c).After-find-end in
    let read = found (goal.at.loop-start-preserved c).In_ok-backend in
    record {
      done = backend_behind l.invariant.done id w;
      named = length-append l.invariant.done.ids (id ∷ []) ∙ omega (arith, l.invariant.named);
      size = length-append l.invariant.done.weights (w ∷ []) ∙ omega (arith, l.invariant.size);
      total = sum_more l.invariant.done.weights w ∙ ap (λ (x : ℕ). x + w) l.invariant.total;
      known = omega (arith, read.known);
      small = omega (arith, read.small, l.invariant.small);
      ids_row = row_more a.ids.now l.ids l.invariant.done.ids a.at l.count id (omega (arith, ap length more)) l.invariant.ids_row;
      row = row_more a.weights.now l.weights l.invariant.done.weights a.at l.count w (omega (arith, ap length more)) l.invariant.row;
      few = omega (arith, ap length more);
      whole = λ line. l.invariant.whole line ∙ rw (more, read.next line _) (joined-one l.invariant.done id w _);
    }

pub returns : goal.returns
unfolding weight_fields
returns c =
    let a = c.args in
    let l = c.loop-start in
    record {
      found = l.invariant.done;
      read = λ line. l.invariant.whole line ∙ rw (left-none 32 l.start (length a.fields.now) a.fields.now (omega arith)) (joined-all l.invariant.done);
      named = l.invariant.named;
      size = l.invariant.size;
      few = omega arith;
      total = l.invariant.total;
      ids_row = l.invariant.ids_row;
      row = l.invariant.row;
    }
