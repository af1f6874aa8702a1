-- `Change::print_stage` meets its contract: what was composed is the stage, and what was written its text.
use Prim.Native.Nat.{ℕ, ◌+◌, ◌^◌, ◌≤◌}
use mathlib.Core.List.{List, ◌++◌}
use mathlib.Core.Path.{◌≡◌, sym, ap, subst, ◌∙◌}
use native.Mathlib.Nat.{le_refl}
use native.Mathlib.Omega.{arith}
use Rattle.std.proofs.lemmas.Grind.{common_steps}
use lib.ListN.{length, take, drop, replicate, length-replicate}
use lib.Seq.{sets-eq}
use Rattle.numerals.specs.Limits.{most_capacity}
use Rattle.expansion.specs.declared.rule.Rule.{Rule}
use Rattle.packing.specs.Table.{lines_of}
use Rattle.sheets.specs.Inner.Writing.{Wrote}
use Rattle.sheets.specs.RuleSheet.{lines_text}
use Rattle.sheets.proofs.Prints.{no_room, printed}
use Rattle.sheets.proofs.Writes.{same_length as length-kept}
use Rattle.stages.specs.Inner.Handed.{text_room, text_at}
use Rattle.stages.specs.Inner.Nodes.{at, cut_at, starts_to}
use Rattle.stages.specs.Inner.Row.{Served}
use Rattle.stages.proofs.NodeLaws.{starts-ext}
use Rattle.stages.proofs.StageText.{served-cut, text-room, written-first}
use Rattle.stages.proofs.change.Change.print_stage.Goals as goal
use Rattle.stages.proofs.change.Change.print_stage.Goals.{After-compose, After-put_lines-end}

-- the stage
module _ (m : After-compose) where
  abbrev stage : List ℕ
  stage = m.compose.new.stage

  abbrev bytes : List ℕ
  bytes = text_at m.args.self.k (at m.args.self.old.now) (at m.args.self.new.now) m.args.service m.args.p

  served : Served m.args.self.k m.args.service stage
  served =
      served-cut m.args.self.k m.args.service m.args.p m.args.self.old.now m.args.self.new.now stage m.requires.of_service.0 m.requires.of_service.1
      m.compose.array_long m.compose.ensures

  same_lines : starts_to (at stage) m.args.self.k (2 ^ m.args.self.k)
      ≡ starts_to (cut_at m.args.p (at m.args.self.old.now) (at m.args.self.new.now)) m.args.self.k (2 ^ m.args.self.k)
  same_lines =
      starts-ext (at stage) (cut_at m.args.p (at m.args.self.old.now) (at m.args.self.new.now)) m.args.self.k m.compose.ensures (2 ^ m.args.self.k)
      (le_refl (2 ^ m.args.self.k))

  -- its text is as long as the room for it at most
  short : length bytes ≤ text_room
  short =
      let each =
      text-room (at stage) m.args.self.k m.args.service m.args.self.few_bits m.requires.of_service.0.numbered.1 (λ q l. (served.held q l).1)
      (2 ^ m.args.self.k)
      (le_refl (2 ^ m.args.self.k)) in
      omega (arith, rw same_lines at each, m.requires.few_lines)

-- it was written
module _ (w : After-put_lines-end) where
  abbrev text : List ℕ
  text = w.put_lines-end.new.text

  wrote : Wrote (replicate text_room 0) text 0 w.put_lines-end.result (bytes (goal.at.After-put_lines-end w).After-compose)
  wrote =
      subst (λ (rs : List Rule). Wrote (replicate text_room 0) text 0 w.put_lines-end.result (lines_text (lines_of w.args.service rs)))
      (same_lines (goal.at.After-put_lines-end w).After-compose)
      (rw (w.fill-tree.ensures.holder, w.fill-tree.ensures.k) at w.put_lines-end.ensures)

  room : w.put_lines-end.result ≤ length text
  room =
      omega (
        arith,
        wrote.ends,
        length-kept wrote,
        length-replicate {A = ℕ} text_room 0,
        short (goal.at.After-put_lines-end w).After-compose,
      )

  first : take w.put_lines-end.result text ≡ bytes (goal.at.After-put_lines-end w).After-compose
  first = written-first wrote (omega (arith, short (goal.at.After-put_lines-end w).After-compose, length-replicate {A = ℕ} text_room 0))

pub put_lines-end-requires : goal.put_lines-end-requires
put_lines-end-requires c =
    let m = (goal.at.put_lines-end-requires c).After-compose in
    let tree = c.fill-tree.ensures in
    let few = subst (λ (rs : List Rule). length rs ≤ most_capacity) (sym (same_lines m)) c.requires.few_lines in
    record {
      of_service = rw (tree.holder, tree.k) (served m);
      all_places = c.all_places-places.ensures;
      few_lines = rw (tree.holder, tree.k) few;
    }

pub returns-then-out-end : goal.returns-then-out-end
returns-then-out-end c =
    let none = no_room (bytes (goal.at.returns-then-out-end c).After-compose) c.args.out.now
    (omega (arith, c.if-out-end.true, (wrote (goal.at.returns-then-out-end c).After-put_lines-end).ends)) in
    rw c.into.ensures (record { answer = none.0; buffer = none.1 })

pub slice_bounds-text-end : goal.slice_bounds-text-end
slice_bounds-text-end c = room (goal.at.slice_bounds-text-end c).After-put_lines-end

pub slice_bounds-copy_from_slice-end-3 : goal.slice_bounds-copy_from_slice-end-3
slice_bounds-copy_from_slice-end-3 c = let r = room (goal.at.slice_bounds-copy_from_slice-end-3 c).After-put_lines-end in grind (arith, common_steps)

pub copy_from_slice-requires : goal.copy_from_slice-requires
copy_from_slice-requires c =
    let r = room (goal.at.copy_from_slice-requires c).After-put_lines-end in
    let f = c.if-out-end.false in grind (arith, common_steps)

pub returns : goal.returns
returns c =
    let w = (goal.at.returns c).After-put_lines-end in
    let text = bytes (goal.at.returns c).After-compose in
    let out = c.args.out.now in
    let end = c.put_lines-end.result in
    let ends : end ≡ 0 + length text = (wrote w).ends in
    let fits : length text ≤ length out = omega (arith, c.if-out-end.false) in
    let stands =
    printed text out _ end fits
    (record {
      ends = ends;
      holds = ap (λ (t : List ℕ). t ++ drop end out) (c.copy_from_slice.ensures.after ∙ first w)
          ∙ ap (λ (i : ℕ). text ++ drop i out) ends
          ∙ sym (sets-eq text out 0 (omega arith));
    }) in
    record { answer = stands.0; buffer = stands.1 }
