-- `printing::put_table` meets its contract: once the lines left are written too, the whole text is.
use Prim.Native.Nat.{ℕ, ◌+◌, ◌≤◌, ◌<◌}
use mathlib.Core.Path.{◌≡◌, refl, ap, subst, ◌∙◌}
use mathlib.Core.List.{List}
use native.Mathlib.Omega.{arith}
use Rattle.packing.specs.Count.{Line}
use Rattle.sheets.specs.RuleSheet.{line_text}
use Rattle.sheets.specs.Inner.Writing.{Wrote, line_width}
use Rattle.sheets.proofs.TableTexts.{length-line}
use Rattle.sheets.proofs.Writes.{chain, nothing, same_length}
use Rattle.sheets.proofs.NumbersText.{width-more, text-more, text-none, table-width, table-parts}
use Rattle.sheets.proofs.printing.put_table.Goals as goal

-- where a line that was written ends
line-ends :
    (l : Line) {before after : List ℕ} {at next : ℕ} → Wrote before after at next (line_text l)
    → next ≡ at + line_width l.service l.rule.len l.rule.backend
line-ends l w = omega (arith, w.ends, length-line l)

pub put_head-at-requires : goal.put_head-at-requires
put_head-at-requires c =
    let t = c.args.table.now in
    omega (arith, c.requires, table-width t.lines.cells.now t.lines.n t.lines.ruled t.k t.total)

pub loop-i-init : goal.loop-i-init
loop-i-init c =
    let t = c.args.table.now in
    let w = c.put_head-at.ensures in
    record {
      same = refl;
      room = omega (arith, c.requires, table-width t.lines.cells.now t.lines.n t.lines.ruled t.k t.total, w.ends, same_length w);
      rest = λ b e h. h;
    }

pub put_line-at-requires : goal.put_line-at-requires
put_line-at-requires c =
    let t = c.args.table.now in
    let l = c.loop-i in
    let width = ap (λ (x : Line). line_width x.service x.rule.len x.rule.backend) c.line.ensures.same in (
      c.line.ensures.formed,
      omega (arith, l.invariant.room, width-more t.lines.cells.now t.lines.n t.lines.ruled l.i c.loop-i-test.true, width),
    )

pub loop-i-preserved : goal.loop-i-preserved
loop-i-preserved c =
    let t = c.args.table.now in
    let cs = t.lines.cells.now in
    let n = t.lines.n in
    let L = t.lines.ruled in
    let l = c.loop-i in
    let g = l.invariant in
    let p = c.put_line-at in
    let w = subst (λ (x : Line). Wrote l.out p.new.out l.at p.result (line_text x)) c.line.ensures.same p.ensures in
    let ends = line-ends _ w in
    let h : l.i < n = c.loop-i-test.true in
    record {
      same = same_length w ∙ g.same;
      room = omega (arith, g.room, width-more cs n L l.i h, same_length w, ends);
      rest = λ b e r. g.rest b e (rw (text-more cs n L l.i h) (chain w r));
    }

pub returns : goal.returns
returns c =
    let t = c.args.table.now in
    let cs = t.lines.cells.now in
    let n = t.lines.n in
    let l = c.loop-i in
    let end : n ≤ l.i = omega arith in
    let rest = l.invariant.rest l.out l.at (rw (text-none cs n t.lines.ruled l.i end) (nothing l.out l.at)) in
    rw (← table-parts cs n t.lines.ruled t.k t.total) (chain c.put_head-at.ensures rest)
