-- `updating::put_lines` meets its contract: once the lines left are written too, all are.
use mathlib.Core.Path.{refl, ◌∙◌}
use native.Mathlib.Omega.{arith}
use Rattle.sheets.proofs.Writes.{chain, nothing, same_length as length-kept}
use Rattle.commands.proofs.UpdateLines.{text-more, text-none}
use Rattle.commands.proofs.updating.put_lines.Goals as goal

pub loop-i-init : goal.loop-i-init
loop-i-init c = record { same = refl; room = omega arith; rest = λ b e h. h }

pub put_line-end-requires : goal.put_line-end-requires
put_line-end-requires c =
    let l = c.loop-i in
    (c.requires.0.each l.i (omega arith), omega (arith, c.requires.1, l.invariant.room, l.invariant.same))

pub loop-i-preserved : goal.loop-i-preserved
loop-i-preserved c =
    let l = c.loop-i in
    let g = l.invariant in
    let w = c.put_line-end.ensures in
    let more = text-more c.args.service c.args.rules.now c.args.n c.requires.0.room l.i (omega arith) in
    record {
      same = length-kept w.text ∙ g.same;
      room = omega (arith, g.room, w.end);
      rest = λ b e r. g.rest b e (rw more (chain w.text r));
    }

pub returns : goal.returns
returns c =
    let a = c.args in
    let l = c.loop-i in
    let none = text-none a.service a.rules.now a.n c.requires.0.room l.i (omega arith) in
    l.invariant.rest l.out l.end (rw none (nothing l.out l.end))
