-- `staging::put_places` meets its contract: once the lines left are written too, all are.
use Prim.Native.Nat.{◌≤◌, ◌<◌}
use mathlib.Core.Path.{◌∙◌}
use native.Mathlib.Omega.{arith}
use lib.ListN.{take, get_or}
use lib.Seq.{get_or-take, length-take-le}
use Rattle.numerals.specs.Limits.{most_suffixes}
use Rattle.sheets.proofs.Writes.{chain, nothing, same_length as length-kept}
use Rattle.commands.proofs.StageRows.{lines_more, lines_none, place-soon}
use Rattle.commands.proofs.staging.put_places.Goals as goal

pub loop-place-preserved : goal.loop-place-preserved
loop-place-preserved c =
    let l = c.loop-place in
    let i = l.place-index in
    let g = l.invariant in
    let places = take c.args.n c.args.places.now in
    let w = c.put_number-end.ensures.text in
    let here : i < c.args.n = omega (arith, length-take-le c.args.n c.args.places.now c.requires.0.room) in
    let small : get_or places i 0 ≤ most_suffixes = rw (get_or-take c.args.n c.args.places.now i 0 here) (c.requires.0.each i here) in
    let more = lines_more places i (omega arith) in
    record {
      same = length-kept w ∙ g.same;
      room = omega (arith, g.room, place-soon w small);
      rest = λ b e r. g.rest b e (rw more (chain w r));
    }

pub returns : goal.returns
returns c =
    let l = c.loop-place in
    let none = lines_none (take c.args.n c.args.places.now) l.place-index (omega arith) in
    l.invariant.rest l.out l.end (rw none (nothing l.out l.end))
