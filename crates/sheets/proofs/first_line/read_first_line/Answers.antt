-- `first_line::read_first_line` meets its contract: the length of the text, the LF that was found, and the fields before it.
use Prim.Native.Nat.{◌+◌}
use mathlib.Core.Path.{refl}
use Rattle.std.proofs.lemmas.List.{take_rest}
use Rattle.numerals.specs.Limits.{text_limit}
use Rattle.sheets.proofs.OpeningLine.{too_long, no_end, ended}
use Rattle.sheets.proofs.first_line.read_first_line.Goals as goal

pub returns-then-text-gt-TEXT_LIMIT : goal.returns-then-text-gt-TEXT_LIMIT
unfolding text_limit
returns-then-text-gt-TEXT_LIMIT c =
    rw c.refused_at.ensures (too_long _ _ _ c.args.text.now c.if-text-gt-TEXT_LIMIT.true, refl)

pub returns-then-text-end : goal.returns-then-text-end
unfolding text_limit
returns-then-text-end c =
    rw c.refused_at-then-text-end.ensures
    (no_end _ _ _ c.args.text.now c.if-text-gt-TEXT_LIMIT.false _ c.find-end.ensures c.if-text-end.true, refl)

pub returns : goal.returns
unfolding text_limit
returns c =
    rw (ended _ _ _ c.args.text.now c.if-text-gt-TEXT_LIMIT.false _ c.find-end.ensures c.if-text-end.false)
    (rw (take_rest c.args.text.now (c.find-end.result + 1)) at c.read_fields.ensures)
