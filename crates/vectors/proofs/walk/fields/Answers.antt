use mathlib.Core.Path.{sym, ap, ◌∙◌}
use lib.ListN.{length}
use lib.Seq.{take-length}
use Rattle.numerals.specs.Text.{split}
use Rattle.std.proofs.Common.{rules}
use Rattle.vectors.proofs.Numbers.{fields-none, fields-some}
use Rattle.vectors.proofs.walk.fields.Goals as goal

pub returns-then-is_empty : goal.returns-then-is_empty
returns-then-is_empty c = sym (fields-none c.args.s.now (search rules))

pub returns-else-is_empty : goal.returns-else-is_empty
returns-else-is_empty c =
    let s = c.args.s.now in
    c.count_fields.ensures ∙ ap length (ap (split 32) (take-length s) ∙ sym (fields-some s (λ h. search rules)))
