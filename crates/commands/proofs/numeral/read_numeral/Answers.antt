-- `numeral::read_numeral` meets its contract: a numeral that isn't read within the limit is above it.
use Rattle.std.specs.Prelude.{Some, unwrap_or}
use Prim.Native.Nat.{◌+◌}
use mathlib.Core.Path.{sym, ap, ◌∙◌}
use lib.Seq.{take-length}
use Rattle.numerals.specs.Decimal.{number}
use Rattle.commands.proofs.Numerals.{not-capped, read-capped}
use Rattle.commands.proofs.numeral.read_numeral.Goals as goal

pub returns-then-not-is_numeral : goal.returns-then-not-is_numeral
returns-then-not-is_numeral c = sym (not-capped _ _ (sym c.is_numeral.ensures ∙ c.if-not-is_numeral.true))

pub returns : goal.returns
returns c =
    let a = c.args in
    ap Some (c.unwrap_or.ensures ∙ ap (λ r. unwrap_or r (a.most + 1)) (c.read_number.ensures ∙ ap (number 0 a.most) (take-length a.s.now)))
    ∙ read-capped _ _ (sym c.is_numeral.ensures ∙ c.if-not-is_numeral.false)
