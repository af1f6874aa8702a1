-- `numbers::write_number` meets its contract: the text is as long as `decimal_width` says, and the digits are what `write_digits` writes.
-- Assumes nothing.
use Rattle.std.specs.Prelude.{Ok}
use Prim.Native.Nat.{◌+◌}
use native.Mathlib.Omega.{arith}
use mathlib.Core.Path.{◌≡◌, sym, ap, ◌∙◌}
use lib.ListN.{length}
use lib.Seq.{sets}
use Rattle.numerals.specs.Digits.{lowest}
use Rattle.numerals.specs.Decimal.{decimal}
use Rattle.numerals.proofs.Decimal.{length-decimal}
use Rattle.numerals.proofs.Writing.{written, short}
use Rattle.numerals.proofs.numbers.write_number.Goals as goal
use Rattle.numerals.proofs.numbers.write_number.Goals.{After-decimal_width-w}

-- the text's length
long : (c : After-decimal_width-w) → length (decimal c.args.n) ≡ c.decimal_width-w.result
long c = length-decimal _ ∙ sym c.decimal_width-w.ensures

pub returns-then-out-at : goal.returns-then-out-at
returns-then-out-at c =
    record {
      answer = (short _ _ _ (omega (arith, long (goal.at.returns-then-out-at c).After-decimal_width-w))).0;
      buffer = (short _ _ _ (omega (arith, long (goal.at.returns-then-out-at c).After-decimal_width-w))).1;
    }

pub returns-then-out-at-2 : goal.returns-then-out-at-2
returns-then-out-at-2 c =
    record {
      answer = (short _ _ _ (omega (arith, long (goal.at.returns-then-out-at-2 c).After-decimal_width-w))).0;
      buffer = (short _ _ _ (omega (arith, long (goal.at.returns-then-out-at-2 c).After-decimal_width-w))).1;
    }

pub write_digits-requires : goal.write_digits-requires
write_digits-requires c = (omega arith, (omega arith, omega arith))

pub returns : goal.returns
unfolding decimal
returns c =
    let a = c.args in
    let w = written a.out.now a.at (decimal a.n) (omega (arith, long (goal.at.returns c).After-decimal_width-w)) in
    record {
      answer = ap (λ l. Ok (a.at + l)) (sym (long (goal.at.returns c).After-decimal_width-w)) ∙ w.0;
      buffer = c.write_digits.ensures ∙ ap (λ l. sets a.out.now a.at (lowest 10 l a.n)) c.decimal_width-w.ensures ∙ w.1;
    }
