-- `writing::put_number` meets its contract: a number of 64 bits has at most 20 digits, so it is written, and the separator behind it.
use Prim.Native.Nat.{◌+◌, ◌<◌}
use native.Mathlib.Omega.{arith}
use lib.ListN.{length}
use Rattle.numerals.specs.Decimal.{decimal}
use Rattle.sheets.specs.Inner.Writing.{Wrote, Before, end_at}
use Rattle.sheets.proofs.Writes.{chain, byte, text, before-end}
use Rattle.commands.proofs.Texts.{digits-most, ends-soon, written}
use Rattle.commands.proofs.writing.put_number.Goals as goal
use Rattle.commands.proofs.writing.put_number.Goals.{After-write_number}

-- the digits and the separator fit
room : (c : After-write_number) → let a = c.args in a.at + length (decimal a.n) < length a.out.now
room c =
    omega (arith, c.requires, digits-most c.args.n (omega (arith, c.ranges.n)))

ends : (c : After-write_number) → Before c.write_number.result (length c.write_number.new.out)
ends c =
    let w = c.write_number in
    before-end _ _ _ (room c) _ _ w.ensures.answer w.ensures.buffer

wrote :
    (c : After-write_number)
    → let a = c.args in
    Wrote a.out.now c.write_number.new.out a.at (end_at c.write_number.result) (decimal a.n)
wrote c =
    let w = c.write_number in
    text _ _ _ (room c) _ _ w.ensures.answer w.ensures.buffer

pub unwrap-end-requires : goal.unwrap-end-requires
unwrap-end-requires c = written _ _ (ends (goal.at.unwrap-end-requires c).After-write_number)

pub bounds-out-end : goal.bounds-out-end
bounds-out-end c = rw c.unwrap-end.ensures at (ends (goal.at.bounds-out-end c).After-write_number)

pub overflow_add-result : goal.overflow_add-result
overflow_add-result c = omega (arith, bounds-out-end c)

pub returns : goal.returns
returns c =
    let w = chain (rw c.unwrap-end.ensures at (wrote (goal.at.returns c).After-write_number)) (byte _ _ _) in
    record {
      text = w;
      end = ends-soon _ _ _ _ c.args.n _ w (omega (arith, c.ranges.n));
    }
