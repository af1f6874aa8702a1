-- `suffixes::is_suffix` meets its contract: one test after the other.
use Prim.Native.Nat.{◌≤◌}
use borrow.Author.Tests.{le-leb, lt-leb}
use Rattle.numerals.specs.Suffix.{is_suffix}
use Rattle.numerals.specs.Limits.{most_bits}
use Rattle.numerals.proofs.Powers.{shifted}
use Rattle.numerals.proofs.suffixes.is_suffix.Goals as goal

pub returns-then-len-gt-MOST_BITS : goal.returns-then-len-gt-MOST_BITS
unfolding is_suffix
returns-then-len-gt-MOST_BITS c = simp (lt-leb _ _ c.if-len-gt-MOST_BITS.true)

pub returns : goal.returns
unfolding is_suffix
returns c =
    let a = c.args in
    let h : a.len ≤ most_bits = c.if-len-gt-MOST_BITS.false in
    rw (shifted a.len h, le-leb a.len most_bits h)
