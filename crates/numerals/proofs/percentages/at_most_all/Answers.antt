-- `percentages::at_most_all` meets its contract.
-- Assumes nothing.
use Prim.Native.Nat.{◌*◌, ◌^◌}
use native.Mathlib.Omega.{arith}
use borrow.Author.Tests.{le-leb, lt-leb}
use Rattle.numerals.specs.Limits.{decimals}
use Rattle.numerals.specs.Percentage.{at_most_all}
use Rattle.numerals.proofs.percentages.at_most_all.Goals as goal

pub returns-then-v-le-UNIT : goal.returns-then-v-le-UNIT
unfolding at_most_all
returns-then-v-le-UNIT c = rw (le-leb c.args.v (100 * 10 ^ decimals) (omega arith))

pub returns-else-v-le-UNIT : goal.returns-else-v-le-UNIT
unfolding at_most_all
returns-else-v-le-UNIT c = rw (lt-leb c.args.v (100 * 10 ^ decimals) (omega arith))
