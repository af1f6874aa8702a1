-- `laying::cap_from` meets its contract: suffixes of no more than one bit leave half the tree.
use native.Mathlib.Omega.{arith}
use Rattle.expansion.specs.Resume.{cap_from}
use Rattle.expansion.proofs.laying.cap_from.Goals as goal

pub returns-then-longest-eq0 : goal.returns-then-longest-eq0
unfolding cap_from
returns-then-longest-eq0 c = omega (arith, c.longest_of-longest.ensures, c.args.service.now.valid.some_bits)

pub overflow_sub-result-2 : goal.overflow_sub-result-2
overflow_sub-result-2 c = omega (arith, c.longest_of-longest.ensures, c.requires)

pub returns : goal.returns
unfolding cap_from
returns c = omega (arith, c.longest_of-longest.ensures, c.args.service.now.valid.some_bits)
