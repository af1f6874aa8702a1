-- `laying::first_place` meets its contract.
use Prim.Native.Nat.{◌-◌, ◌*◌, ◌%◌, ◌^◌, ◌≤◌}
use mathlib.Core.Path.{◌≡◌}
use native.Mathlib.Omega.{arith}
use lib.Pow.{pow_pos}
use Rattle.numerals.proofs.Place.{place-lt}
use Rattle.numerals.proofs.Powers.{pow-few, shifted}
use Rattle.expansion.proofs.FirstMatch.{rule-short, rule-bits}
use Rattle.expansion.proofs.Nodes.{inside-node}
use Rattle.expansion.proofs.laying.first_place.Goals as goal
use Rattle.expansion.proofs.laying.first_place.Goals.{Start}

short : (s : Start) → s.args.rule.len ≤ s.args.service.now.k
short s = rule-short s.args.service.now.k s.args.rule s.requires

size_is : (s : Start) → (1 * 2 ^ (s.args.service.now.k - s.args.rule.len)) % 2 ^ 64 ≡ 2 ^ (s.args.service.now.k - s.args.rule.len)
size_is s = shifted (s.args.service.now.k - s.args.rule.len) (omega (arith, s.args.service.now.valid.few_bits))

pub overflow_sub-size : goal.overflow_sub-size
overflow_sub-size c = short (goal.at.overflow_sub-size c).Start

pub suffix-requires : goal.suffix-requires
suffix-requires c =
    (omega (arith, short (goal.at.suffix-requires c).Start, c.args.service.now.valid.few_bits), rule-bits c.args.service.now.k c.args.rule c.requires)

pub overflow_mul-result : goal.overflow_mul-result
overflow_mul-result c =
    let r = c.args.rule in
    rw (size_is (goal.at.overflow_mul-result c).Start)
    (omega (
      arith,
      inside-node c.args.service.now.k r.len c.suffix.result 0
          (short (goal.at.overflow_mul-result c).Start) (omega (arith, c.suffix.ensures, place-lt r.len r.value))
          (pow_pos (c.args.service.now.k - r.len)),
      pow-few c.args.service.now.k c.args.service.now.valid.few_bits,
    ))

pub returns : goal.returns
returns c = rw (size_is (goal.at.returns c).Start, c.suffix.ensures)
