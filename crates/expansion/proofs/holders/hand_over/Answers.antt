-- `holders::hand_over` meets its contract.
use Prim.Native.Nat.{ℕ, zero, suc, ◌+◌, ◌-◌, ◌*◌, ◌/◌, ◌%◌, ◌^◌, ◌≤◌, ◌<◌}
use mathlib.Core.Path.{◌≡◌, ap, ◌∙◌, subst}
use native.Mathlib.Nat.{suc-mul, mul-le-mul_right, pow-succ'}
use native.Mathlib.Omega.{arith}
use lib.ListN.{get_or}
use lib.Pow.{pow_pos}
use Rattle.numerals.specs.Limits.{most_suffixes}
use Rattle.numerals.specs.Suffix.{place}
use Rattle.expansion.specs.Inner.Holders.{Given, lowered, node_of, lowest_held}
use Rattle.numerals.proofs.Powers.{pow-few, shifted}
use Rattle.expansion.proofs.Count.{pow-split}
use Rattle.expansion.proofs.holders.hand_over.Goals as goal
use Rattle.expansion.proofs.holders.hand_over.Goals.{After-lowest_whole-node, Start}

-- the code's powers
nodes-is : (s : Start) → (1 * 2 ^ (s.args.k - s.args.m.index)) % 2 ^ 64 ≡ 2 ^ (s.args.k - s.args.m.index)
nodes-is s = shifted (s.args.k - s.args.m.index) (omega arith)

size_is : (s : Start) → (1 * 2 ^ s.args.m.index) % 2 ^ 64 ≡ 2 ^ s.args.m.index
size_is s = shifted s.args.m.index (omega arith)

-- all places are those of the nodes
all-is : (s : Start) → 2 ^ (s.args.k - s.args.m.index) * 2 ^ s.args.m.index ≤ most_suffixes
all-is s = omega (arith, pow-split s.args.m.index s.args.k s.requires.k_le_most_bits.1.0, pow-few s.args.k s.requires.k_le_most_bits.0)

-- a node of more than two suffixes has a multiple of four
fours : (i : ℕ) → 2 < 2 ^ i → 2 ^ i % 4 ≡ 0
fours zero l = absurd (omega arith)
fours (suc zero) l = absurd (omega arith)
fours (suc (suc i)) l = omega (arith, pow-succ' 2 (suc i), pow-succ' 2 i)

-- the walk starts at a node, since it finds one
from-le : (s : Start) → get_or s.args.low.now s.args.m.giver 0 / 2 ^ s.args.m.index ≤ 2 ^ (s.args.k - s.args.m.index)
unfolding node_of lowest_held
from-le s = let found = s.requires.low_bound in omega arith

pub lowest_whole-node-requires : goal.lowest_whole-node-requires
lowest_whole-node-requires c =
    rw (nodes-is (goal.at.lowest_whole-node-requires c).Start) (rw (size_is (goal.at.lowest_whole-node-requires c).Start)
    (record {
      size_nonzero = (pow_pos c.args.m.index, omega (arith, all-is (goal.at.lowest_whole-node-requires c).Start));
      size_value = fours c.args.m.index;
      from_le_nodes = from-le (goal.at.lowest_whole-node-requires c).Start;
    }))

abbrev node : After-lowest_whole-node → ℕ
node c = let a = c.args in node_of a.k a.m a.holder.now a.low.now

found : (c : After-lowest_whole-node) → c.lowest_whole-node.result ≡ node c
unfolding node_of
found c = simp (nodes-is (goal.at.After-lowest_whole-node c).Start, size_is (goal.at.After-lowest_whole-node c).Start) at c.lowest_whole-node.ensures

inside : (c : After-lowest_whole-node) → let i = c.args.m.index in c.lowest_whole-node.result * 2 ^ i + 2 ^ i ≤ most_suffixes
inside c =
    let i = c.args.m.index in
    let below : c.lowest_whole-node.result < 2 ^ (c.args.k - i) = omega (arith, found c, c.requires.low_bound) in
    omega (arith, mul-le-mul_right (2 ^ i) below, suc-mul c.lowest_whole-node.result (2 ^ i), all-is (goal.at.After-lowest_whole-node c).Start)

pub overflow_mul-at : goal.overflow_mul-at
overflow_mul-at c = rw (size_is (goal.at.overflow_mul-at c).Start) (omega (arith, inside c))

pub give-requires : goal.give-requires
give-requires c =
    rw (size_is (goal.at.give-requires c).Start) (omega (arith, inside (goal.at.give-requires c).After-lowest_whole-node))

pub overflow_add-at : goal.overflow_add-at
overflow_add-at c =
    rw (size_is (goal.at.overflow_add-at c).Start) (omega (arith, inside (goal.at.overflow_add-at c).After-lowest_whole-node))

pub note_lows-requires : goal.note_lows-requires
note_lows-requires c =
    rw (size_is (goal.at.note_lows-requires c).Start) (
      omega arith,
      (
        omega arith,
        (
          omega
              (arith, inside (goal.at.note_lows-requires c).After-lowest_whole-node),
          omega (
            arith,
            inside
                (goal.at.note_lows-requires c).After-lowest_whole-node,
          ),
        ),
      ),
    )

pub suffix-value-requires : goal.suffix-value-requires
suffix-value-requires c = (omega arith, omega (arith, found (goal.at.suffix-value-requires c).After-lowest_whole-node, c.requires.low_bound))

pub returns : goal.returns
returns c =
    let a = c.args in
    let i = a.m.index in
    record {
      given =
          subst (λ (x : ℕ). Given (x * 2 ^ i) (2 ^ i) a.m.receiver a.holder.now c.give.new.holder) (found (goal.at.returns c).After-lowest_whole-node)
          (simp (size_is (goal.at.returns c).Start) at c.give.ensures);
      lows =
          subst (λ (x : ℕ). c.note_lows.new.low ≡ lowered a.low.now a.m.giver a.m.receiver (x * 2 ^ i) (x * 2 ^ i + 2 ^ i))
          (found (goal.at.returns c).After-lowest_whole-node)
          (simp (size_is (goal.at.returns c).Start) at c.note_lows.ensures);
      is = c.suffix-value.ensures ∙ ap (place (a.k - i)) (found (goal.at.returns c).After-lowest_whole-node);
    }
