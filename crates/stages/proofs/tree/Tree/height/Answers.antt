-- `Tree::height` meets its contract. The invariant: node i is the one of height n around the place, and one backend has it.
use Prim.Native.Nat.{ℕ, suc, ◌+◌, ◌-◌, ◌*◌, ◌/◌, ◌%◌, ◌^◌, ◌<◌}
use mathlib.Core.Bool.{true}
use mathlib.Core.Path.{◌≡◌, ap, sym, ◌∙◌, subst}
use native.Mathlib.Omega.{arith}
use lib.ListN.{get_or}
use Rattle.numerals.proofs.Powers.{pow-few, shifted}
use Rattle.stages.specs.Inner.Nodes.{at, uniform, lines_at, node_count}
use Rattle.stages.proofs.NodeLaws.{uniform-leaf, one-lines, path-lt}
use Rattle.stages.proofs.HeapNodes.{leaf-level, number_lt, path-up, top, not_top, path-node, not-one, height-end}
use Rattle.stages.proofs.tree.Tree.height.Goals as goal
use Rattle.stages.proofs.tree.Tree.height.Goals.{In-loop-i, Start}

all-is : (s : Start) → (1 * 2 ^ s.args.self.k) % 2 ^ 64 ≡ 2 ^ s.args.self.k
all-is s = shifted s.args.self.k s.args.self.few_bits

pub overflow_add-i : goal.overflow_add-i
overflow_add-i c = omega (arith, all-is c, pow-few c.args.self.k c.args.self.few_bits)

pub loop-i-init : goal.loop-i-init
loop-i-init c =
    let whole : c.args.p / 2 ^ 0 ≡ c.args.p = omega arith in (
      omega arith,
      omega (arith, all-is c, leaf-level c.args.self.k),
      uniform-leaf (at c.args.self.holder.now) (c.args.p / 2 ^ 0),
    )

-- the node above
above : (c : In-loop-i)
    → let a = c.args in
    let l = c.loop-i in
    (l.n < a.self.k) × (l.i / 2 ≡ 2 ^ (a.self.k - suc l.n) + a.p / 2 ^ suc l.n) × (l.i / 2 < node_count)
above c =
    let a = c.args in
    let l = c.loop-i in
    let less : l.n < a.self.k = not_top a.self.k l.n a.p l.i l.invariant.0 c.requires l.invariant.1 c.loop-i-test.true in (
      less,
      path-up a.self.k l.n a.p l.i less l.invariant.1,
      omega (
        arith,
        l.invariant.1,
        number_lt a.self.k l.n (a.p / 2 ^ l.n) (path-lt a.self.k l.n a.p l.invariant.0 c.requires),
        pow-few a.self.k a.self.few_bits,
      ),
    )

-- its lines
counted : (c : In-loop-i)
    → let a = c.args in
    let l = c.loop-i in
    get_or a.self.lines.now (l.i / 2) 0 ≡ lines_at (at a.self.holder.now) (suc l.n) (a.p / 2 ^ suc l.n)
counted c =
    let a = c.args in
    let l = c.loop-i in
    path-node a.self.k (at a.self.holder.now) a.self.held.now a.self.lines.now a.self.filled (suc l.n) a.p (l.i / 2) (above c).0 c.requires (above c).1

pub offset_bounds-self-i : goal.offset_bounds-self-i
offset_bounds-self-i c = omega (arith, (above c).2)

pub bounds-self-i : goal.bounds-self-i
bounds-self-i c = omega (arith, (above (goal.at.bounds-self-i c).In-loop-i).2)

pub overflow_add-n : goal.overflow_add-n
overflow_add-n c = omega (arith, (above (goal.at.overflow_add-n c).In-loop-i).0)

pub loop-i-preserved : goal.loop-i-preserved
loop-i-preserved c =
    let a = c.args in
    let n = c.loop-i.n in
    let g = at a.self.holder.now in
    let next : suc n ≡ n + 1 = omega arith in (
      omega (arith, (above (goal.at.loop-i-preserved c).In-loop-i).0),
      (above (goal.at.loop-i-preserved c).In-loop-i).1 ∙ ap (λ (m : ℕ). 2 ^ (a.self.k - m) + a.p / 2 ^ m) next,
      subst (λ (m : ℕ). uniform g m (a.p / 2 ^ m) ≡ true) next
          (one-lines g (suc n) (a.p / 2 ^ suc n) (sym (counted (goal.at.loop-i-preserved c).In-loop-i) ∙ c.if-self-i-eq1.true)),
    )

pub returns-else-self-i-eq1 : goal.returns-else-self-i-eq1
returns-else-self-i-eq1 c =
    let a = c.args in
    let g = at a.self.holder.now in
    let l = c.loop-i in
    record {
      few = l.invariant.0;
      height = height-end g a.self.k a.p l.n l.invariant.0 l.invariant.2 (λ less.
          not-one g (suc l.n) (a.p / 2 ^ suc l.n) (λ e. c.if-self-i-eq1.false (counted (goal.at.returns-else-self-i-eq1 c).In-loop-i ∙ e)));
    }

pub returns-after-loop-i : goal.returns-after-loop-i
returns-after-loop-i c =
    let a = c.args in
    let l = c.loop-i in
    let all : l.n ≡ a.self.k = top a.self.k l.n (a.p / 2 ^ l.n) l.i l.invariant.0 l.invariant.1 c.loop-i-test.false in
    record {
      few = l.invariant.0;
      height = height-end (at a.self.holder.now) a.self.k a.p l.n l.invariant.0 l.invariant.2 (λ less. absurd (omega arith));
    }
