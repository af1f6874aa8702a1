-- `nodes::fill` meets its contract: a leaf has its place's backend, a node above them its halves'.
use Prim.Native.Nat.{ℕ, ◌+◌, ◌-◌, ◌*◌, ◌%◌, ◌^◌, ◌≤◌, ◌<◌}
use mathlib.Core.Path.{◌≡◌, sym, subst}
use native.Mathlib.Omega.{arith}
use lib.ListN.{get_or, set}
use Rattle.numerals.proofs.Powers.{pow-few, shifted}
use Rattle.numerals.specs.Limits.{most_suffixes}
use Rattle.stages.specs.Inner.Nodes.{at, Nodes, node_count}
use Rattle.stages.proofs.HeapNodes.{nodes-none, nodes-leaf, nodes-join, count-few}
use Rattle.stages.proofs.nodes.fill.Goals as goal
use Rattle.stages.proofs.nodes.fill.Goals.{Else-all-i, In-loop-i, Start}

all-is : (s : Start) → (1 * 2 ^ s.args.k) % 2 ^ 64 ≡ 2 ^ s.args.k
all-is s = shifted s.args.k s.requires

few : (s : Start) → 2 ^ s.args.k ≤ most_suffixes
few s = pow-few s.args.k s.requires

pub loop-i-init : goal.loop-i-init
loop-i-init c =
    let a = c.args in
    nodes-none a.k (at a.holder.now) _ a.held.now a.lines.now (omega (arith, all-is (goal.at.loop-i-init c).Start)) c.told-held
    c.told-lines

-- the number that the loop has come to
inside : (t : In-loop-i) → t.loop-i.i - 1 < node_count
inside t = omega (arith, all-is (goal.at.In-loop-i t).Start, few (goal.at.In-loop-i t).Start)

pub bounds-holder-i : goal.bounds-holder-i
bounds-holder-i c =
    let s = (goal.at.bounds-holder-i c).Start in
    omega (arith, all-is s, few s, c.if-all-i.true)

pub bounds-held-i : goal.bounds-held-i
bounds-held-i c = omega (arith, inside (goal.at.bounds-held-i c).In-loop-i, c.loop-i.invariant.held_long)

pub bounds-lines-i : goal.bounds-lines-i
bounds-lines-i c = omega (arith, inside (goal.at.bounds-lines-i c).In-loop-i, c.loop-i.invariant.lines_long)

pub loop-i-preserved-then-all-i : goal.loop-i-preserved-then-all-i
loop-i-preserved-then-all-i c =
    let l = c.loop-i in
    let a = c.args in
    let g = at a.holder.now in
    let e = all-is (goal.at.loop-i-preserved-then-all-i c).Start in
    subst (λ (x : ℕ). Nodes a.k g (l.i - 1) (set l.held (l.i - 1) (get_or a.holder.now (l.i - 1 - x) 0)) (set l.lines (l.i - 1) 1)) (sym e)
    (nodes-leaf a.k g l.i (l.i - 1) l.held l.lines (inside (goal.at.loop-i-preserved-then-all-i c).In-loop-i) (omega arith) l.invariant
    (omega (arith, e, c.if-all-i.true)))

-- the halves of a node
low : (c : Else-all-i) → (c.loop-i.i - 1 < 2 ^ c.args.k) × (2 * (c.loop-i.i - 1) + 1 < node_count)
low c =
    let s = (goal.at.Else-all-i c).Start in
    (omega (arith, all-is s, c.if-all-i.false), omega (arith, all-is s, c.if-all-i.false, few s))

pub bounds-held-i-else-all-i : goal.bounds-held-i-else-all-i
bounds-held-i-else-all-i c = omega (arith, (low (goal.at.bounds-held-i-else-all-i c).Else-all-i).1, c.loop-i.invariant.held_long)

pub bounds-held-i-else-all-i-2 : goal.bounds-held-i-else-all-i-2
bounds-held-i-else-all-i-2 c = omega (arith, (low (goal.at.bounds-held-i-else-all-i-2 c).Else-all-i).1, c.loop-i.invariant.held_long)

pub bounds-lines-i-else-all-i : goal.bounds-lines-i-else-all-i
bounds-lines-i-else-all-i c = omega (arith, (low (goal.at.bounds-lines-i-else-all-i c).Else-all-i).1, c.loop-i.invariant.lines_long)

pub bounds-lines-i-else-all-i-2 : goal.bounds-lines-i-else-all-i-2
bounds-lines-i-else-all-i-2 c = omega (arith, (low (goal.at.bounds-lines-i-else-all-i-2 c).Else-all-i).1, c.loop-i.invariant.lines_long)

-- the lines of the halves are few
half-few : (c : Else-all-i) (j : ℕ) → 2 * (c.loop-i.i - 1) ≤ j → j ≤ 2 * (c.loop-i.i - 1) + 1 → get_or c.loop-i.lines j 0 ≤ most_suffixes
half-few c j h m =
    let l = c.loop-i in
    let inner = (low c).0 in
    count-few c.args.k (at c.args.holder.now) l.i j l.held l.lines l.invariant c.requires (omega arith) (omega arith) (omega arith)

pub join-n-requires : goal.join-n-requires
join-n-requires c =
    let e = (goal.at.join-n-requires c).Else-all-i in
    omega (arith, half-few e (2 * (c.loop-i.i - 1)) (omega arith) (omega arith), half-few e (2 * (c.loop-i.i - 1) + 1) (omega arith) (omega arith))

pub bounds-held-i-else-all-i-3 : goal.bounds-held-i-else-all-i-3
bounds-held-i-else-all-i-3 c = omega (arith, inside (goal.at.bounds-held-i-else-all-i-3 c).In-loop-i, c.loop-i.invariant.held_long)

pub bounds-lines-i-else-all-i-3 : goal.bounds-lines-i-else-all-i-3
bounds-lines-i-else-all-i-3 c = omega (arith, inside (goal.at.bounds-lines-i-else-all-i-3 c).In-loop-i, c.loop-i.invariant.lines_long)

pub loop-i-preserved : goal.loop-i-preserved
loop-i-preserved c =
    let l = c.loop-i in
    let a = c.args in
    subst (λ (x : ℕ). Nodes a.k (at a.holder.now) (l.i - 1) (set l.held (l.i - 1) (get_or l.held (2 * (l.i - 1)) 0)) (set l.lines (l.i - 1) x))
    (sym c.join-n.ensures)
    (nodes-join a.k (at a.holder.now) l.i (l.i - 1) l.held l.lines (inside (goal.at.loop-i-preserved c).In-loop-i) (omega arith) (omega arith) l.invariant
    (low (goal.at.loop-i-preserved c).Else-all-i).0)
