-- `Tree::count_lines` meets its contract. The invariant: node i is on the path from the last place below p, and n are its lines.
use Prim.Native.Nat.{ℕ, ◌+◌, ◌-◌, ◌*◌, ◌/◌, ◌%◌, ◌^◌, ◌≤◌, ◌<◌}
use mathlib.Core.List.{List}
use mathlib.Core.Path.{◌≡◌, ap, sym, ◌∙◌, subst}
use native.Mathlib.Omega.{arith}
use lib.Dec.{eqb}
use lib.ListN.{get_or}
use Rattle.numerals.proofs.Powers.{pow-few, shifted}
use Rattle.numerals.specs.Limits.{most_suffixes}
use Rattle.stages.specs.Inner.Nodes.{at, joined, node_count, Nodes}
use Rattle.stages.proofs.CutRow.{nodes-leaf}
use Rattle.stages.proofs.HeapNodes.{Up, up_start, up-end, up-inside, up-few, up-old, up-new, count-few}
use Rattle.stages.proofs.tree.Tree.count_lines.Goals as goal
use Rattle.stages.proofs.tree.Tree.count_lines.Goals.{In-loop-i, Start, then-i-eq0, else-i-eq0}

all-is : (s : Start) → (1 * 2 ^ s.args.self.k) % 2 ^ 64 ≡ 2 ^ s.args.self.k
all-is s = shifted s.args.self.k s.args.self.few_bits

few : (s : Start) → 2 ^ s.args.self.k ≤ most_suffixes
few s = pow-few s.args.self.k s.args.self.few_bits

-- both trees have so many places
new-filled : (s : Start) → Nodes s.args.self.k (at s.args.new.holder.now) 1 s.args.new.held.now s.args.new.lines.now
new-filled s =
    subst (λ (k : ℕ). Nodes k (at s.args.new.holder.now) 1 s.args.new.held.now s.args.new.lines.now) (sym s.requires.0) s.args.new.filled

-- the last place below p
last-is : (s : Start) → (1 * 2 ^ s.args.self.k) % 2 ^ 64 + s.args.p - 1 ≡ 2 ^ s.args.self.k + (s.args.p - 1)
last-is s = let some = s.requires.1.0 in omega (arith, all-is s)

pub overflow_shl-all : goal.overflow_shl-all
overflow_shl-all c = omega (arith, c.args.self.few_bits)

pub overflow_add-i : goal.overflow_add-i
overflow_add-i c = omega (arith, all-is (goal.at.overflow_add-i c).Start, few (goal.at.overflow_add-i c).Start, c.requires.1.1)

pub overflow_sub-i : goal.overflow_sub-i
overflow_sub-i c = omega (arith, c.requires.1.0)

pub offset_bounds-new-i : goal.offset_bounds-new-i
offset_bounds-new-i c = omega (arith, all-is (goal.at.offset_bounds-new-i c).Start, few (goal.at.offset_bounds-new-i c).Start, c.requires.1.1)

pub bounds-new-i : goal.bounds-new-i
bounds-new-i c =
    omega (
      arith,
      all-is (goal.at.bounds-new-i c).Start,
      few (goal.at.bounds-new-i c).Start,
      c.requires.1.1,
      c.requires.1.0,
    )

pub loop-i-init : goal.loop-i-init
loop-i-init c =
    let a = c.args in
    subst (λ (x : ℕ). Up a.self.k a.p (at a.self.holder.now) (at a.new.holder.now) x 1) (sym (last-is (goal.at.loop-i-init c).Start))
    (up_start a.self.k a.p (at a.self.holder.now) (at a.new.holder.now) c.requires.1.0 c.requires.1.1)

-- the node's number, and its neighbours'
module _ (t : In-loop-i) where
  abbrev k : ℕ
  k = t.args.self.k

  abbrev p : ℕ
  p = t.args.p

  abbrev i : ℕ
  i = t.loop-i.i

  abbrev n : ℕ
  n = t.loop-i.n

  abbrev old : ℕ → ℕ
  old = at t.args.self.holder.now

  abbrev new : ℕ → ℕ
  new = at t.args.new.holder.now

  below : (1 < i) × (i < 2 * 2 ^ k) × (2 * 2 ^ k ≤ node_count)
  below = (
    t.loop-i-test.true,
    (up-inside k p old new t.requires.1.0 t.requires.1.1 i n t.loop-i.invariant).1,
    omega
        (arith, few (goal.at.In-loop-i t).Start),
  )

  own-few : n ≤ most_suffixes
  own-few = up-few k p old new t.requires.1.0 t.requires.1.1 i n t.loop-i.invariant t.args.self.few_bits

  -- the next number of an even one is a node's too
  next : i % 2 ≡ 0 → i + 1 < 2 * 2 ^ k
  next e = let b = below.1 in omega arith

  backend-is : get_or t.args.new.held.now ((1 * 2 ^ k) % 2 ^ 64 + p - 1) 0 ≡ new (p - 1)
  backend-is =
      ap (λ (x : ℕ). get_or t.args.new.held.now x 0) (last-is (goal.at.In-loop-i t).Start)
      ∙ nodes-leaf k new t.args.new.held.now t.args.new.lines.now (new-filled (goal.at.In-loop-i t).Start) (p - 1) (omega (arith, t.requires.1))

pub overflow_add-i-then-i-eq0 : goal.overflow_add-i-then-i-eq0
overflow_add-i-then-i-eq0 c = let b = below (goal.at.overflow_add-i-then-i-eq0 c).In-loop-i in omega (arith, b.1, b.2)

pub offset_bounds-self-i : goal.offset_bounds-self-i
offset_bounds-self-i c = let b = below (goal.at.offset_bounds-self-i c).In-loop-i in omega (arith, b.1, b.2)

pub bounds-self-i : goal.bounds-self-i
bounds-self-i c =
    let b = below (goal.at.bounds-self-i c).In-loop-i in
    omega (arith, b.2, next (goal.at.bounds-self-i c).In-loop-i c.if-i-eq0.true)

pub overflow_add-i-then-i-eq0-2 : goal.overflow_add-i-then-i-eq0-2
overflow_add-i-then-i-eq0-2 c = let b = below (goal.at.overflow_add-i-then-i-eq0-2 c).In-loop-i in omega (arith, b.1, b.2)

pub offset_bounds-self-i-then-i-eq0 : goal.offset_bounds-self-i-then-i-eq0
offset_bounds-self-i-then-i-eq0 c = let b = below (goal.at.offset_bounds-self-i-then-i-eq0 c).In-loop-i in omega (arith, b.1, b.2)

pub bounds-self-i-then-i-eq0 : goal.bounds-self-i-then-i-eq0
bounds-self-i-then-i-eq0 c =
    let b = below (goal.at.bounds-self-i-then-i-eq0 c).In-loop-i in
    omega (arith, b.2, next (goal.at.bounds-self-i-then-i-eq0 c).In-loop-i c.if-i-eq0.true)

pub join-n-requires : goal.join-n-requires
join-n-requires c =
    let a = c.args in
    let inside = next (goal.at.join-n-requires c).In-loop-i c.if-i-eq0.true in
    omega (
      arith,
      own-few (goal.at.join-n-requires c).In-loop-i,
      count-few (k (goal.at.join-n-requires c).In-loop-i) (old (goal.at.join-n-requires c).In-loop-i) 1 (i (goal.at.join-n-requires c).In-loop-i + 1)
          a.self.held.now a.self.lines.now c.args.self.filled c.args.self.few_bits (omega arith) (omega arith) inside,
    )

pub overflow_sub-i-else-i-eq0 : goal.overflow_sub-i-else-i-eq0
overflow_sub-i-else-i-eq0 c = let b = below (goal.at.overflow_sub-i-else-i-eq0 c).In-loop-i in omega (arith, b.0)

pub offset_bounds-new-i-else-i-eq0 : goal.offset_bounds-new-i-else-i-eq0
offset_bounds-new-i-else-i-eq0 c = let b = below (goal.at.offset_bounds-new-i-else-i-eq0 c).In-loop-i in omega (arith, b.1, b.2)

pub bounds-new-i-else-i-eq0 : goal.bounds-new-i-else-i-eq0
bounds-new-i-else-i-eq0 c =
    let b = below (goal.at.bounds-new-i-else-i-eq0 c).In-loop-i in
    omega (arith, b.0, b.1, b.2)

pub overflow_sub-i-else-i-eq0-2 : goal.overflow_sub-i-else-i-eq0-2
overflow_sub-i-else-i-eq0-2 c = let b = below (goal.at.overflow_sub-i-else-i-eq0-2 c).In-loop-i in omega (arith, b.0)

pub offset_bounds-new-i-else-i-eq0-2 : goal.offset_bounds-new-i-else-i-eq0-2
offset_bounds-new-i-else-i-eq0-2 c = let b = below (goal.at.offset_bounds-new-i-else-i-eq0-2 c).In-loop-i in omega (arith, b.1, b.2)

pub bounds-new-i-else-i-eq0-2 : goal.bounds-new-i-else-i-eq0-2
bounds-new-i-else-i-eq0-2 c =
    let b = below (goal.at.bounds-new-i-else-i-eq0-2 c).In-loop-i in
    omega (arith, b.0, b.1, b.2)

pub join-n-requires-else-i-eq0 : goal.join-n-requires-else-i-eq0
join-n-requires-else-i-eq0 c =
    let a = c.args in
    let b = below (goal.at.join-n-requires-else-i-eq0 c).In-loop-i in
    let t = (goal.at.join-n-requires-else-i-eq0 c).In-loop-i in
    let N = new-filled (goal.at.join-n-requires-else-i-eq0 c).Start in
    let some : 1 ≤ i t - 1 = omega (arith, b.0) in
    let inside : i t - 1 < 2 * 2 ^ k t = omega (arith, b.1) in
    omega (arith, own-few t, count-few (k t) (new t) 1 (i t - 1) a.new.held.now a.new.lines.now N a.self.few_bits some some inside)

pub loop-i-smaller : goal.loop-i-smaller
loop-i-smaller c = let b = (below (goal.at.loop-i-smaller c).In-loop-i).0 in omega arith

pub loop-i-preserved : goal.loop-i-preserved
loop-i-preserved c =
    let a = c.args in
    let l = c.loop-i in
    let b = c.requires.1 in
    let f = at a.self.holder.now in
    let g = at a.new.holder.now in
    let N = new-filled (goal.at.loop-i-preserved c).Start in
    let to : (m j : ℕ) (lines held : List ℕ)
    → m ≡ joined l.n (get_or lines j 0) (eqb (get_or a.new.held.now ((1 * 2 ^ a.self.k) % 2 ^ 64 + a.p - 1) 0) (get_or held j 0))
    → Up a.self.k a.p f g (l.i / 2) (joined l.n (get_or lines j 0) (eqb (g (a.p - 1)) (get_or held j 0)))
    → Up a.self.k a.p f g (l.i / 2) m =
    λ m j lines held e U.
    subst (Up a.self.k a.p f g (l.i / 2))
    (sym (e ∙ ap (λ (x : ℕ). joined l.n (get_or lines j 0) (eqb x (get_or held j 0))) (backend-is (goal.at.loop-i-preserved c).In-loop-i))) U in
    elim c.if-i-eq0.branch [
      | then-i-eq0 w ↦ to c.if-i-eq0.n (l.i + 1) a.self.lines.now a.self.held.now (w.n-is ∙ w.join-n.ensures)
          (up-old a.self.k a.p f g b.0 b.1 l.i l.n l.invariant a.self.held.now a.self.lines.now a.self.filled c.loop-i-test.true w.if-i-eq0.true)
      | else-i-eq0 w ↦ to c.if-i-eq0.n (l.i - 1) a.new.lines.now a.new.held.now (w.n-is ∙ w.join-n-else-i-eq0.ensures)
          (up-new a.self.k a.p f g b.0 b.1 l.i l.n l.invariant a.new.held.now a.new.lines.now N c.loop-i-test.true w.if-i-eq0.false)
    ]

pub returns : goal.returns
returns c =
    let a = c.args in
    let l = c.loop-i in
    let b = c.requires.1 in
    up-end a.self.k a.p (at a.self.holder.now) (at a.new.holder.now) b.0 b.1 l.i l.n l.invariant c.loop-i-test.false
