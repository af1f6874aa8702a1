-- `grants::Priced::grant_all` meets its contract. The loop's invariant: the grants are those of some turn of the run, `rules` is their sum, and the
-- tournament has the services with their savings.
-- Assumes nothing.
use Prim.Native.Nat.{ℕ, ◌-◌, ◌%◌, ◌^◌, ◌<◌}
use mathlib.Core.List.{List}
use mathlib.Core.Path.{◌≡◌, ◌∙◌}
use native.Mathlib.Omega.{arith}
use lib.ListN.{length, get_or, take, length-set}
use Rattle.std.proofs.Common.{rules}
use Rattle.std.specs.List.{sum}
use Rattle.numerals.specs.Sums.{sum_to}
use Rattle.packing.specs.Inner.Stored.{held, Allotted}
use Rattle.packing.specs.Grants.{Grants}
use Rattle.packing.specs.Inner.Tournament.{leaves}
use Rattle.packing.proofs.Stores.{sum-held}
use Rattle.packing.proofs.Granting.{falls-more, turn-first, turn-full, turn-greatest, found-known, found-low, turn_last, turn_more}
use Rattle.packing.proofs.grants.Priced.grant_all.Goals as goal
use Rattle.packing.proofs.grants.Priced.grant_all.Goals.{After-sum-granted, Else-tree}

pub enter_all-tree-requires : goal.enter_all-tree-requires
enter_all-tree-requires c =
    c.requires.started

-- the sum of the grants, as the loop counts on from it
pub sum-granted-requires : goal.sum-granted-requires
sum-granted-requires c =
    let n = length c.args.self.now.volumes.now in
    let small : sum (take n c.args.grants.now) < 2 ^ 64 =
    omega (arith, sum-held n c.args.grants.now (omega (arith, c.args.self.now.payable.few)), c.requires.room) in
    search rules

granted :
    (c : After-sum-granted)
    → c.sum-granted.result ≡ sum_to (length c.args.self.now.volumes.now) (held c.args.grants.now)
granted c =
    let n = length c.args.self.now.volumes.now in
    let e : c.sum-granted.result ≡ sum (take n c.args.grants.now) = search rules in
    e ∙ sum-held n c.args.grants.now (omega (arith, c.args.self.now.payable.few))

pub loop-rules-init : goal.loop-rules-init
loop-rules-init c =
    let sum = granted (goal.at.loop-rules-init c).After-sum-granted in (
      omega (arith, sum, c.requires.room),
      omega arith,
      turn-first c.args.capacity c.args.self.now.volumes.now c.args.self.now.stairs.now c.args.self.now.counts.now c.args.grants.now
          c.enter_all-tree.result.nodes c.sum-granted.result c.args.self.now.payable c.requires.started c.requires.room.0 sum
          c.enter_all-tree.ensures,
    )

pub returns-then-tree : goal.returns-then-tree
returns-then-tree c =
    let t = c.loop-rules.invariant.2 in
    turn_last t (turn-greatest t c.loop-rules.tree.tournament) (omega arith)

-- the service that the root names
named :
    (c : Else-tree)
    → (leaves - 1 - get_or c.loop-rules.tree.nodes 1 0 % leaves
    < length c.args.self.now.volumes.now)
    × (leaves - 1 - get_or c.loop-rules.tree.nodes 1 0 % leaves < length c.loop-rules.grants)
named c =
    let t = c.loop-rules.invariant.2 in
    let l = found-known t (turn-greatest t c.loop-rules.tree.tournament) in (l, omega (arith, l, t.payable.few, c.loop-rules.invariant.1))

pub overflow_add-grants : goal.overflow_add-grants
overflow_add-grants c =
    let t = c.loop-rules.invariant.2 in
    omega (arith, found-low t (turn-greatest t c.loop-rules.tree.tournament) (omega arith))

pub enter-requires : goal.enter-requires
enter-requires c =
    let l = c.loop-rules in
    let n = named (goal.at.enter-requires c).Else-tree in
    (n.0, falls-more _ _ _ l.grants _ n.1 (l.invariant.2.started.each _ n.0))

pub loop-rules-preserved : goal.loop-rules-preserved
loop-rules-preserved c =
    let l = c.loop-rules in
    let t = l.invariant.2 in (
      omega arith,
      simp length-set l.invariant.1,
      turn_more t (turn-greatest t l.tree.tournament) (omega arith) (omega arith) (named (goal.at.loop-rules-preserved c).Else-tree).1 _ c.enter.ensures,
    )

-- the same sum in other words
summed : (least : Grants) (capacity : ℕ) (v s n g : List ℕ) (r r' : ℕ) → Allotted least capacity v s n g r → r ≡ r' → Allotted least capacity v s n g r'
summed least capacity v s n g r r' a e = rw (← e) a

pub returns : goal.returns
returns c = summed _ _ _ _ _ _ _ _ (turn-full c.loop-rules.invariant.2 (omega arith)) (omega arith)
