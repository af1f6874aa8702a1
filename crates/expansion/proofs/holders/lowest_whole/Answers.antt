-- `holders::lowest_whole` meets its contract. The outer loop's invariant: no node passed is the giver's. The inner one's: the giver holds the node's
-- suffixes behind the first i fours.
use Rattle.std.proofs.Common.{◌≡◌, ◌≢◌, ◌+◌, ◌-◌, ◌*◌, ◌≤◌, ◌<◌, ℕ, List, false, get_or, ap, ◌∙◌, arith, below_more}
use native.Mathlib.Decide.{ℕ_discrete}
use Rattle.expansion.specs.Inner.Holders.{held_by}
use Rattle.expansion.proofs.Holdings.{held-not, held_all, lowest-is}
use Rattle.expansion.proofs.holders.lowest_whole.Goals as goal
use Rattle.expansion.proofs.holders.lowest_whole.Goals.{then-holder-at-via-then-holder-at, then-holder-at-via-else-holder-at+then-holder-at-2}
use Rattle.expansion.proofs.holders.lowest_whole.Goals.{then-holder-four-via-then-holder-four, then-holder-four-via-else-holder-four+then-holder-four-2}
use Rattle.expansion.proofs.holders.lowest_whole.Goals.{then-holder-four-via-else-holder-four+else-holder-four-2+then-holder-four-3}
use Rattle.expansion.proofs.holders.lowest_whole.Goals.{then-holder-four-via-else-holder-four+else-holder-four-2+else-holder-four-3+then-holder-four-4}

-- a suffix of another's: its node is passed too
passed :
    (holder : List ℕ) (size giver from node place i : ℕ) → i < size → place ≡ node * size + i → get_or holder place 0 ≢ giver
    → ((j : ℕ) → j < node → from ≤ j → held_by holder size giver j ≡ false)
    → (j : ℕ) → j < node + 1 → from ≤ j → held_by holder size giver j ≡ false
passed holder size giver from node place i inside is d before =
    below_more (λ j. from ≤ j → held_by holder size giver j ≡ false) node before
    (λ l. held-not holder size giver node i inside (λ e. d (ap (λ (x : ℕ). get_or holder x 0) is ∙ e)))

pub nodes-preserved-then-holder-at : goal.nodes-preserved-then-holder-at
nodes-preserved-then-holder-at c =
    let a = c.args in
    let o = c.nodes in
    elim c.then-holder-at.branch [
      | then-holder-at-via-then-holder-at w ↦ (
        o.invariant.0,
        passed a.holder.now a.size a.giver a.from o.node _ (a.size - 1) (omega arith) (omega arith) w.if-holder-at.true o.invariant.1,
      )
      | then-holder-at-via-else-holder-at+then-holder-at-2 w ↦ (
        o.invariant.0,
        passed a.holder.now a.size a.giver a.from o.node _ 0 (omega arith) (omega arith) w.if-holder-at-2.true o.invariant.1,
      )
    ]

pub nodes-preserved : goal.nodes-preserved
nodes-preserved c =
    let a = c.args in
    let o = c.nodes in
    let four = o.node * a.size + (c.loop-left.left - 4) in
    let next : (place n : ℕ) → n < 4 → place ≡ four + n → get_or a.holder.now place 0 ≢ a.giver → (j : ℕ) → j < o.node + 1 → a.from ≤ j
    → held_by a.holder.now a.size a.giver j ≡ false =
    λ place n m is d. passed a.holder.now a.size a.giver a.from o.node place (c.loop-left.left - 4 + n) (omega arith) (omega arith) d o.invariant.1 in (
      o.invariant.0,
      elim c.then-holder-four.branch [
        | then-holder-four-via-then-holder-four w ↦ next _ 3 (omega arith) (omega arith) w.if-holder-four.true
        | then-holder-four-via-else-holder-four+then-holder-four-2 w ↦ next _ 2 (omega arith) (omega arith) w.if-holder-four-2.true
        | then-holder-four-via-else-holder-four+else-holder-four-2+then-holder-four-3 w ↦ next _ 1 (omega arith) (omega arith) w.if-holder-four-3.true
        | then-holder-four-via-else-holder-four+else-holder-four-2+else-holder-four-3+then-holder-four-4 w ↦
            next _ 0 (omega arith) (omega arith) w.if-holder-four-4.true
      ],
    )

-- what holds at one place and at all others asked for
one_more : (holder : List ℕ) (giver here place : ℕ) → get_or holder here 0 ≡ giver → (place ≢ here → get_or holder place 0 ≡ giver)
    → get_or holder place 0 ≡ giver
one_more holder giver here place e else = by (ℕ_discrete place here)
  where
    by : Dec (place ≡ here) → get_or holder place 0 ≡ giver
    by (yes f) = ap (λ (x : ℕ). get_or holder x 0) f ∙ e
    by (no d) = else d

pub loop-left-preserved : goal.loop-left-preserved
loop-left-preserved c =
    let h = c.args.holder.now in (
      omega arith,
      omega arith,
      λ j l m.
          one_more h c.args.giver _ _ c.if-holder-four.false (λ d.
          one_more h c.args.giver _ _ c.if-holder-four-2.false (λ e.
          one_more h c.args.giver _ _ c.if-holder-four-3.false (λ f.
          one_more h c.args.giver _ _ c.if-holder-four-4.false (λ g. c.loop-left.invariant.2 j (omega arith) m)))),
    )

pub returns-after-nodes : goal.returns-after-nodes
returns-after-nodes c =
    let a = c.args in
    let o = c.nodes in
    o.invariant.0 ∙
    lowest-is a.holder.now a.size a.giver a.from a.nodes a.nodes (omega arith) (omega arith) (λ j l m. o.invariant.1 j (omega arith) l)
    (λ l. absurd (omega arith))

pub returns-after-loop-left : goal.returns-after-loop-left
returns-after-loop-left c =
    let a = c.args in
    let o = c.nodes in
    lowest-is a.holder.now a.size a.giver a.from a.nodes o.node (omega arith) (omega arith) (λ j l m. o.invariant.1 j m l)
    (λ m. held_all a.holder.now a.size a.giver o.node (λ i n. c.loop-left.invariant.2 i (omega arith) n))
