-- `Change::cut` meets its contract. The invariant: the cuts below p are stored, and what moved since the last one is counted.
use Prim.Native.Nat.{ℕ, ◌+◌, ◌^◌, ◌≤◌, ◌<◌}
use mathlib.Core.Path.{◌≡◌, ap, subst, ◌∙◌}
use mathlib.Core.Bool.{Bool, true, not}
use native.Mathlib.Omega.{arith}
use lib.ListN.{length, set}
use lib.Pow.{pow_pos}
use borrow.Author.Tests.{eq-eqb, ne_eqb}
use Rattle.numerals.specs.Limits.{most_suffixes}
use Rattle.numerals.proofs.Powers.{shifted, pow-few}
use Rattle.stages.specs.Inner.Nodes.{at}
use Rattle.stages.specs.Inner.Row.{unlike, cuts_to}
use Rattle.stages.proofs.Rows.{cuts-few, row-long}
use Rattle.stages.proofs.CutRow.{Cut, cut-start, cut-length, cut-few, cut_moved, cut-alike, cut-more, cut-here, cut-long}
use Rattle.stages.proofs.CutRow.{moved-most, cuts-up, cuts-below, row-end}
use Rattle.stages.proofs.change.Change.cut.Goals as goal
use Rattle.stages.proofs.change.Change.cut.Goals.{After-loop-p, In-loop-p, Then-limit-moved, then-self-p, then-limit-moved, else-limit-moved, else-self-p}

pub loop-p-init : goal.loop-p-init
loop-p-init c = cut-start _ _ _

-- the place is one of all
inside : (c : In-loop-p) → c.loop-p.p < 2 ^ c.args.self.k
inside c = omega (arith, shifted c.args.self.k c.args.self.few_bits)

below : (c : In-loop-p) → c.loop-p.p < most_suffixes
below c = omega (arith, inside c, pow-few c.args.self.k c.args.self.few_bits)

pub bounds-self-p : goal.bounds-self-p
bounds-self-p c = omega (arith, below (goal.at.bounds-self-p c).In-loop-p)

pub bounds-self-p-in-loop-p : goal.bounds-self-p-in-loop-p
bounds-self-p-in-loop-p c = omega (arith, below (goal.at.bounds-self-p-in-loop-p c).In-loop-p)

-- no more was counted than there are places, and than the limit
few-moved : (c : In-loop-p)
    → let a = c.args in
    let l = c.loop-p in
    (l.moved ≤ l.p) × (l.moved ≤ a.limit)
few-moved c =
    let a = c.args in
    let l = c.loop-p in
    let d : ℕ → Bool = unlike (at a.self.old.now) (at a.self.new.now) in (
      cut_moved d a.limit a.row.now l.p l.n l.moved l.row l.invariant,
      omega (arith, l.invariant.counted, moved-most d a.limit c.requires.0 l.p),
    )

pub overflow_add-moved : goal.overflow_add-moved
overflow_add-moved c = omega (arith, few-moved (goal.at.overflow_add-moved c).In-loop-p, below (goal.at.overflow_add-moved c).In-loop-p)

-- the place differs, and is cut at: the row has room for it
full : (c : Then-limit-moved)
    → (c.loop-p.n + 1 ≤ most_suffixes) × (c.loop-p.n < length c.loop-p.row)
full c =
    let a = c.args in
    let l = c.loop-p in
    let d : ℕ → Bool = unlike (at a.self.old.now) (at a.self.new.now) in
    let differs : d l.p ≡ true = ap not (ne_eqb _ _ c.if-self-p.true) in
    let long : l.n + 1 ≡ length (cuts_to d a.limit (l.p + 1)) =
    cut-long d a.limit a.row.now l.p l.n l.moved l.row l.invariant differs (omega (
      arith,
      few-moved (goal.at.Then-limit-moved c).In-loop-p,
      c.if-limit-moved.true,
    ))
    in
    let few : length (cuts_to d a.limit (l.p + 1)) ≤ length (cuts_to d a.limit (2 ^ a.self.k)) =
    cuts-up d a.limit (l.p + 1) (2 ^ a.self.k) (omega (arith, inside (goal.at.Then-limit-moved c).In-loop-p))
    in (
      omega (
        arith,
        cut-few d a.limit a.row.now l.p l.n l.moved l.p l.row l.invariant (omega arith),
        cuts-below d a.limit l.p,
        below (goal.at.Then-limit-moved c).In-loop-p,
      ),
      omega (
        arith,
        cut-length d a.limit a.row.now l.p l.n l.moved l.row l.invariant,
        row-long a.self.k (at a.self.old.now) (at a.self.new.now) a.limit,
        c.requires.1,
      ),
    )

pub offset_bounds-row-n : goal.offset_bounds-row-n
offset_bounds-row-n c = omega (arith, full c)

pub bounds-row-n : goal.bounds-row-n
bounds-row-n c = (full c).1

pub overflow_add-n : goal.overflow_add-n
overflow_add-n c = omega (arith, full c)

pub loop-p-preserved : goal.loop-p-preserved
loop-p-preserved c =
    let a = c.args in
    let l = c.loop-p in
    let d : ℕ → Bool = unlike (at a.self.old.now) (at a.self.new.now) in
    elim c.if-self-p.branch [
      | then-self-p w ↦
          let differs : d l.p ≡ true = ap not (ne_eqb _ _ w.if-self-p.true) in
          rw (w.row-is, w.n-is, w.moved-is)
          (elim w.if-limit-moved.branch [
            | then-limit-moved v ↦
                rw (v.row-is, v.n-is, v.moved-is)
                (cut-here d a.limit a.row.now l.p l.n l.moved l.row l.invariant differs
                (omega (arith, few-moved (goal.at.loop-p-preserved c).In-loop-p, v.if-limit-moved.true)))
            | else-limit-moved v ↦
                rw (v.row-is, v.n-is, v.moved-is)
                (cut-more d a.limit a.row.now l.p l.n l.moved l.row l.invariant differs (λ e. omega (arith, v.if-limit-moved.false)))
          ])
      | else-self-p w ↦
          rw (w.row-is, w.n-is, w.moved-is)
          (cut-alike d a.limit a.row.now l.p l.n l.moved l.row l.invariant (ap not (eq-eqb _ _ w.if-self-p.false)))
    ]

-- all places were looked at
all_seen : (c : After-loop-p) → c.loop-p.p ≡ 2 ^ c.args.self.k
all_seen c = omega (arith, shifted c.args.self.k c.args.self.few_bits)

-- the walk at its end, and the room for the last place
walked : (c : After-loop-p)
    → let a = c.args in
    let l = c.loop-p in
    Cut (unlike (at a.self.old.now) (at a.self.new.now)) a.limit a.row.now (2 ^ a.self.k) l.n l.moved l.row
walked c =
    let a = c.args in
    let l = c.loop-p in
    subst (λ (p : ℕ). Cut (unlike (at a.self.old.now) (at a.self.new.now)) a.limit a.row.now p l.n l.moved l.row) (all_seen c) l.invariant

last : (c : After-loop-p)
    → let l = c.loop-p in (l.n < most_suffixes) × (l.n < length l.row)
last c =
    let a = c.args in
    let l = c.loop-p in
    let d : ℕ → Bool = unlike (at a.self.old.now) (at a.self.new.now) in
    let long : l.n ≡ length (cuts_to d a.limit (2 ^ a.self.k)) = (walked c).long in (
      omega (arith, cuts-few d a.limit c.requires.0 (2 ^ a.self.k) (pow_pos a.self.k), pow-few a.self.k c.args.self.few_bits),
      omega (
        arith,
        cut-length d a.limit a.row.now (2 ^ a.self.k) l.n l.moved l.row (walked c),
        row-long a.self.k (at a.self.old.now) (at a.self.new.now) a.limit,
        c.requires.1,
      ),
    )

pub offset_bounds-row-n-2 : goal.offset_bounds-row-n-2
offset_bounds-row-n-2 c = omega (arith, last c)

pub bounds-row-n-2 : goal.bounds-row-n-2
bounds-row-n-2 c = (last c).1

pub overflow_add-result : goal.overflow_add-result
overflow_add-result c = omega (arith, last c)

pub returns : goal.returns
returns c =
    let a = c.args in
    let l = c.loop-p in
    record {
      long = omega (arith, (walked c).long, row-long a.self.k (at a.self.old.now) (at a.self.new.now) a.limit);
      row = ap (set l.row l.n) (shifted a.self.k c.args.self.few_bits)
          ∙ row-end a.self.k (at a.self.old.now) (at a.self.new.now) a.limit a.row.now l.row l.n l.moved (walked c);
    }
