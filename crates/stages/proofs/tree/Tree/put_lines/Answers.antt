-- `Tree::put_lines` meets its contract. The invariant: the lines of the nodes below place p are written, and every such node ends by p.
use Prim.Native.Nat.{ℕ, ◌+◌, ◌-◌, ◌*◌, ◌/◌, ◌%◌, ◌^◌, ◌<◌}
use mathlib.Core.Path.{◌≡◌, sym, ap, subst, ◌∙◌}
use native.Mathlib.Omega.{arith}
use lib.ListN.{get_or}
use lib.Pow.{pow_pos}
use Rattle.numerals.specs.Limits.{most_bits, most_suffixes}
use Rattle.numerals.specs.Suffix.{place}
use Rattle.numerals.proofs.Place.{place-first}
use Rattle.numerals.proofs.Powers.{pow-few, shifted}
use Rattle.packing.specs.Table.{lines_of}
use Rattle.sheets.specs.Inner.Writing.{Wrote, Before, end_at}
use Rattle.sheets.specs.RuleSheet.{lines_text}
use Rattle.sheets.proofs.Writes.{nothing}
use Rattle.stages.specs.Inner.Nodes.{at, height_at, starts_to}
use Rattle.stages.proofs.NodeLaws.{starts_none}
use Rattle.stages.proofs.StageText.{Going, text-empty, line-ended, line-more}
use Rattle.stages.proofs.tree.Tree.put_lines.Goals as goal
use Rattle.stages.proofs.tree.Tree.put_lines.Goals.{After-height-n, After-write_line-written, In-loop-p, Joined-written, in-Ok, in_default}

pub overflow_shl-all : goal.overflow_shl-all
overflow_shl-all c = omega (arith, c.args.self.few_bits)

pub loop-p-init : goal.loop-p-init
loop-p-init c =
    let a = c.args in
    record {
      within = omega arith;
      wrote = rw (starts_none (at a.self.holder.now) a.self.k, text-empty a.service) (nothing a.text.now 0);
      edge = λ y l. absurd (omega arith);
    }

-- the place that the loop has come to
below : (t : In-loop-p)
    → (t.loop-p.p < 2 ^ t.args.self.k) × (t.loop-p.p < most_suffixes)
below t =
    let all = shifted t.args.self.k t.args.self.few_bits in
    (omega (arith, t.loop-p-test.true, all), omega (arith, t.loop-p-test.true, all, pow-few t.args.self.k t.args.self.few_bits))

pub height-n-requires : goal.height-n-requires
height-n-requires c =
    (below c).0

-- the height of its node
high : (c : After-height-n)
    → let a = c.args in
    c.height-n.result ≡ height_at (at a.self.holder.now) a.self.k c.loop-p.p
high c =
    c.height-n.ensures.height

-- its suffix
suffix : (t : In-loop-p)
    → let a = t.args in
    get_or a.places.now t.loop-p.p 0 / 2 ^ (most_bits - a.self.k) ≡ place a.self.k t.loop-p.p
suffix t =
    ap (λ (x : ℕ). x / 2 ^ (most_bits - t.args.self.k)) (t.requires.all_places.at t.loop-p.p (below t).1)
    ∙ place-first t.args.self.k most_bits t.loop-p.p t.args.self.few_bits (below t).0

pub offset_bounds-places-p : goal.offset_bounds-places-p
offset_bounds-places-p c = omega (arith, (below (goal.at.offset_bounds-places-p c).In-loop-p).1)

pub bounds-places-p : goal.bounds-places-p
bounds-places-p c =
    omega (arith, (below (goal.at.bounds-places-p c).In-loop-p).1, c.requires.all_places.long)

pub overflow_sub-value : goal.overflow_sub-value
overflow_sub-value c = omega (arith, c.args.self.few_bits)

pub offset_bounds-self-p : goal.offset_bounds-self-p
offset_bounds-self-p c = omega (arith, (below (goal.at.offset_bounds-self-p c).In-loop-p).1)

pub bounds-self-p : goal.bounds-self-p
bounds-self-p c =
    omega (arith, (below (goal.at.bounds-self-p c).In-loop-p).1, c.requires.of_service.long)

pub overflow_sub-self : goal.overflow_sub-self
overflow_sub-self c = omega (arith, c.height-n.ensures.few)

-- its line is written
stepped : (c : After-write_line-written)
    → let a = c.args in
    let w = c.write_line-written in
    Before w.result (end_at w.result + 1)
    × Going a.self.holder.now a.self.k a.service a.text.now w.new.out (end_at w.result) (c.loop-p.p + 2 ^ c.height-n.result)
stepped c =
    let a = c.args in
    let l = c.loop-p in
    let w = c.write_line-written in (
      line-ended a.self.holder.now a.text.now l.text a.self.k a.service l.end l.p c.args.self.few_bits c.requires.of_service c.requires.few_lines
          c.told-text (below (goal.at.After-write_line-written c).In-loop-p).0 l.invariant c.height-n.result _
          (high (goal.at.After-write_line-written c).After-height-n) (suffix (goal.at.After-write_line-written c).In-loop-p) w.result w.new.out
          w.ensures.answer w.ensures.buffer,
      line-more a.self.holder.now a.text.now l.text a.self.k a.service l.end l.p c.args.self.few_bits c.requires.of_service c.requires.few_lines
          c.told-text (below (goal.at.After-write_line-written c).In-loop-p).0 l.invariant c.height-n.result _
          (high (goal.at.After-write_line-written c).After-height-n) (suffix (goal.at.After-write_line-written c).In-loop-p) w.result w.new.out
          w.ensures.answer w.ensures.buffer,
    )

-- how many places its node has
size : (c : After-height-n) → (1 * 2 ^ c.height-n.result) % 2 ^ 64 ≡ 2 ^ c.height-n.result
size c =
    shifted c.height-n.result (omega (arith, c.height-n.ensures.few, c.args.self.few_bits))

pub overflow_shl-p : goal.overflow_shl-p
overflow_shl-p c =
    omega (arith, c.height-n.ensures.few, c.args.self.few_bits)

pub overflow_add-p : goal.overflow_add-p
overflow_add-p c =
    omega (
      arith,
      size (goal.at.overflow_add-p c).After-height-n,
      (stepped (goal.at.overflow_add-p c).After-write_line-written).1.within,
      pow-few c.args.self.k
          c.args.self.few_bits,
    )

pub loop-p-smaller : goal.loop-p-smaller
loop-p-smaller c =
    omega (
      arith,
      size (goal.at.loop-p-smaller c).After-height-n,
      (stepped (goal.at.loop-p-smaller c).After-write_line-written).1.within,
      (below (goal.at.loop-p-smaller c).In-loop-p).0,
      pow_pos c.height-n.result,
    )

-- where the line ends: it is never refused
end_is : (c : Joined-written) → c.match-written.end ≡ end_at c.write_line-written.result
end_is c =
    elim c.match-written.branch [
      | in-Ok w ↦ w.end-is ∙ sym (ap end_at w.in-Ok.is)
      | in_default w ↦ absurd (rw w.in_default.is at (stepped (goal.at.Joined-written c).After-write_line-written).0)
    ]

pub loop-p-preserved : goal.loop-p-preserved
loop-p-preserved c =
    let a = c.args in
    let p = c.loop-p.p in
    subst (λ (x : ℕ). Going a.self.holder.now a.self.k a.service a.text.now c.write_line-written.new.out c.match-written.end (p + x))
    (sym (size (goal.at.loop-p-preserved c).After-height-n))
    (subst (λ (e : ℕ). Going a.self.holder.now a.self.k a.service a.text.now c.write_line-written.new.out e (p + 2 ^ c.height-n.result))
    (sym (end_is c)) (stepped (goal.at.loop-p-preserved c).After-write_line-written).1)

pub returns : goal.returns
returns c =
    let a = c.args in
    let l = c.loop-p in
    let all : l.p ≡ 2 ^ a.self.k = omega (arith, c.loop-p-test.false, l.invariant.within, shifted a.self.k c.args.self.few_bits) in
    subst (λ (x : ℕ). Wrote a.text.now l.text 0 l.end (lines_text (lines_of a.service (starts_to (at a.self.holder.now) a.self.k x)))) all l.invariant.wrote
