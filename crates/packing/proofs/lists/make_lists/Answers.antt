-- `lists::make_lists` meets its contract. The loop's invariant: the lists of the services before s are stored, and what the rows have of service s
-- begins at `at`.
use Rattle.std.specs.Prelude.{Ok}
use Prim.Native.Nat.{ℕ, ◌+◌, ◌-◌, ◌*◌, ◌^◌, ◌≤◌, ◌<◌, min}
use mathlib.Core.List.{List}
use mathlib.Core.Path.{◌≡◌, refl, sym, ap, ap₂, ◌∙◌}
use native.Mathlib.Numerals.{add-one}
use native.Mathlib.Omega.{arith}
use lib.ListN.{length, get_or, take, drop}
use Rattle.numerals.specs.Limits.{most_services, most_rules}
use Rattle.expansion.specs.Answer.{check_call, record_made}
use denote.Enum.Declared.{tag_of}
use Rattle.expansion.specs.contracts.rule.Ended.{the_type}
use Rattle.expansion.specs.declared.rule.Ended.{Ended}
use Rattle.expansion.specs.declared.rule.Ended.TheVariants.{Within, NoGain, Budget}
use Rattle.packing.specs.Answer.{end_number}
use Rattle.packing.specs.Table.{rule_budget}
use Rattle.packing.specs.Inner.Lists.{place_of, part}
use Rattle.packing.proofs.Checks.{start-zero, start-suc}
use Rattle.packing.proofs.Listing.{entries_none, made, entries-more, listed}
use Rattle.packing.proofs.lists.make_lists.Goals as goal
use Rattle.packing.proofs.lists.make_lists.Goals.{After-expand, In-loop-s}

pub loop-s-init : goal.loop-s-init
loop-s-init c =
    (sym (start-zero _), entries_none _ _ _ _ _ _ _ _ _ _ _)

-- the ids and weights of the service stand in their rows
inside :
    (c : In-loop-s)
    → let a = c.args in
    let l = c.loop-s in
    l.at + get_or a.sizes.now l.s 0 ≤ min (length a.ids.now) (length a.weights.now)
inside c =
    let p = c.requires in
    omega (arith, p.inside c.loop-s.s c.loop-s-test.true)

-- the service is none too many
known : (c : In-loop-s) → c.loop-s.s < most_services
known c = omega (arith, c.requires.few, c.loop-s-test.true)

-- the row is in memory
row :
    (c : In-loop-s)
    → length c.args.weights.now * 8 < 2 ^ 63
row c = omega arith

pub overflow_add-at : goal.overflow_add-at
overflow_add-at c = omega (arith, inside (goal.at.overflow_add-at c).In-loop-s)

pub offset_bounds-ids-at : goal.offset_bounds-ids-at
offset_bounds-ids-at c = omega (arith, inside (goal.at.offset_bounds-ids-at c).In-loop-s, row (goal.at.offset_bounds-ids-at c).In-loop-s)

pub slice_bounds-expand-end : goal.slice_bounds-expand-end
slice_bounds-expand-end c = omega (arith, inside (goal.at.slice_bounds-expand-end c).In-loop-s)

pub overflow_add-at-in-loop-s : goal.overflow_add-at-in-loop-s
overflow_add-at-in-loop-s c = omega (arith, inside (goal.at.overflow_add-at-in-loop-s c).In-loop-s)

pub offset_bounds-weights-at : goal.offset_bounds-weights-at
offset_bounds-weights-at c = omega (arith, inside (goal.at.offset_bounds-weights-at c).In-loop-s, row (goal.at.offset_bounds-weights-at c).In-loop-s)

pub slice_bounds-expand-end-in-loop-s : goal.slice_bounds-expand-end-in-loop-s
slice_bounds-expand-end-in-loop-s c = omega (arith, inside (goal.at.slice_bounds-expand-end-in-loop-s c).In-loop-s)

-- the call of the expansion: its ids and weights are the service's, it passes its checks and has the room
own :
    (c : After-expand) (row : List ℕ)
    → let a = c.args in
    let l = c.loop-s in
    take (l.at + get_or a.sizes.now l.s 0 - l.at) (drop l.at row) ≡ part a.sizes.now row l.s
unfolding part
own c row =
    let a = c.args in
    let l = c.loop-s in
    let n = get_or a.sizes.now l.s 0 in
    let long : l.at + n - l.at ≡ n = omega arith in
    ap₂ (λ (m i : ℕ). take m (drop i row)) long l.invariant.0

passed :
    (c : After-expand)
    → let a = c.args in
    check_call a.k a.tolerance most_rules (part a.sizes.now a.ids.now c.loop-s.s)
    (part a.sizes.now a.weights.now c.loop-s.s) ≡ Ok tt
unfolding rule_budget
passed c =
    c.requires.sound c.loop-s.s
    c.loop-s-test.true

fits :
    (c : After-expand)
    → let l = c.loop-s in
    place_of l.s 1 + most_rules
    ≤ min (min (length l.lens) (length l.values)) (min (length l.backends) (length l.stairs))
fits c = omega arith

-- so the list is made
is_made_lem :
    (c : After-expand)
    → let a = c.args in
    c.expand.result ≡ Ok
    (record_made a.k a.tolerance most_rules (part a.sizes.now a.ids.now c.loop-s.s)
    (part a.sizes.now a.weights.now c.loop-s.s))
is_made_lem c =
    let l = c.loop-s in
    made _ _ _ _ _ l.s l.lens l.values l.backends l.stairs (passed c) (fits c) _ _ (own c _) (own c _) _ c.expand.ensures.answer

pub unwrap-list-requires : goal.unwrap-list-requires
unwrap-list-requires c = rw (is_made_lem (goal.at.unwrap-list-requires c).After-expand)

pub overflow_add-at-in-loop-s-2 : goal.overflow_add-at-in-loop-s-2
overflow_add-at-in-loop-s-2 c =
    omega (arith, inside (goal.at.overflow_add-at-in-loop-s-2 c).In-loop-s, row (goal.at.overflow_add-at-in-loop-s-2 c).In-loop-s)

-- how a list ended, as a number: the enum's own
numbered : (e : Ended) → tag_of the_type e ≡ end_number e
numbered Within = refl
numbered NoGain = refl
numbered Budget = refl

pub loop-s-preserved : goal.loop-s-preserved
loop-s-preserved c =
    let l = c.loop-s in
    let a = c.args in (
      rw add-one (sym (start-suc a.sizes.now l.s c.loop-s-test.true
          ∙ ap (λ (x : ℕ). x + get_or a.sizes.now l.s 0) (sym l.invariant.0))),
      rw (numbered c.unwrap-list.result.ended)
          (entries-more _ _ _ _ _ l.s l.lens l.values l.backends l.stairs (passed (goal.at.loop-s-preserved c).After-expand)
          (fits (goal.at.loop-s-preserved c).After-expand) _ _ (own (goal.at.loop-s-preserved c).After-expand _)
          (own (goal.at.loop-s-preserved c).After-expand _) _ c.expand.ensures.answer
          _ c.unwrap-list.ensures l.counts l.ends
          (omega (arith, known (goal.at.loop-s-preserved c).In-loop-s)) l.invariant.1 _ _ _ _
          c.expand.ensures.lens c.expand.ensures.values c.expand.ensures.backends c.expand.ensures.stairs),
    )

pub returns : goal.returns
returns c =
    let a = c.args in
    let l = c.loop-s in
    let all : l.s ≡ length a.sizes.now = omega arith in
    listed a.k a.tolerance a.sizes.now a.ids.now a.weights.now (length a.sizes.now) l.lens l.values l.backends
    l.stairs l.counts l.ends (omega arith) c.requires
    (rw all at l.invariant.1)
