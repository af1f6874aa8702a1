-- `call::expand` meets its contract: each of its answers is a case of the definition's.
use Rattle.std.specs.Prelude.{Ok}
use Prim.Native.Nat.{ℕ, ◌+◌, ◌≤◌, min}
use mathlib.Core.List.{reverse, map}
use mathlib.Core.Path.{◌≡◌, refl, sym, ap, ◌∙◌}
use native.Mathlib.Omega.{arith}
use lib.Dec.{leb}
use lib.ListN.{length, take}
use lib.Seq.{sets}
use borrow.Author.Tests.{not-true, not-false, leb-true}
use Rattle.numerals.specs.Limits.{most_rules}
use Rattle.numerals.proofs.Exits.{handed_on}
use Rattle.expansion.specs.Answer.{check_call, frame_made, list_made, lens_made, values_made, backends_made}
use Rattle.expansion.specs.declared.rule.Rule.{Rule}
use Rattle.expansion.proofs.Checks.{call-passed}
use Rattle.expansion.proofs.Answers.{answer-refused, answer-short, answer-made, made-column, made-stairs}
use Rattle.expansion.proofs.call.expand.Goals as goal
use Rattle.expansion.proofs.call.expand.Goals.{After-has_room, After-make_list-made, Else-not-has_room, In_ok-check_call, Start}

-- the places of the shortest buffer
abbrev room : Start → ℕ
room s =
    min (min (length s.args.lens.now) (length s.args.values.now)) (min (length s.args.backends.now) (length s.args.stairs.now))

pub returns-in_err-check_call : goal.returns-in_err-check_call
returns-in_err-check_call c =
    let a = c.args in
    let e = handed_on _ _ c.from_residual.ensures in
    record {
      answer = e
          ∙ sym
          (answer-refused a.k a.tolerance a.budget a.ids.now a.weights.now a.at (room (goal.at.returns-in_err-check_call c).Start)
          _ (sym c.check_call.ensures ∙ c.in_err-check_call.was));
      lens = rw e;
      values = rw e;
      backends = rw e;
      stairs = rw e;
    }

passed : (c : In_ok-check_call)
    → let a = c.args in check_call a.k a.tolerance a.budget
    a.ids.now a.weights.now ≡ Ok tt
passed c = sym c.check_call.ensures ∙ c.in_ok-check_call.was

pub invariant_of-service : goal.invariant_of-service
invariant_of-service c =
    let a = c.args in
    let v = call-passed a.k a.tolerance a.budget a.ids.now a.weights.now (passed (goal.at.invariant_of-service c).In_ok-check_call) in
    search (v.0)

pub make_list-made-requires : goal.make_list-made-requires
make_list-made-requires c =
    let a = c.args in
    let v = call-passed a.k a.tolerance a.budget a.ids.now a.weights.now (passed (goal.at.make_list-made-requires c).In_ok-check_call) in
    (v.1, v.2)

-- the test is one of the shortest buffer
room-is : (c : After-has_room) → c.has_room.result ≡ leb (c.args.at + c.make_list-made.result.list.count) (room (goal.at.After-has_room c).Start)
room-is c =
    let n = c.args.at + c.make_list-made.result.list.count in
    let least : c.min.result ≡ room (goal.at.After-has_room c).Start = omega (arith, c.min.ensures, c.min-ends.ensures, c.min-rules.ensures) in
    c.has_room.ensures ∙ ap (leb n) least

pub returns-then-not-has_room : goal.returns-then-not-has_room
unfolding frame_made
returns-then-not-has_room c =
    let a = c.args in
    record {
      answer = sym
          (answer-short a.k a.tolerance a.budget a.ids.now a.weights.now c.make_list-made.result c.make_list-made.ensures.made
          a.at (room (goal.at.returns-then-not-has_room c).Start) (passed (goal.at.returns-then-not-has_room c).In_ok-check_call)
          (sym (room-is (goal.at.returns-then-not-has_room c).After-has_room) ∙ not-true _ c.if-not-has_room.true-raw));
      lens = refl;
      values = refl;
      backends = refl;
      stairs = refl;
    }

-- all have room
fits : (c : Else-not-has_room) → c.args.at + c.make_list-made.result.list.count ≤ room (goal.at.Else-not-has_room c).Start
fits c =
    leb-true (c.args.at + c.make_list-made.result.list.count) (room (goal.at.Else-not-has_room c).Start)
    (sym (room-is (goal.at.Else-not-has_room c).After-has_room) ∙ not-false _ c.if-not-has_room.false-raw)

pub copy_out-requires : goal.copy_out-requires
copy_out-requires c =
    let f = fits (goal.at.copy_out-requires c).Else-not-has_room in
    (omega arith, (omega arith, (omega arith, omega arith)))

-- the arrays of the list
rules-long : (c : After-make_list-made) → length c.make_list-made.result.list.rules ≡ most_rules
rules-long c = omega arith

stairs-long : (c : After-make_list-made) → length c.make_list-made.result.list.stairs ≡ most_rules
stairs-long c = omega arith

pub returns : goal.returns
unfolding frame_made lens_made values_made backends_made
returns c =
    let a = c.args in
    let r = c.make_list-made.result in
    let M = c.make_list-made.ensures.made in
    let rules : r.list.count ≤ length r.list.rules = omega (arith, rules-long (goal.at.returns c).After-make_list-made, r.list.few) in
    let stairs : r.list.count ≤ length r.list.stairs = omega (arith, stairs-long (goal.at.returns c).After-make_list-made, r.list.few) in
    let column : (f : Rule → ℕ)
    → map f (take r.list.count r.list.rules) ≡ map f (reverse (list_made a.k a.tolerance a.budget a.ids.now a.weights.now)) =
    λ f. made-column a.k a.tolerance a.budget a.ids.now a.weights.now r M f rules in
    let out = c.copy_out.ensures in
    record {
      answer = sym (answer-made a.k a.tolerance a.budget a.ids.now a.weights.now r M a.at (room (goal.at.returns c).Start)
          (passed (goal.at.returns c).In_ok-check_call) (fits (goal.at.returns c).Else-not-has_room));
      lens = out.lens ∙ ap (sets a.lens.now a.at) (column (λ (r : Rule). r.len));
      values = out.values ∙ ap (sets a.values.now a.at) (column (λ (r : Rule). r.value));
      backends = out.backends ∙ ap (sets a.backends.now a.at) (column (λ (r : Rule). r.backend));
      stairs = out.stairs ∙ ap (sets a.stairs.now a.at) (made-stairs a.k a.tolerance a.budget a.ids.now a.weights.now r M stairs);
    }
