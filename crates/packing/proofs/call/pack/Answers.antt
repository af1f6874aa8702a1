-- `call::pack` meets its contract: the checks, the lists, the grants, and what is written where there is room.
use Rattle.std.specs.Prelude.{Ok}
use Prim.Native.Nat.{ℕ, ◌<◌}
use mathlib.Core.Path.{◌≡◌, sym, ◌∙◌}
use native.Mathlib.Omega.{arith}
use lib.ListN.{get_or, replicate, get_or-replicate}
use Rattle.numerals.specs.Limits.{most_services}
use Rattle.numerals.proofs.Exits.{handed_on}
use Rattle.packing.specs.Count.{services}
use Rattle.packing.specs.Table.{frame_of, list_for}
use Rattle.packing.specs.Answer.{services_of, check_all}
use Rattle.packing.specs.Inner.Lists.{Listed}
use Rattle.packing.proofs.Checks.{Accepted, all-passed, sized}
use Rattle.packing.proofs.PackAnswer.{claimed, answer-refused, answer-passed, Outcome, payable, started, ones-fit, outcome}
use Rattle.packing.proofs.call.pack.Goals as goal
use Rattle.packing.proofs.call.pack.Goals.{After-grant_all, After-make_lists, In_ok-check_all}

pub returns-in_err-check_all : goal.returns-in_err-check_all
returns-in_err-check_all c =
    let e = handed_on _ _ c.from_residual.ensures in
    record {
      answer = e ∙ sym (answer-refused _ _ _ _ _ _ _ _ _ _ (sym c.check_all.ensures ∙ c.in_err-check_all.was));
      figures = rw e;
      table = rw e;
      demand = rw e tt;
    }

-- the checks passed
passed :
    (c : In_ok-check_all)
    → let a = c.args in
    check_all a.k a.tolerance a.capacity a.volumes.now a.sizes.now a.ids.now a.weights.now ≡ Ok tt
passed c = sym c.check_all.ensures ∙ c.in_ok-check_all.was

accepted :
    (c : In_ok-check_all)
    → let a = c.args in
    Accepted a.k a.tolerance a.capacity a.volumes.now a.sizes.now a.ids.now a.weights.now
accepted c = all-passed _ _ _ _ _ _ _ (passed c)

pub make_lists-requires : goal.make_lists-requires
make_lists-requires c =
    let A = accepted (goal.at.make_lists-requires c).In_ok-check_all in
    sized A

-- the lists are those of the definitions
listed :
    (c : After-make_lists)
    → let a = c.args in
    let m = c.make_lists in
    let S = services_of a.k a.volumes.now a.sizes.now a.ids.now a.weights.now in
    Listed (services S) (frame_of S a.tolerance) (list_for S a.tolerance)
    m.new.lens m.new.values m.new.backends
    m.new.stairs m.new.counts m.new.ends
listed c =
    c.make_lists.ensures
    c.args.volumes.now
    (accepted (goal.at.After-make_lists c).In_ok-check_all).same

-- each service is granted one rule
ones : (s : ℕ) → s < most_services → ◌≡◌ {A = ℕ} (get_or (replicate most_services 1) s 0) 1
ones s l = get_or-replicate most_services s 1 0 l

pub invariant_of-priced : goal.invariant_of-priced
invariant_of-priced c =
    let A = accepted (goal.at.invariant_of-priced c).In_ok-check_all in
    let L = listed (goal.at.invariant_of-priced c).After-make_lists in
    record { payable = payable _ _ _ _ _ _ _ _ _ _ _ _ _ A L }

pub grant_all-requires : goal.grant_all-requires
grant_all-requires c =
    let A = accepted (goal.at.grant_all-requires c).In_ok-check_all in
    let L = listed (goal.at.grant_all-requires c).After-make_lists in
    let m = c.make_lists in
    record {
      started = started _ _ _ _ _ _ _ _ _ _ _ _ _ A L (replicate most_services 1) (λ s l. ones s (omega (arith, A.few, A.same)));
      room = (
        omega (arith, A.some, A.same),
        A.little-room,
        ones-fit _ _ _ _ _ _ _ _ _ _ _ _ _ A L (replicate most_services 1) (λ s l. ones s (omega (arith, A.few, A.same))),
      );
    }

-- the grants are those of the definitions
done :
    (c : After-grant_all)
    → let a =
    c.args in
    let m = c.make_lists in
    Outcome a.k a.tolerance a.capacity a.volumes.now a.sizes.now a.ids.now a.weights.now
    m.new.lens m.new.values m.new.backends
    m.new.stairs m.new.counts m.new.ends
    c.grant_all.new.grants
done c =
    let A = accepted (goal.at.After-grant_all c).In_ok-check_all in
    let m = c.make_lists in
    outcome _ _ _ _ _ _ _ _ _ _ _ _ _ A (listed (goal.at.After-grant_all c).After-make_lists)
    (replicate most_services 1) _ _ (λ s l. ones s (omega (arith, A.few, A.same)))
    c.grant_all.ensures

pub returns : goal.returns
returns c =
    let w = c.write_out.ensures in
    let d = done (goal.at.returns c).After-grant_all in
    record {
      answer = w.answer ∙ answer-passed _ _ _ _ _ _ _ _ _ (passed (goal.at.returns c).In_ok-check_all) _ d.made;
      figures = rw d.figures at w.figures;
      table = rw d.table at w.table;
      demand = claimed _ _ _ _ _ _ w.answer d.demand;
    }
