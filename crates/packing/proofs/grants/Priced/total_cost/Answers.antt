-- `grants::Priced::total_cost` meets its contract. The loop's invariant: the sum is that of the services passed, and at most 2^54 for each.
-- Assumes nothing.
use Prim.Native.Nat.{ℕ, ◌*◌, ◌^◌, ◌≤◌, ◌<◌}
use mathlib.Core.Path.{◌≡◌, refl, ap, ◌∙◌}
use native.Mathlib.Omega.{arith}
use native.Mathlib.Numerals.{add-one}
use lib.ListN.{length, get_or}
use Rattle.numerals.specs.Sums.{sum_to}
use Rattle.packing.specs.Inner.Lists.{place_of}
use Rattle.packing.specs.Inner.Stored.{stored_cost, stored_total, Payable}
use Rattle.packing.proofs.Payable.{cost-small}
use Rattle.packing.proofs.grants.Priced.total_cost.Goals as goal
use Rattle.packing.proofs.grants.Priced.total_cost.Goals.{After-min-c}

pub loop-s-init : goal.loop-s-init
unfolding sum_to
loop-s-init c = (refl, omega arith)

paid :
    (c : After-min-c)
    → let a = c.args in
    let l = c.loop-s in
    Payable (get_or a.self.now.volumes.now l.s 0) a.self.now.stairs.now l.s (get_or a.self.now.counts.now l.s 0)
paid c =
    c.args.self.now.payable.each c.loop-s.s
    c.loop-s-test.true

-- the stair read is one of the service's
inside :
    (c : After-min-c)
    → let a = c.args in
    c.min-c.result ≤ get_or a.self.now.counts.now c.loop-s.s 0
inside c = omega (arith, c.min-c.ensures)

small :
    (c : After-min-c)
    → let a = c.args in
    let l = c.loop-s in
    get_or a.self.now.volumes.now l.s 0 * get_or a.self.now.stairs.now (place_of l.s c.min-c.result) 0 < 2 ^ 54
small c = cost-small (paid c) c.min-c.result (inside c) _ (omega arith)

pub loop-s-preserved : goal.loop-s-preserved
unfolding sum_to stored_cost
loop-s-preserved c =
    let l = c.loop-s in
    (rw (add-one, l.invariant.0, c.min-c.ensures), omega (arith, small (goal.at.loop-s-preserved c).After-min-c))

pub returns : goal.returns
unfolding stored_total
returns c =
    let a = c.args in
    let l = c.loop-s in
    let all : l.s ≡ length a.self.now.volumes.now = omega arith in
    l.invariant.0
    ∙ ap (λ (n : ℕ). sum_to n (λ i. stored_cost a.self.now.volumes.now a.self.now.stairs.now a.self.now.counts.now i (get_or a.grants.now i 0))) all
