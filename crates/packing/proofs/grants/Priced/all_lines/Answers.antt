-- `grants::Priced::all_lines` meets its contract. The loop's invariant: the number is that of the services passed, and at most `most_rules` for each.
-- Assumes nothing.
use Prim.Native.Nat.{◌≤◌}
use mathlib.Core.Path.{refl}
use native.Mathlib.Omega.{arith}
use native.Mathlib.Numerals.{add-one}
use lib.ListN.{get_or}
use Rattle.numerals.specs.Limits.{most_rules}
use Rattle.numerals.specs.Sums.{sum_to}
use Rattle.packing.proofs.grants.Priced.all_lines.Goals as goal
use Rattle.packing.proofs.grants.Priced.all_lines.Goals.{After-min-lines}

pub loop-service-init : goal.loop-service-init
unfolding sum_to
loop-service-init c = (refl, omega arith)

-- its list is short
few :
    (c : After-min-lines)
    → get_or c.args.self.now.counts.now c.loop-service.service 0 ≤ most_rules
few c =
    (c.args.self.now.payable.each c.loop-service.service c.loop-service-test.true).most

pub loop-service-preserved : goal.loop-service-preserved
unfolding sum_to
loop-service-preserved c =
    let l = c.loop-service in
    (rw (add-one, l.invariant.0, c.min-lines.ensures), omega (arith, c.min-lines.ensures, few c))
