-- `ledger::opened`: a service's weights are not above the unit.
use native.Mathlib.Omega.{arith}
use Rattle.expansion.proofs.Bounds.{weight-few}
use Rattle.expansion.proofs.ledger.opened.Goals as goal

pub entry-requires-in-loop-b : goal.entry-requires-in-loop-b
entry-requires-in-loop-b c =
    let s = c.args.service.now in
    let b = c.loop-b.b in
    (s.valid.few_bits, (c.requires b (omega arith), weight-few s b (omega arith)))
