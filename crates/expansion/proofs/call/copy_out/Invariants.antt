-- `call::copy_out` meets its contract. The loop's invariant: the first i rules are stored, in three columns.
use Rattle.expansion.specs.declared.rule.Rule.{Rule}
use Rattle.expansion.proofs.Listing.{Copied}
use Rattle.expansion.proofs.call.copy_out.Given as goal

abbrev pub invariant-loop-i : goal.invariant-loop-i
invariant-loop-i l =
    Copied (λ (r : Rule). r.len) l.list.rules l.at l.i l.initial.lens l.lens
    × Copied (λ (r : Rule). r.value) l.list.rules l.at l.i l.initial.values l.values
    × Copied (λ (r : Rule). r.backend) l.list.rules l.at l.i l.initial.backends l.backends
