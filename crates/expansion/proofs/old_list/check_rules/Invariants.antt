-- `old_list::check_rules` meets its contract. The loop's invariant: the check of all rules is that of those from rule i on, behind one of `last` bits.
use Prim.Native.Nat.{◌*◌}
use mathlib.Core.Path.{◌≡◌}
use lib.ListN.{drop}
use Rattle.expansion.specs.OldList.{check_rules}
use Rattle.expansion.proofs.old_list.check_rules.Given as goal

abbrev pub invariant-loop-i : goal.invariant-loop-i
invariant-loop-i l =
    check_rules l.k 0 l.k l.old ≡ check_rules l.k l.i l.last (drop (3 * l.i) l.old)
