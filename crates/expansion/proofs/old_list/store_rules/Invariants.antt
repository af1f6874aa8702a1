-- `old_list::store_rules` meets its contract. The loop's invariant: the stores of all rules are those of the n - i that are left.
use Prim.Native.Nat.{◌-◌, ◌*◌}
use mathlib.Core.Path.{◌≡◌}
use lib.Seq.{sets}
use Rattle.expansion.specs.OldList.{numbers_of}
use Rattle.expansion.specs.Inner.Lists.{newest_first}
use Rattle.expansion.proofs.old_list.store_rules.Given as goal

abbrev pub invariant-loop-i : goal.invariant-loop-i
invariant-loop-i l =
    sets l.initial.out 0 (numbers_of (newest_first l.list.rules l.n)) ≡ sets l.out (3 * l.i) (numbers_of (newest_first l.list.rules (l.n - l.i)))
