-- `known::know` meets its contract. The loop's invariant: the ids of the rules from rule i on are known.
use Prim.Native.Nat.{◌*◌}
use lib.ListN.{drop}
use Rattle.expansion.specs.OldList.{rules_from}
use Rattle.expansion.specs.Inner.Known.{Knows}
use Rattle.expansion.proofs.known.know.Given as goal

abbrev pub invariant-loop-i : goal.invariant-loop-i
invariant-loop-i l = Knows (rules_from (drop (3 * l.i) l.old)) l.ids l.weights l.known l.wanted l.count
