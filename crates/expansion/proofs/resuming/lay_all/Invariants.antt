-- `resuming::lay_all` meets its contract. The loop's invariant: the i oldest rules are laid.
use mathlib.Core.Path.{◌≡◌}
use Rattle.expansion.specs.OldList.{rules_from}
use Rattle.expansion.specs.Inner.Laying.{LaidTo}
use Rattle.expansion.proofs.resuming.lay_all.Given as goal

abbrev pub invariant-loop-i : goal.invariant-loop-i
invariant-loop-i l =
    (l.list.count ≡ l.i)
    × LaidTo l.service.k l.service.labels.now (rules_from l.old) l.i l.holder l.shares l.list.rules l.had
