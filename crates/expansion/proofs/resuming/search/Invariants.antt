-- `resuming::search` meets its contract. The loop's invariant: of the numbers above that of the rules that are laid, the best is kept.
use mathlib.Core.Path.{◌≡◌}
use Rattle.expansion.proofs.KeptSearch.{Searched}
use Rattle.expansion.proofs.resuming.search.Given as goal

abbrev pub invariant-loop-left : goal.invariant-loop-left
invariant-loop-left l =
    (l.list.count ≡ l.left) × Searched l.service l.old l.whole l.holder l.shares l.list l.had l.best
