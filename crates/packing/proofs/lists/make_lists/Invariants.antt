-- `lists::make_lists` meets its contract. The loop's invariant: the lists of the services before s are stored, and what the rows have of service s
-- begins at `at`.
use mathlib.Core.Path.{◌≡◌}
use Rattle.packing.specs.Inner.Lists.{start}
use Rattle.packing.proofs.Listing.{Entries}
use Rattle.packing.proofs.lists.make_lists.Given as goal

abbrev pub invariant-loop-s : goal.invariant-loop-s
invariant-loop-s l =
    (l.at ≡ start l.sizes l.s)
    × Entries l.k l.tolerance l.sizes l.ids l.weights l.s l.lens l.values l.backends l.stairs l.counts l.ends
