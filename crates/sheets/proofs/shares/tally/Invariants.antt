-- `shares::tally` meets its contract. The invariant: the suffixes below s are counted.
use mathlib.Core.Path.{◌≡◌}
use Rattle.packing.specs.Count.{own_rules}
use Rattle.sheets.specs.Inner.HeldTable.{lines_of}
use Rattle.sheets.proofs.Sharing.{given_to}
use Rattle.sheets.proofs.shares.tally.Given as goal

abbrev pub invariant-loop-s : goal.invariant-loop-s
invariant-loop-s l = l.held ≡ given_to (own_rules l.service (lines_of l.lines)) l.backend l.s
