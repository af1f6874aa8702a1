-- `tables::count_moved` meets its contract. The invariant: the suffixes below s that moved are counted.
use Prim.Native.Nat.{ℕ}
use mathlib.Core.Path.{◌≡◌}
use mathlib.Core.Bool.{Bool, not}
use lib.Dec.{eqb}
use Rattle.numerals.specs.Sums.{count_to}
use Rattle.expansion.specs.FirstMatch.{first_match}
use Rattle.packing.specs.Count.{own_rules}
use Rattle.sheets.specs.Inner.HeldTable.{lines_of}
use Rattle.sheets.specs.declared.rule_lines.TableLines.{TableLines}
use Rattle.sheets.proofs.tables.count_moved.Given as goal

abbrev pub differs : TableLines → TableLines → ℕ → ℕ → Bool
differs old new service v = not (eqb (first_match (own_rules service (lines_of old)) v) (first_match (own_rules service (lines_of new)) v))

abbrev pub invariant-loop-s : goal.invariant-loop-s
invariant-loop-s l = l.moved ≡ count_to l.s (differs l.old l.new l.service)
