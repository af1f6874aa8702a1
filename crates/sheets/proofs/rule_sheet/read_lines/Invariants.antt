-- `rule_sheet::read_lines` meets its contract. The invariant: the lines passed are kept, and what is left is read behind them.
use Prim.Native.Nat.{ℕ, ◌≤◌}
use mathlib.Core.Path.{◌≡◌}
use mathlib.Core.List.{List, []}
use lib.ListN.{length}
use Rattle.numerals.specs.Text.{split}
use Rattle.packing.specs.Count.{Line}
use Rattle.sheets.specs.declared.rule_sheet.TableHead.{TableHead}
use Rattle.sheets.specs.Inner.TableReader.{Passed, table_from}
use Rattle.sheets.specs.declared.order.Last.{Last}
use Rattle.sheets.proofs.rule_sheet.read_lines.Given as goal

-- the lines before these passed, and what the whole comes to is what the rest does behind them
pub record Reached (h : TableHead) (text rest : List ℕ) (last : Last) (tally table : List ℕ) : Type 0 where
  pub before : List Line
  pub passed : Passed h.k before last tally table
  pub whole : table_from h [] (split 10 text) ≡ table_from h before (split 10 rest)

abbrev pub invariant-loop-rest : goal.invariant-loop-rest
invariant-loop-rest l = (length l.rest ≤ length l.lines) × Reached l.head l.lines l.rest l.last l.tally l.table

abbrev pub decreases-loop-rest : goal.decreases-loop-rest
decreases-loop-rest l = length l.rest
