-- Demand 3 of a table and its total, by the count of first match over its lines alone.
use Rattle.std.specs.Prelude.{ℕ, suc, ◌+◌, ◌≤◌, ◌<◌, ◌≡◌, List, length}
use Rattle.numerals.specs.Sums.{sum_to}
use Rattle.expansion.specs.Steps.{end_of}
use Rattle.expansion.specs.declared.rule.Ended.TheVariants.{NoGain}
use Rattle.packing.specs.Grants.{Grants}
use Rattle.packing.specs.Count.{Line, Services, services, counted, counted_largest_excess, counted_largest_shortfall, own_rules}
use Rattle.packing.specs.Table.{frame_of, list_for, table}

-- grants of at least the least grant to each service and at most the capacity in all
pub record Fitting (S : Services) (least : Grants) (capacity : ℕ) (g : Grants) : Type 0 where
  pub enough : (s : ℕ) → s < services S → least s ≤ g s
  pub room : sum_to (services S) g ≤ capacity

-- what the total t and the lines ls have to be
pub record Demand (S : Services) (tolerance : ℕ) (least : Grants) (capacity t : ℕ) (ls : List Line) : Type 0 where
  -- the total is the counted one
  pub total : t ≡ counted S ls
  -- the lines are the table of fitting grants
  pub grants : Grants
  pub fitting : Fitting S least capacity grants
  pub lines : ls ≡ table S tolerance grants
  -- any other fitting grants have at least as large a total
  pub best : (h : Grants) → Fitting S least capacity h → t ≤ counted S (table S tolerance h)
  -- a service with its whole list in the table, where that ended as no gain, has a largest excess and a largest shortfall of at most one suffix together
  pub fine :
      (s : ℕ) → s < services S → length (own_rules (suc s) ls) ≡ length (list_for S tolerance s)
      → end_of (frame_of S tolerance s) (list_for S tolerance s) ≡ NoGain
      → counted_largest_excess S ls s + counted_largest_shortfall S ls s ≤ S.unit
