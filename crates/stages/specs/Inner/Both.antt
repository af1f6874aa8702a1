-- What reading both sheets answers: the change that their tables are, spread over listings, or the refusal of every call on them.
use Rattle.std.specs.Prelude.{ℕ, ◌≡◌, true, List, ltb, eqb, Err, Ok, Result}
use Rattle.packing.specs.Count.{own_rules}
use Rattle.sheets.specs.Calls.{of_service, has_service}
use Rattle.sheets.specs.Reading.{got}
use Rattle.sheets.specs.RuleSheet.{Table, read_table}
use Rattle.stages.specs.Stages.{Change as Stages}
use Rattle.stages.specs.Calls.{of_sheets}
use Rattle.stages.specs.Inner.Spread.{Spread}
use Rattle.sheets.specs.declared.answer.Refused.{Refused}

-- by who has the suffix at place 0 in each table, where 0 is nobody, and by the two k
abbrev pub compared : ℕ → ℕ → ℕ → ℕ → Result ℕ Refused
compared first second k m = of_service Err (ltb 0 first) (ltb 0 second) (eqb k m) (Ok k)

-- two tables of k bits that both have service n, spread
pub record BothRead (old new : List ℕ) (n k : ℕ) (before after : List ℕ) : Type 0 where
  pub t : Table
  pub u : Table
  pub first : read_table old ≡ got t
  pub second : read_table new ≡ got u
  pub in_first : has_service t n ≡ true
  pub in_second : has_service u n ≡ true
  pub depth : t.k ≡ k
  pub alike : u.k ≡ k
  pub spread_first : Spread k (own_rules n t.lines) before
  pub spread_second : Spread k (own_rules n u.lines) after

abbrev pub BothAs : List ℕ → List ℕ → ℕ → Result ℕ Refused → List ℕ → List ℕ → Type 0
BothAs old new n (Ok k) before after = BothRead old new n k before after
BothAs old new n (Err r) before after = (f : Stages → (Result ℕ Refused)) → of_sheets old new n f ≡ Err r
