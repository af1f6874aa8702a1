-- The lines of a service spread over the suffixes, in the order of tree places: the backend of each.
use Rattle.std.specs.Prelude.{ℕ, ◌*◌, ◌^◌, ◌≤◌, ◌<◌, ◌≡◌, true, List, length, get_or, Err, Ok, Result}
use Rattle.numerals.specs.Limits.{most_suffixes}
use Rattle.numerals.specs.Pick.{pick}
use Rattle.numerals.specs.Suffix.{place}
use Rattle.expansion.specs.FirstMatch.{matches, first_match}
use Rattle.expansion.specs.declared.rule.Rule.{Rule}
use Rattle.sheets.specs.Reading.{got, refused}
use Rattle.sheets.specs.RuleSheet.{Table, is_line, read_table}
use Rattle.packing.specs.Count.{own_rules}
use Rattle.sheets.specs.Inner.TableNumbers.{line_at}
use Rattle.sheets.specs.declared.answer.Refused.{Refused}

-- n lines in numbers, four of each, in the limits of a rule line of k bits
pub record LinesOf (k : ℕ) (table : List ℕ) (n : ℕ) : Type 0 where
  pub room : 4 * n ≤ length table
  pub each : (i : ℕ) → i < n → is_line k (line_at table i) ≡ true

-- one rule more over the suffixes of k bits, by their tree places
pub record Covered (k : ℕ) (r : Rule) (holder holder' : List ℕ) : Type 0 where
  pub long : length holder' ≡ length holder
  pub at : (p : ℕ) → p < 2 ^ k → get_or holder' p 0 ≡ pick (matches r (place k p)) r.backend (get_or holder p 0)

-- the backend of each suffix by first match, by its tree place
pub record Spread (k : ℕ) (rs : List Rule) (holder : List ℕ) : Type 0 where
  pub long : length holder ≡ most_suffixes
  pub at : (p : ℕ) → p < 2 ^ k → get_or holder p 0 ≡ first_match rs (place k p)

-- what was loaded from a sheet's text
abbrev pub LoadedAs : List ℕ → ℕ → Result ℕ Refused → List ℕ → Type 0
LoadedAs text n (Ok k) holder = (t : Table) × (read_table text ≡ got t) × (t.k ≡ k) × Spread k (own_rules n t.lines) holder
LoadedAs text n (Err r) holder = (read_table text ≡ refused r.why r.line) × (length holder ≡ most_suffixes)
