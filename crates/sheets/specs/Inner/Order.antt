-- What the program keeps of the lines of a rule sheet that it has passed, the last of them first: how that stands to the lines, and to a line behind them.
use Rattle.std.specs.Prelude.{ℕ, suc, ◌+◌, ◌≤◌, ◌≡◌, List, [], ◌∷◌, length, get_or, Err, Ok, Result}
use Rattle.numerals.specs.Limits.{most_services}
use Rattle.packing.specs.Count.{Line}
use Rattle.sheets.specs.Reading.{Reading, got, refused}
use Rattle.sheets.specs.RuleSheet.{count_of, placed}
use Rattle.sheets.specs.Inner.TableNumbers.{line}
use Rattle.sheets.specs.declared.order.Last.{Last}
use Rattle.numerals.specs.declared.refusal.Refusal.{Refusal}

-- how many lines there are, and the service and the suffix's length of the last
unfoldable pub last_of : List Line → Last
last_of [] = record { count = 0; service = 0; len = 0 }
last_of (l ∷ ls) = record { count = suc (length ls); service = l.service; len = l.rule.len }

-- that is kept, and the number of lines of each service
pub record Behind (before : List Line) (last : Last) (tally : List ℕ) : Type 0 where
  pub is : last ≡ last_of before
  pub places : length tally ≡ 1 + most_services
  pub tallied : (s : ℕ) → s ≤ most_services → get_or tally s 0 ≡ count_of s before

-- whether a line may stand behind these
unfoldable pub placing : List Line → Line → Reading (Unit {0})
placing before l = placed before l 0 (got tt)

-- what placing a line answers, and leaves
abbrev pub PlacedAs : List Line → Line → Result Last Refusal → List ℕ → Type 0
PlacedAs before l (Ok last) tally = (placing before l ≡ got tt) × Behind (l ∷ before) last tally
PlacedAs before l (Err why) tally = placing before l ≡ refused why 0

-- a line of this service and suffix length, behind any lines
abbrev pub Placing : Last → ℕ → ℕ → List ℕ → Result Last Refusal → List ℕ → Type 0
Placing last s l tally r tally' = (before : List Line) (v b : ℕ) → Behind before last tally → PlacedAs before (line s l v b) r tally'
