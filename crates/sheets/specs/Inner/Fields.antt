-- What a line has from a field on.
use Rattle.std.specs.Prelude.{ℕ, ◌≤◌, ◌<◌, ◌≡◌, List, [], length, drop}
use Rattle.numerals.specs.Text.{split}

-- what a line has from field n, from 0, on: this field and those behind it, and nothing if the line has no such field
pub record IsRest (line : List ℕ) (n : ℕ) (part : List ℕ) : Type 0 where
  pub none : length (split 32 line) ≤ n → part ≡ []
  pub rest : n < length (split 32 line) → split 32 part ≡ drop n (split 32 line)
