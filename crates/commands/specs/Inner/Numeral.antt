-- A number of the command line as the code keeps it, so that nothing wraps.
use Rattle.std.specs.Prelude.{ℕ, ◌+◌, min, Option, Some}
use Rattle.numerals.specs.Digits.{on_value}

-- a number, or one more than `most` for every number above that
unfoldable pub capped : ℕ → Option ℕ → Option ℕ
capped most n = on_value n (λ v. Some (min v (most + 1)))
