-- A start that no list can end within from: a move changes the shares of two backends, so too many beyond the tolerance are too many for the rules
-- that may still be added.
use Rattle.std.specs.Prelude.{ℕ, ◌+◌, ◌*◌, ◌^◌, Bool, true, List, ltb, get_or}
use Rattle.numerals.specs.Limits.{unit}
use Rattle.numerals.specs.Pick.{pick}
use Rattle.numerals.specs.Sums.{count_to}

-- what a backend has and what it wants are more than the slack apart
abbrev pub is_apart : ℕ → ℕ → ℕ → Bool
is_apart has wants slack = pick (ltb (wants + slack) has) true (ltb (has + slack) wants)

-- of the first n backends, by their weights and shares, how many are beyond the tolerance
abbrev pub beyond_to : ℕ → ℕ → List ℕ → List ℕ → ℕ → ℕ
beyond_to k tolerance ws shares n = count_to n (λ b. is_apart (get_or shares b 0 * unit) (get_or ws b 0 * 2 ^ k) (tolerance * 2 ^ k))
