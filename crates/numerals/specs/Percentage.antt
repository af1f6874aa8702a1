-- A percentage (document 01, "Units and limits"): a whole part of 1 to 3 digits without leading zeros and, optionally, a dot and 1 to d digits; at
-- most 100. It stands for a whole number of parts, 10 ^ d of them one percent: with d = 4, as in document 01, they are millionths, with d = 6
-- hundred-millionths (document 02, Req 07).
use Rattle.std.specs.Prelude.{ℕ, ◌+◌, ◌-◌, ◌*◌, ◌^◌, Bool, List, [], ◌∷◌, leb, ltb, length, get_or, None, Option, Some}
use Rattle.numerals.specs.Pick.{pick, both}
use Rattle.numerals.specs.Digits.{all_digits, value, on_value}
use Rattle.numerals.specs.Decimal.{number}
use Rattle.numerals.specs.Text.{split}

-- the digits after the dot, in parts
unfoldable pub fraction : ℕ → List ℕ → Option ℕ
fraction d bs =
    pick (both (ltb 0 (length bs)) (both (leb (length bs) d) (all_digits 10 bs))) (Some (value 10 bs * 10 ^ (d - length bs))) None

-- at most 100 percent
unfoldable pub at_most_all : ℕ → ℕ → Option ℕ
at_most_all d v = pick (leb v (100 * 10 ^ d)) (Some v) None

-- what stands between the dots
unfoldable pub percent_of : ℕ → List (List ℕ) → Option ℕ
percent_of d [] = None
percent_of d (w ∷ []) = on_value (number 0 999 w) (λ v. at_most_all d (v * 10 ^ d))
percent_of d (w ∷ f ∷ []) = on_value (number 0 999 w) (λ v. on_value (fraction d f) (λ u. at_most_all d (v * 10 ^ d + u)))
percent_of d (w ∷ f ∷ g ∷ gs) = None

unfoldable pub percentage : ℕ → List ℕ → Option ℕ
percentage d bs = percent_of d (split 46 bs)

-- at most d decimals: so many bytes stand behind the first dot, up to the next
unfoldable pub few_decimals : ℕ → List ℕ → Bool
few_decimals d bs = leb (length (get_or (split 46 bs) 1 [])) d
