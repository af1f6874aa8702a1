-- Numbers in texts (document 01, "Units and limits"): decimal, without leading zeros, a lone 0 allowed.
use Rattle.std.specs.Prelude.{ℕ, zero, suc, ◌/◌, Bool, true, false, not, List, [], ◌∷◌, leb, ltb, eqb, None, Option, Some}
use Rattle.numerals.specs.Pick.{pick, both}
use Rattle.numerals.specs.Digits.{all_digits, value, lowest}

-- something stands there, and no zero before other digits
unfoldable pub no_leading_zero : List ℕ → Bool
no_leading_zero [] = false
no_leading_zero (b ∷ []) = true
no_leading_zero (b ∷ c ∷ bs) = not (eqb b 48)

unfoldable pub is_numeral : List ℕ → Bool
is_numeral bs = both (no_leading_zero bs) (all_digits 10 bs)

-- the number from least to most that a text is
unfoldable pub number : ℕ → ℕ → List ℕ → Option ℕ
number least most bs =
    pick (both (is_numeral bs) (both (leb least (value 10 bs)) (leb (value 10 bs) most))) (Some (value 10 bs)) None

-- how many decimal digits n has, found in at most f steps
unfoldable pub width_in : ℕ → ℕ → ℕ
width_in zero n = 1
width_in (suc f) n = elim (ltb n 10) [ true ↦ 1 | false ↦ suc (width_in f (n / 10)) ]

unfoldable pub width : ℕ → ℕ
width n = width_in n n

-- the text of n
unfoldable pub decimal : ℕ → List ℕ
decimal n = lowest 10 (width n) n
