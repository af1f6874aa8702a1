-- The decimal of n / 2^j, exactly.
use Rattle.std.specs.Prelude.{ℕ, zero, suc, ◌+◌, ◌*◌, ◌/◌, ◌%◌, ◌^◌, ◌<◌, List, [], ◌∷◌, ◌++◌, ◌≡◌, true, eqb, length}
use Rattle.numerals.specs.Pick.{pick}
use Rattle.numerals.specs.Digits.{all_digits, value}
use Rattle.numerals.specs.Decimal.{is_numeral, decimal}

-- the decimal digits of r / 2^j behind the dot, for an r below 2^j, by long division: ten times r / 2^(j + 1) is 5 × r / 2^j, whose whole part is the
-- next digit and whose remainder over 2^j has the others. At remainder 0 they end, so that the last one isn't 0
unfoldable pub decimals_of : ℕ → ℕ → List ℕ
decimals_of zero r = []
decimals_of (suc j) r = pick (eqb r 0) [] ((48 + 5 * r / 2 ^ j) ∷ decimals_of j (5 * r % 2 ^ j))

-- a dot before them, where there are any
unfoldable pub dotted : List ℕ → List ℕ
dotted [] = []
dotted (d ∷ ds) = 46 ∷ d ∷ ds

-- n / 2^j: its whole part, and its digits behind the dot
unfoldable pub dyadic_text : ℕ → ℕ → List ℕ
dyadic_text n j = decimal (n / 2 ^ j) ++ dotted (decimals_of j (n % 2 ^ j))

-- a text is n / 2^k as a decimal, exactly: a numeral and, behind a dot, where there are any, digits of which the last isn't 0. All its digits make a
-- number that is n / 2^k times ten to the number of digits behind the dot
pub record DecimalOf (text : List ℕ) (n k : ℕ) : Type 0 where
  pub whole : List ℕ
  pub decimals : List ℕ
  pub is : text ≡ whole ++ dotted decimals
  pub numeral : is_numeral whole ≡ true
  pub digits : all_digits 10 decimals ≡ true
  pub last : (ds : List ℕ) (d : ℕ) → decimals ≡ ds ++ d ∷ [] → 48 < d
  pub exact : value 10 (whole ++ decimals) * 2 ^ k ≡ n * 10 ^ length decimals
