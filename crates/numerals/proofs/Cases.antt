-- Document 01's figures on percentages: P9 to P12, the further texts beside them, and those of document 02, Req 07, each read as it says. And suffixes
-- out of their limits, each turned back.
use Rattle.std.specs.Prelude.{Err, None, Option, Some}
use Prim.Native.Nat.{ℕ}
use mathlib.Core.Path.{◌≡◌, refl}
use mathlib.Core.List.{List, [], ◌∷◌}
use Rattle.numerals.specs.Digits.{is_digit, all_digits, value, value_from, on_value, lowest, put_end}
use Rattle.numerals.specs.Decimal.{no_leading_zero, is_numeral, number}
use Rattle.numerals.specs.Text.{onto, split}
use Rattle.numerals.specs.Limits.{decimals}
use Rattle.numerals.specs.Refusals.{no2, no7}
use Rattle.numerals.specs.Suffix.{is_suffix, suffix, suffix_text, put_suffix_end, suffix_place}
use Rattle.numerals.specs.Percentage.{fraction, at_most_all, percent_of, percentage}

pub record Case : Type 0 where
  pub text : List ℕ
  pub is : Option ℕ

abbrev reads : List ℕ → Option ℕ → Case
reads t n = record { text = t; is = n }

unfoldable pub cases : List Case
cases =
    -- P9: 18.4.2
    reads (49 ∷ 56 ∷ 46 ∷ 52 ∷ 46 ∷ 50 ∷ []) None
    -- P10: 100.0000
    ∷ reads (49 ∷ 48 ∷ 48 ∷ 46 ∷ 48 ∷ 48 ∷ 48 ∷ 48 ∷ []) (Some 100000000)
    -- P11: 100.0001
    ∷ reads (49 ∷ 48 ∷ 48 ∷ 46 ∷ 48 ∷ 48 ∷ 48 ∷ 49 ∷ []) None
    -- P12: 018.4
    ∷ reads (48 ∷ 49 ∷ 56 ∷ 46 ∷ 52 ∷ []) None
    -- 18.
    ∷ reads (49 ∷ 56 ∷ 46 ∷ []) None
    -- .4
    ∷ reads (46 ∷ 52 ∷ []) None
    -- Req 07: 18.40000, 18.4000000, 100.000000, 100.000001, and the least percentage that isn't 0
    ∷ reads (49 ∷ 56 ∷ 46 ∷ 52 ∷ 48 ∷ 48 ∷ 48 ∷ 48 ∷ []) (Some 18400000)
    ∷ reads (49 ∷ 56 ∷ 46 ∷ 52 ∷ 48 ∷ 48 ∷ 48 ∷ 48 ∷ 48 ∷ 48 ∷ []) None
    ∷ reads (49 ∷ 48 ∷ 48 ∷ 46 ∷ 48 ∷ 48 ∷ 48 ∷ 48 ∷ 48 ∷ 48 ∷ []) (Some 100000000)
    ∷ reads (49 ∷ 48 ∷ 48 ∷ 46 ∷ 48 ∷ 48 ∷ 48 ∷ 48 ∷ 48 ∷ 49 ∷ []) None
    ∷ reads (48 ∷ 46 ∷ 48 ∷ 48 ∷ 48 ∷ 48 ∷ 48 ∷ 49 ∷ []) (Some 1)
    -- nothing
    ∷ reads [] None
    -- 18.4
    ∷ reads (49 ∷ 56 ∷ 46 ∷ 52 ∷ []) (Some 18400000)
    ∷ []

abbrev pub AllRight : List Case → Type 0
AllRight [] = Unit
AllRight (c ∷ cs) = (percentage decimals c.text ≡ c.is) × AllRight cs

pub right : AllRight cases
unfolding cases percentage percent_of split onto number is_numeral no_leading_zero all_digits is_digit value value_from on_value fraction at_most_all
right = (refl, (refl, (refl, (refl, (refl, (refl, (refl, (refl, (refl, (refl, (refl, (refl, (refl, tt)))))))))))))

-- a k of 0 or 13, a suffix of 13 bits, and one of 2 bits whose value has 3: refusal 2, which comes before 7
pub record OutOfLimits : Type 0 where
  pub none : suffix 0 (42 ∷ []) ≡ None
  pub deep : suffix 13 (42 ∷ []) ≡ None
  pub long : put_suffix_end [] 0 13 0 ≡ Err no2
  pub large : put_suffix_end [] 0 2 4 ≡ Err no2
  pub short : put_suffix_end [] 0 2 3 ≡ Err no7
  pub long-place : suffix_place 13 0 ≡ None
  pub large-place : suffix_place 2 4 ≡ None

pub out-of-limits : OutOfLimits
unfolding suffix is_suffix put_suffix_end put_end suffix_place suffix_text lowest
out-of-limits = record { none = refl; deep = refl; long = refl; large = refl; short = refl; long-place = refl; large-place = refl }
