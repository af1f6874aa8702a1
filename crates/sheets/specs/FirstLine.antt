-- Line 1 of both sheets (document 01, "Percentage sheet" and "Rule sheet and program"): a word, k, and two fields with a form of their own. The
-- length of the whole text comes before it.
use Rattle.std.specs.Prelude.{ℕ, List, [], ◌∷◌, leb, eqb, length, Option}
use Rattle.numerals.specs.Decimal.{number}
use Rattle.numerals.specs.Text.{split}
use Rattle.numerals.specs.Limits.{most_bits, text_limit}
use Rattle.numerals.specs.Refusals.{no1, no11}
use Rattle.sheets.specs.Reading.{Reading, got, refused, unless, on_field, same, field}

-- what line 1 says, k in its field 1 behind the word and the numbers of fields 2 and 3, and the lines behind it
pub record Opening : Type 0 where
  pub k : ℕ
  pub second : ℕ
  pub third : ℕ
  pub behind : List (List ℕ)

-- its fields, from the left
unfoldable pub opening_fields : List ℕ → (List ℕ → (Option ℕ)) → (List ℕ → (Option ℕ)) → List (List ℕ) → List (List ℕ) → Reading Opening
opening_fields word second third fs behind =
    unless (same (field fs 0) word) no1 1
    (unless (eqb (length fs) 4) no1 1
    (on_field (number 1 most_bits (field fs 1)) 1 (λ k.
    on_field (second (field fs 2)) 1 (λ x.
    on_field (third (field fs 3)) 1 (λ y.
    got (record { k = k; second = x; third = y; behind = behind }))))))

-- a text by its lines: what stands behind the last LF, be it empty, is one, so that a lone line lacks its LF
unfoldable pub opening_lines : List ℕ → (List ℕ → (Option ℕ)) → (List ℕ → (Option ℕ)) → List (List ℕ) → Reading Opening
opening_lines word second third [] = refused no1 1
opening_lines word second third (l ∷ []) = refused no1 1
opening_lines word second third (l ∷ m ∷ ls) = opening_fields word second third (split 32 l) (m ∷ ls)

unfoldable pub first_line : List ℕ → (List ℕ → (Option ℕ)) → (List ℕ → (Option ℕ)) → List ℕ → Reading Opening
first_line word second third text =
    unless (leb (length text) text_limit) no11 0 (opening_lines word second third (split 10 text))
