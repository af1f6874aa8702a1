-- Suffixes and tree places (document 01, "Suffixes and tree places"). A suffix is its number of bits and their value: the bits as a number, the last
-- bit lowest.
use Rattle.std.specs.Prelude.{ℕ, ◌^◌, ◌<◌, Bool, List, [], ◌∷◌, reverse, ◌≡◌, leb, ltb, eqb, length, get_or, Err, None, Option, Result, Some}
use Rattle.numerals.specs.Pick.{pick, both}
use Rattle.numerals.specs.Limits.{most_bits}
use Rattle.numerals.specs.Refusals.{no2}
use Rattle.numerals.specs.Digits.{all_digits, value, lowest, put, put_end}
use Rattle.numerals.specs.declared.refusal.Refusal.{Refusal}
use Rattle.numerals.specs.declared.suffixes.Suffix.{Suffix}

-- a suffix of at most k bits: a length in that limit, and a value that its l bits have
unfoldable pub is_suffix : ℕ → ℕ → ℕ → Bool
is_suffix k l v = both (leb l k) (ltb v (2 ^ l))

-- the text of the suffix of l bits: '*' and the bits
unfoldable pub suffix_text : ℕ → ℕ → List ℕ
suffix_text l v = 42 ∷ lowest 2 l v

-- a lent buffer after a suffix was to be written into it at a position: one out of its limits isn't written
unfoldable pub put_suffix : List ℕ → ℕ → ℕ → ℕ → List ℕ
put_suffix out at l v = pick (is_suffix most_bits l v) (put out at (suffix_text l v)) out

-- the answer of that: a number out of its limits is refusal 2, which comes before 7
unfoldable pub put_suffix_end : List ℕ → ℕ → ℕ → ℕ → Result ℕ Refusal
put_suffix_end out at l v = pick (is_suffix most_bits l v) (put_end out at (suffix_text l v)) (Err no2)

-- the suffix of at most k bits that a text is, k itself in its limits
unfoldable pub suffix : ℕ → List ℕ → Option Suffix
suffix k [] = None
suffix k (b ∷ bs) =
    pick (both (both (leb 1 k) (leb k most_bits)) (both (eqb b 42) (both (all_digits 2 bs) (leb (length bs) k))))
    (Some (record { len = length bs; value = value 2 bs }))
    None

-- the tree place of the suffix of l bits: its bits read from the last to the first as a binary number
unfoldable pub place : ℕ → ℕ → ℕ
place l v = value 2 (reverse (lowest 2 l v))

-- the answer to a length and a value: the place of the suffix that they are
unfoldable pub suffix_place : ℕ → ℕ → Option ℕ
suffix_place l v = pick (is_suffix most_bits l v) (Some (place l v)) None

-- a listing of the tree places of all suffixes of l bits, by their value
pub record Places (l : ℕ) (ps : List ℕ) : Type 0 where
  pub long : length ps ≡ 2 ^ l
  pub at : (v : ℕ) → v < 2 ^ l → get_or ps v 0 ≡ place l v
