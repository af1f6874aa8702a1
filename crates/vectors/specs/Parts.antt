-- The parts of a text that a byte separates, found by the position where they start; the fields of a text and its lines.
use Rattle.std.specs.Prelude.{ℕ, suc, ◌+◌, ◌-◌, min, List, [], ◌∷◌, length, get_or, drop}
use Rattle.numerals.specs.Text.{split, index_of}

-- the position behind the first c from a position on, or the end of the text
unfoldable pub behind : ℕ → ℕ → List ℕ → ℕ
behind c from s = min (suc (from + index_of c (drop from s))) (length s)

-- what stands from a position to the next c, or to the end
unfoldable pub part : ℕ → ℕ → List ℕ → List ℕ
part c from s = get_or (split c (drop from s)) 0 []

-- the fields of a text; an empty one has none
unfoldable pub fields : List ℕ → List (List ℕ)
fields [] = []
fields (b ∷ bs) = split 32 (b ∷ bs)

-- how many lines a text has: what stands behind the last LF is none
unfoldable pub lines : List ℕ → ℕ
lines s = length (split 10 s) - 1
