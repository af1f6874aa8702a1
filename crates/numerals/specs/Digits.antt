-- Digits of a base up to ten as bytes, the highest first: which bytes are digits, their value, and a number's lowest digits.
use Rattle.std.specs.Prelude.{ℕ, zero, suc, ◌+◌, ◌-◌, ◌*◌, ◌/◌, ◌%◌, Bool, true, List, [], ◌∷◌, ◌++◌, leb, ltb, length, Err, None, Ok, Option, Result, Some}
use Rattle.numerals.specs.Pick.{pick, both}
use Rattle.numerals.specs.Refusals.{no7}
use Rattle.numerals.specs.Buffer.{filled}
use Rattle.numerals.specs.declared.refusal.Refusal.{Refusal}

-- the byte b is a digit of the base: 48 is '0'
unfoldable pub is_digit : ℕ → ℕ → Bool
is_digit base b = both (leb 48 b) (ltb b (48 + base))

-- every byte is a digit of the base
unfoldable pub all_digits : ℕ → List ℕ → Bool
all_digits base [] = true
all_digits base (b ∷ bs) = both (is_digit base b) (all_digits base bs)

-- the number that v is once the digits bs are written after it
unfoldable pub value_from : ℕ → ℕ → List ℕ → ℕ
value_from base v [] = v
value_from base v (b ∷ bs) = value_from base (v * base + (b - 48)) bs

-- the number that digits are
unfoldable pub value : ℕ → List ℕ → ℕ
value base bs = value_from base 0 bs

-- the l lowest digits of n
unfoldable pub lowest : ℕ → ℕ → ℕ → List ℕ
lowest base zero n = []
lowest base (suc l) n = lowest base l (n / base) ++ (48 + n % base) ∷ []

-- what follows a number that was read
unfoldable pub on_value : Option ℕ → (ℕ → (Option ℕ)) → Option ℕ
on_value (Some v) f = f v
on_value None f = None

-- a lent buffer after the text bs was to be written into it at a position: where bs fits, its bytes from there on, and nothing else changed; where it
-- doesn't, the buffer as it was
unfoldable pub put : List ℕ → ℕ → List ℕ → List ℕ
put out at bs = filled (leb (at + length bs) (length out)) out at bs

-- the answer of that: the position behind the text, or refusal 7
unfoldable pub put_end : List ℕ → ℕ → List ℕ → Result ℕ Refusal
put_end out at bs = pick (leb (at + length bs) (length out)) (Ok (at + length bs)) (Err no7)
