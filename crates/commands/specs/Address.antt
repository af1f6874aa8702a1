-- An address as an operator writes it: a number of 32 bits, or a dotted quad.
use Rattle.std.specs.Prelude.{ℕ, ◌+◌, ◌*◌, List, [], ◌∷◌, None, Option, Some}
use Rattle.numerals.specs.Digits.{on_value}
use Rattle.numerals.specs.Decimal.{number}
use Rattle.numerals.specs.Text.{split}
use Rattle.commands.specs.Numeral.{numeral}

-- the largest address
abbrev pub address_limit : ℕ
address_limit = 4294967295

-- a number of 8 bits
unfoldable pub byte : List ℕ → Option ℕ
byte bs = number 0 255 bs

-- four bytes, the first the highest
unfoldable pub quad : List (List ℕ) → Option ℕ
quad [] = None
quad (a ∷ []) = None
quad (a ∷ b ∷ []) = None
quad (a ∷ b ∷ c ∷ []) = None
quad (a ∷ b ∷ c ∷ d ∷ []) =
    on_value (byte a) (λ w. on_value (byte b) (λ x. on_value (byte c) (λ y. on_value (byte d) (λ z. Some (((w * 256 + x) * 256 + y) * 256 + z)))))
quad (a ∷ b ∷ c ∷ d ∷ e ∷ fs) = None

-- the first reading, or the second where the first is none
unfoldable pub or_else : Option ℕ → Option ℕ → Option ℕ
or_else (Some v) other = Some v
or_else None other = other

-- a numeral of any length, or a dotted quad
unfoldable pub address_of : List ℕ → Option ℕ
address_of bs = or_else (numeral bs) (quad (split 46 bs))
