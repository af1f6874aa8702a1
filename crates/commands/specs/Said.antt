-- What a command comes to: the bytes that it prints on standard output, or a word of the call that is no numeral.
use Rattle.std.specs.Prelude.{ℕ, List, length, Err, None, Ok, Option, Result, Some}
use Rattle.std.proofs.lemmas.List.Edits.{sets}
use Rattle.commands.specs.declared.answer.NoNumber.{NoNumber}

-- no_number: by its place among the command's words, from 1
pub data Said : Type 0 where
  prints : List ℕ → Said
  no_number : ℕ → Said

-- what follows a word that is a number
unfoldable pub on_number : Option ℕ → ℕ → (ℕ → Said) → Said
on_number (Some n) place f = f n
on_number None place f = no_number place

-- the answer of the call
abbrev pub outcome : Said → Result ℕ NoNumber
outcome (prints bs) = Ok (length bs)
outcome (no_number p) = Err (record { place = p })

-- the lent buffer afterwards
abbrev pub filled : Said → List ℕ → List ℕ
filled (prints bs) out = sets out 0 bs
filled (no_number place) out = out
