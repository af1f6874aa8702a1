-- lookup TABLE SERVICE ADDRESS: the backend of an address.
use Rattle.std.specs.Prelude.{ℕ, List, leb, Err, Ok, Result}
use Rattle.numerals.specs.Pick.{pick}
use Rattle.numerals.specs.Refusals.{no2}
use Rattle.sheets.specs.Calls.{refused_at, lookup_answer}
use Rattle.commands.specs.Said.{Said, prints, on_number}
use Rattle.commands.specs.Refused.{number_text, refused_text}
use Rattle.commands.specs.Numeral.{numeral}
use Rattle.commands.specs.Address.{address_limit, address_of}
use Rattle.sheets.specs.declared.answer.Refused.{Refused}

-- after the sheet's own refusals and 8, an address above 32 bits is 2
unfoldable pub looked_text : Result ℕ Refused → ℕ → List ℕ
looked_text (Err r) address = refused_text r
looked_text (Ok b) address = pick (leb address address_limit) (number_text b) (refused_text (refused_at no2 0))

unfoldable pub lookup_text : List ℕ → ℕ → ℕ → List ℕ
lookup_text table service address = looked_text (lookup_answer table service address) address

unfoldable pub lookup_says : List ℕ → List ℕ → List ℕ → Said
lookup_says table service address =
    on_number (numeral service) 2 (λ n. on_number (address_of address) 3 (λ a. prints (lookup_text table n a)))
