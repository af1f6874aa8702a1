-- The parts of a refusal's line.
use Prim.Native.Nat.{ℕ}
use mathlib.Core.Path.{◌≡◌}
use mathlib.Core.List.{List, [], ◌∷◌, ◌++◌, append_assoc}
use Rattle.numerals.specs.Decimal.{decimal}
use Rattle.numerals.specs.Refusals.{number_of}
use Rattle.sheets.specs.Cases.{bytes}
use Rattle.sheets.specs.declared.answer.Refused.{Refused}
use Rattle.commands.specs.Refused.{number_text, refusal, refused_of_text}

-- REFUSED and a space
abbrev pub word : List ℕ
word = 82 ∷ 69 ∷ 70 ∷ 85 ∷ 83 ∷ 69 ∷ 68 ∷ 32 ∷ []

pub parts : (r : Refused) (c : ℕ) → word ++ ((decimal (number_of r.why) ++ 32 ∷ []) ++ (decimal r.line ++ c ∷ [])) ≡ refusal r ++ c ∷ []
unfolding refusal bytes
parts r c = simp append_assoc

pub parts-of : (r : Refused) → (refusal r ++ 32 ∷ []) ++ (decimal r.of ++ 10 ∷ []) ≡ refused_of_text r
unfolding refused_of_text number_text
parts-of r = simp append_assoc
