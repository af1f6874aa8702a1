-- Reading a text line by line (document 01, "Turned-back work"): what was read, or the refusal and its line; the first refusal is the answer.
use Rattle.std.specs.Prelude.{ℕ, Bool, true, false, List, [], ◌∷◌, eqb, get_or, None, Option, Some}
use Rattle.numerals.specs.Pick.{both}
use Rattle.numerals.specs.declared.refusal.Refusal.{Refusal}
use Rattle.numerals.specs.Refusals.{no2}

pub data Reading (A : Type 0) : Type 0 where
  got : A → Reading A
  refused : Refusal → ℕ → Reading A

-- what comes next, where something was read
unfoldable pub then : {A B : Type 0} → Reading A → (A → Reading B) → Reading B
then (got a) f = f a
then (refused why line) f = refused why line

-- refused at a line, unless the test passes
unfoldable pub unless : {A : Type 0} → Bool → Refusal → ℕ → Reading A → Reading A
unless true why line next = next
unless false why line next = refused why line

-- a field that was read as a number
unfoldable pub on_field : {A : Type 0} → Option ℕ → ℕ → (ℕ → Reading A) → Reading A
on_field (Some v) line f = f v
on_field None line f = refused no2 line

-- two texts are the same
unfoldable pub same : List ℕ → List ℕ → Bool
same [] [] = true
same [] (c ∷ cs) = false
same (b ∷ bs) [] = false
same (b ∷ bs) (c ∷ cs) = both (eqb b c) (same bs cs)

-- field i of a line, from 0
abbrev pub field : List (List ℕ) → ℕ → List ℕ
field fs i = get_or fs i []
