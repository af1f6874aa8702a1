-- A text is its lines and a line its fields: what stands between single separators, an empty field too.
use Rattle.std.specs.Prelude.{ℕ, suc, true, false, List, [], ◌∷◌, eqb}

-- b before the first of the fields
unfoldable pub onto : ℕ → List (List ℕ) → List (List ℕ)
onto b [] = (b ∷ []) ∷ []
onto b (l ∷ ls) = (b ∷ l) ∷ ls

-- the fields of a text that the byte c separates
unfoldable pub split : ℕ → List ℕ → List (List ℕ)
split c [] = [] ∷ []
split c (b ∷ bs) = elim (eqb b c) [ true ↦ [] ∷ split c bs | false ↦ onto b (split c bs) ]

-- where the byte c first stands, or the length where it doesn't
unfoldable pub index_of : ℕ → List ℕ → ℕ
index_of c [] = 0
index_of c (b ∷ bs) = elim (eqb b c) [ true ↦ 0 | false ↦ suc (index_of c bs) ]
