-- The parts of a text one after the other: the first, and what stands behind it.
use Prim.Native.Nat.{ℕ, zero, suc, ◌+◌, min, ◌≤◌}
use native.Mathlib.Nat.{zero-add}
use native.Mathlib.Omega.{arith}
use mathlib.Core.Path.{◌≡◌, refl, sym, ap, ◌∙◌}
use mathlib.Core.List.{List, [], ◌∷◌}
use lib.ListN.{length, get_or, take, drop, length-drop, drop_of_length-le}
use lib.Seq.{slice, take_all, take-length, drop-drop, drop-length}
use Rattle.numerals.specs.Text.{split, index_of}
use Rattle.numerals.proofs.Choice.{by_less}
use Rattle.numerals.proofs.Fields.{free-before, free-whole, cut_list}
use Rattle.vectors.specs.Parts.{behind, part}

-- a text without the separator is its only part
alone : (c : ℕ) (bs : List ℕ) → length bs ≤ index_of c bs → split c bs ≡ bs ∷ []
alone c bs h = free-whole c bs (rw (take_all (index_of c bs) bs h) at (free-before c bs))

first_part : (c : ℕ) (bs : List ℕ) → take (index_of c bs) bs ≡ get_or (split c bs) 0 []
first_part c bs =
    by_less (index_of c bs) (length bs) (λ h. rw (cut_list c bs h)) (λ h. take_all (index_of c bs) bs h ∙ rw (alone c bs h))

none-later : (j : ℕ) → get_or {A = List ℕ} ([] ∷ []) j [] ≡ []
none-later zero = refl
none-later (suc j) = refl

-- what the search finds in the tail t of a text ends the part
pub part-found : (c from e : ℕ) (s t : List ℕ) → t ≡ drop from s → e ≡ 0 + index_of c (slice 0 (length t) t) → take e t ≡ part c from s
unfolding part
part-found c from e s t h is =
    let whole : e ≡ index_of c t = is ∙ zero-add (index_of c (take (length t) t)) ∙ ap (index_of c) (take-length t) in
    rw whole (first_part c t ∙ rw h)

module _ (c from : ℕ) (s : List ℕ) where
  -- what stands behind the first c
  pub drop-behind : drop (behind c from s) s ≡ drop (suc (index_of c (drop from s))) (drop from s)
  unfolding behind
  drop-behind =
      let bs = drop from s in
      by_less (from + index_of c bs) (length s)
      (λ h. let inside : min (suc (from + index_of c bs)) (length s) ≡ from + suc (index_of c bs) = omega arith in
      rw inside (sym (drop-drop (suc (index_of c bs)) from s)))
      (λ h. let end : min (suc (from + index_of c bs)) (length s) ≡ length s = omega arith in
      rw (end, drop-length s) (sym (drop_of_length-le bs {i = suc (index_of c bs)} (omega (arith, length-drop from s)))))

  -- the position behind what the search finds
  pub behind-is : (e : ℕ) → e ≡ from + index_of c (slice from (length s) s) → behind c from s ≡ min (suc e) (length s)
  unfolding behind
  behind-is e is = rw (is, take-length s)

  -- the parts from behind the first c on are those from the second on
  pub next-part : (j : ℕ) → get_or (split c (drop (behind c from s) s)) j [] ≡ get_or (split c (drop from s)) (suc j) []
  unfolding split
  next-part j =
      let bs = drop from s in
      by_less (index_of c bs) (length bs)
      (λ h. rw (drop-behind, cut_list c bs h))
      (λ h. rw (drop-behind, drop_of_length-le bs {i = suc (index_of c bs)} (omega arith), alone c bs h) (none-later j))

-- the parts from a position on are those behind the first i
abbrev pub Walked : ℕ → List ℕ → ℕ → ℕ → Type 0
Walked c s i from = (j : ℕ) → get_or (split c (drop from s)) j [] ≡ get_or (split c s) (i + j) []

module _ (c : ℕ) (s : List ℕ) where
  pub walked_none : Walked c s 0 0
  walked_none j = ap (λ (k : ℕ). get_or (split c s) k []) (omega arith)

  pub walked_next : (i from next : ℕ) → Walked c s i from → next ≡ behind c from s → Walked c s (i + 1) next
  walked_next i from next w is j =
      rw is (next-part c from s j ∙ w (suc j) ∙ ap (λ (k : ℕ). get_or (split c s) k []) (omega arith))

  pub walked-part : (i from : ℕ) → Walked c s i from → part c from s ≡ get_or (split c s) i []
  unfolding part
  walked-part i from w = w 0 ∙ ap (λ (k : ℕ). get_or (split c s) k []) (omega arith)
