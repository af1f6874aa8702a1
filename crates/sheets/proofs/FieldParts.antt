-- The fields of a line one after the other: what stands between two positions, and what is left behind the first i fields.
use Prim.Native.Nat.{ℕ, ◌+◌, ◌-◌, ◌≤◌, ◌<◌}
use mathlib.Core.Path.{◌≡◌, ◌∙◌, ap, ap₂, sym}
use mathlib.Core.List.{List, [], ◌∷◌}
use native.Mathlib.Nat.{zero-add}
use native.Mathlib.Numerals.{add-one}
use native.Mathlib.Omega.{arith}
use lib.Dec.{leb}
use lib.ListN.{length, get_or, take, drop, length-drop}
use lib.Seq.{slice, drop-drop, get_or-drop, take_all, take-length}
use borrow.Author.Tests.{le-leb, lt-leb}
use Rattle.std.proofs.lemmas.List.{drop-take}
use Rattle.numerals.specs.Pick.{pick}
use Rattle.numerals.specs.Text.{split, index_of}
use Rattle.numerals.proofs.Choice.{by_less}
use Rattle.numerals.proofs.Fields.{cut, cut-last, cut-part, cut_list, free-before, free-whole}

-- a part that is cut out of a text by itself
pub part-slice : (from to : ℕ) (s : List ℕ) → from ≤ to → take (to - from) (drop from s) ≡ slice from to s
part-slice from to s h =
    let whole : from + (to - from) ≡ to = omega arith in
    sym (drop-take from (to - from) s) ∙ ap (λ (n : ℕ). drop from (take n s)) whole

-- what a search of all of a text finds
pub found-whole : (c e : ℕ) (s : List ℕ) → e ≡ 0 + index_of c (slice 0 (length s) s) → e ≡ index_of c s
found-whole c e s is = is ∙ zero-add (index_of c (take (length s) s)) ∙ ap (index_of c) (take-length s)

-- a text by the position e at which the search for the separator ends
module _ (c e : ℕ) (s : List ℕ) (is : e ≡ 0 + index_of c (slice 0 (length s) s)) where
  pub cut-first : e < length s → split c s ≡ take e s ∷ split c (drop (e + 1) s)
  cut-first h =
      let at = found-whole c e s is in
      cut_list c s (omega (arith, at)) ∙ rw (← at, add-one)

  pub cut-none : length s ≤ e → split c s ≡ s ∷ []
  cut-none h = free-whole c s (rw (take_all (index_of c s) s (omega (arith, found-whole c e s is))) at (free-before c s))

-- part s of a line of the fields fs is what it has from field i on
module _
    (c e i : ℕ)
    (s : List ℕ)
    (fs : List (List ℕ))
    (is : e ≡ 0 + index_of c (slice 0 (length s) s))
    (left : split c s ≡ drop i fs)
  where
    pub field-here : take e s ≡ get_or fs i []
    field-here =
        let first = λ (l : List (List ℕ)). get_or l 0 [] in
        let here : get_or (drop i fs) 0 [] ≡ get_or fs i [] = get_or-drop i fs 0 [] ∙ ap (λ (j : ℕ). get_or fs j []) (omega arith) in
        by_less e (length s) (λ h. sym (ap first (cut-first c e s is h)) ∙ ap first left ∙ here)
        (λ h. take_all e s h ∙ sym (ap first (cut-none c e s is h)) ∙ ap first left ∙ here)

    pub field_next : e < length s → split c (drop (e + 1) s) ≡ drop (i + 1) fs
    field_next h = sym (ap (drop 1) (cut-first c e s is h)) ∙ ap (drop 1) left ∙ drop-drop 1 i fs

    pub field-last : length s ≤ e → length fs ≡ i + 1
    field-last h = omega (arith, length-drop i fs, ap length left, ap length (cut-none c e s is h))

-- the fields from a position on, of which there are none behind the end
unfoldable pub fields_left : ℕ → ℕ → ℕ → List ℕ → List (List ℕ)
fields_left c at to s = pick (leb at to) (split c (slice at to s)) []

pub left-all : (c at to : ℕ) (s : List ℕ) → at ≤ to → fields_left c at to s ≡ split c (slice at to s)
unfolding fields_left
left-all c at to s h = rw (le-leb at to h)

pub left-none : (c at to : ℕ) (s : List ℕ) → to < at → fields_left c at to s ≡ []
unfolding fields_left
left-none c at to s h = rw (lt-leb at to h)

pub left-more :
    (c at to e : ℕ) (s : List ℕ) → at ≤ to → to ≤ length s → e ≡ at + index_of c (slice at to s)
    → fields_left c at to s ≡ slice at e s ∷ fields_left c (e + 1) to s
left-more c at to e s h k is =
    left-all c at to s h
    ∙ by_less e to
    (λ l. cut c at to e s k is l ∙ ap (λ (fs : List (List ℕ)). slice at e s ∷ fs) (sym (left-all c (e + 1) to s (omega arith))))
    (λ l. cut-last c at to e s k is l
    ∙ ap₂ (λ (f : List ℕ) (fs : List (List ℕ)). f ∷ fs) (sym (cut-part c at to e s k is l)) (sym (left-none c (e + 1) to s (omega arith))))
