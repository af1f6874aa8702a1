-- Fields joined by a separator: a text is its fields joined, and fields that are free of the separator are those of their join.
use Prim.Native.Nat.{ℕ, zero, suc, ◌+◌, ◌≤◌}
use mathlib.Core.Path.{◌≡◌, refl, ap, ◌∙◌}
use mathlib.Core.List.{List, [], ◌∷◌, ◌++◌}
use native.Mathlib.Decide.{ℕ_discrete}
use native.Mathlib.Omega.{arith}
use lib.ListN.{length, drop, drop_of_length-le}
use lib.Seq.{drop-cons}
use Rattle.numerals.specs.Text.{onto, split}
use Rattle.numerals.proofs.Fields.{Free, split-here, split-later, split-some, free-split, free-whole, free-append}
use Rattle.sheets.specs.Reading.{field}

unfoldable pub join : ℕ → List (List ℕ) → List ℕ
join c [] = []
join c (f ∷ []) = f
join c (f ∷ g ∷ fs) = f ++ c ∷ join c (g ∷ fs)

pub join_more : (c : ℕ) (f : List ℕ) (fs : List (List ℕ)) → 1 ≤ length fs → join c (f ∷ fs) ≡ f ++ c ∷ join c fs
unfolding join
join_more c f [] h = absurd (omega arith)
join_more c f (g ∷ fs) h = refl

join-onto : (c b : ℕ) (fs : List (List ℕ)) → 1 ≤ length fs → join c (onto b fs) ≡ b ∷ join c fs
unfolding join onto
join-onto c b [] h = absurd (omega arith)
join-onto c b (f ∷ []) h = refl
join-onto c b (f ∷ g ∷ fs) h = refl

-- a text is its fields joined
pub join-split : (c : ℕ) (bs : List ℕ) → join c (split c bs) ≡ bs
unfolding split join
join-split c [] = refl
join-split c (b ∷ bs) = go (ℕ_discrete b c) (join-split c bs)
  where
    go : Dec (b ≡ c) → join c (split c bs) ≡ bs → join c (split c (b ∷ bs)) ≡ b ∷ bs
    go (yes e) ih = ap (join c) (split-here bs e) ∙ join_more c [] (split c bs) (split-some c bs) ∙ cc (e, ih)
    go (no n) ih = ap (join c) (split-later bs n) ∙ join-onto c b (split c bs) (split-some c bs) ∙ ap (λ (r : List ℕ). b ∷ r) ih

-- no field has the separator
abbrev pub AllFree : ℕ → List (List ℕ) → Type 0
AllFree c [] = Unit
AllFree c (f ∷ fs) = Free c f × AllFree c fs

pub split-join : (c : ℕ) (f : List ℕ) (fs : List (List ℕ)) → AllFree c (f ∷ fs) → split c (join c (f ∷ fs)) ≡ f ∷ fs
unfolding join
split-join c f [] h = free-whole c f h.0
split-join c f (g ∷ fs) h = free-split c f (join c (g ∷ fs)) h.0 ∙ ap (λ (r : List (List ℕ)). f ∷ r) (split-join c g fs h.1)

-- n fields from number i on
abbrev pub fields_from : List (List ℕ) → ℕ → ℕ → List (List ℕ)
fields_from fs i zero = []
fields_from fs i (suc n) = field fs i ∷ fields_from fs (suc i) n

-- all fields, by their number
pub by_number : (fs : List (List ℕ)) (i n : ℕ) → length fs ≡ i + n → drop i fs ≡ fields_from fs i n
by_number fs i zero h = drop_of_length-le fs {i = i} (omega arith)
by_number fs i (suc n) h =
    drop-cons fs i [] (omega arith) ∙ ap (λ (r : List (List ℕ)). field fs i ∷ r) (by_number fs (suc i) n (omega arith))

-- fields joined are free of what the fields are free of
pub join_free : (c d : ℕ) (fs : List (List ℕ)) → (c ≡ d → ⊥) → AllFree d fs → Free d (join c fs)
unfolding join
join_free c d [] n h = tt
join_free c d (f ∷ []) n h = h.0
join_free c d (f ∷ g ∷ fs) n h = free-append d f (c ∷ join c (g ∷ fs)) h.0 (n, join_free c d (g ∷ fs) n h.1)
