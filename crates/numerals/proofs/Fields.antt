-- Fields and the search for their separator: a text is cut where the separator is first found, and a field that is free of it stands as it is.
use mathlib.Core.Path.{◌≡◌, refl, ◌∙◌, ap, sym}
use mathlib.Core.Bool.{Bool, true, false}
use mathlib.Core.List.{List, [], ◌∷◌, ◌++◌}
use Prim.Native.Nat.{ℕ, suc, ◌+◌, min, ◌≤◌, ◌<◌, zero-le}
use native.Mathlib.Omega.{arith}
use lib.Dec.{eqb}
use lib.ListN.{length, get_or, take, drop}
use lib.Seq.{slice, split_at, get_or-drop, get_or-take, take_all}
use borrow.Author.Tests.{eq-eqb, ne_eqb, eqb-true, eqb-false}
use Rattle.numerals.specs.Digits.{is_digit, all_digits}
use Rattle.numerals.specs.Text.{onto, split, index_of}
use Rattle.numerals.proofs.Choice.{by_less, both_left, both_right}
use Rattle.numerals.proofs.Base.{digit_low}
use Rattle.numerals.proofs.Slice.{slice-more, slice-none, slice-length, slice-drop, slice-take}

-- one byte more, which is the separator or isn't
pub index-here : {b c : ℕ} (bs : List ℕ) → b ≡ c → index_of c (b ∷ bs) ≡ 0
unfolding index_of
index-here {b} {c} bs e = rw (eq-eqb b c e, index_of)

pub index-later : {b c : ℕ} (bs : List ℕ) → (b ≡ c → ⊥) → index_of c (b ∷ bs) ≡ suc (index_of c bs)
unfolding index_of
index-later {b} {c} bs n = rw (ne_eqb b c n, index_of)

pub split-here : {b c : ℕ} (bs : List ℕ) → b ≡ c → split c (b ∷ bs) ≡ [] ∷ split c bs
unfolding split
split-here {b} {c} bs e = rw (eq-eqb b c e, split)

pub split-later : {b c : ℕ} (bs : List ℕ) → (b ≡ c → ⊥) → split c (b ∷ bs) ≡ onto b (split c bs)
unfolding split
split-later {b} {c} bs n = rw (ne_eqb b c n, split)

by_cases : {P : Type 0} (b c : ℕ) → (b ≡ c → P) → ((b ≡ c → ⊥) → P) → P
by_cases {P} b c same other = go (eqb b c) refl
  where
    go : (t : Bool) → eqb b c ≡ t → P
    go true e = same (eqb-true b c e)
    go false e = other (eqb-false b c e)

pub index-le : (c : ℕ) (bs : List ℕ) → index_of c bs ≤ length bs
unfolding index_of
index-le c [] = zero-le
index-le c (b ∷ bs) =
    let more : index_of c bs ≤ length bs = index-le c bs in
    by_cases b c (λ e. omega (arith, index-here bs e)) (λ n. omega (arith, index-later bs n))

onto-length : (b : ℕ) (ls : List (List ℕ)) → 1 ≤ length ls → length (onto b ls) ≡ length ls
unfolding onto
onto-length b [] h = omega arith
onto-length b (l ∷ ls) h = refl

-- the fields are at least one
pub split-some : (c : ℕ) (bs : List ℕ) → 1 ≤ length (split c bs)
unfolding split
split-some c [] = omega arith
split-some c (b ∷ bs) =
    let some : 1 ≤ length (split c bs) = split-some c bs in
    by_cases b c (λ e. omega (arith, ap length (split-here bs e)))
    (λ n. omega (arith, ap length (split-later bs n), onto-length b (split c bs) some))

-- the search for c from position i on
pub found : (c i t : ℕ) (s : List ℕ) → i < min t (length s) → get_or s i 0 ≡ c → index_of c (slice i t s) ≡ 0
found c i t s h e = rw (slice-more i t s (omega arith) (omega arith)) (index-here (slice (i + 1) t s) e)

pub passed : (c i t : ℕ) (s : List ℕ) → i < min t (length s) → (get_or s i 0 ≡ c → ⊥) → index_of c (slice i t s) ≡ suc (index_of c (slice (i + 1) t s))
passed c i t s h n = rw (slice-more i t s (omega arith) (omega arith)) (index-later (slice (i + 1) t s) n)

pub ended : (c i t : ℕ) (s : List ℕ) → min t (length s) ≤ i → index_of c (slice i t s) ≡ 0
unfolding index_of
ended c i t s h = rw (slice-none i t s h)

-- the number of fields from position i on
pub count-more : (c i t : ℕ) (s : List ℕ) → i < min t (length s) → get_or s i 0 ≡ c
    → length (split c (slice i t s)) ≡ suc (length (split c (slice (i + 1) t s)))
count-more c i t s h e = rw (slice-more i t s (omega arith) (omega arith), split-here (slice (i + 1) t s) e)

pub count_same : (c i t : ℕ) (s : List ℕ) → i < min t (length s) → (get_or s i 0 ≡ c → ⊥)
    → length (split c (slice i t s)) ≡ length (split c (slice (i + 1) t s))
count_same c i t s h n =
    let rest = split c (slice (i + 1) t s) in
    rw (slice-more i t s (omega arith) (omega arith), split-later (slice (i + 1) t s) n)
    (onto-length (get_or s i 0) rest (split-some c (slice (i + 1) t s)))

pub count-end : (c i t : ℕ) (s : List ℕ) → min t (length s) ≤ i → length (split c (slice i t s)) ≡ 1
unfolding split
count-end c i t s h = rw (slice-none i t s h)

-- no byte of a text is c
abbrev pub Free : ℕ → List ℕ → Type 0
Free c [] = Unit
Free c (b ∷ bs) = (b ≡ c → ⊥) × Free c bs

-- digits are free of what stands before them among the bytes
pub free-digits : (base c : ℕ) (bs : List ℕ) → c < 48 → all_digits base bs ≡ true → Free c bs
unfolding all_digits
free-digits base c [] h d = tt
free-digits base c (b ∷ bs) h d =
    let low : 48 ≤ b = digit_low base b (both_left (is_digit base b) (all_digits base bs) d) in
    (λ e. omega arith, free-digits base c bs h (both_right (is_digit base b) (all_digits base bs) d))

pub free-append : (c : ℕ) (l m : List ℕ) → Free c l → Free c m → Free c (l ++ m)
free-append c [] m p q = q
free-append c (b ∷ l) m p q = (p.0, free-append c l m p.1 q)

pub free-index : (c : ℕ) (l rest : List ℕ) → Free c l → index_of c (l ++ c ∷ rest) ≡ length l
free-index c [] rest p = index-here rest refl
free-index c (b ∷ l) rest p = index-later (l ++ c ∷ rest) p.0 ∙ ap suc (free-index c l rest p.1)

pub free-split : (c : ℕ) (l rest : List ℕ) → Free c l → split c (l ++ c ∷ rest) ≡ l ∷ split c rest
unfolding onto
free-split c [] rest p = split-here rest refl
free-split c (b ∷ l) rest p = split-later (l ++ c ∷ rest) p.0 ∙ ap (onto b) (free-split c l rest p.1)

pub free-whole : (c : ℕ) (l : List ℕ) → Free c l → split c l ≡ l ∷ []
unfolding onto split
free-whole c [] p = refl
free-whole c (b ∷ l) p = split-later l p.0 ∙ ap (onto b) (free-whole c l p.1)

-- what stands before the first c is free of it, and what stands there is c
pub free-before : (c : ℕ) (bs : List ℕ) → Free c (take (index_of c bs) bs)
unfolding index_of
free-before c [] = tt
free-before c (b ∷ bs) =
    let more : Free c (take (index_of c bs) bs) = free-before c bs in
    by_cases b c (λ e. rw (index-here bs e) tt) (λ n. rw (index-later bs n) (n, more))

pub index-byte : (c : ℕ) (bs : List ℕ) → index_of c bs < length bs → get_or bs (index_of c bs) 0 ≡ c
index-byte c [] h = absurd (omega arith)
index-byte c (b ∷ bs) h =
    by_cases b c (λ e. rw (index-here bs e) e)
    (λ n. rw (index-later bs n) (index-byte c bs (omega (arith, index-later bs n))))

-- a text is cut where its separator first stands
pub cut_list : (c : ℕ) (bs : List ℕ) → index_of c bs < length bs
    → split c bs ≡ take (index_of c bs) bs ∷ split c (drop (suc (index_of c bs)) bs)
cut_list c bs h =
    let i = index_of c bs in
    let apart : bs ≡ take i bs ++ c ∷ drop (suc i) bs = split_at bs i 0 h ∙ rw (index-byte c bs h) in
    ap (split c) apart ∙ free-split c (take i bs) (drop (suc i) bs) (free-before c bs)

-- the same between two positions, cut at the position e that the search finds
module _ (c from to e : ℕ) (s : List ℕ) (k : to ≤ length s) (is : e ≡ from + index_of c (slice from to s)) where
  pub cut-byte : e < to → get_or s e 0 ≡ c
  cut-byte h =
      let i = index_of c (slice from to s) in
      let there : get_or (slice from to s) i 0 ≡ get_or s (from + i) 0 = get_or-drop from (take to s) i 0 ∙ get_or-take to s (from + i) 0 (omega arith) in
      rw is (sym there ∙ index-byte c (slice from to s) (omega (arith, slice-length from to s)))

  pub cut : e < to → split c (slice from to s) ≡ slice from e s ∷ split c (slice (e + 1) to s)
  cut h =
      let i = index_of c (slice from to s) in
      let next : from + suc i ≡ from + i + 1 = omega arith in
      cut_list c (slice from to s) (omega (arith, slice-length from to s))
      ∙ rw (slice-take from to i s (omega arith) (omega arith), slice-drop from to (suc i) s, next, is)

  pub cut-last : to ≤ e → split c (slice from to s) ≡ slice from to s ∷ []
  cut-last h =
      let part = slice from to s in
      let all : length part ≤ index_of c part = omega (arith, slice-length from to s) in
      free-whole c part (rw (take_all (index_of c part) part all) at (free-before c part))

  pub cut-le : from ≤ to → e ≤ to
  cut-le h = omega (arith, index-le c (slice from to s), slice-length from to s)

  pub cut-part : to ≤ e → slice from e s ≡ slice from to s
  cut-part h =
      by_less to from
      (λ l. slice-none from e s (omega (arith, index-le c (slice from to s), slice-length from to s)) ∙ sym (slice-none from to s (omega arith)))
      (λ l. let same : e ≡ to = omega (arith, cut-le l) in rw same)
