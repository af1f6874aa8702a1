-- The part of a list between two positions, for any two: one element more, none left, its length, its end past the list's, and a part of the part.
use mathlib.Core.Path.{◌≡◌, ◌∙◌, ap, sym}
use mathlib.Core.List.{List, [], ◌∷◌}
use Prim.Native.Nat.{ℕ, zero, suc, ◌+◌, ◌-◌, min, ◌≤◌, ◌<◌}
use native.Mathlib.Nat.{zero-min, suc-min-suc}
use native.Mathlib.Numerals.{add-one}
use native.Mathlib.Omega.{arith}
use lib.ListN.{length, get_or, take, drop, length-take, length-drop, drop_of_length-le}
use lib.Seq.{slice, take-nil, drop-cons, get_or-take, drop-drop, take-take, take-add, drop_at, length-take-le}

pub slice-more : (f t : ℕ) (l : List ℕ) → f < t → f < length l → slice f t l ≡ get_or l f 0 ∷ slice (f + 1) t l
slice-more f t l h k =
    let inside : f < length (take t l) = omega (arith, length-take t l) in
    drop-cons (take t l) f 0 inside ∙ rw (get_or-take t l f 0 h, add-one f)

pub slice-none : (f t : ℕ) (l : List ℕ) → min t (length l) ≤ f → slice f t l ≡ []
slice-none f t l h = drop_of_length-le (take t l) {i = f} (omega (arith, length-take t l))

pub slice-length : (f t : ℕ) (l : List ℕ) → length (slice f t l) ≡ min t (length l) - f
slice-length f t l = length-drop f (take t l) ∙ rw (length-take t l)

-- what is left of a part after its first n elements
pub slice-drop : (f t n : ℕ) (l : List ℕ) → drop n (slice f t l) ≡ slice (f + n) t l
slice-drop f t n l = drop-drop n f (take t l)

-- the first n elements of a part
pub slice-take : (f t n : ℕ) (l : List ℕ) → f + n ≤ t → f ≤ length l → take n (slice f t l) ≡ slice f (f + n) l
slice-take f t n l h k =
    let long : length (take f (take t l)) ≡ f = length-take-le f (take t l) (omega (arith, length-take t l)) in
    sym (drop_at (take f (take t l)) (take n (slice f t l)) f long)
    ∙ ap (drop f) (sym (take-add f n (take t l)) ∙ take-take (f + n) t l h)

-- a part that is to end past the list ends with it
pub slice-end : (f t e : ℕ) (l : List ℕ) → e ≡ min t (length l) → slice f t l ≡ slice f e l
slice-end f t e l h = rw h (ap (drop f) (sym (take_min t l)))
  where
    take_min : (n : ℕ) (m : List ℕ) → take (min n (length m)) m ≡ take n m
    take_min n [] = take-nil (min n 0) ∙ sym (take-nil n)
    take_min zero (x ∷ m) = rw zero-min
    take_min (suc n) (x ∷ m) = rw suc-min-suc (ap (λ (r : List ℕ). x ∷ r) (take_min n m))
