-- Laws of sums and counts over the numbers below n.
use Prim.Native.Nat.{ℕ, zero, suc, ◌+◌, ◌*◌, ◌≤◌, ◌<◌}
use mathlib.Core.Bool.{Bool, true, false}
use mathlib.Core.List.{List, [], ◌∷◌, ◌++◌}
use mathlib.Core.Logic.{◌≢◌}
use mathlib.Core.Path.{◌≡◌, refl, ap, sym, ◌∙◌}
use native.Mathlib.Decide.{ℕ_discrete}
use native.Mathlib.Nat.{add-zero, add-suc, zero-mul, mul-one}
use native.Mathlib.Numerals.{add-one}
use native.Mathlib.Omega.{arith}
use lib.Dec.{eqb}
use lib.ListN.{length, get_or, take, length-append}
use lib.Seq.{take-suc}
use borrow.Author.Tests.{eq-eqb, ne_eqb}
use Rattle.numerals.specs.Pick.{pick}
use Rattle.numerals.specs.Sums.{sum_to, list_to, count_to}

pub sum-none : (f : ℕ → ℕ) → sum_to 0 f ≡ 0
unfolding sum_to
sum-none f = refl

pub sum-suc : (n : ℕ) (f : ℕ → ℕ) → sum_to (suc n) f ≡ sum_to n f + f n
unfolding sum_to
sum-suc n f = refl

-- one part more, as a loop counts
pub sum-next : (n : ℕ) (f : ℕ → ℕ) → sum_to (n + 1) f ≡ sum_to n f + f n
sum-next n f = rw (add-one n) (sum-suc n f)

pub sum-ext : (n : ℕ) (f g : ℕ → ℕ) → ((i : ℕ) → i < n → f i ≡ g i) → sum_to n f ≡ sum_to n g
unfolding sum_to
sum-ext zero f g h = refl
sum-ext (suc n) f g h = omega (arith, sum-ext n f g (λ i l. h i (omega arith)), h n (omega arith))

pub sum-le : (n : ℕ) (f g : ℕ → ℕ) → ((i : ℕ) → i < n → f i ≤ g i) → sum_to n f ≤ sum_to n g
unfolding sum_to
sum-le zero f g h = omega arith
sum-le (suc n) f g h = omega (arith, sum-le n f g (λ i l. h i (omega arith)), h n (omega arith))

pub sum-add : (n : ℕ) (f g : ℕ → ℕ) → sum_to n (λ i. f i + g i) ≡ sum_to n f + sum_to n g
unfolding sum_to
sum-add zero f g = refl
sum-add (suc n) f g = omega (arith, sum-add n f g)

-- by a factor
pub sum-mul : (n : ℕ) (f : ℕ → ℕ) (c : ℕ) → sum_to n (λ i. f i * c) ≡ sum_to n f * c
unfolding sum_to
sum-mul zero f c = sym (zero-mul c)
sum-mul (suc n) f c = omega (arith, sum-mul n f c)

pub sum-const : (n c : ℕ) → sum_to n (λ i. c) ≡ n * c
unfolding sum_to
sum-const zero c = sym (zero-mul c)
sum-const (suc n) c = omega (arith, sum-const n c)

pub sum-most : (n : ℕ) (f : ℕ → ℕ) (c : ℕ) → ((i : ℕ) → i < n → f i ≤ c) → sum_to n f ≤ n * c
sum-most n f c h = omega (arith, sum-le n f (λ i. c) h, sum-const n c)

pub sum-zero : (n : ℕ) (f : ℕ → ℕ) → ((i : ℕ) → i < n → f i ≡ 0) → sum_to n f ≡ 0
unfolding sum_to
sum-zero zero f h = refl
sum-zero (suc n) f h = omega (arith, sum-zero n f (λ i l. h i (omega arith)), h n (omega arith))

-- each part is at most the sum
pub sum-at : (n : ℕ) (f : ℕ → ℕ) (i : ℕ) → i < n → f i ≤ sum_to n f
unfolding sum_to
sum-at zero f i l = omega arith
sum-at (suc n) f i l = go (ℕ_discrete i n) (sum-at n f i)
  where
    go : Dec (i ≡ n) → (i < n → f i ≤ sum_to n f) → f i ≤ sum_to n f + f n
    go (yes e) ih = omega (arith, ap f e)
    go (no d) ih = omega (arith, ih (omega arith))

-- functions that differ at one number only
pub sum_one : (n : ℕ) (f g : ℕ → ℕ) (j : ℕ) → j < n → ((i : ℕ) → i < n → i ≢ j → f i ≡ g i)
    → sum_to n f + g j ≡ sum_to n g + f j
unfolding sum_to
sum_one zero f g j l h = omega arith
sum_one (suc n) f g j l h = go (ℕ_discrete j n) (λ m. sum_one n f g j m (λ i k. h i (omega arith)))
  where
    go : Dec (j ≡ n) → (j < n → sum_to n f + g j ≡ sum_to n g + f j) → sum_to n f + f n + g j ≡ sum_to n g + g n + f j
    go (yes e) ih = omega (arith, ap f e, ap g e, sum-ext n f g (λ i m. h i (omega arith) (omega arith)))
    go (no d) ih = omega (arith, h n (omega arith) (omega arith), ih (omega arith))

-- functions that differ at two numbers only
pub sum-two : (n : ℕ) (f g : ℕ → ℕ) (j l : ℕ) → j < n → l < n → j ≢ l
    → ((i : ℕ) → i < n → i ≢ j → i ≢ l → f i ≡ g i)
    → sum_to n f + (g j + g l) ≡ sum_to n g + (f j + f l)
sum-two n f g j l hj hl d h =
    let f-mid : sum_to n f + mid j ≡ sum_to n mid + f j = sum_one n f mid j hj (λ i m c. sym (other i c)) in
    let mid-g : sum_to n mid + g l ≡ sum_to n g + mid l = sum_one n mid g l hl (λ i m c. to-g i m c (ℕ_discrete i j)) in
    omega (arith, same j refl, other l (λ e. d (sym e)))
  where
    mid : ℕ → ℕ
    mid i = pick (eqb i j) (g i) (f i)

    same : (i : ℕ) → i ≡ j → mid i ≡ g i
    same i e = ap (λ (t : Bool). pick t (g i) (f i)) (eq-eqb i j e)

    other : (i : ℕ) → i ≢ j → mid i ≡ f i
    other i c = ap (λ (t : Bool). pick t (g i) (f i)) (ne_eqb i j c)

    to-g : (i : ℕ) → i < n → i ≢ l → Dec (i ≡ j) → mid i ≡ g i
    to-g i m c (yes e) = same i e
    to-g i m c (no e) = other i e ∙ h i m e c

-- the order of two sums
pub sum-swap : (n m : ℕ) (f : ℕ → ℕ → ℕ) → sum_to n (λ i. sum_to m (λ j. f i j)) ≡ sum_to m (λ j. sum_to n (λ i. f i j))
unfolding sum_to
sum-swap zero m f = sym (sum-zero m (λ j. 0) (λ j l. refl))
sum-swap (suc n) m f = omega (arith, sum-swap n m f, sum-add m (λ j. sum_to n (λ i. f i j)) (λ j. f n j))

-- a sum in two stretches
pub sum-split : (n m : ℕ) (f : ℕ → ℕ) → sum_to (n + m) f ≡ sum_to n f + sum_to m (λ i. f (n + i))
unfolding sum_to
sum-split n zero f = ap (λ (x : ℕ). sum_to x f) (add-zero n) ∙ sym (add-zero (sum_to n f))
sum-split n (suc m) f = ap (λ (x : ℕ). sum_to x f) (add-suc n m) ∙ omega (arith, sum-split n m f)

-- what a test adds to a count
abbrev pub bit : Bool → ℕ
bit t = pick t 1 0

pub count-suc : (n : ℕ) (t : ℕ → Bool) → count_to (suc n) t ≡ count_to n t + pick (t n) 1 0
unfolding count_to sum_to
count-suc n t = refl

pub count-ext : (n : ℕ) (s t : ℕ → Bool) → ((i : ℕ) → i < n → s i ≡ t i) → count_to n s ≡ count_to n t
unfolding count_to
count-ext n s t h = sum-ext n (λ i. pick (s i) 1 0) (λ i. pick (t i) 1 0) (λ i l. ap bit (h i l))

pub one-most : (t : Bool) → pick t 1 0 ≤ 1
one-most true = omega arith
one-most false = omega arith

pub count-le : (n : ℕ) (t : ℕ → Bool) → count_to n t ≤ n
unfolding count_to
count-le n t = omega (arith, sum-le n (λ i. pick (t i) 1 0) (λ i. 1) (λ i l. one-most (t i)), sum-const n 1)

pub count-const : (n : ℕ) (t : Bool) → count_to n (λ i. t) ≡ pick t n 0
unfolding count_to
count-const n true = sum-const n 1 ∙ mul-one n
count-const n false = sum-zero n (λ i. 0) (λ i l. refl)

-- exactly one number passes
pub count-single : (n : ℕ) (t : ℕ → Bool) (j : ℕ) → j < n → t j ≡ true → ((i : ℕ) → i < n → i ≢ j → t i ≡ false)
    → count_to n t ≡ 1
unfolding count_to
count-single n t j l p h =
    omega (
      arith,
      sum_one n (λ i. pick (t i) 1 0) (λ i. 0) j l (λ i m d. ap bit (h i m d)),
      ap bit p,
      sum-zero n (λ i. 0) (λ i m. refl),
    )

-- a count that isn't zero has a number that passes
pub count-some : (n : ℕ) (t : ℕ → Bool) → 0 < count_to n t → (i : ℕ) × (i < n) × (t i ≡ true)
unfolding count_to sum_to
count-some zero t h = absurd (omega arith)
count-some (suc n) t h = go (t n) refl (count-some n t)
  where
    go : (b : Bool) → t n ≡ b → (0 < count_to n t → (i : ℕ) × (i < n) × (t i ≡ true)) → (i : ℕ) × (i < suc n) × (t i ≡ true)
    go true e ih = (n, omega arith, e)
    go false e ih =
        let r = ih (omega (arith, ap bit e)) in
        (r.0, omega (arith, r.1), r.2)

-- a listing of values

pub length-list : (n : ℕ) (f : ℕ → ℕ) → length (list_to n f) ≡ n
unfolding list_to
length-list zero f = refl
length-list (suc n) f = omega (arith, length-append (list_to n f) (f n ∷ []), length-list n f)

get_d_front : (xs ys : List ℕ) (i d : ℕ) → i < length xs → get_or (xs ++ ys) i d ≡ get_or xs i d
get_d_front [] ys i d l = absurd (omega arith)
get_d_front (x ∷ xs) ys zero d l = refl
get_d_front (x ∷ xs) ys (suc i) d l = get_d_front xs ys i d (omega arith)

get_or-end : (xs : List ℕ) (x d : ℕ) → get_or (xs ++ x ∷ []) (length xs) d ≡ x
get_or-end [] x d = refl
get_or-end (y ∷ xs) x d = get_or-end xs x d

pub list_at : (n : ℕ) (f : ℕ → ℕ) (i d : ℕ) → i < n → get_or (list_to n f) i d ≡ f i
unfolding list_to
list_at zero f i d l = absurd (omega arith)
list_at (suc n) f i d l = go (ℕ_discrete i n) (list_at n f i d)
  where
    go : Dec (i ≡ n) → (i < n → get_or (list_to n f) i d ≡ f i) → get_or (list_to n f ++ f n ∷ []) i d ≡ f i
    go (yes e) ih =
        ap (λ (x : ℕ). get_or (list_to n f ++ f n ∷ []) x d) (e ∙ sym (length-list n f)) ∙ get_or-end (list_to n f) (f n) d ∙ ap f (sym e)
    go (no m) ih = get_d_front (list_to n f) (f n ∷ []) i d (omega (arith, length-list n f)) ∙ ih (omega arith)

-- numbers that are f 0, f 1, .. are the listing
pub list-taken : (f : ℕ → ℕ) (xs : List ℕ) → ((i : ℕ) → i < length xs → get_or xs i 0 ≡ f i) → (n : ℕ) → n ≤ length xs → take n xs ≡ list_to n f
unfolding list_to
list-taken f xs h zero l = refl
list-taken f xs h (suc n) l = take-suc xs n 0 l ∙ rw (list-taken f xs h n (omega arith), h n l)

pub list-first : (f : ℕ → ℕ) (n m : ℕ) → n ≤ m → take n (list_to m f) ≡ list_to n f
list-first f n m l =
    list-taken f (list_to m f) (λ i k. list_at m f i 0 (omega (arith, length-list m f))) n (omega (arith, length-list m f))
