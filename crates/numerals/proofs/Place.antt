-- Tree places, for suffixes of every length at once: one bit more at either end, two suffixes joined, and places as a permutation of the 2 ^ l
-- suffixes of l bits.
use mathlib.Core.Path.{◌≡◌, refl, sym, ap, ◌∙◌}
use mathlib.Core.List.{List, [], ◌∷◌, reverse, reverse-append}
use Prim.Native.Nat.{ℕ, zero, suc, ◌+◌, ◌-◌, ◌*◌, ◌/◌, ◌%◌, ◌^◌, ◌≤◌, ◌<◌}
use native.Mathlib.Nat.{add-mul, mul_assoc, pow-zero, pow-succ', mod-lt, mod-one, mod-eq_of_lt, div-eq_of_lt, div-one, add-sub_cancel_left, zero-mul}
use native.Mathlib.Nat.{mul-one, zero-add, add-zero, suc-add}
use native.Mathlib.Numerals.{add-one, one-add}
use native.Mathlib.Omega.{arith}
use lib.Arith.{digits_lt, digits_div, digits_mod}
use lib.ListN.{length, length-reverse}
use lib.Pow.{pow_pos, pow-add, shl-shr, shr-shr, high, low, mod-pow-add, mod-mod-pow, field}
use Rattle.numerals.specs.Digits.{value_from, value, lowest}
use Rattle.numerals.specs.Suffix.{place}
use Rattle.numerals.proofs.Base.{length-lowest}

-- digits written after v
value-cons : (base b : ℕ) (bs : List ℕ) → value base (b ∷ bs) ≡ value_from base (b - 48) bs
unfolding value_from value
value-cons base b bs = simp (zero-mul, zero-add)

value-from : (base v : ℕ) (bs : List ℕ) → value_from base v bs ≡ v * base ^ length bs + value base bs
unfolding value_from value
value-from base v [] = simp (pow-zero, mul-one, add-zero)
value-from base v (b ∷ bs) =
    let d = b - 48 in
    let p = base ^ length bs in
    let more : v * base ^ suc (length bs) ≡ v * base * p = ap (λ (x : ℕ). v * x) (pow-succ' base (length bs)) ∙ sym (mul_assoc v base p) in
    omega (arith, value-from base (v * base + d) bs, value-from base d bs, value-cons base b bs, add-mul (v * base) d p, more)

pub place-zero : (v : ℕ) → place 0 v ≡ 0
unfolding place lowest value value_from
place-zero v = refl

-- the last bit is the highest of the place
pub place-suc : (l v : ℕ) → place (suc l) v ≡ (v % 2) * 2 ^ l + place l (v / 2)
unfolding place lowest value
place-suc l v =
    let bits = lowest 2 l (v / 2) in
    let turned : reverse (lowest 2 (suc l) v) ≡ (48 + v % 2) ∷ reverse bits = reverse-append bits ((48 + v % 2) ∷ []) in
    let long : length (reverse bits) ≡ l = length-reverse bits ∙ length-lowest 2 l (v / 2) in
    ap (value 2) turned ∙ value-cons 2 (48 + v % 2) (reverse bits) ∙ value-from 2 (48 + v % 2 - 48) (reverse bits)
    ∙ rw (long, add-sub_cancel_left 48 (v % 2))

-- the suffix of the l lowest bits, with j bits before it
pub place-add : (l j v : ℕ) → place (l + j) v ≡ place l v * 2 ^ j + place j (v / 2 ^ l)
place-add zero j v = simp (zero-add, place-zero, zero-mul, div-one)
place-add (suc l) j v =
    let p = v % 2 * 2 ^ l in
    let there : v / 2 / 2 ^ l ≡ v / 2 ^ suc l = shr-shr v 1 l ∙ rw (one-add l) in
    let one : place (suc l + j) v ≡ v % 2 * 2 ^ (l + j) + place (l + j) (v / 2) = rw (suc-add l j) (place-suc (l + j) v) in
    let power : v % 2 * 2 ^ (l + j) ≡ p * 2 ^ j = ap (λ (x : ℕ). v % 2 * x) (pow-add 2 l j) ∙ sym (mul_assoc (v % 2) (2 ^ l) (2 ^ j)) in
    rw (← there, place-suc l v) (omega (arith, one, power, place-add l j (v / 2), add-mul p (place l (v / 2)) (2 ^ j)))

-- the first bit is the lowest of the place
pub place_end : (l v : ℕ) → place (suc l) v ≡ place l v * 2 + v / 2 ^ l % 2
place_end l v =
    let bit : (w : ℕ) → place 1 w ≡ w % 2 = λ w. omega (arith, place-suc 0 w, place-zero (w / 2), mul-one (w % 2)) in
    rw (← add-one l) (place-add l 1 v ∙ rw (bit (v / 2 ^ l)))

pub place-lt : (l v : ℕ) → place l v < 2 ^ l
place-lt zero v = omega (arith, place-zero v)
place-lt (suc l) v =
    omega (arith, place-suc l v, pow-succ' 2 l, digits_lt {c = 2 ^ l} (mod-lt v {m = 2} (omega arith)) (place-lt l (v / 2)))

-- only the l lowest bits count
pub place-mod : (l v : ℕ) → place l (v % 2 ^ l) ≡ place l v
place-mod zero v = place-zero (v % 1) ∙ sym (place-zero v)
place-mod (suc l) v =
    let whole : v % 2 ^ suc l ≡ v % 2 ^ (l + 1) = rw (add-one l) in
    place-suc l (v % 2 ^ suc l)
    ∙ rw (whole, mod-mod-pow v l 1, field v l 1, place-mod l (v / 2), ← place-suc l v)

pub place_twice : (l v : ℕ) → place l (place l v) ≡ v % 2 ^ l
place_twice zero v = place-zero (place 0 v) ∙ sym (mod-one v)
place_twice (suc l) v =
    let bit : v / 2 ^ l % 2 < 2 = mod-lt (v / 2 ^ l) (omega arith) in
    let whole : v % 2 ^ suc l ≡ v / 2 ^ l % 2 * 2 ^ l + v % 2 ^ l = rw (← one-add l) (mod-pow-add v 1 l) in
    place-suc l (place (suc l) v)
    ∙ rw (place_end l v, digits_mod (place l v) bit, digits_div (place l v) bit, place_twice l v, whole)

pub place-involution : (l v : ℕ) → v < 2 ^ l → place l (place l v) ≡ v
place-involution l v h = place_twice l v ∙ mod-eq_of_lt h

pub place-injective : (l v w : ℕ) → v < 2 ^ l → w < 2 ^ l → place l v ≡ place l w → v ≡ w
place-injective l v w h k e = sym (place-involution l v h) ∙ ap (place l) e ∙ place-involution l w k

pub place-onto : (l p : ℕ) → p < 2 ^ l → (v : ℕ) × (v < 2 ^ l) × (place l v ≡ p)
place-onto l p h = (place l p, place-lt l p, place-involution l p h)

pub place-nought : (l : ℕ) → place l 0 ≡ 0
place-nought zero = place-zero 0
place-nought (suc l) = omega (arith, place-suc l 0, zero-mul (2 ^ l), place-nought l)

-- a shorter suffix's place, read from the longer one's
pub place-shorter : (l m v : ℕ) → l ≤ m → v < 2 ^ l → place m v ≡ place l v * 2 ^ (m - l)
place-shorter l m v h k =
    let j = m - l in
    let sum : l + j ≡ m = omega arith in
    rw (← sum) (rw (add-sub_cancel_left l j) (place-add l j v ∙ rw (div-eq_of_lt k, place-nought j, add-zero)))

pub place-first : (l m v : ℕ) → l ≤ m → v < 2 ^ l → place m v / 2 ^ (m - l) ≡ place l v
place-first l m v h k = rw (place-shorter l m v h k, shl-shr (place l v) (m - l))

pub place_read : (l m v : ℕ) → l ≤ m → place m (v % 2 ^ l) / 2 ^ (m - l) ≡ place l v
place_read l m v h = place-first l m (v % 2 ^ l) h (mod-lt v (pow_pos l)) ∙ place-mod l v

-- the places of the suffixes that end in the l lowest bits of v are one run of 2 ^ j
pub place-high : (l j v : ℕ) → place (l + j) v / 2 ^ j ≡ place l v
place-high l j v = rw (place-add l j v) (high (place l v) j (place-lt j (v / 2 ^ l)))

pub place-low : (l j v : ℕ) → place (l + j) v % 2 ^ j ≡ place j (v / 2 ^ l)
place-low l j v = rw (place-add l j v) (low (place l v) j (place-lt j (v / 2 ^ l)))

-- the places of `*00100` and of `*100` (document 01)
pub place-00100 : place 5 4 ≡ 4
unfolding place lowest value value_from
place-00100 = refl

pub place-100 : place 3 4 ≡ 1
unfolding place lowest value value_from
place-100 = refl
