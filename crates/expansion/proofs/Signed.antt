-- Errors are signed in the code. Here each law about them is about their two sides, the excess and the shortfall, which are naturals; and what the
-- machine reads back of a number is the number.
use Prim.Native.Nat.{ℕ, zero, suc, ◌+◌, ◌-◌, ◌*◌, ◌%◌, ◌^◌, ◌≤◌, ◌<◌}
use mathlib.Core.Bool.{Bool, true, false, cond}
use mathlib.Core.Path.{◌≡◌, refl, ap, sym, ◌∙◌}
use native.Mathlib.Nat.{mul-le-mul, mul-le-mul_right, mul_comm}
use native.Mathlib.Omega.{arith}
use lib.Dec.{ltb, lit<}
use lib.IntN.{ℤ, pos, negsuc, neg_ℤ, sub_ℕ, ◌+ℤ◌, ◌-ℤ◌, ◌*ℤ◌}
use lib.Signed.{mag, lt_z}
use mir.Syntax.{w64}
use mir.Val.{to_z, of_z}
use mir.Facts.{to_z-of_z, to_z_pos}
use borrow.Author.Rules.{sfits_of}
use borrow.Author.Tests.{ltb-true, ltb-false, le-ltb}
use Rattle.numerals.specs.Limits.{most_suffixes, most_bits, unit}
use Rattle.expansion.specs.KeptShares.{entry_of}
use Rattle.expansion.specs.Inner.Ledger.{over, under, side, Small, changed_by}
use Rattle.numerals.proofs.Powers.{pow-few, shifted}

-- the sides of a number

pub same-sides : (y z : ℤ) → over y ≡ over z → under y ≡ under z → y ≡ z
same-sides (pos a) (pos b) p q = ap pos p
same-sides (pos a) (negsuc b) p q = absurd (omega arith)
same-sides (negsuc a) (pos b) p q = absurd (omega arith)
same-sides (negsuc a) (negsuc b) p q = ap negsuc (omega arith)

pub over-mag : (z : ℤ) → over z ≤ mag z
over-mag (pos n) = omega arith
over-mag (negsuc n) = omega arith

pub under-mag : (z : ℤ) → under z ≤ mag z + 1
under-mag (pos n) = omega arith
under-mag (negsuc n) = omega arith

pub sides-mag : (z : ℤ) → over z + under z ≤ mag z + 1
sides-mag (pos n) = omega arith
sides-mag (negsuc n) = omega arith

pub side-mag : (below : Bool) (z : ℤ) → side below z ≤ mag z + 1
side-mag false z = omega (arith, sides-mag z)
side-mag true z = omega (arith, sides-mag z)

pub mag-sides : (z : ℤ) → mag z ≤ over z + under z
mag-sides (pos n) = omega arith
mag-sides (negsuc n) = omega arith

-- a difference of naturals

pub over-sub : (a b : ℕ) → over (sub_ℕ a b) ≡ a - b
over-sub a b = go (ltb a b) refl
  where
    go : (t : Bool) → ltb a b ≡ t → over (cond t (negsuc (b - suc a)) (pos (a - b))) ≡ a - b
    go true e = omega (arith, ltb-true a b e)
    go false e = refl

pub under-sub : (a b : ℕ) → under (sub_ℕ a b) ≡ b - a
under-sub a b = go (ltb a b) refl
  where
    go : (t : Bool) → ltb a b ≡ t → under (cond t (negsuc (b - suc a)) (pos (a - b))) ≡ b - a
    go true e = omega (arith, ltb-true a b e)
    go false e = omega (arith, ltb-false a b e)

pub mag-sub : (a b : ℕ) → mag (sub_ℕ a b) ≤ a + b
mag-sub a b = omega (arith, mag-sides (sub_ℕ a b), over-sub a b, under-sub a b)

-- a natural more, or less

pub over-more : (z : ℤ) (c : ℕ) → over (z +ℤ pos c) ≡ over z + c - under z
over-more (pos n) c = omega arith
over-more (negsuc n) c = omega (arith, over-sub c (suc n))

pub under_more : (z : ℤ) (c : ℕ) → under (z +ℤ pos c) ≡ under z - (over z + c)
under_more (pos n) c = omega arith
under_more (negsuc n) c = omega (arith, under-sub c (suc n))

pub over-less : (z : ℤ) (c : ℕ) → over (z -ℤ pos c) ≡ over z - (under z + c)
over-less (pos n) zero = omega arith
over-less (pos n) (suc c) = omega (arith, over-sub n (suc c))
over-less (negsuc n) zero = omega (arith, over-sub 0 (suc n))
over-less (negsuc n) (suc c) = omega arith

pub under-less : (z : ℤ) (c : ℕ) → under (z -ℤ pos c) ≡ under z + c - over z
under-less (pos n) zero = omega arith
under-less (pos n) (suc c) = omega (arith, under-sub n (suc c))
under-less (negsuc n) zero = omega (arith, under-sub 0 (suc n))
under-less (negsuc n) (suc c) = omega arith

pub mag-more : (z : ℤ) (c : ℕ) → mag (z +ℤ pos c) ≤ mag z + c + 1
mag-more z c =
    omega (arith, mag-sides (z +ℤ pos c), over-more z c, under_more z c, over-mag z, under-mag z)

pub mag_less : (z : ℤ) (c : ℕ) → mag (z -ℤ pos c) ≤ mag z + c + 1
mag_less z c =
    omega (arith, mag-sides (z -ℤ pos c), over-less z c, under-less z c, over-mag z, under-mag z)

pub pos-less : (a c : ℕ) → pos a -ℤ pos c ≡ sub_ℕ a c
pos-less a c =
    same-sides (pos a -ℤ pos c) (sub_ℕ a c)
    (omega (arith, over-less (pos a) c, over-sub a c)) (omega (arith, under-less (pos a) c, under-sub a c))

pub sub_more : (a b c : ℕ) → sub_ℕ a b +ℤ pos c ≡ sub_ℕ (a + c) b
sub_more a b c =
    same-sides (sub_ℕ a b +ℤ pos c) (sub_ℕ (a + c) b)
    (omega (arith, over-more (sub_ℕ a b) c, over-sub a b, under-sub a b, over-sub (a + c) b))
    (omega (arith, under_more (sub_ℕ a b) c, over-sub a b, under-sub a b, under-sub (a + c) b))

pub sub-less : (a b c : ℕ) → c ≤ a → sub_ℕ a b -ℤ pos c ≡ sub_ℕ (a - c) b
sub-less a b c h =
    same-sides (sub_ℕ a b -ℤ pos c) (sub_ℕ (a - c) b)
    (omega (arith, over-less (sub_ℕ a b) c, over-sub a b, under-sub a b, over-sub (a - c) b))
    (omega (arith, under-less (sub_ℕ a b) c, over-sub a b, under-sub a b, under-sub (a - c) b))

-- the negative, and twice a number

pub over-neg : (z : ℤ) → over (neg_ℤ z) ≡ under z
over-neg (pos zero) = refl
over-neg (pos (suc n)) = refl
over-neg (negsuc n) = refl

pub under-neg : (z : ℤ) → under (neg_ℤ z) ≡ over z
under-neg (pos zero) = refl
under-neg (pos (suc n)) = refl
under-neg (negsuc n) = refl

pub mag-neg : (z : ℤ) → mag (neg_ℤ z) ≤ mag z + 1
mag-neg z = omega (arith, mag-sides (neg_ℤ z), over-neg z, under-neg z, sides-mag z)

pub over-twice : (z : ℤ) → over (pos 2 *ℤ z) ≡ 2 * over z
over-twice (pos n) = refl
over-twice (negsuc n) = over-neg (pos (2 * suc n))

pub under_twice : (z : ℤ) → under (pos 2 *ℤ z) ≡ 2 * under z
under_twice (pos n) = refl
under_twice (negsuc n) = under-neg (pos (2 * suc n))

-- tests

pub lt-over : (m : ℕ) (z : ℤ) → lt_z (pos m) z ≡ ltb m (over z)
lt-over m (pos n) = refl
lt-over m (negsuc n) = sym (le-ltb m 0 (omega arith))

pub above : (m : ℕ) (z : ℤ) → lt_z (pos m) z ≡ true → z ≡ pos (over z)
above m (pos n) e = refl
above m (negsuc n) e = cc

-- not above zero there is no excess, and the negative is the shortfall
pub below-zero : (z : ℤ) → lt_z (pos 0) z ≡ false → (over z ≡ 0) × (neg_ℤ z ≡ pos (under z))
below-zero (pos zero) e = (refl, refl)
below-zero (pos (suc n)) e = absurd (omega (arith, ltb-false 0 (suc n) e))
below-zero (negsuc n) e = (refl, refl)

-- below zero there is no excess; not below it there is nothing else
pub negative : (z : ℤ) → lt_z z (pos 0) ≡ true → over z ≡ 0
negative (pos n) e = omega (arith, ltb-true n 0 e)
negative (negsuc n) e = refl

pub positive : (z : ℤ) → lt_z z (pos 0) ≡ false → z ≡ pos (over z)
positive (pos n) e = refl
positive (negsuc n) e = cc

-- what the machine reads back

pub back : (z : ℤ) → mag z < 2 ^ 63 → to_z w64 (of_z w64 z) ≡ z
back z h = to_z-of_z {w = w64} (sfits_of h)

pub plain : (n : ℕ) → n < 2 ^ 63 → to_z w64 n ≡ pos n
plain n h = to_z_pos w64 h

pub small-read : (z : ℤ) → Small z → to_z w64 (of_z w64 z) ≡ z
small-read z h = back z (omega (arith, h.small))

-- bounds: the one thing that proofs know of the unit's size

pub unit-few : unit < 2 ^ 27
unfolding unit
unit-few = lit< tt

pub parts-few : (a u : ℕ) → a ≤ most_suffixes → u ≤ unit → a * u < 2 ^ 40
parts-few a u h l = omega (arith, mul-le-mul h l, unit-few)

pub wants-few : (w k : ℕ) → w ≤ unit → k ≤ most_bits → w * 2 ^ k < 2 ^ 40
wants-few w k h l = omega (arith, parts-few (2 ^ k) w (pow-few k l) h)

pub parts-read : (a : ℕ) → a ≤ most_suffixes → to_z w64 (a * unit) ≡ pos (a * unit)
parts-read a h = plain (a * unit) (omega (arith, parts-few a unit h (omega arith)))

pub few-less : (z : ℤ) (n : ℕ) → Small z → n ≤ most_suffixes → mag (z -ℤ pos (n * unit)) < 2 ^ 51
few-less z n h l = omega (arith, mag_less z (n * unit), h.small, parts-few n unit l (omega arith))

pub few-more : (z : ℤ) (n : ℕ) → mag z < 2 ^ 51 → n ≤ most_suffixes → mag (z +ℤ pos (n * unit)) < 2 ^ 63
few-more z n h l = omega (arith, mag-more z (n * unit), parts-few n unit l (omega arith))

-- UNIT * (1 << i)
pub term-read : (i : ℕ) → i ≤ most_bits → to_z w64 (unit * (1 * 2 ^ i % 18446744073709551616)) ≡ pos (2 ^ i * unit)
term-read i h = rw (shifted i h, mul_comm unit (2 ^ i)) (parts-read (2 ^ i) (pow-few i h))

-- the entry of a backend that lost some suffixes and gained others
pub entry-change : (k w a c d : ℕ) → c ≤ a → changed_by (entry_of unit k w a) c d ≡ entry_of unit k w (a - c + d)
unfolding changed_by entry_of
entry-change k w a c d h =
    let e : a ≡ a - c + c = omega arith in
    let m : a * unit - c * unit + d * unit ≡ (a - c + d) * unit = omega (arith, ap (λ (x : ℕ). x * unit) e) in
    ap (λ (z : ℤ). record { weight = w; share = a - c + d; error = z })
    (ap (λ (z : ℤ). z +ℤ pos (d * unit)) (sub-less (a * unit) (w * 2 ^ k) (c * unit) (mul-le-mul_right unit h))
    ∙ sub_more (a * unit - c * unit) (w * 2 ^ k) (d * unit) ∙ ap (λ (x : ℕ). sub_ℕ x (w * 2 ^ k)) m)
