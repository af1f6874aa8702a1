-- n / 2^k as a binary64 number is exact, and a binary64 number that has its value is that number.
use Prim.Native.Nat.{ℕ, zero, suc, ◌+◌, ◌-◌, ◌*◌, ◌/◌, ◌%◌, ◌^◌, ◌≤◌, ◌<◌}
use mathlib.Core.Path.{◌≡◌, refl, sym, ap, ◌∙◌, subst}
use mathlib.Core.Bool.{Bool, false, not, cond}
use native.Mathlib.Nat.{le_trans, le_of_eq, lt_irrefl, lt_of_lt_of_le, lt_of_le_of_lt, lt_of_not-le, mul-le-mul_right}
use native.Mathlib.Nat.{mul_assoc, mul_right_comm, eq_of_mul-eq-mul_right, zero-mul, zero-lt-suc}
use native.Mathlib.Omega.{arith}
use lib.Dec.{T, leb, eqb, lit≤}
use lib.IntN.{ℤ}
use lib.Pow.{pow-add, pow_pos, pow_mono, shl_lt}
use lib.Ieee.{Float, nan, inf, fin, binary64, prec, low, up, down, size, odd, round, of_fields, of_bits, to_bits, fits, is_nan}
use lib.Ieee.Exact.{HasValue, odd_sign, round_exact}
use lib.Ieee.Fits.{down_pos, round-fits}
use lib.Ieee.Bits.{of_bits-to_bits, of_bits-fits, to_bits-of_bits}
use lib.Ieee.Nearest.{div_same}
use lib.Ieee.Digits.{size-lt, size-le, size_reaches}
use borrow.Author.Tests.{lt-leb, ne_eqb}
use Rattle.gauges.specs.Binary64.{biased_exponent, fraction_field, bits, dyadic, Exactly}

-- ---- a number that fits is fixed by its value

-- equal fractions
cross : (x y c a d d' : ℕ) → 0 < c → x * c ≡ a * d → y * c ≡ a * d' → x * d' ≡ y * d
cross x y c a d d' p h g =
    eq_of_mul-eq-mul_right c p (x * d') (y * d)
    (mul_right_comm x d' c ∙ ap (λ z. z * d') h ∙ mul_right_comm a d d' ∙ ap (λ z. z * d) (sym g) ∙ mul_right_comm y c d)

scaled : (x y d d' l : ℕ) → x * d' ≡ y * d → x * l * d' ≡ y * l * d
scaled x y d d' l h = mul_right_comm x l d' ∙ ap (λ z. z * l) h ∙ mul_right_comm y d l

bits-same : (s : Bool) (m m' : ℕ) (e e' : ℤ) → m * up e * down e' ≡ m' * up e' * down e
    → to_bits binary64 (fin s m e) ≡ to_bits binary64 (fin s m' e')
unfolding to_bits
bits-same s m m' e e' h =
    let l = 2 ^ low binary64 in
    ap (λ (n : ℕ). let k = size n - prec binary64 in cond s (2 ^ 52 * 2048) 0 + k * 2 ^ 52 + n / 2 ^ k)
    (div_same (m * up e * l) (down e) (m' * up e' * l) (down e') (down_pos e) (down_pos e') (scaled (m * up e) (m' * up e') (down e) (down e') l h))

value-fixes : (x y : Float) (s : Bool) (a c : ℕ) → 0 < c → T (fits binary64 x) → T (fits binary64 y)
    → HasValue x s a c → HasValue y s a c → x ≡ y
value-fixes nan y s a c p f g v w = absurd v
value-fixes (inf t) y s a c p f g v w = absurd v
value-fixes (fin t m e) nan s a c p f g v w = absurd w
value-fixes (fin t m e) (inf u) s a c p f g v w = absurd w
value-fixes (fin t m e) (fin u m' e') s a c p f g v w =
    sym (of_bits-to_bits binary64 (fin t m e) f)
    ∙ ap (of_bits binary64)
    (ap (λ (z : Bool). to_bits binary64 (fin z m e)) (v.0 ∙ sym w.0)
    ∙ bits-same u m m' e e' (cross (m * up e) (m' * up e') c a (down e) (down e') p v.1 w.1))
    ∙ of_bits-to_bits binary64 (fin u m' e') g

-- ---- the number that an exponent and a fraction stand for

of-fields : (x t : ℕ) → suc x < 2047 → t < 2 ^ 52 → of_bits binary64 (suc x * 2 ^ 52 + t) ≡ odd 53 false (2 ^ 52 + t) x 1074
unfolding of_bits of_fields
of-fields x t few small =
    let b = suc x * 2 ^ 52 + t in
    let plus : leb (2 ^ 52 * 2048) b ≡ false = lt-leb (2 ^ 52 * 2048) b (omega arith) in
    let high : b % (2 ^ 52 * 2048) / 2 ^ 52 ≡ suc x = omega arith in
    let rest : b % 2 ^ 52 ≡ t = omega arith in
    let finite : eqb (suc x) 2047 ≡ false = ne_eqb (suc x) 2047 (λ (e : suc x ≡ 2047). lt_irrefl 2047 (rw e at few)) in
    rw (plus, high, rest, finite)

-- from one fraction to another of the same size
rescale : (x : Float) (s : Bool) (a c a' c' : ℕ) → 0 < c → a' * c ≡ a * c' → HasValue x s a c → HasValue x s a' c'
rescale nan s a c a' c' p h v = v
rescale (inf t) s a c a' c' p h v = v
rescale (fin t m e) s a c a' c' p h v = (
  v.0,
  eq_of_mul-eq-mul_right c p (m * up e * c') (a' * down e)
      (mul_right_comm (m * up e) c' c
      ∙ ap (λ z. z * c') v.1
      ∙ mul_right_comm a (down e) c'
      ∙ ap (λ z. z * down e) (sym h)
      ∙ mul_right_comm a' c (down e)),
)

-- ---- the bits of n / 2^k, for an n above 0: the leading digit is among the 53

module _ (n k : ℕ) (some : 0 < n) (fine : n < 2 ^ 53) (few : k ≤ 1022) where
  abbrev s : ℕ
  s = size n

  s-some : 0 < s
  s-some = lt_of_not-le (λ (h : s ≤ 0). lt_irrefl 1 (lt_of_le_of_lt some (lt_of_lt_of_le (size-lt n) (pow_mono h))))

  s-most : s ≤ 53
  s-most = size-le n 53 fine

  -- n with its leading digit at place 52
  abbrev lead : ℕ
  lead = n * 2 ^ (53 - s)

  lead-least : 2 ^ 52 ≤ lead
  lead-least =
      let all : s - 1 + (53 - s) ≡ 52 = omega (arith, s-some, s-most) in
      le_trans (le_of_eq (ap (λ (x : ℕ). 2 ^ x) (sym all) ∙ pow-add 2 (s - 1) (53 - s)))
      (mul-le-mul_right (2 ^ (53 - s)) (size_reaches n (s - 1) (omega (arith, s-some))))

  lead-most : lead < 2 ^ 53
  lead-most =
      let all : s + (53 - s) ≡ 53 = omega (arith, s-most) in
      subst (λ (x : ℕ). lead < 2 ^ x) all (shl_lt s (53 - s) (size-lt n))

  digits : lead % 2 ^ 52 + 2 ^ 52 ≡ lead
  digits = omega (arith, lead-least, lead-most)

  -- one less than the biased exponent
  abbrev x : ℕ
  x = 1021 + s - k

  bits_are : bits n k ≡ suc x * 2 ^ 52 + lead % 2 ^ 52
  unfolding bits biased_exponent fraction_field
  bits_are =
      let other : eqb n 0 ≡ false = ne_eqb n 0 (λ (e : n ≡ 0). lt_irrefl 0 (rw e at some)) in
      let next : 1022 + s - k ≡ suc x = omega (arith, s-some, few) in
      rw (other, next)

  dyadic-is : dyadic n k ≡ odd 53 false lead x 1074
  unfolding dyadic
  dyadic-is =
      let whole : 2 ^ 52 + lead % 2 ^ 52 ≡ lead = omega (arith, digits) in
      rw bits_are (of-fields x (lead % 2 ^ 52) (omega (arith, s-most)) (omega arith) ∙ ap (λ (z : ℕ). odd 53 false z x 1074) whole)

  dyadic-some : HasValue (dyadic n k) false n (2 ^ k)
  dyadic-some =
      let all : 53 - s + x + k ≡ 1074 = omega (arith, s-some, s-most, few) in
      let scale : 2 ^ (53 - s) * 2 ^ x * 2 ^ k ≡ 2 ^ 1074 =
      ap (λ (z : ℕ). z * 2 ^ k) (sym (pow-add 2 (53 - s) x)) ∙ sym (pow-add 2 (53 - s + x) k) ∙ ap (λ (z : ℕ). 2 ^ z) all
      in
      let same : n * 2 ^ 1074 ≡ lead * 2 ^ x * 2 ^ k =
      ap (λ (z : ℕ). n * z) (sym scale) ∙ simp (mul_assoc)
      in
      subst (λ (z : Float). HasValue z false n (2 ^ k)) (sym dyadic-is)
      (rescale (odd 53 false lead x 1074) false (lead * 2 ^ x) (2 ^ 1074) n (2 ^ k) (pow_pos 1074) same (odd_sign 53 false lead x 1074))

  bits-few : bits n k < 2 ^ 63
  bits-few = rw bits_are (omega (arith, s-most))

-- ---- every n / 2^k, zero too

bits_none : (k : ℕ) → bits 0 k ≡ 0
unfolding bits biased_exponent fraction_field
bits_none k = rw (zero-mul (2 ^ (53 - size 0)))

dyadic-none : (k : ℕ) → HasValue (dyadic 0 k) false 0 (2 ^ k)
unfolding dyadic of_bits of_fields odd
dyadic-none k = rw (bits_none k) (refl, rw (zero-mul (2 ^ k)))

pub dyadic-value : (n k : ℕ) → n < 2 ^ 53 → k ≤ 1022 → HasValue (dyadic n k) false n (2 ^ k)
dyadic-value zero k fine few = dyadic-none k
dyadic-value (suc n) k fine few = dyadic-some (suc n) k (zero-lt-suc n) fine few

bits_most : (n k : ℕ) → n < 2 ^ 53 → k ≤ 1022 → bits n k < 2 ^ 63
bits_most zero k fine few = rw (bits_none k) (lit≤ tt)
bits_most (suc n) k fine few = bits-few (suc n) k (zero-lt-suc n) fine few

number_of : (x : Float) (s : Bool) (a c : ℕ) → HasValue x s a c → T (not (is_nan x))
unfolding is_nan
number_of nan s a c v = absurd v
number_of (inf t) s a c v = absurd v
number_of (fin t m e) s a c v = tt

dyadic-fits : (n k : ℕ) → T (fits binary64 (dyadic n k))
unfolding dyadic
dyadic-fits n k = of_bits-fits binary64 (bits n k)

pub exactly : (n k : ℕ) → n < 2 ^ 53 → k ≤ 1022 → Exactly (dyadic n k) n k
unfolding dyadic
exactly n k fine few =
    let v = dyadic-value n k fine few in
    record {
      value = v;
      bitwise = to_bits-of_bits binary64 (bits n k) (omega (arith, bits_most n k fine few)) (number_of (dyadic n k) false n (2 ^ k) v);
    }

-- rounding changes nothing at n / 2^k
pub round-dyadic : (n k : ℕ) → n < 2 ^ 53 → k ≤ 1022 → round binary64 false n (2 ^ k) ≡ dyadic n k
round-dyadic n k fine few =
    let all : 1074 - k + k ≡ 1074 = omega arith in
    let most : 53 + (1074 - k) ≤ 2098 = omega arith in
    let same : n * 2 ^ 1074 ≡ n * 2 ^ (1074 - k) * 2 ^ k =
    ap (λ (z : ℕ). n * 2 ^ z) (sym all) ∙ ap (λ (z : ℕ). n * z) (pow-add 2 (1074 - k) k) ∙ sym (mul_assoc n (2 ^ (1074 - k)) (2 ^ k))
    in
    value-fixes (round binary64 false n (2 ^ k)) (dyadic n k) false n (2 ^ k) (pow_pos k) (round-fits binary64 false n (2 ^ k)) (dyadic-fits n k)
    (round_exact binary64 false n (2 ^ k) n (1074 - k) (pow_pos k) fine
    (lt_of_lt_of_le (shl_lt 53 (1074 - k) fine) (pow_mono most)) same)
    (dyadic-value n k fine few)
