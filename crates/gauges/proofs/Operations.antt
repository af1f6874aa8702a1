-- Casts, division and multiplication of binary64 numbers whose values are known: what they round, and that a dyadic is left as it is.
use Prim.Native.Nat.{ℕ, ◌*◌, ◌^◌, ◌≤◌, ◌<◌}
use mathlib.Core.Path.{◌≡◌, sym, ap, ◌∙◌, subst}
use mathlib.Core.Bool.{false}
use native.Mathlib.Nat.{lt_irrefl, zero-lt-suc, mul_assoc, mul_comm, mul_left_comm, mul-pos, mul-one, one-mul, zero-mul, mul-le-mul}
use native.Mathlib.Omega.{arith}
use lib.Dec.{T, le→leb}
use lib.IntN.{pos}
use lib.Pow.{pow_pos}
use lib.Ieee.{Float, nan, inf, fin, binary64, up, down, round, of_int, div, mul, in_float}
use lib.Ieee.Exact.{HasValue}
use lib.Ieee.Fits.{up_pos, down_pos}
use lib.Ieee.Back.{round_whole}
use lib.Ieee.Scale.{round_same}
use borrow.Author.Tests.{ne_eqb}
use Rattle.numerals.specs.Limits.{most_bits, most_suffixes, most_volume}
use Rattle.gauges.specs.Binary64.{dyadic}
use Rattle.gauges.specs.Gauges.{gauges_of}
use Rattle.gauges.proofs.Fractions.{dyadic-value, round-dyadic}

-- a whole number up to 2^53 as a float
pub whole-value : (n : ℕ) → n ≤ 2 ^ 53 → HasValue (of_int binary64 (pos n)) false n 1
unfolding of_int
whole-value n h = round_whole binary64 false n h

pub whole_in : (n : ℕ) → n ≤ 2 ^ 53 → T (in_float binary64 (pos n))
unfolding in_float
whole_in n h = le→leb n (2 ^ 53) h

-- a / b
div-whole : (x y : Float) (a b : ℕ) → 0 < b → HasValue x false a 1 → HasValue y false b 1 → div binary64 x y ≡ round binary64 false a b
unfolding div
div-whole nan y a b p v w = absurd v
div-whole (inf t) y a b p v w = absurd v
div-whole (fin t m e) nan a b p v w = absurd w
div-whole (fin t m e) (inf u) a b p v w = absurd w
div-whole (fin t m e) (fin u n d) a b p v w =
    let some : n ≡ 0 → ⊥ =
    λ (z : n ≡ 0). lt_irrefl 0
    (subst (λ (i : ℕ). 0 < i) (sym w.1 ∙ ap (λ (i : ℕ). i * up d * 1) z ∙ ap (λ (i : ℕ). i * 1) (zero-mul (up d))) (mul-pos p (down_pos d)))
    in
    rw (v.0, w.0, ne_eqb n 0 some)
    (round_same binary64 false (m * up e * down d) (n * up d * down e) a b (mul-pos (mul-pos (pos_of n some) (up_pos d)) (down_pos e)) p
    (quotients (m * up e) (n * up d) (down e) (down d) a b v.1 w.1))
  where
    pos_of : (n : ℕ) → (n ≡ 0 → ⊥) → 0 < n
    pos_of n h = omega arith

    quotients : (x y c d a b : ℕ) → x * 1 ≡ a * c → y * 1 ≡ b * d → x * d * b ≡ a * (y * c)
    quotients x y c d a b h g =
        ap (λ (i : ℕ). i * d * b) (sym (mul-one x) ∙ h) ∙ turned ∙ ap (λ (i : ℕ). a * (i * c)) (sym g ∙ mul-one y)
      where
        turned : a * c * d * b ≡ a * (b * d * c)
        turned = simp (mul_assoc, mul_comm, mul_left_comm)

-- a / c times b / d
pub mul-values : (x y : Float) (a c b d : ℕ) → 0 < c → 0 < d → HasValue x false a c → HasValue y false b d
    → mul binary64 x y ≡ round binary64 false (a * b) (c * d)
unfolding mul
mul-values nan y a c b d p q v w = absurd v
mul-values (inf t) y a c b d p q v w = absurd v
mul-values (fin t m e) nan a c b d p q v w = absurd w
mul-values (fin t m e) (inf u) a c b d p q v w = absurd w
mul-values (fin t m e) (fin u n f) a c b d p q v w =
    rw (v.0, w.0)
    (round_same binary64 false (m * up e * (n * up f)) (down e * down f) (a * b) (c * d) (mul-pos (down_pos e) (down_pos f)) (mul-pos p q)
    (products (m * up e) c a (down e) (n * up f) d b (down f) v.1 w.1))
  where
    products : (x c a g y d b h : ℕ) → x * c ≡ a * g → y * d ≡ b * h → x * y * (c * d) ≡ a * b * (g * h)
    products x c a g y d b h p q =
        swap x y c d ∙ ap (λ (i : ℕ). i * (y * d)) p ∙ ap (λ (i : ℕ). a * g * i) q ∙ swap a g b h
      where
        swap : (x y c d : ℕ) → x * y * (c * d) ≡ x * c * (y * d)
        swap x y c d = simp (mul_assoc, mul_left_comm)

-- ---- the gauges: k is at most 12, a share at most 2^12 and a volume at most 10,000, so that nothing is rounded

-- from any floats that are held, 2^k and volume
module _ (x y z : Float) (held k volume : ℕ) (few : held ≤ most_suffixes) (bits : k ≤ most_bits) (little : volume ≤ most_volume)
    (count : HasValue x false held 1) (all : HasValue y false (2 ^ k) 1) (traffic : HasValue z false volume 1) where
  -- held / 2^k
  share_exact : div binary64 x y ≡ dyadic held k
  share_exact = div-whole x y held (2 ^ k) (pow_pos k) count all ∙ round-dyadic held k (omega arith) (omega arith)

  -- volume × held / 2^k
  load_exact : mul binary64 z (dyadic held k) ≡ dyadic (volume * held) k
  load_exact =
      let most : volume * held ≤ most_volume * most_suffixes = mul-le-mul little few in
      mul-values z (dyadic held k) volume 1 held (2 ^ k) (zero-lt-suc 0) (pow_pos k) traffic (dyadic-value held k (omega arith) (omega arith))
      ∙ ap (round binary64 false (volume * held)) (one-mul (2 ^ k))
      ∙ round-dyadic (volume * held) k (omega (arith, most)) (omega arith)

  pub gauges-exact : record { share = div binary64 x y; load = mul binary64 z (div binary64 x y) } ≡ gauges_of k held volume
  unfolding gauges_of
  gauges-exact = rw (share_exact, load_exact)
