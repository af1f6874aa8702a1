-- Decimals of n / 2^j: one digit more, what the digits mean, and one text for each number, whatever the j it is written over.
use Prim.Native.Nat.{ℕ, zero, suc, ◌+◌, ◌-◌, ◌*◌, ◌/◌, ◌%◌, ◌^◌, ◌≤◌, ◌<◌}
use mathlib.Core.Path.{◌≡◌, refl, sym, ap, ◌∙◌}
use mathlib.Core.Bool.{true}
use mathlib.Core.List.{List, [], ◌∷◌, ◌++◌, append_assoc, append-nil}
use native.Mathlib.Nat.{le_refl, mul-le-mul, add-zero, suc-add, add-sub_of_le, mul_comm, mul_assoc, zero-mul, mul-pos, pow-suc, mod-lt, div-add-mod'}
use native.Mathlib.Nat.{div-lt_iff_lt-mul, mul-div-mul_right, mul-div_cancel, mul-mod_left, eq_of_mul-eq-mul_right}
use native.Mathlib.Omega.{arith}
use lib.Arith.{mod-mul}
use lib.ListN.{length, length-append}
use lib.Pow.{pow_pos, pow-add}
use borrow.Author.Tests.{ne_eqb}
use Rattle.numerals.specs.Digits.{all_digits, value, value_from}
use Rattle.numerals.specs.Decimal.{is_numeral, decimal}
use Rattle.numerals.proofs.Choice.{by_less}
use Rattle.numerals.proofs.Base.{digit}
use Rattle.numerals.proofs.Decimal.{first-digit, all-decimal, value-decimal}
use Rattle.commands.specs.Dyadic.{decimals_of, dotted, dyadic_text, DecimalOf}
use Rattle.commands.proofs.Texts.{digits-most}

-- at remainder 0 the digits end
pub decimals-none : (j : ℕ) → decimals_of j 0 ≡ []
unfolding decimals_of
decimals-none zero = refl
decimals-none (suc j) = refl

-- one digit, and those of what it leaves
decimals-more : (j r : ℕ) → 0 < r → decimals_of (suc j) r ≡ (48 + 5 * r / 2 ^ j) ∷ decimals_of j (5 * r % 2 ^ j)
unfolding decimals_of
decimals-more j r h = rw (ne_eqb r 0 (λ e. omega arith))

-- it is below 10
decimal-small : (j r : ℕ) → r < 2 ^ suc j → 5 * r / 2 ^ j < 10
decimal-small j r h = (div-lt_iff_lt-mul {x = 5 * r} {y = 10} (pow_pos j)).1 (omega (arith, pow-suc 2 j))

-- the same in the code's words, where something is left of all
pub record Left (j all left : ℕ) : Type 0 where
  pub is : all ≡ 2 ^ j
  pub some : 0 < left
  pub few : left < all

module _ {j all left : ℕ} (l : Left j all left) where
  -- 2^0 has nothing between it and 0
  pub more-bits : 0 < j
  more-bits = by_less 0 j (λ h. h) (λ h. let none : j ≡ 0 = omega arith in omega (arith, ap (λ (i : ℕ). 2 ^ i) none))

  one_more : j ≡ suc (j - 1)
  one_more = omega (arith, more-bits)

  twice : all ≡ 2 ^ (j - 1) * 2
  twice = l.is ∙ ap (λ (i : ℕ). 2 ^ i) one_more ∙ pow-suc 2 (j - 1)

  pub half : all / 2 ≡ 2 ^ (j - 1)
  half = omega (arith, twice)

  pub half-some : 0 < all / 2
  half-some = omega (arith, half, pow_pos (j - 1))

  pub next_small : left * 5 / (all / 2) < 10
  next_small = rw (half, mul_comm left 5) (decimal-small (j - 1) left (omega (arith, l.few, l.is, ap (λ (i : ℕ). 2 ^ i) one_more)))

  pub next-decimal : decimals_of j left ≡ (48 + left * 5 / (all / 2)) ∷ decimals_of (j - 1) (left * 5 % (all / 2))
  next-decimal = ap (λ (i : ℕ). decimals_of i left) one_more ∙ decimals-more (j - 1) left l.some ∙ rw (half, mul_comm left 5)

decimals-short : (j r : ℕ) → length (decimals_of j r) ≤ j
unfolding decimals_of
decimals-short zero r = omega arith
decimals-short (suc j) zero = omega arith
decimals-short (suc j) (suc r) = rw (decimals-more j (suc r) (omega arith)) (omega (arith, decimals-short j (5 * suc r % 2 ^ j)))

-- so long as something is left, there is a digit
decimals-some : (j r : ℕ) → r < 2 ^ j → decimals_of j r ≡ [] → r ≡ 0
decimals-some zero r h e = omega arith
decimals-some (suc j) zero h e = refl
decimals-some (suc j) (suc r) h e = omega (arith, ap length (sym (decimals-more j (suc r) (omega arith)) ∙ e))

decimals-digits : (j r : ℕ) → r < 2 ^ j → all_digits 10 (decimals_of j r) ≡ true
unfolding decimals_of all_digits
decimals-digits zero r h = refl
decimals-digits (suc j) zero h = refl
decimals-digits (suc j) (suc r) h =
    rw (decimals-more j (suc r) (omega arith), digit 10 (5 * suc r / 2 ^ j) (decimal-small j (suc r) h))
    (decimals-digits j (5 * suc r % 2 ^ j) (mod-lt (5 * suc r) (pow_pos j)))

-- one digit more, over p for 2^j and t for the power of ten
value-step : (x p t v d s r : ℕ) → x * p ≡ ((v * 10 + d) * p + s) * t → d * p + s ≡ 5 * r → x * (p * 2) ≡ (v * (p * 2) + r) * (t * 10)
value-step x p t v d s r e f = omega (arith, ap (λ (y : ℕ). y * t) f)

value-first : (v d : ℕ) (ds : List ℕ) → value_from 10 v ((48 + d) ∷ ds) ≡ value_from 10 (v * 10 + d) ds
unfolding value_from
value-first v d ds = let back : 48 + d - 48 ≡ d = omega arith in ap (λ (x : ℕ). value_from 10 (v * 10 + x) ds) back

-- written after the digits of v they are those of v + r / 2^j, without the dot
value_after : (j v r : ℕ) → r < 2 ^ j → value_from 10 v (decimals_of j r) * 2 ^ j ≡ (v * 2 ^ j + r) * 10 ^ length (decimals_of j r)
unfolding decimals_of value_from
value_after zero v r h = omega arith
value_after (suc j) v zero h = omega arith
value_after (suc j) v (suc r) h =
    let d : ℕ = 5 * suc r / 2 ^ j in
    let s : ℕ = 5 * suc r % 2 ^ j in
    rw (decimals-more j (suc r) (omega arith), value-first v d (decimals_of j s), pow-suc 2 j, pow-suc 10 (length (decimals_of j s)))
    (value-step (value_from 10 (v * 10 + d) (decimals_of j s)) (2 ^ j) (10 ^ length (decimals_of j s)) v d s (suc r)
    (value_after j (v * 10 + d) s (mod-lt (5 * suc r) (pow_pos j)))
    (div-add-mod' (5 * suc r) (2 ^ j)))

not-empty : (ds : List ℕ) (d : ℕ) → [] ≡ ds ++ d ∷ [] → ⊥
not-empty ds d e = omega (arith, length-append ds (d ∷ []), ap length e)

-- the last digit isn't 0
decimals-last : (j r : ℕ) (ds : List ℕ) (d : ℕ) → decimals_of j r ≡ ds ++ d ∷ [] → 48 < d
unfolding decimals_of
decimals-last zero r ds d e = absurd (not-empty ds d e)
decimals-last (suc j) zero ds d e = absurd (not-empty ds d e)
decimals-last (suc j) (suc r) [] d e =
    let q : ℕ = 5 * suc r / 2 ^ j in
    let s : ℕ = 5 * suc r % 2 ^ j in
    let all : (48 + q) ∷ decimals_of j s ≡ d ∷ [] = sym (decimals-more j (suc r) (omega arith)) ∙ e in
    let none : s ≡ 0 = decimals-some j s (mod-lt (5 * suc r) (pow_pos j)) (cc) in
    let is : 48 + q ≡ d = cc in
    by_less 0 q
    (λ h. omega arith)
    (λ h. let zeros : q ≡ 0 = omega arith in omega (arith, ap (λ (x : ℕ). x * 2 ^ j) zeros, div-add-mod' (5 * suc r) (2 ^ j)))
decimals-last (suc j) (suc r) (c ∷ ds) d e =
    let all : (48 + 5 * suc r / 2 ^ j) ∷ decimals_of j (5 * suc r % 2 ^ j) ≡ c ∷ (ds ++ d ∷ []) = sym (decimals-more j (suc r) (omega arith)) ∙ e in
    decimals-last j (5 * suc r % 2 ^ j) ds d (cc)

-- numerator and denominator times 2^i
module _ (a j i : ℕ) where
  scaled-div : a * 2 ^ i / 2 ^ (j + i) ≡ a / 2 ^ j
  scaled-div = rw (pow-add 2 j i) (mul-div-mul_right a (2 ^ j) (pow_pos i))

  scaled-mod : a * 2 ^ i % 2 ^ (j + i) ≡ a % 2 ^ j * 2 ^ i
  scaled-mod =
      rw (pow-add 2 j i, mod-mul (a * 2 ^ i) (pow_pos j) (pow_pos i), mul-div_cancel a (pow_pos i), mul-mod_left a (2 ^ i), add-zero (a % 2 ^ j * 2 ^ i))

none-scaled : (j i r : ℕ) → r ≡ 0 → decimals_of (j + i) (r * 2 ^ i) ≡ decimals_of j r
none-scaled j i r e = rw (e, zero-mul (2 ^ i), decimals-none (j + i), decimals-none j)

decimals-scaled : (j i r : ℕ) → r < 2 ^ j → decimals_of (j + i) (r * 2 ^ i) ≡ decimals_of j r
decimals-scaled zero i r h = none-scaled zero i r (omega arith)
decimals-scaled (suc j) i zero h = none-scaled (suc j) i zero refl
decimals-scaled (suc j) i (suc r) h =
    ap (λ (l : ℕ). decimals_of l (suc r * 2 ^ i)) (suc-add j i)
    ∙ decimals-more (j + i) (suc r * 2 ^ i) (mul-pos (omega arith) (pow_pos i))
    ∙ rw (
      decimals-more j (suc r) (omega arith),
      ← mul_assoc 5 (suc r) (2 ^ i),
      scaled-div (5 * suc r) j i,
      scaled-mod (5 * suc r) j i,
      decimals-scaled j i (5 * suc r % 2 ^ j) (mod-lt (5 * suc r) (pow_pos j)),
    )

dyadic-scaled : (m j i : ℕ) → dyadic_text (m * 2 ^ i) (j + i) ≡ dyadic_text m j
unfolding dyadic_text
dyadic-scaled m j i = rw (scaled-div m j i, scaled-mod m j i, decimals-scaled j i (m % 2 ^ j) (mod-lt m (pow_pos j)))

-- the larger exponent has the other in it, and its numerator the other numerator times the same power
same-upwards : (m j n k : ℕ) → j ≤ k → m * 2 ^ k ≡ n * 2 ^ j → dyadic_text n k ≡ dyadic_text m j
same-upwards m j n k h e = go (k - j) (add-sub_of_le h)
  where
    go : (i : ℕ) → j + i ≡ k → dyadic_text n k ≡ dyadic_text m j
    go i p =
        let q : m * 2 ^ i * 2 ^ j ≡ n * 2 ^ j = omega (arith, e, ap (λ (x : ℕ). m * 2 ^ x) p, ap (λ (x : ℕ). m * x) (pow-add 2 j i)) in
        rw (← p, ← eq_of_mul-eq-mul_right (2 ^ j) (pow_pos j) (m * 2 ^ i) n q) (dyadic-scaled m j i)

-- equal numbers have the same text
pub dyadic-same : (m j n k : ℕ) → m * 2 ^ k ≡ n * 2 ^ j → dyadic_text m j ≡ dyadic_text n k
dyadic-same m j n k e =
    by_less k j
    (λ h. same-upwards n k m j (omega arith) (sym e))
    (λ h. sym (same-upwards m j n k h e))

dotted-some : (j r : ℕ) → 0 < r → r < 2 ^ j → dotted (decimals_of j r) ≡ 46 ∷ decimals_of j r
unfolding dotted
dotted-some zero r h k = let none : ⊥ = omega arith in absurd none
dotted-some (suc j) r h k = rw (decimals-more j r h)

-- the text of a whole number, and of one with digits behind the dot
module _ (n j : ℕ) where
  pub dyadic-whole : n % 2 ^ j ≡ 0 → dyadic_text n j ≡ decimal (n / 2 ^ j)
  unfolding dyadic_text dotted
  dyadic-whole e = rw (e, decimals-none j) (append-nil (decimal (n / 2 ^ j)))

  pub dyadic-broken : 0 < n % 2 ^ j → dyadic_text n j ≡ (decimal (n / 2 ^ j) ++ 46 ∷ []) ++ decimals_of j (n % 2 ^ j)
  unfolding dyadic_text
  dyadic-broken h =
      rw (dotted-some j (n % 2 ^ j) h (mod-lt n (pow_pos j)), append_assoc (decimal (n / 2 ^ j)) (46 ∷ []) (decimals_of j (n % 2 ^ j)))

-- ---- the text is the number, exactly

value-append : (v : ℕ) (xs ys : List ℕ) → value_from 10 v (xs ++ ys) ≡ value_from 10 (value_from 10 v xs) ys
unfolding value_from
value-append v [] ys = refl
value-append v (x ∷ xs) ys = value-append (v * 10 + (x - 48)) xs ys

pub dyadic-exact : (n j : ℕ) → DecimalOf (dyadic_text n j) n j
unfolding dyadic_text is_numeral value
dyadic-exact n j =
    let q = n / 2 ^ j in
    let r = n % 2 ^ j in
    let few : r < 2 ^ j = mod-lt n (pow_pos j) in
    let ps = decimals_of j r in
    record {
      whole = decimal q;
      decimals = ps;
      is = refl;
      numeral = rw (first-digit q, all-decimal q);
      digits = decimals-digits j r few;
      last = decimals-last j r;
      exact =
          ap (λ (x : ℕ). x * 2 ^ j) (value-append 0 (decimal q) ps ∙ ap (λ (v : ℕ). value_from 10 v ps) (value-decimal q))
          ∙ value_after j q r few
          ∙ ap (λ (x : ℕ). x * 10 ^ length ps) (div-add-mod' n (2 ^ j));
    }

dotted-short : (ps : List ℕ) → length (dotted ps) ≤ suc (length ps)
unfolding dotted
dotted-short [] = omega arith
dotted-short (d ∷ ds) = omega arith

pub dyadic-short : (n j : ℕ) → n < 18446744073709551616 → length (dyadic_text n j) ≤ 21 + j
unfolding dyadic_text
dyadic-short n j h =
    let q = n / 2 ^ j in
    let ps = decimals_of j (n % 2 ^ j) in
    let few : q < 18446744073709551616 = omega (arith, mul-le-mul (le_refl q) (pow_pos j), div-add-mod' n (2 ^ j)) in
    omega (
      arith,
      length-append (decimal q) (dotted ps),
      digits-most q few,
      dotted-short ps,
      decimals-short j (n % 2 ^ j),
    )
