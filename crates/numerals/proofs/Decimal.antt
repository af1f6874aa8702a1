-- Decimal numbers: how many digits one has, that its text reads back, and that no other text does.
use Rattle.std.specs.Prelude.{None, Some}
use Prim.Native.Nat.{ℕ, zero, suc, ◌+◌, ◌*◌, ◌/◌, ◌%◌, ◌^◌, ◌≤◌, ◌<◌}
use native.Mathlib.Nat.{le_refl, le_of_eq, pow-suc, one-le-pow, div-lt_iff_lt-mul, le-div_iff_mul-le, mod-eq_of_lt}
use native.Mathlib.Omega.{arith}
use mathlib.Core.Path.{◌≡◌, refl, sym, ap, ◌∙◌}
use mathlib.Core.Bool.{Bool, true, false, not, true≢false}
use mathlib.Core.List.{List, [], ◌∷◌}
use lib.Arith.{lt_of_le-ne}
use lib.Dec.{leb, eqb}
use lib.ListN.{length}
use borrow.Author.Tests.{le-leb, lt-ltb, le-ltb, leb-true, ne_eqb, eqb-false, not-true}
use Rattle.numerals.proofs.Choice.{by_less, both_left, both_right}
use Rattle.numerals.proofs.Base.{length-lowest, lowest-front, value-lowest, all-lowest, lowest-value, value-below, value-front, digit_at}
use Rattle.numerals.proofs.Base.{digit_low, picked}
use Rattle.numerals.proofs.Fields.{Free, free-digits}
use Rattle.numerals.specs.Pick.{pick, both}
use Rattle.numerals.specs.Digits.{all_digits, value, lowest, on_value}
use Rattle.numerals.specs.Inner.Digits.{read_digits}
use Rattle.numerals.specs.Decimal.{no_leading_zero, is_numeral, number, width_in, width, decimal}

-- n and its digits but the last, down to one digit
pub by-tens : (P : ℕ → Type 0) → ((n : ℕ) → n < 10 → P n) → ((n : ℕ) → 10 ≤ n → P (n / 10) → P n) → (n : ℕ) → P n
by-tens P small more n = go n n (le_refl n)
  where
    go : (f m : ℕ) → m ≤ f → P m
    go zero m h = small m (omega arith)
    go (suc f) m h = by_less m 10 (small m) (λ k. more m k (go f (m / 10) (omega arith)))

width_in-small : (f n : ℕ) → n < 10 → width_in f n ≡ 1
unfolding width_in
width_in-small zero n h = refl
width_in-small (suc f) n h = rw (lt-ltb n 10 h, width_in)

width_in-more : (f n : ℕ) → 10 ≤ n → width_in (suc f) n ≡ suc (width_in f (n / 10))
unfolding width_in
width_in-more f n h = rw (le-ltb n 10 h, width_in)

-- n steps are enough, and more find the same
enough : (f g n : ℕ) → n ≤ f → n ≤ g → width_in f n ≡ width_in g n
enough zero g n h k = let small : n < 10 = omega arith in rw (width_in-small zero n, width_in-small g n)
enough (suc f) zero n h k = let small : n < 10 = omega arith in rw (width_in-small (suc f) n, width_in-small zero n)
enough (suc f) (suc g) n h k =
    by_less n 10
    (λ l. rw (width_in-small (suc f) n l, width_in-small (suc g) n l))
    (λ l. rw (width_in-more f n l, width_in-more g n l) (ap suc (enough f g (n / 10) (omega arith) (omega arith))))

pub width_small : (n : ℕ) → n < 10 → width n ≡ 1
unfolding width
width_small n h = width_in-small n n h

pub width-more : (n : ℕ) → 10 ≤ n → width n ≡ suc (width (n / 10))
unfolding width
width-more zero h = omega arith
width-more (suc n) h = width_in-more n (suc n) h ∙ ap suc (enough n (suc n / 10) (suc n / 10) (omega arith) (le_refl _))

-- between which powers of ten n lies
pub record Sized (n l : ℕ) : Type 0 where
  pub is : width n ≡ suc l
  pub below : n < 10 ^ suc l
  pub above : 1 ≤ n → 10 ^ l ≤ n

pub sized : (n : ℕ) → (l : ℕ) × Sized n l
sized =
    by-tens
    (λ n. (l : ℕ) × Sized n l)
    (λ n h. (0, record { is = width_small n h; below = h; above = λ k. k }))
    (λ n h s.
    let l = s.0 in (
      suc l,
      record {
        is = width-more n h ∙ ap suc s.1.is;
        below = omega (arith, s.1.below, pow-suc 10 (suc l));
        above = λ k. omega (arith, s.1.above (omega arith), pow-suc 10 l);
      },
    ))

-- the powers tell the width
pub width_is : (l n : ℕ) → 10 ^ l ≤ n → n < 10 ^ suc l → width n ≡ suc l
width_is zero n h k = width_small n k
width_is (suc l) n h k =
    let p : 10 ^ suc l ≡ 10 ^ l * 10 = pow-suc 10 l in
    let q : 10 ^ suc (suc l) ≡ 10 ^ suc l * 10 = pow-suc 10 (suc l) in
    let one : 1 ≤ 10 ^ l = one-le-pow l 10 (omega arith) in
    width-more n (omega arith) ∙ ap suc (width_is l (n / 10) (omega arith) (omega arith))

pub width-least : (w n : ℕ) → n < 10 ^ suc w → width n ≤ suc w
width-least zero n h = le_of_eq (width_small n h)
width-least (suc w) n h =
    by_less n 10
    (λ k. omega (arith, width_small n k))
    (λ k. omega (arith, width-more n k, width-least w (n / 10) (omega (arith, pow-suc 10 (suc w)))))

pub length-decimal : (n : ℕ) → length (decimal n) ≡ width n
unfolding decimal
length-decimal n = length-lowest 10 (width n) n

pub all-decimal : (n : ℕ) → all_digits 10 (decimal n) ≡ true
unfolding decimal
all-decimal n = all-lowest 10 (width n) n (omega arith)

-- the text is free of space, line feed, dot and every other byte before '0'
pub decimal-free : (c n : ℕ) → c < 48 → Free c (decimal n)
decimal-free c n h = free-digits 10 c (decimal n) h (all-decimal n)

pub value-decimal : (n : ℕ) → value 10 (decimal n) ≡ n
unfolding decimal
value-decimal n =
    let s = (sized n).1 in
    value-lowest 10 (width n) n (omega arith) ∙ mod-eq_of_lt (rw s.is s.below)

-- no zero stands first
pub first-digit : (n : ℕ) → no_leading_zero (decimal n) ≡ true
unfolding decimal no_leading_zero lowest
first-digit n =
    by_less n 10
    (λ h. rw (width_small n h))
    (λ h.
    let l = (sized (n / 10)).0 in
    let s = (sized (n / 10)).1 in
    let w : width n ≡ suc (suc l) = width-more n h ∙ ap suc s.is in
    let some : 1 ≤ n / 10 ^ suc l = (le-div_iff_mul-le {x = 1} {y = n} (one-le-pow (suc l) 10 (omega arith))).1
    (omega (arith, s.above (omega arith), pow-suc 10 l)) in
    let few : n / 10 ^ suc l < 10 = (div-lt_iff_lt-mul {x = n} {y = 10} (one-le-pow (suc l) 10 (omega arith))).1 (omega (arith, s.below)) in
    let other : 48 + n / 10 ^ suc l % 10 ≡ 48 → ⊥ = λ e. omega arith in
    rw (w, lowest-front 10 (suc l) n, lowest-front 10 l n, ne_eqb (48 + n / 10 ^ suc l % 10) 48 other))

-- the text of a number in its limits is read as that number
pub reads-back : (least most n : ℕ) → least ≤ n → n ≤ most → number least most (decimal n) ≡ Some n
unfolding number is_numeral
reads-back least most n h k =
    rw (first-digit n, all-decimal n, value-decimal n, le-leb least n h, le-leb n most k)

-- a numeral is as long as its number is wide
pub length-numeral : (bs : List ℕ) → is_numeral bs ≡ true → length bs ≡ width (value 10 bs)
unfolding is_numeral no_leading_zero
length-numeral [] h = absurd (true≢false (sym h))
length-numeral (b ∷ []) h = sym (width_small (value 10 (b ∷ [])) (value-below 10 (b ∷ []) (omega arith) h))
length-numeral (b ∷ c ∷ bs) h =
    let first : eqb b 48 ≡ false = not-true (eqb b 48) (both_left (not (eqb b 48)) (all_digits 10 (b ∷ c ∷ bs)) h) in
    let digits : all_digits 10 (b ∷ c ∷ bs) ≡ true = both_right (not (eqb b 48)) (all_digits 10 (b ∷ c ∷ bs)) h in
    let low : 48 ≤ b = digit_low 10 b (digit_at 10 (b ∷ c ∷ bs) 0 digits (omega arith)) in
    let above : 48 < b = lt_of_le-ne low (λ e. eqb-false b 48 first (sym e)) in
    sym
    (width_is (length (c ∷ bs)) (value 10 (b ∷ c ∷ bs))
    (value-front 10 b (c ∷ bs) above)
    (value-below 10 (b ∷ c ∷ bs) (omega arith) digits))

-- a text that is read as v is the text of v
pub record Numeral (least most v : ℕ) (bs : List ℕ) : Type 0 where
  pub text : bs ≡ decimal v
  pub low : least ≤ v
  pub high : v ≤ most

pub only-text : (least most v : ℕ) (bs : List ℕ) → number least most bs ≡ Some v → Numeral least most v bs
unfolding number is_numeral decimal
only-text least most v bs h =
    let n : ℕ = value 10 bs in
    let limits : Bool = both (leb least n) (leb n most) in
    let p = picked (both (is_numeral bs) limits) n v h in
    let is : is_numeral bs ≡ true = both_left (is_numeral bs) limits p.0 in
    let digits : all_digits 10 bs ≡ true = both_right (no_leading_zero bs) (all_digits 10 bs) is in
    let fits : limits ≡ true = both_right (is_numeral bs) limits p.0 in
    record {
      text =
          sym
          (ap (λ (x : ℕ). lowest 10 (width x) x) (sym p.1)
          ∙ ap (λ (w : ℕ). lowest 10 w n) (sym (length-numeral bs is))
          ∙ lowest-value 10 bs (omega arith) digits);
      low = rw p.1 at (leb-true least n (both_left (leb least n) (leb n most) fits));
      high = rw p.1 at (leb-true n most (both_right (leb least n) (leb n most) fits));
    }

-- what is read where no zero leads: the digits, and then the lower limit
pub number_read :
    (least most : ℕ) (bs : List ℕ)
    → no_leading_zero bs ≡ true
    → number least most bs ≡ on_value (read_digits 10 most bs) (λ v. pick (leb least v) (Some v) None)
unfolding number is_numeral read_digits on_value
number_read least most bs h =
    rw h (tests (all_digits 10 bs) (leb least (value 10 bs)) (leb (value 10 bs) most) refl)
  where
    tests :
        (d l m : Bool)
        → leb least (value 10 bs) ≡ l
        → pick (both d (both l m)) (Some (value 10 bs)) None ≡ on_value (pick (both d m) (Some (value 10 bs)) None) (λ v. pick (leb least v) (Some v) None)
    tests false l m e = refl
    tests true true true e = rw e
    tests true true false e = refl
    tests true false true e = rw e
    tests true false false e = refl

pub number-none : (least most : ℕ) → number least most [] ≡ None
unfolding number is_numeral no_leading_zero
number-none least most = refl

-- a zero leads, and more follows
pub number-zero : (least most b c : ℕ) (bs : List ℕ) → b ≡ 48 → number least most (b ∷ c ∷ bs) ≡ None
unfolding number is_numeral no_leading_zero
number-zero least most b c bs h = rw h

pub lone : (b : ℕ) → no_leading_zero (b ∷ []) ≡ true
unfolding no_leading_zero
lone b = refl

pub other-first : (b : ℕ) (bs : List ℕ) → (b ≡ 48 → ⊥) → no_leading_zero (b ∷ bs) ≡ true
unfolding no_leading_zero
other-first b [] h = refl
other-first b (c ∷ bs) h = rw (ne_eqb b 48 h)
