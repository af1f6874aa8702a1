-- Numerals of any length: their form, and what is read of them up to a limit.
use Rattle.std.specs.Prelude.{None, Option, Some, unwrap_or}
use Prim.Native.Nat.{ℕ, suc, ◌+◌, ◌≤◌, ◌<◌, min}
use mathlib.Core.Path.{◌≡◌, refl, sym, ap, ◌∙◌}
use mathlib.Core.Bool.{true, false}
use mathlib.Core.List.{List, [], ◌∷◌}
use native.Mathlib.Omega.{arith}
use lib.ListN.{length, get_or}
use borrow.Author.Tests.{le-leb, lt-leb, lt-ltb, ne_eqb, leb-true, ltb-true}
use Rattle.std.specs.Bool.{Decides}
use Rattle.numerals.specs.Digits.{is_digit, all_digits, value, on_value}
use Rattle.numerals.specs.Decimal.{no_leading_zero, is_numeral, number}
use Rattle.numerals.proofs.Base.{digit_at}
use Rattle.numerals.proofs.Choice.{both_left, both_right, by_less}
use Rattle.commands.specs.Numeral.{numeral}
use Rattle.commands.specs.Inner.Numeral.{capped}
use Rattle.commands.specs.Address.{or_else}

no_value : {v : ℕ} {P : Type 0} → None ≡ Some v → P
no_value h = absurd (let z : ◌≡◌ {A = ℕ} 0 1 = cc in omega arith)

-- The form.

pub none : (s : List ℕ) → length s ≡ 0 → is_numeral s ≡ false
unfolding is_numeral no_leading_zero
none [] h = refl
none (b ∷ s) h = absurd (omega arith)

-- a zero leads, and more follows
pub zero-leads : (s : List ℕ) → get_or s 0 0 ≡ 48 → 1 < length s → is_numeral s ≡ false
unfolding is_numeral no_leading_zero
zero-leads [] e h = absurd (omega arith)
zero-leads (b ∷ []) e h = absurd (omega arith)
zero-leads (b ∷ c ∷ s) e h = rw e

pub lone-zero : (s : List ℕ) → length s ≤ 1 → (length s ≡ 0 → ⊥) → no_leading_zero s ≡ true
unfolding no_leading_zero
lone-zero [] h n = absurd (n refl)
lone-zero (b ∷ []) h n = refl
lone-zero (b ∷ c ∷ s) h n = absurd (omega arith)

pub other-leads : (s : List ℕ) → (get_or s 0 0 ≡ 48 → ⊥) → (length s ≡ 0 → ⊥) → no_leading_zero s ≡ true
unfolding no_leading_zero
other-leads [] h n = absurd (n refl)
other-leads (b ∷ []) h n = refl
other-leads (b ∷ c ∷ s) h n = rw (ne_eqb b 48 h)

pub by_digits : (s : List ℕ) → no_leading_zero s ≡ true → is_numeral s ≡ all_digits 10 s
unfolding is_numeral
by_digits s h = rw h

-- each byte is a digit
digit-byte : (b : ℕ) → (48 ≤ b) × (b ≤ 57) → is_digit 10 b ≡ true
unfolding is_digit
digit-byte b h = rw (le-leb 48 b h.0, lt-ltb b 58 (omega (arith, h.1)))

byte-digit : (b : ℕ) → is_digit 10 b ≡ true → (48 ≤ b) × (b ≤ 57)
unfolding is_digit
byte-digit b e = (leb-true 48 b (both_left _ _ e), omega (arith, ltb-true b 58 (both_right _ _ e)))

digits-all : (s : List ℕ) → ((k : ℕ) → k < length s → (48 ≤ get_or s k 0) × (get_or s k 0 ≤ 57)) → all_digits 10 s ≡ true
unfolding all_digits
digits-all [] h = refl
digits-all (b ∷ s) h = rw (digit-byte b (h 0 (omega arith)), digits-all s (λ k l. h (suc k) (omega arith)))

pub digits-decide : (s : List ℕ) → Decides (all_digits 10 s) ((k : ℕ) → k < length s → (48 ≤ get_or s k 0) × (get_or s k 0 ≤ 57))
digits-decide s = (λ e k l. byte-digit (get_or s k 0) (digit_at 10 s k e l), digits-all s)

-- The value.

module _ (most : ℕ) (s : List ℕ) where
  pub not-capped : is_numeral s ≡ false → capped most (numeral s) ≡ None
  unfolding capped numeral on_value
  not-capped e = rw e

  is-capped : is_numeral s ≡ true → capped most (numeral s) ≡ Some (min (value 10 s) (most + 1))
  unfolding capped numeral on_value
  is-capped e = rw e

  small : is_numeral s ≡ true → value 10 s ≤ most → number 0 most s ≡ Some (value 10 s)
  unfolding number
  small e h = rw (e, le-leb 0 (value 10 s) (omega arith), le-leb (value 10 s) most h)

  large : is_numeral s ≡ true → most < value 10 s → number 0 most s ≡ None
  unfolding number
  large e h = rw (e, le-leb 0 (value 10 s) (omega arith), lt-leb (value 10 s) most h)

  -- what is read within the limit, or one more than it
  pub read-capped : is_numeral s ≡ true → Some (unwrap_or (number 0 most s) (most + 1)) ≡ capped most (numeral s)
  read-capped e =
      rw (is-capped e)
      (by_less most (value 10 s)
      (λ h. let is : min (value 10 s) (most + 1) ≡ most + 1 = omega arith in rw (large e h, is))
      (λ h. let is : min (value 10 s) (most + 1) ≡ value 10 s = omega arith in rw (small e h, is)))

-- what was capped
pub capped-value : (most v : ℕ) (x : Option ℕ) → capped most x ≡ Some v → (n : ℕ) × (x ≡ Some n) × (v ≡ min n (most + 1))
unfolding capped on_value
capped-value most v (Some n) h = (n, refl, cc)
capped-value most v None h = no_value h

pub capped-bad : (most : ℕ) (x : Option ℕ) → capped most x ≡ None → x ≡ None
unfolding capped on_value
capped-bad most (Some n) h = no_value (sym h)
capped-bad most None h = refl

-- the first reading, or the second
pub first : (most v : ℕ) (x y : Option ℕ) → capped most x ≡ Some v → capped most (or_else x y) ≡ Some v
unfolding capped on_value or_else
first most v (Some n) y h = h
first most v None y h = no_value h

pub second : (most : ℕ) (x y : Option ℕ) → capped most x ≡ None → capped most (or_else x y) ≡ capped most y
unfolding or_else
second most x y h = ap (λ (n : Option ℕ). capped most (or_else n y)) (capped-bad most x h)

-- what every number above a limit is answered with, one more than the limit is
pub capped_same : {A : Type 0} (f : ℕ → A) (most n : ℕ) → (most < n → f (most + 1) ≡ f n) → f (min n (most + 1)) ≡ f n
capped_same f most n e =
    by_less most n
    (λ h. let is : min n (most + 1) ≡ most + 1 = omega arith in ap f is ∙ e h)
    (λ h. let is : min n (most + 1) ≡ n = omega arith in ap f is)
