-- Digits over any base: what reading one digit more comes to, how many digits `lowest` has, and that it and `value` are inverse.
use Rattle.std.specs.Prelude.{None, Option, Some}
use Prim.Native.Nat.{ℕ, zero, suc, ◌+◌, ◌-◌, ◌*◌, ◌/◌, ◌%◌, ◌^◌, ◌≤◌, ◌<◌}
use native.Mathlib.Nat.{le_trans, le_refl, le-add_right, le-mul_of_pos_right, div-lt_iff_lt-mul, le-div_iff_mul-le, add-zero, add-suc, suc-add}
use native.Mathlib.Nat.{zero-add, pow-zero, pow-suc, pow-succ', one-le-pow, mod-lt, mod-one, div-one, div-div-eq-div-mul, mul_assoc, mul-one}
use native.Mathlib.Nat.{mul-le-mul_right, le_of_eq, not-suc-le-zero, le_of_suc-le-suc}
use native.Mathlib.Omega.{arith}
use mathlib.Core.Path.{◌≡◌, refl, sym, ap, ◌∙◌}
use mathlib.Core.Bool.{Bool, true, false}
use mathlib.Core.List.{List, [], ◌∷◌, ◌++◌, append-nil, append_assoc}
use lib.Arith.{mod-mul, digits_div, digits_mod}
use lib.Dec.{leb, ltb}
use lib.ListN.{length, get_or, set, length-append}
use lib.Seq.{sets}
use borrow.Author.Tests.{le-leb, lt-leb, lt-ltb, le-ltb, leb-true, ltb-true}
use Rattle.numerals.proofs.Choice.{both_left, both_right, both_false}
use Rattle.numerals.proofs.Lists.{sets-snoc}
use Rattle.numerals.specs.Pick.{pick, both}
use Rattle.numerals.specs.Digits.{is_digit, all_digits, value_from, value, lowest, on_value}
use Rattle.numerals.specs.Inner.Digits.{read_digits}

-- a value that a test lets through
pub picked : (t : Bool) (x v : ℕ) → pick t (Some x) None ≡ Some v → (t ≡ true) × (x ≡ v)
picked true x v h = (refl, cc)
picked false x v h = (cc, cc)

-- what was read of a number, and of what follows it
pub not-value : {P : Type 0} (v : ℕ) → None ≡ Some v → P
not-value v h = absurd (let z : ◌≡◌ {A = ℕ} 0 1 = cc in omega arith)

pub on_value_lem : (n : (Option ℕ)) (f : ℕ → (Option ℕ)) (v : ℕ) → on_value n f ≡ Some v → (u : ℕ) × (n ≡ Some u) × (f u ≡ Some v)
unfolding on_value
on_value_lem (Some u) f v h = (u, refl, h)
on_value_lem None f v h = not-value v h

-- what digits are read as, once v was read before them
unfoldable pub read_from : ℕ → ℕ → ℕ → List ℕ → Option ℕ
read_from base most v bs = pick (both (all_digits base bs) (leb (value_from base v bs) most)) (Some (value_from base v bs)) None

pub read-start : (base most : ℕ) (bs : List ℕ) → read_digits base most bs ≡ read_from base most 0 bs
unfolding read_digits read_from value
read-start base most bs = refl

pub read_none : (base most v : ℕ) → v ≤ most → read_from base most v [] ≡ Some v
unfolding read_from all_digits value_from
read_none base most v h = simp (le-leb v most h)

-- more digits never make a number smaller
pub grows : (base v : ℕ) (bs : List ℕ) → 1 ≤ base → v ≤ value_from base v bs
unfolding value_from
grows base v [] h = le_refl v
grows base v (b ∷ bs) h =
    omega (arith, le-mul_of_pos_right v h, grows base (v * base + (b - 48)) bs h)

module _ (base most v b : ℕ) (bs : List ℕ) where
  pub read_low : b < 48 → read_from base most v (b ∷ bs) ≡ None
  unfolding read_from all_digits is_digit
  read_low h = simp (lt-leb 48 b h)

  pub read-high : 48 + base ≤ b → read_from base most v (b ∷ bs) ≡ None
  unfolding read_from all_digits is_digit
  read-high h = simp (le-leb 48 b (omega arith), le-ltb b (48 + base) h)

  pub read-over : 1 ≤ base → most < v * base + (b - 48) → read_from base most v (b ∷ bs) ≡ None
  unfolding read_from value_from
  read-over one h =
      let over : most < value_from base (v * base + (b - 48)) bs = omega (arith, grows base (v * base + (b - 48)) bs one) in
      simp (lt-leb (value_from base (v * base + (b - 48)) bs) most over, both_false)

  pub read_next : 48 ≤ b → b < 48 + base → read_from base most v (b ∷ bs) ≡ read_from base most (v * base + (b - 48)) bs
  unfolding read_from all_digits is_digit value_from
  read_next h k = simp (le-leb 48 b h, lt-ltb b (48 + base) k)

-- the test that the loop makes before it adds the digit d
pub over : (base most v d : ℕ) → 1 ≤ base → (most - d) / base < v → most < v * base + d
over base most v d one h = omega (arith, (div-lt_iff_lt-mul {x = most - d} {y = v} one).0 h)

pub within : (base most v d : ℕ) → 1 ≤ base → d ≤ most → v ≤ (most - d) / base → v * base + d ≤ most
within base most v d one small h = omega (arith, (le-div_iff_mul-le {x = v} {y = most - d} one).0 h)

pub length-lowest : (base l n : ℕ) → length (lowest base l n) ≡ l
unfolding lowest
length-lowest base zero n = refl
length-lowest base (suc l) n = omega (arith, length-append (lowest base l (n / base)) ((48 + n % base) ∷ []), length-lowest base l (n / base))

-- the last digit is stored first
pub write-next :
    (base l n : ℕ) (out : List ℕ) (at : ℕ)
    → sets out at (lowest base (suc l) n) ≡ sets (set out (at + l) (48 + n % base)) at (lowest base l (n / base))
unfolding lowest
write-next base l n out at =
    sets-snoc out at (lowest base l (n / base)) (48 + n % base)
    ∙ ap (λ (k : ℕ). sets (set out (at + k) (48 + n % base)) at (lowest base l (n / base))) (length-lowest base l (n / base))

-- the highest of one digit more
pub lowest-front : (base l n : ℕ) → lowest base (suc l) n ≡ (48 + n / base ^ l % base) ∷ lowest base l n
unfolding lowest
lowest-front base zero n = rw (pow-zero, div-one)
lowest-front base (suc l) n =
    let up : n / base / base ^ l ≡ n / base ^ suc l = rw (div-div-eq-div-mul, pow-succ') in
    ap (λ (r : List ℕ). r ++ (48 + n % base) ∷ []) (lowest-front base l (n / base))
    ∙ ap (λ (k : ℕ). (48 + k % base) ∷ (lowest base l (n / base) ++ (48 + n % base) ∷ [])) up

-- a digit written after others
pub value-snoc : (base v b : ℕ) (bs : List ℕ) → value_from base v (bs ++ (b ∷ [])) ≡ value_from base v bs * base + (b - 48)
unfolding value_from
value-snoc base v b [] = refl
value-snoc base v b (a ∷ bs) = value-snoc base (v * base + (a - 48)) b bs

pub value-lowest : (base l n : ℕ) → 1 ≤ base → value base (lowest base l n) ≡ n % base ^ l
unfolding value value_from lowest
value-lowest base zero n one = rw (pow-zero, mod-one)
value-lowest base (suc l) n one =
    let digit : 48 + n % base - 48 ≡ n % base = omega arith in
    value-snoc base 0 (48 + n % base) (lowest base l (n / base))
    ∙ ap (λ (k : ℕ). value_from base 0 (lowest base l (n / base)) * base + k) digit
    ∙ ap (λ (k : ℕ). k * base + n % base) (value-lowest base l (n / base) one)
    ∙ sym (mod-mul n (one-le-pow l base one) one)
    ∙ ap (λ (k : ℕ). n % k) (sym (pow-suc base l))

pub digit_low : (base b : ℕ) → is_digit base b ≡ true → 48 ≤ b
unfolding is_digit
digit_low base b h = leb-true 48 b (both_left (leb 48 b) (ltb b (48 + base)) h)

pub digit-high : (base b : ℕ) → is_digit base b ≡ true → b < 48 + base
unfolding is_digit
digit-high base b h = ltb-true b (48 + base) (both_right (leb 48 b) (ltb b (48 + base)) h)

pub digit : (base d : ℕ) → d < base → is_digit base (48 + d) ≡ true
unfolding is_digit
digit base d h = simp (le-leb 48 (48 + d) (omega arith), lt-ltb (48 + d) (48 + base) (omega arith))

-- digits after digits
pub all_append : (base : ℕ) (cs bs : List ℕ) → all_digits base cs ≡ true → all_digits base bs ≡ true → all_digits base (cs ++ bs) ≡ true
unfolding all_digits
all_append base [] bs h k = k
all_append base (a ∷ cs) bs h k =
    rw (both_left (is_digit base a) (all_digits base cs) h) (all_append base cs bs (both_right (is_digit base a) (all_digits base cs) h) k)

pub all-lowest : (base l n : ℕ) → 1 ≤ base → all_digits base (lowest base l n) ≡ true
unfolding lowest all_digits
all-lowest base zero n one = refl
all-lowest base (suc l) n one =
    all_append base (lowest base l (n / base)) ((48 + n % base) ∷ []) (all-lowest base l (n / base) one)
    (rw (digit base (n % base) (mod-lt n one)))

-- every byte of digits is one
pub digit_at : (base : ℕ) (bs : List ℕ) (i : ℕ) → all_digits base bs ≡ true → i < length bs → is_digit base (get_or bs i 0) ≡ true
unfolding all_digits
digit_at base [] i h k = absurd (not-suc-le-zero k)
digit_at base (b ∷ bs) zero h k = both_left (is_digit base b) (all_digits base bs) h
digit_at base (b ∷ bs) (suc i) h k = digit_at base bs i (both_right (is_digit base b) (all_digits base bs) h) (le_of_suc-le-suc k)

-- the digits of a number that digits were written after: its own, and those
pub lowest-from :
    (base k v : ℕ) (bs : List ℕ) → 1 ≤ base → all_digits base bs ≡ true → lowest base (k + length bs) (value_from base v bs) ≡ lowest base k v ++ bs
unfolding all_digits value_from lowest
lowest-from base k v [] one h = ap (λ (l : ℕ). lowest base l v) (add-zero k) ∙ sym (append-nil (lowest base k v))
lowest-from base k v (b ∷ bs) one h =
    let d : is_digit base b ≡ true = both_left (is_digit base b) (all_digits base bs) h in
    let low : 48 ≤ b = digit_low base b d in
    let small : b - 48 < base = omega (arith, digit-high base b d) in
    let back : 48 + (b - 48) ≡ b = omega arith in
    ap (λ (l : ℕ). lowest base l (value_from base (v * base + (b - 48)) bs)) (add-suc k (length bs) ∙ sym (suc-add k (length bs)))
    ∙ lowest-from base (suc k) (v * base + (b - 48)) bs one (both_right (is_digit base b) (all_digits base bs) h)
    ∙ ap (λ (q : ℕ). (lowest base k q ++ (48 + (v * base + (b - 48)) % base) ∷ []) ++ bs) (digits_div v small)
    ∙ ap (λ (r : ℕ). (lowest base k v ++ (48 + r) ∷ []) ++ bs) (digits_mod v small)
    ∙ ap (λ (r : ℕ). (lowest base k v ++ r ∷ []) ++ bs) back
    ∙ append_assoc (lowest base k v) (b ∷ []) bs

pub lowest-value : (base : ℕ) (bs : List ℕ) → 1 ≤ base → all_digits base bs ≡ true → lowest base (length bs) (value base bs) ≡ bs
unfolding value lowest
lowest-value base bs one h =
    ap (λ (l : ℕ). lowest base l (value_from base 0 bs)) (sym (zero-add (length bs))) ∙ lowest-from base 0 0 bs one h

pub value-below : (base : ℕ) (bs : List ℕ) → 1 ≤ base → all_digits base bs ≡ true → value base bs < base ^ length bs
value-below base bs one h =
    let e : value base bs ≡ value base bs % base ^ length bs =
    ap (value base) (sym (lowest-value base bs one h)) ∙ value-lowest base (length bs) (value base bs) one in
    omega (arith, mod-lt (value base bs) (one-le-pow (length bs) base one))

-- and no digits make a number smaller than zeros would
pub value-above : (base v : ℕ) (bs : List ℕ) → v * base ^ length bs ≤ value_from base v bs
unfolding value_from
value-above base v [] = le_of_eq (rw (pow-zero, mul-one))
value-above base v (b ∷ bs) =
    le_trans
    (le_of_eq (ap (λ (k : ℕ). v * k) (pow-succ' base (length bs)) ∙ sym (mul_assoc v base (base ^ length bs))))
    (le_trans
    (mul-le-mul_right (base ^ length bs) (le-add_right (v * base) (b - 48)))
    (value-above base (v * base + (b - 48)) bs))

pub value-front : (base b : ℕ) (bs : List ℕ) → 48 < b → base ^ length bs ≤ value base (b ∷ bs)
unfolding value value_from
value-front base b bs h =
    let one : 1 ≤ 0 * base + (b - 48) = omega arith in
    omega (arith, mul-le-mul_right (base ^ length bs) one, value-above base (0 * base + (b - 48)) bs)

pub read-limit : (base most v : ℕ) (bs : List ℕ) → read_digits base most bs ≡ Some v → v ≤ most
unfolding read_digits
read-limit base most v bs h =
    let n : ℕ = value base bs in
    let p = picked (both (all_digits base bs) (leb n most)) n v h in
    rw p.1 at (leb-true n most (both_right (all_digits base bs) (leb n most) p.0))
