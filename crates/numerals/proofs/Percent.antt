-- Percentages: what the digits after the dot are read as, and where they end.
use Rattle.std.specs.Prelude.{None, Some}
use Prim.Native.Nat.{ℕ, ◌+◌, ◌-◌, ◌*◌, ◌^◌, ◌≤◌, ◌<◌}
use native.Mathlib.Nat.{one-le-pow, pow-le-pow_right, mul-lt-mul_of_pos_right}
use native.Mathlib.Omega.{arith}
use mathlib.Core.Path.{◌≡◌, refl, sym, ap, ◌∙◌}
use mathlib.Core.Bool.{Bool, true, false}
use mathlib.Core.List.{List, [], ◌∷◌}
use lib.Dec.{leb, ltb}
use lib.ListN.{length}
use lib.Seq.{slice}
use lib.Pow.{pow-add}
use borrow.Author.Tests.{le-leb, lt-leb, lt-ltb, leb-true}
use Rattle.numerals.specs.Pick.{pick, both}
use Rattle.numerals.specs.Digits.{all_digits, value, on_value}
use Rattle.numerals.specs.Inner.Digits.{read_digits}
use Rattle.numerals.specs.Decimal.{number}
use Rattle.numerals.specs.Text.{split, index_of}
use Rattle.numerals.specs.Percentage.{fraction, at_most_all, percent_of, percentage}
use Rattle.numerals.proofs.Choice.{by_less, both_left, both_right, both_false}
use Rattle.numerals.proofs.Base.{picked, value-below}
use Rattle.numerals.proofs.Fields.{split-some, cut, cut-last, cut-part}

pub fraction-none : (d : ℕ) → fraction d [] ≡ None
unfolding fraction
fraction-none d = refl

pub fraction-long : (d : ℕ) (bs : List ℕ) → d < length bs → fraction d bs ≡ None
unfolding fraction
fraction-long d bs h = simp (lt-leb (length bs) d h, both_false)

-- up to d digits are below 10 ^ d, so that reading them needs no limit
pub fraction-read :
    (d : ℕ) (bs : List ℕ)
    → 1 ≤ length bs
    → length bs ≤ d
    → fraction d bs ≡ on_value (read_digits 10 (10 ^ d - 1) bs) (λ v. Some (v * 10 ^ (d - length bs)))
unfolding fraction read_digits on_value
fraction-read d bs h k = rw (lt-ltb 0 (length bs) h, le-leb (length bs) d k) (tests (all_digits 10 bs) refl)
  where
    tests :
        (t : Bool)
        → all_digits 10 bs ≡ t
        → pick t (Some (value 10 bs * 10 ^ (d - length bs))) None
        ≡ on_value (pick (both t (leb (value 10 bs) (10 ^ d - 1))) (Some (value 10 bs)) None) (λ v. Some (v * 10 ^ (d - length bs)))
    tests true e =
        let more : 10 ^ length bs ≤ 10 ^ d = pow-le-pow_right {n = 10} (omega arith) k in
        let small : value 10 bs ≤ 10 ^ d - 1 = omega (arith, value-below 10 bs (omega arith) e) in
        rw (le-leb (value 10 bs) (10 ^ d - 1) small)
    tests false e = refl

pub fraction-below : (d u : ℕ) (bs : List ℕ) → fraction d bs ≡ Some u → u < 10 ^ d
unfolding fraction
fraction-below d u bs h =
    let n : ℕ = length bs in
    let p = picked (both (ltb 0 n) (both (leb n d) (all_digits 10 bs))) (value 10 bs * 10 ^ (d - n)) u h in
    let q : both (leb n d) (all_digits 10 bs) ≡ true = both_right (ltb 0 n) (both (leb n d) (all_digits 10 bs)) p.0 in
    let few : n ≤ d = leb-true n d (both_left (leb n d) (all_digits 10 bs) q) in
    let below : value 10 bs < 10 ^ n = value-below 10 bs (omega arith) (both_right (leb n d) (all_digits 10 bs) q) in
    let all : d ≡ n + (d - n) = omega arith in
    let whole : 10 ^ d ≡ 10 ^ n * 10 ^ (d - n) = ap (λ k. 10 ^ k) all ∙ pow-add 10 n (d - n) in
    omega (arith, p.1, whole, mul-lt-mul_of_pos_right below (one-le-pow (d - n) 10 (omega arith)))

-- more than one dot
percent-dots : (d : ℕ) (ps : List (List ℕ)) → 2 < length ps → percent_of d ps ≡ None
unfolding percent_of
percent-dots d [] h = refl
percent-dots d (w ∷ []) h = absurd (omega arith)
percent-dots d (w ∷ f ∷ []) h = absurd (omega arith)
percent-dots d (w ∷ f ∷ g ∷ gs) h = refl

pub percent-many : (d : ℕ) (bs : List ℕ) → 2 < length (split 46 bs) → percentage d bs ≡ None
unfolding percentage
percent-many d bs h = percent-dots d (split 46 bs) h

-- a percentage between two positions, by the position e at which the search for a dot ends
module _ (d from to e : ℕ) (s : List ℕ) (k : to ≤ length s) (is : e ≡ from + index_of 46 (slice from to s)) where
  pub percent-last : to ≤ e → percentage d (slice from to s) ≡ on_value (number 0 999 (slice from e s)) (λ v. at_most_all d (v * 10 ^ d))
  unfolding percentage percent_of
  percent-last h =
      ap (percent_of d) (cut-last 46 from to e s k is h)
      ∙ ap (λ p. on_value (number 0 999 p) (λ v. at_most_all d (v * 10 ^ d))) (sym (cut-part 46 from to e s k is h))

  -- a dot at e, and n where the search for the next one ends
  module _ (n : ℕ) (h : e < to) (next : n ≡ e + 1 + index_of 46 (slice (e + 1) to s)) where
    parts : split 46 (slice from to s) ≡ slice from e s ∷ split 46 (slice (e + 1) to s)
    parts = cut 46 from to e s k is h

    pub percent-cut :
        to ≤ n
        → percentage d (slice from to s)
        ≡ on_value (number 0 999 (slice from e s)) (λ v. on_value (fraction d (slice (e + 1) n s)) (λ u. at_most_all d (v * 10 ^ d + u)))
    unfolding percentage percent_of
    percent-cut last =
        ap (percent_of d) (parts ∙ ap (λ ls. slice from e s ∷ ls) (cut-last 46 (e + 1) to n s k next last))
        ∙ ap (λ p. on_value (number 0 999 (slice from e s)) (λ v. on_value (fraction d p) (λ u. at_most_all d (v * 10 ^ d + u))))
        (sym (cut-part 46 (e + 1) to n s k next last))

    -- a second dot
    pub percent-two : n < to → percentage d (slice from to s) ≡ None
    percent-two l =
        percent-many d (slice from to s)
        (omega (arith, ap length parts, ap length (cut 46 (e + 1) to n s k next l), split-some 46 (slice (n + 1) to s)))

  pub percent-bad : number 0 999 (slice from e s) ≡ None → percentage d (slice from to s) ≡ None
  unfolding on_value
  percent-bad h =
      let n : ℕ = e + 1 + index_of 46 (slice (e + 1) to s) in
      by_less e to
      (λ l. by_less n to (percent-two n l refl) (λ m. percent-cut n l refl m ∙ rw h))
      (λ l. percent-last l ∙ rw h)
