-- More decimals (document 02, Req 07): where j more may be written, a percentage that has no more than before stands for 10 ^ j times as many parts. And
-- what is read has no more decimals than it may have.
use Rattle.std.specs.Prelude.{None, Option, Some}
use Prim.Native.Nat.{ℕ, ◌+◌, ◌-◌, ◌*◌, ◌^◌, ◌≤◌}
use native.Mathlib.Nat.{one-le-pow, mul_assoc, mul_comm, mul-add}
use native.Mathlib.Omega.{arith}
use mathlib.Core.Path.{◌≡◌, refl, sym, ap, ◌∙◌}
use mathlib.Core.Bool.{Bool, true, false}
use mathlib.Core.List.{List, [], ◌∷◌}
use lib.Dec.{leb, ltb}
use lib.ListN.{length, get_or}
use lib.Pow.{pow-add}
use borrow.Author.Tests.{le-leb, leb-true}
use Rattle.numerals.specs.Pick.{pick, both}
use Rattle.numerals.specs.Digits.{all_digits, value, on_value}
use Rattle.numerals.specs.Decimal.{number}
use Rattle.numerals.specs.Text.{split}
use Rattle.numerals.specs.Percentage.{fraction, at_most_all, percent_of, percentage, few_decimals}
use Rattle.numerals.proofs.Base.{picked, not-value, on_value_lem}
use Rattle.numerals.proofs.Choice.{both_left, both_right}
use Rattle.numerals.proofs.Scaled.{leb-scaled}

-- what was read, m times as large
abbrev pub scaled_number : ℕ → Option ℕ → Option ℕ
scaled_number m (Some v) = Some (m * v)
scaled_number m None = None

pick-scaled : (m v : ℕ) (t : Bool) → pick t (Some (m * v)) None ≡ scaled_number m (pick t (Some v) None)
pick-scaled m v true = refl
pick-scaled m v false = refl

on-scaled : (m : ℕ) (r : (Option ℕ)) (f g : ℕ → (Option ℕ)) → ((v : ℕ) → g v ≡ scaled_number m (f v)) → on_value r g ≡ scaled_number m (on_value r f)
unfolding on_value
on-scaled m (Some v) f g h = h v
on-scaled m None f g h = refl

-- a product with a power of ten
power-scaled : (x d j : ℕ) → x * 10 ^ (d + j) ≡ 10 ^ j * (x * 10 ^ d)
power-scaled x d j =
    ap (λ p. x * p) (pow-add 10 d j) ∙ sym (mul_assoc x (10 ^ d) (10 ^ j)) ∙ mul_comm (x * 10 ^ d) (10 ^ j)

module _ (d j : ℕ) where
  all-scaled : (v : ℕ) → at_most_all (d + j) (10 ^ j * v) ≡ scaled_number (10 ^ j) (at_most_all d v)
  unfolding at_most_all
  all-scaled v =
      rw (power-scaled 100 d j, leb-scaled (10 ^ j) (one-le-pow j 10 (omega arith)) v (100 * 10 ^ d)) (pick-scaled (10 ^ j) v (leb v (100 * 10 ^ d)))

  fraction-scaled : (bs : List ℕ) → length bs ≤ d → fraction (d + j) bs ≡ scaled_number (10 ^ j) (fraction d bs)
  unfolding fraction
  fraction-scaled bs h =
      let left : d + j - length bs ≡ d - length bs + j = omega arith in
      rw (le-leb (length bs) d h, le-leb (length bs) (d + j) (omega arith), left, power-scaled (value 10 bs) (d - length bs) j)
      (pick-scaled (10 ^ j) (value 10 bs * 10 ^ (d - length bs)) (both (ltb 0 (length bs)) (both true (all_digits 10 bs))))

  -- the whole part and the fraction together
  summed :
      (v : ℕ) (r : (Option ℕ))
      → on_value (scaled_number (10 ^ j) r) (λ u. at_most_all (d + j) (v * 10 ^ (d + j) + u))
      ≡ scaled_number (10 ^ j) (on_value r (λ u. at_most_all d (v * 10 ^ d + u)))
  unfolding on_value
  summed v (Some u) =
      let sum : v * 10 ^ (d + j) + 10 ^ j * u ≡ 10 ^ j * (v * 10 ^ d + u) = omega (arith, power-scaled v d j, mul-add (10 ^ j) (v * 10 ^ d) u) in
      ap (at_most_all (d + j)) sum ∙ all-scaled (v * 10 ^ d + u)
  summed v None = refl

  parts-scaled : (ps : List (List ℕ)) → length (get_or ps 1 []) ≤ d → percent_of (d + j) ps ≡ scaled_number (10 ^ j) (percent_of d ps)
  unfolding percent_of
  parts-scaled [] h = refl
  parts-scaled (w ∷ []) h =
      on-scaled (10 ^ j) (number 0 999 w) _ _ (λ v. ap (at_most_all (d + j)) (power-scaled v d j) ∙ all-scaled (v * 10 ^ d))
  parts-scaled (w ∷ f ∷ []) h =
      on-scaled (10 ^ j) (number 0 999 w) _ _ (λ v. rw (fraction-scaled f h) (summed v (fraction d f)))
  parts-scaled (w ∷ f ∷ g ∷ gs) h = refl

  pub percent-scaled : (bs : List ℕ) → few_decimals d bs ≡ true → percentage (d + j) bs ≡ scaled_number (10 ^ j) (percentage d bs)
  unfolding percentage few_decimals
  percent-scaled bs h = parts-scaled (split 46 bs) (leb-true _ d h)

-- what is read with up to d decimals has no more
module _ (d : ℕ) where
  fraction-few : (u : ℕ) (bs : List ℕ) → fraction d bs ≡ Some u → leb (length bs) d ≡ true
  unfolding fraction
  fraction-few u bs h =
      let n : ℕ = length bs in
      let p = picked (both (ltb 0 n) (both (leb n d) (all_digits 10 bs))) (value 10 bs * 10 ^ (d - n)) u h in
      both_left (leb n d) (all_digits 10 bs) (both_right (ltb 0 n) (both (leb n d) (all_digits 10 bs)) p.0)

  parts-few : (v : ℕ) (ps : List (List ℕ)) → percent_of d ps ≡ Some v → leb (length (get_or ps 1 [])) d ≡ true
  unfolding percent_of
  parts-few v [] h = le-leb 0 d (omega arith)
  parts-few v (w ∷ []) h = le-leb 0 d (omega arith)
  parts-few v (w ∷ f ∷ []) h =
      let n = on_value_lem _ _ v h in
      let u = on_value_lem _ _ v n.2 in
      fraction-few u.0 f u.1
  parts-few v (w ∷ f ∷ g ∷ gs) h = not-value v h

  pub percent-few : (v : ℕ) (bs : List ℕ) → percentage d bs ≡ Some v → few_decimals d bs ≡ true
  unfolding percentage few_decimals
  percent-few v bs h = parts-few v (split 46 bs) h
