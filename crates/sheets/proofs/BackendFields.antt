-- The field of a backend, id:percentage: it has two parts just where its first colon parts an id and a percentage, since no percentage has a colon.
use Rattle.std.specs.Prelude.{None, Some}
use Prim.Native.Nat.{ℕ, ◌+◌, ◌*◌, ◌^◌, ◌≤◌, ◌<◌}
use mathlib.Core.Path.{◌≡◌, refl, sym, ap, ◌∙◌}
use mathlib.Core.Bool.{Bool, true, false}
use mathlib.Core.List.{List, [], ◌∷◌}
use native.Mathlib.Nat.{le_refl}
use native.Mathlib.Numerals.{add-one}
use native.Mathlib.Omega.{arith}
use lib.Dec.{leb, ltb, eqb}
use lib.ListN.{length, take}
use lib.Seq.{slice, take-length}
use borrow.Author.Tests.{leb-true, eqb-true, eqb-false, ne_eqb}
use Rattle.numerals.specs.Pick.{both}
use Rattle.numerals.specs.Digits.{is_digit, all_digits, value}
use Rattle.numerals.specs.Decimal.{no_leading_zero, is_numeral, number}
use Rattle.numerals.specs.Limits.{most_id, decimals, unit}
use Rattle.numerals.specs.Percentage.{fraction, at_most_all, percent_of, percentage}
use Rattle.numerals.specs.Refusals.{no2}
use Rattle.numerals.specs.Text.{onto, split, index_of}
use Rattle.numerals.proofs.Base.{digit-high, picked, not-value, on_value_lem}
use Rattle.numerals.proofs.Choice.{by_less, both_left, both_right}
use Rattle.numerals.proofs.Decimal.{only-text}
use Rattle.numerals.proofs.Fields.{Free, split-here, split-later, split-some, free-whole, cut, cut-last}
use Rattle.sheets.specs.Reading.{got, refused, then, unless, on_field}
use Rattle.sheets.specs.PercentageSheet.{backend_before, weight_fields}
use Rattle.sheets.specs.Inner.SheetReader.{Named}
use Rattle.sheets.proofs.FieldParts.{cut-none}

-- a percentage is at most 100

at_most : (d u v : ℕ) → at_most_all d u ≡ Some v → v ≤ 100 * 10 ^ d
unfolding at_most_all
at_most d u v h =
    let p = picked (leb u (100 * 10 ^ d)) u v h in
    rw (← p.1) (leb-true u (100 * 10 ^ d) p.0)

parts-limit : (d v : ℕ) (ls : List (List ℕ)) → percent_of d ls ≡ Some v → v ≤ 100 * 10 ^ d
unfolding percent_of
parts-limit d v [] h = not-value v h
parts-limit d v (w ∷ []) h =
    let n = on_value_lem _ _ v h in at_most d (n.0 * 10 ^ d) v n.2
parts-limit d v (w ∷ f ∷ []) h =
    let n = on_value_lem _ _ v h in
    let u = on_value_lem _ _ v n.2 in
    at_most d (n.0 * 10 ^ d + u.0) v u.2
parts-limit d v (w ∷ f ∷ g ∷ gs) h = not-value v h

pub percent-limit : (d v : ℕ) (bs : List ℕ) → percentage d bs ≡ Some v → v ≤ 100 * 10 ^ d
unfolding percentage
percent-limit d v bs h = parts-limit d v (split 46 bs) h

-- no digit is a colon, and no percentage has one

digits-free : (bs : List ℕ) → all_digits 10 bs ≡ true → Free 58 bs
unfolding all_digits
digits-free [] d = tt
digits-free (b ∷ bs) d =
    let low : b < 58 = digit-high 10 b (both_left (is_digit 10 b) (all_digits 10 bs) d) in
    (λ e. omega arith, digits-free bs (both_right (is_digit 10 b) (all_digits 10 bs) d))

number-free : (least most v : ℕ) (bs : List ℕ) → number least most bs ≡ Some v → Free 58 bs
unfolding number is_numeral
number-free least most v bs h =
    let limits : Bool = both (leb least (value 10 bs)) (leb (value 10 bs) most) in
    let is : is_numeral bs ≡ true = both_left (is_numeral bs) limits (picked (both (is_numeral bs) limits) (value 10 bs) v h).0 in
    digits-free bs (both_right (no_leading_zero bs) (all_digits 10 bs) is)

fraction-free : (d u : ℕ) (bs : List ℕ) → fraction d bs ≡ Some u → Free 58 bs
unfolding fraction
fraction-free d u bs h =
    let rest : Bool = both (leb (length bs) d) (all_digits 10 bs) in
    let is : rest ≡ true = both_right (ltb 0 (length bs)) rest (picked (both (ltb 0 (length bs)) rest) _ u h).0 in
    digits-free bs (both_right (leb (length bs) d) (all_digits 10 bs) is)

abbrev AllFree : ℕ → List (List ℕ) → Type 0
AllFree c [] = Unit {0}
AllFree c (l ∷ ls) = Free c l × AllFree c ls

onto-free : (c b : ℕ) (ls : List (List ℕ)) → AllFree c (onto b ls) → (b ≡ c → ⊥) × AllFree c ls
unfolding onto
onto-free c b [] h = (h.0.0, tt)
onto-free c b (l ∷ ls) h = (h.0.0, (h.0.1, h.1))

-- a text whose fields are free of another byte than their separator
split-free : (c d : ℕ) (bs : List ℕ) → (d ≡ c → ⊥) → AllFree c (split d bs) → Free c bs
split-free c d [] n h = tt
split-free c d (b ∷ bs) n h = go (eqb b d) refl (split-free c d bs n)
  where
    go : (t : Bool) → eqb b d ≡ t → (AllFree c (split d bs) → Free c bs) → Free c (b ∷ bs)
    go true e ih =
        let same : b ≡ d = eqb-true b d e in
        (λ x. n (sym same ∙ x), ih (rw (split-here bs same) at h).1)
    go false e ih =
        let o = onto-free c b (split d bs) (rw (split-later bs (eqb-false b d e)) at h) in
        (o.0, ih o.1)

parts_free : (d v : ℕ) (ls : List (List ℕ)) → percent_of d ls ≡ Some v → AllFree 58 ls
unfolding percent_of
parts_free d v [] h = tt
parts_free d v (w ∷ []) h =
    let n = on_value_lem _ _ v h in (number-free 0 999 n.0 w n.1, tt)
parts_free d v (w ∷ f ∷ []) h =
    let n = on_value_lem _ _ v h in
    let u = on_value_lem _ _ v n.2 in
    (number-free 0 999 n.0 w n.1, (fraction-free d u.0 f u.1, tt))
parts_free d v (w ∷ f ∷ g ∷ gs) h = not-value v h

pub percent-free : (d v : ℕ) (bs : List ℕ) → percentage d bs ≡ Some v → Free 58 bs
unfolding percentage
percent-free d v bs h = split-free 58 46 bs (λ e. omega arith) (parts_free d v (split 46 bs) h)

-- a field, by the position e at which the search for its colon ends
module _ (e : ℕ) (s : List ℕ) (is : e ≡ 0 + index_of 58 (slice 0 (length s) s)) (before : ℕ) where
  pub field-none : length s ≤ e → (line : ℕ) (fs : List (List ℕ)) → weight_fields decimals line before (s ∷ fs) ≡ refused no2 line
  unfolding weight_fields unless
  field-none h line fs = rw (cut-none 58 e s is h)

  module _ (h : e < length s) where
    parts : split 58 s ≡ take e s ∷ split 58 (slice (e + 1) (length s) s)
    parts = sym (ap (split 58) (take-length s)) ∙ cut 58 0 (length s) e s (le_refl (length s)) is h

    -- where no other colon stands behind it
    field-two :
        split 58 (slice (e + 1) (length s) s) ≡ slice (e + 1) (length s) s ∷ [] → (line : ℕ) (fs : List (List ℕ))
        → weight_fields decimals line before (s ∷ fs)
        ≡ on_field (number (before + 1) most_id (take e s)) line (λ id.
        on_field (percentage decimals (slice (e + 1) (length s) s)) line (λ w.
        then (weight_fields decimals line id fs) (λ ws. got (backend_before id w ws))))
    unfolding weight_fields unless
    field-two last line fs = rw (parts ∙ ap (λ (ls : List (List ℕ)). take e s ∷ ls) last, add-one before)

    -- one of the two parts is none
    field-bad :
        (line : ℕ) (fs : List (List ℕ))
        → (on_field (number (before + 1) most_id (take e s)) line (λ id.
        on_field (percentage decimals (slice (e + 1) (length s) s)) line (λ w.
        then (weight_fields decimals line id fs) (λ ws. got (backend_before id w ws))))
        ≡ refused no2 line)
        → weight_fields decimals line before (s ∷ fs) ≡ refused no2 line
    unfolding weight_fields unless
    field-bad line fs bad =
        let n : ℕ = e + 1 + index_of 58 (slice (e + 1) (length s) s) in
        by_less n (length s)
        (λ l.
        let many : length (split 58 s) ≡ 2 → ⊥ =
        λ two.
        let second = cut 58 (e + 1) (length s) n s (le_refl (length s)) refl l in
        omega (arith, ap length parts, ap length second, split-some 58 (slice (n + 1) (length s) s)) in
        rw (ne_eqb (length (split 58 s)) 2 many))
        (λ l. field-two (cut-last 58 (e + 1) (length s) n s (le_refl (length s)) refl l) line fs ∙ bad)

    pub field-no-id :
        number (before + 1) most_id (take e s) ≡ None → (line : ℕ) (fs : List (List ℕ))
        → weight_fields decimals line before (s ∷ fs) ≡ refused no2 line
    unfolding on_field
    field-no-id bad line fs = field-bad line fs (rw bad)

    pub field-no-weight :
        (id : ℕ) → number (before + 1) most_id (take e s) ≡ Some id → percentage decimals (slice (e + 1) (length s) s) ≡ None
        → (line : ℕ) (fs : List (List ℕ)) → weight_fields decimals line before (s ∷ fs) ≡ refused no2 line
    unfolding on_field
    field-no-weight id named bad line fs = field-bad line fs (rw (named, bad))

    pub field-got :
        (id w : ℕ) → number (before + 1) most_id (take e s) ≡ Some id → percentage decimals (slice (e + 1) (length s) s) ≡ Some w
        → Named before s id w
    unfolding on_field unit
    field-got id w named weighed =
        record {
          known = (only-text (before + 1) most_id id (take e s) named).high;
          small = percent-limit decimals w (slice (e + 1) (length s) s) weighed;
          next =
              λ line fs.
              field-two (free-whole 58 (slice (e + 1) (length s) s) (percent-free decimals w (slice (e + 1) (length s) s) weighed)) line fs
              ∙ rw (named, weighed);
        }
