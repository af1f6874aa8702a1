-- Suffixes read and written: what each test of the reader says, the text of a suffix reads back, and no other text does.
use Rattle.std.proofs.lemmas.Option.{same_Some}
use Rattle.std.specs.Prelude.{None, Option, Some}
use mathlib.Core.Path.{◌≡◌, refl, ap}
use mathlib.Core.Bool.{Bool, true, false}
use mathlib.Core.List.{List, [], ◌∷◌}
use Prim.Native.Nat.{ℕ, suc, ◌^◌, ◌≤◌, ◌<◌, ◌-◌}
use native.Mathlib.Nat.{mod-eq_of_lt, lt_of_lt_of_le}
use native.Mathlib.Omega.{arith}
use lib.Dec.{leb, ltb, eqb}
use lib.ListN.{length}
use lib.Pow.{pow_mono}
use borrow.Author.Tests.{eq-eqb, ne_eqb, le-leb, lt-leb, lt-ltb, eqb-true, leb-true, ltb-true}
use Rattle.numerals.specs.Pick.{pick, both}
use Rattle.numerals.specs.Digits.{all_digits, value, lowest}
use Rattle.numerals.specs.Inner.Digits.{read_digits}
use Rattle.numerals.specs.Suffix.{is_suffix, suffix, suffix_text}
use Rattle.numerals.specs.Limits.{most_bits, most_suffixes}
use Rattle.numerals.proofs.Choice.{both_left, both_right, both_false}
use Rattle.numerals.proofs.Base.{length-lowest, all-lowest, value-lowest, lowest-value, value-below}
use Rattle.numerals.proofs.Fields.{Free, free-digits}
use Rattle.numerals.specs.declared.suffixes.Suffix.{Suffix}

-- the limits of a suffix, and its test
pub record Limits (l v : ℕ) : Type 0 where
  pub short : l ≤ most_bits
  pub small : v < 2 ^ l

pub is-suffix : (l v : ℕ) → Limits l v → is_suffix most_bits l v ≡ true
unfolding is_suffix
is-suffix l v h = rw (le-leb l most_bits h.short, lt-ltb v (2 ^ l) h.small)

pub suffix-limits : (l v : ℕ) → is_suffix most_bits l v ≡ true → Limits l v
unfolding is_suffix
suffix-limits l v e =
    record {
      short = leb-true l most_bits (both_left (leb l most_bits) (ltb v (2 ^ l)) e);
      small = ltb-true v (2 ^ l) (both_right (leb l most_bits) (ltb v (2 ^ l)) e);
    }

module _ (k : ℕ) where
  pub suffix-none : suffix k [] ≡ None
  unfolding suffix
  suffix-none = refl

  pub no_bits : (bs : List ℕ) → k < 1 → suffix k bs ≡ None
  unfolding suffix
  no_bits [] h = refl
  no_bits (b ∷ bs) h = simp (lt-leb 1 k h)

  pub many-bits : (bs : List ℕ) → most_bits < k → suffix k bs ≡ None
  unfolding suffix
  many-bits [] h = refl
  many-bits (b ∷ bs) h = simp (lt-leb k most_bits h, both_false)

  pub no-star : (b : ℕ) (bs : List ℕ) → (b ≡ 42 → ⊥) → suffix k (b ∷ bs) ≡ None
  unfolding suffix
  no-star b bs n = simp (ne_eqb b 42 n, both_false)

  pub too_long : (b : ℕ) (bs : List ℕ) → k < length bs → suffix k (b ∷ bs) ≡ None
  unfolding suffix
  too_long b bs h = simp (lt-leb (length bs) k h, both_false)

-- what a suffix of n bits is read as, once its bits are
abbrev pub on_bits : ℕ → Option ℕ → Option Suffix
on_bits n (Some v) = Some (record { len = n; value = v })
on_bits n None = None

-- twelve bits are at most 4,095
module _ (k b : ℕ) (bs : List ℕ) (some : 1 ≤ k) (most : k ≤ most_bits) (star : b ≡ 42) (few : length bs ≤ k) where
  pub suffix-bits : suffix k (b ∷ bs) ≡ on_bits (length bs) (read_digits 2 (most_suffixes - 1) bs)
  unfolding suffix read_digits
  suffix-bits = go (all_digits 2 bs) refl
    where
      go : (t : Bool) → all_digits 2 bs ≡ t → suffix k (b ∷ bs) ≡ on_bits (length bs) (read_digits 2 (most_suffixes - 1) bs)
      go true e =
          let below : value 2 bs < 2 ^ most_bits = lt_of_lt_of_le (value-below 2 bs (omega arith) e) (pow_mono {j = most_bits} (omega arith)) in
          simp (le-leb 1 k some, le-leb k most_bits most, eq-eqb b 42 star, le-leb (length bs) k few, e, le-leb (value 2 bs) (most_suffixes - 1) (omega arith))
      go false e = simp (e, both_false)

-- the text of a suffix reads back
pub suffix-back : (k l v : ℕ) → 1 ≤ k → k ≤ most_bits → l ≤ k → v < 2 ^ l → suffix k (suffix_text l v) ≡ Some (record { len = l; value = v })
unfolding suffix suffix_text
suffix-back k l v some most short small =
    simp (
      le-leb 1 k some,
      le-leb k most_bits most,
      length-lowest 2 l v,
      all-lowest 2 l v (omega arith),
      value-lowest 2 l v (omega arith),
      mod-eq_of_lt small,
      le-leb l k short,
    )

-- and no other text does
pub record OnlyText (k l v : ℕ) (bs : List ℕ) : Type 0 where
  pub text : bs ≡ suffix_text l v
  pub some : 1 ≤ k
  pub most : k ≤ most_bits
  pub short : l ≤ k
  pub small : v < 2 ^ l

picked :
    (t : Bool) (n x l v : ℕ)
    → pick {A = Option Suffix} t (Some (record { len = n; value = x })) None ≡ Some (record { len = l; value = v })
    → (t ≡ true) × (n ≡ l) × (x ≡ v)
picked true n x l v e = (refl, ap (λ (s : Suffix). s.len) (same_Some _ _ e), ap (λ (s : Suffix). s.value) (same_Some _ _ e))
picked false n x l v e = (cc, cc, cc)

pub suffix-only : (k l v : ℕ) (bs : List ℕ) → suffix k bs ≡ Some (record { len = l; value = v }) → OnlyText k l v bs
unfolding suffix suffix_text
suffix-only k l v [] e = absurd (let z : ◌≡◌ {A = ℕ} 0 1 = cc in omega arith)
suffix-only k l v (b ∷ bs) e =
    let depth = both (leb 1 k) (leb k most_bits) in
    let tests = both (all_digits 2 bs) (leb (length bs) k) in
    let found = picked (both depth (both (eqb b 42) tests)) (length bs) (value 2 bs) l v e in
    let limits : depth ≡ true = both_left depth (both (eqb b 42) tests) found.0 in
    let form : both (eqb b 42) tests ≡ true = both_right depth (both (eqb b 42) tests) found.0 in
    let star : b ≡ 42 = eqb-true b 42 (both_left (eqb b 42) tests form) in
    let more : tests ≡ true = both_right (eqb b 42) tests form in
    let digits : all_digits 2 bs ≡ true = both_left (all_digits 2 bs) (leb (length bs) k) more in
    let few : length bs ≤ k = leb-true (length bs) k (both_right (all_digits 2 bs) (leb (length bs) k) more) in
    record {
      text = cc (star, found.1, found.2, lowest-value 2 bs (omega arith) digits);
      some = leb-true 1 k (both_left (leb 1 k) (leb k most_bits) limits);
      most = leb-true k most_bits (both_right (leb 1 k) (leb k most_bits) limits);
      short = omega arith;
      small = rw (← found.1, ← found.2) (value-below 2 bs (omega arith) digits);
    }

pub length-suffix : (l v : ℕ) → length (suffix_text l v) ≡ suc l
unfolding suffix_text
length-suffix l v = ap suc (length-lowest 2 l v)

-- the text is free of space, line feed and every other byte before '*'
pub suffix-free : (c l v : ℕ) → c < 42 → Free c (suffix_text l v)
unfolding suffix_text
suffix-free c l v h = (λ e. omega arith, free-digits 2 c (lowest 2 l v) (omega arith) (all-lowest 2 l v (omega arith)))
