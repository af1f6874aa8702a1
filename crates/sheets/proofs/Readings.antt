-- What was read passed every test: each step of a reading, taken backwards.
use Rattle.std.specs.Prelude.{None, Option, Some}
use Prim.Native.Nat.{ℕ}
use mathlib.Core.Path.{◌≡◌, refl, sym, ap₂}
use mathlib.Core.Bool.{Bool, true, false, true≢false}
use mathlib.Core.List.{List, [], ◌∷◌}
use native.Mathlib.Omega.{arith}
use lib.Dec.{eqb}
use borrow.Author.Tests.{eqb-true}
use Rattle.numerals.proofs.Choice.{both_left, both_right}
use Rattle.numerals.specs.declared.refusal.Refusal.{Refusal}
use Rattle.sheets.specs.Reading.{Reading, got, refused, then, unless, on_field, same}
use Rattle.sheets.specs.RuleSheet.{on_suffix}
use Rattle.numerals.specs.declared.suffixes.Suffix.{Suffix}

-- a refusal is nothing that was read
pub not-got : {A : Type 0} {why : Refusal} {line : ℕ} {a : A} → refused why line ≡ got a → ⊥
not-got h = let z : ◌≡◌ {A = ℕ} 0 1 = cc in omega arith

pub got_same : {A : Type 0} {a b : A} → got a ≡ got b → a ≡ b
got_same h = cc

module _ {A : Type 0} where
  pub unless-got : (t : Bool) (why : Refusal) (line : ℕ) (next : Reading A) {a : A} → unless t why line next ≡ got a → (t ≡ true) × (next ≡ got a)
  unfolding unless
  unless-got true why line next h = (refl, h)
  unless-got false why line next h = absurd (not-got h)

  pub on_field-got : (n : (Option ℕ)) (line : ℕ) (f : ℕ → Reading A) {a : A} → on_field n line f ≡ got a → (v : ℕ) × (n ≡ Some v) × (f v ≡ got a)
  unfolding on_field
  on_field-got (Some v) line f h = (v, refl, h)
  on_field-got None line f h = absurd (not-got h)

  pub on_suffix-got :
      (s : (Option Suffix)) (line : ℕ) (f : ℕ → ℕ → Reading A) {a : A}
      → on_suffix s line f ≡ got a → (l : ℕ) × (v : ℕ) × (s ≡ Some (record { len = l; value = v })) × (f l v ≡ got a)
  unfolding on_suffix
  on_suffix-got (Some s) line f h = (s.len, s.value, refl, h)
  on_suffix-got None line f h = absurd (not-got h)

  pub then-got : {B : Type 0} (r : Reading A) (f : A → Reading B) {b : B} → then r f ≡ got b → (a : A) × (r ≡ got a) × (f a ≡ got b)
  unfolding then
  then-got (got a) f h = (a, refl, h)
  then-got (refused why line) f h = absurd (not-got h)

-- two texts that pass the test are one
pub same_true : (bs cs : List ℕ) → same bs cs ≡ true → bs ≡ cs
unfolding same
same_true [] [] h = refl
same_true [] (c ∷ cs) h = absurd (true≢false (sym h))
same_true (b ∷ bs) [] h = absurd (true≢false (sym h))
same_true (b ∷ bs) (c ∷ cs) h =
    ap₂ (λ (x : ℕ) (xs : List ℕ). x ∷ xs) (eqb-true b c (both_left (eqb b c) (same bs cs) h)) (same_true bs cs (both_right (eqb b c) (same bs cs) h))
