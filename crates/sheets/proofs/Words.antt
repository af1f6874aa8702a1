-- Two texts compared byte by byte.
use Prim.Native.Nat.{ℕ}
use mathlib.Core.Path.{◌≡◌, refl, sym, ap, ◌∙◌}
use mathlib.Core.Bool.{Bool, true, false, not}
use mathlib.Core.List.{List, [], ◌∷◌}
use native.Mathlib.Omega.{arith}
use lib.Dec.{eqb}
use lib.ListN.{length}
use Rattle.std.specs.Str.{bytes_eq}
use borrow.Author.Tests.{eq-eqb, ne_eqb}
use Rattle.numerals.proofs.Choice.{both_false}
use Rattle.sheets.specs.Reading.{same}

pub same_refl : (l : List ℕ) → same l l ≡ true
unfolding same
same_refl [] = refl
same_refl (b ∷ l) = rw (eq-eqb b b refl) (same_refl l)

pub same_more : (b c : ℕ) (l m : List ℕ) → b ≡ c → same (b ∷ l) (c ∷ m) ≡ same l m
unfolding same
same_more b c l m e = rw (eq-eqb b c e)

pub same-other : (b c : ℕ) (l m : List ℕ) → (b ≡ c → ⊥) → same (b ∷ l) (c ∷ m) ≡ false
unfolding same
same-other b c l m n = rw (ne_eqb b c n)

pub same-long : (l m : List ℕ) → (length l ≡ length m → ⊥) → same l m ≡ false
unfolding same
same-long [] [] n = absurd (n refl)
same-long [] (c ∷ m) n = refl
same-long (b ∷ l) [] n = refl
same-long (b ∷ l) (c ∷ m) n = rw (same-long l m (λ e. n (omega arith))) (both_false (eqb b c))

-- comparing them is what `==` does
pub same-is : (l m : List ℕ) → same l m ≡ bytes_eq l m
unfolding same
same-is [] [] = refl
same-is [] (c ∷ cs) = refl
same-is (b ∷ bs) [] = refl
same-is (b ∷ bs) (c ∷ cs) = rw (same-is bs cs) (elim (eqb b c) [ true ↦ refl | false ↦ refl ])

-- and what `!=` does
pub same-not : (l m : List ℕ) (t : Bool) → t ≡ not (bytes_eq l m) → same l m ≡ not t
same-not l m t e = same-is l m ∙ sym (ap not e ∙ not-not (bytes_eq l m))
  where
    not-not : (b : Bool) → not (not b) ≡ b
    not-not true = refl
    not-not false = refl
