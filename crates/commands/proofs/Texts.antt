-- Texts compared; what was written as a whole answer.
use Rattle.std.specs.Prelude.{Err, IsErr, IsErrAnd, IsOk, Ok, Result}
use Prim.Native.Nat.{ℕ, ◌+◌, ◌≤◌, ◌<◌}
use mathlib.Core.Path.{◌≡◌, refl, ap, ◌∙◌}
use mathlib.Core.List.{List, [], ◌∷◌, ◌++◌}
use native.Mathlib.Nat.{zero-add}
use native.Mathlib.Omega.{arith}
use Rattle.std.specs.Str.{bytes_eq}
use lib.ListN.{length, length-append}
use lib.Seq.{sets}
use Rattle.numerals.specs.Decimal.{decimal}
use Rattle.numerals.proofs.Decimal.{length-decimal, width-least}
use Rattle.numerals.proofs.Exits.{handed_on}
use Rattle.numerals.specs.declared.refusal.Refusal.{Refusal}
use Rattle.sheets.specs.Reading.{same}
use Rattle.sheets.specs.Inner.Writing.{Wrote, Before}
use Rattle.commands.specs.Said.{Said, prints, no_number, outcome, filled}
use Rattle.commands.specs.declared.answer.NoNumber.{NoNumber}

-- two texts compared, as slices are
pub same-is : (a b : List ℕ) → same a b ≡ bytes_eq a b
unfolding same
same-is [] [] = refl
same-is [] (c ∷ b) = refl
same-is (x ∷ a) [] = refl
same-is (x ∷ a) (c ∷ b) = rw (same-is a b) refl

-- a number of 64 bits has at most 20 digits
pub digits-most : (n : ℕ) → n < 18446744073709551616 → length (decimal n) ≤ 20
digits-most n h = omega (arith, length-decimal n, width-least 19 n (omega arith))

-- where a number and its separator end
pub ends-soon : (a b : List ℕ) (at next n c : ℕ) → Wrote a b at next (decimal n ++ c ∷ []) → n < 18446744073709551616 → next ≤ at + 21
ends-soon a b at next n c w h = omega (arith, w.ends, length-append (decimal n) (c ∷ []), digits-most n h)

-- a text that was written has an end
pub written : (w : Result ℕ Refusal) (n : ℕ) → Before w n → IsOk w
written (Ok e) n h = refl
written (Err why) n h = absurd h

-- bytes written from the start of the buffer
module _ {a b : List ℕ} {n : ℕ} {bs : List ℕ} (w : Wrote a b 0 n bs) where
  pub whole : (n ≡ length bs) × (b ≡ sets a 0 bs)
  whole = (w.ends ∙ zero-add (length bs), w.holds)

  pub said : (s : Said) → s ≡ prints bs → (Ok n ≡ outcome s) × (b ≡ filled s a)
  said s e = rw e (ap Ok whole.0, whole.1)

-- a word that is no number is answered by its place, and leaves the buffer as it was
pub not-said : {r : Result ℕ NoNumber} {e : NoNumber} (a : List ℕ) (place : ℕ) → IsErr r × IsErrAnd r (λ d. d ≡ e) → e ≡ record { place = place }
    → (s : Said) → s ≡ no_number place → (r ≡ outcome s) × (a ≡ filled s a)
not-said a place h w s is = rw (is, handed_on _ _ h, w) (refl, refl)
