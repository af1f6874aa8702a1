-- What follows a reading, taken into each of its steps.
use Rattle.std.specs.Prelude.{None, Option, Some}
use Prim.Native.Nat.{ℕ}
use mathlib.Core.Path.{◌≡◌, refl}
use mathlib.Core.Bool.{Bool, true, false}
use Rattle.numerals.specs.declared.refusal.Refusal.{Refusal}
use Rattle.sheets.specs.Reading.{Reading, got, refused, then, unless, on_field}

-- two readings of the same steps, of which one is followed by g: they are the same if what the last step leaves is
module _ {A B : Type 0} (g : A → Reading B) where
  pub unless-under : (t : Bool) (why : Refusal) (line : ℕ) (r : Reading B) (s : Reading A) → r ≡ then s g → unless t why line r ≡ then (unless t why line s) g
  unfolding unless then
  unless-under true why line r s h = h
  unless-under false why line r s h = refl

  pub field-under :
      (n : (Option ℕ)) (line : ℕ) (f : ℕ → Reading B) (h : ℕ → Reading A) → ((v : ℕ) → f v ≡ then (h v) g) → on_field n line f ≡ then (on_field n line h) g
  unfolding on_field then
  field-under (Some v) line f h same = same v
  field-under None line f h same = refl

  pub then-under :
      {C : Type 0} (r : Reading C) (f : C → Reading B) (h : C → Reading A) → ((c : C) → r ≡ got c → f c ≡ then (h c) g) → then r f ≡ then (then r h) g
  unfolding then
  then-under (got c) f h same = same c refl
  then-under (refused why line) f h same = refl

-- what was read is changed before it is used
pub then-changed : {A B C : Type 0} (change : A → B) (r : Reading A) (f : B → Reading C) → then (then r (λ a. got (change a))) f ≡ then r (λ a. f (change a))
unfolding then
then-changed change (got a) f = refl
then-changed change (refused why line) f = refl
