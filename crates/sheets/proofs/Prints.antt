-- A text for a lent buffer: what is answered where it fits, and where it doesn't.
use Rattle.std.specs.Prelude.{Err, Ok, Result}
use Prim.Native.Nat.{ℕ, ◌≤◌, ◌<◌}
use mathlib.Core.Path.{◌≡◌, refl}
use mathlib.Core.List.{List}
use native.Mathlib.Omega.{arith}
use lib.ListN.{length}
use borrow.Author.Tests.{le-leb, lt-leb}
use Rattle.numerals.specs.declared.refusal.Refusal.TheVariants.{ShortLoan}
use Rattle.sheets.specs.Calls.{refused_at, print_text, afterwards, is_value}
use Rattle.sheets.specs.Inner.Writing.{Wrote}
use Rattle.sheets.specs.declared.answer.Refused.{Refused}

-- the answer and the buffer afterwards
abbrev pub PrintedAs : List ℕ → List ℕ → Result ℕ Refused → List ℕ → Type 0
PrintedAs bytes out r after = (r ≡ print_text bytes (length out)) × (after ≡ afterwards (is_value r) out bytes)

module _ (bytes out : List ℕ) where
  pub no_room : length out < length bytes → PrintedAs bytes out (Err (refused_at ShortLoan 0)) out
  unfolding print_text
  no_room h = (rw (lt-leb (length bytes) (length out) h), refl)

  pub printed : (after : List ℕ) (end : ℕ) → length bytes ≤ length out → Wrote out after 0 end bytes → PrintedAs bytes out (Ok end) after
  unfolding print_text
  printed after end h w =
      let all : end ≡ length bytes = omega (arith, w.ends) in
      (rw (le-leb (length bytes) (length out) h, all), w.holds)
