-- A text written into a lent buffer: the answer and the buffer where it fits, and where it doesn't.
use Rattle.std.specs.Prelude.{Err, Ok}
use Prim.Native.Nat.{ℕ, ◌+◌, ◌≤◌, ◌<◌}
use mathlib.Core.Path.{◌≡◌}
use mathlib.Core.List.{List}
use lib.ListN.{length}
use lib.Seq.{sets}
use borrow.Author.Tests.{le-leb, lt-leb}
use Rattle.numerals.specs.Refusals.{no7}
use Rattle.numerals.specs.Digits.{put, put_end}

module _ (out : List ℕ) (at : ℕ) (bs : List ℕ) where
  pub written : at + length bs ≤ length out → (Ok (at + length bs) ≡ put_end out at bs) × (sets out at bs ≡ put out at bs)
  unfolding put put_end
  written h = (rw (le-leb (at + length bs) (length out) h), rw (le-leb (at + length bs) (length out) h))

  pub short : length out < at + length bs → (Err no7 ≡ put_end out at bs) × (out ≡ put out at bs)
  unfolding put put_end
  short h = (rw (lt-leb (at + length bs) (length out) h), rw (lt-leb (at + length bs) (length out) h))
