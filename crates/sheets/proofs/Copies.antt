-- A copy into the front of a buffer: what is copied, and what stood behind it, are the buffer with those values set.
use Prim.Native.Nat.{ℕ, ◌≤◌}
use mathlib.Core.Path.{◌≡◌, sym, ◌∙◌}
use mathlib.Core.List.{List, ◌++◌}
use native.Mathlib.Nat.{zero-add}
use native.Mathlib.Omega.{arith}
use lib.ListN.{length, drop}
use lib.Seq.{sets, sets-eq}

pub copied : (out vs : List ℕ) (n : ℕ) → length vs ≡ n → n ≤ length out → vs ++ drop n out ≡ sets out 0 vs
copied out vs n e h = sym (sets-eq vs out 0 (omega arith) ∙ rw (e, zero-add))
