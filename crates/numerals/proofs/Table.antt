-- The rule of a table, proved at all of its entries by one test that antt computes, one entry after the other.
use mathlib.Core.Path.{◌≡◌, ◌∙◌}
use mathlib.Core.Bool.{Bool, true}
use mathlib.Core.List.{List, [], ◌∷◌}
use Prim.Native.Nat.{ℕ, zero, suc, ◌+◌, ◌<◌}
use native.Mathlib.Nat.{add-zero, zero-add, add-suc, suc-add, le_of_suc-le-suc, not-suc-le-zero}
use lib.Dec.{eqb}
use lib.ListN.{length, get_or}
use borrow.Author.Tests.{eqb-true}
use Rattle.numerals.specs.Pick.{both}
use Rattle.numerals.proofs.Choice.{both_left, both_right}

-- the entries of a list, counted from i, are those of f
abbrev pub lists : (ℕ → ℕ) → ℕ → List ℕ → Bool
lists f i [] = true
lists f i (x ∷ xs) = both (eqb x (f i)) (lists f (suc i) xs)

from : (f : ℕ → ℕ) (xs : List ℕ) (i : ℕ) → lists f i xs ≡ true → (k : ℕ) → k < length xs → get_or xs k 0 ≡ f (i + k)
from f [] i t k h = absurd (not-suc-le-zero h)
from f (x ∷ xs) i t zero h =
    eqb-true x (f i) (both_left (eqb x (f i)) (lists f (suc i) xs) t) ∙ rw (add-zero i)
from f (x ∷ xs) i t (suc k) h =
    from f xs (suc i) (both_right (eqb x (f i)) (lists f (suc i) xs) t) k (le_of_suc-le-suc h) ∙ rw (suc-add i k, add-suc i k)

pub at : (f : ℕ → ℕ) (xs : List ℕ) → lists f 0 xs ≡ true → (k : ℕ) → k < length xs → get_or xs k 0 ≡ f k
at f xs t k h = from f xs 0 t k h ∙ rw (zero-add k)
