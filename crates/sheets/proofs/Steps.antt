-- A reading of one thing after the other: what was read so far stands before what is still to be read.
use Prim.Native.Nat.{ℕ, suc, ◌+◌, ◌≤◌, ◌<◌}
use mathlib.Core.Path.{◌≡◌, refl, ap, sym}
use mathlib.Core.List.{List, [], ◌∷◌, ◌++◌, append_assoc, append-nil}
use native.Mathlib.Numerals.{add-one}
use native.Mathlib.Omega.{arith}
use lib.ListN.{length, take, set}
use lib.Seq.{take-suc-set}
use borrow.Author.Tests.{ne_eqb}
use Rattle.numerals.specs.Limits.{decimals, unit}
use Rattle.numerals.specs.Text.{split}
use Rattle.numerals.specs.declared.refusal.Refusal.{Refusal}
use Rattle.numerals.specs.declared.refusal.Refusal.TheVariants.{Malformed}
use Rattle.sheets.specs.Reading.{Reading, got, refused, then, unless}
use Rattle.sheets.specs.PercentageSheet.{Weights, backend_before, sum, service_fields, service_lines}

unfoldable pub behind : {A : Type 0} → List A → Reading (List A) → Reading (List A)
behind done r = then r (λ xs. got (done ++ xs))

module _ {A : Type 0} where
  pub behind-none : (r : Reading (List A)) → behind [] r ≡ r
  unfolding behind then
  behind-none (got xs) = refl
  behind-none (refused why line) = refl

  pub behind-one : (done : List A) (x : A) (r : Reading (List A)) → behind done (then r (λ xs. got (x ∷ xs))) ≡ behind (done ++ x ∷ []) r
  unfolding behind then
  behind-one done x (got xs) = ap got (sym (append_assoc done (x ∷ []) xs))
  behind-one done x (refused why line) = refl

  pub behind-all : (done : List A) → behind done (got []) ≡ got done
  unfolding behind then
  behind-all done = ap got (append-nil done)

  pub behind-refused : (done : List A) (why : Refusal) (line : ℕ) → behind done (refused why line) ≡ refused why line
  unfolding behind then
  behind-refused done why line = refl

-- the backends of a line
unfoldable pub joined : Weights → Reading Weights → Reading Weights
joined done r = then r (λ ws. got (record { ids = done.ids ++ ws.ids; weights = done.weights ++ ws.weights }))

-- none, and one more behind others
abbrev pub no_backend : Weights
no_backend = record { ids = []; weights = [] }

abbrev pub backend_behind : Weights → ℕ → ℕ → Weights
backend_behind done id w = record { ids = done.ids ++ id ∷ []; weights = done.weights ++ w ∷ [] }

pub joined-none : (r : Reading Weights) → joined no_backend r ≡ r
unfolding joined then
joined-none (got ws) = refl
joined-none (refused why line) = refl

module _ (done : Weights) where
  pub joined-all : joined done (got no_backend) ≡ got done
  unfolding joined then
  joined-all = rw (append-nil done.ids, append-nil done.weights)

  pub joined-refused : (why : Refusal) (line : ℕ) → joined done (refused why line) ≡ refused why line
  unfolding joined then
  joined-refused why line = refl

  pub joined-one : (id w : ℕ) (r : Reading Weights) → joined done (then r (λ ws. got (backend_before id w ws))) ≡ joined (backend_behind done id w) r
  unfolding joined then
  joined-one id w (got ws) = rw (append_assoc done.ids (id ∷ []) ws.ids, append_assoc done.weights (w ∷ []) ws.weights)
  joined-one id w (refused why line) = refl

pub sum_more : (ws : List ℕ) (w : ℕ) → sum (ws ++ w ∷ []) ≡ sum ws + w
unfolding sum
sum_more [] w = omega arith
sum_more (v ∷ ws) w = omega (arith, sum_more ws w)

-- the lines of the services: a line and those behind it, a line without its LF, and none left
module _ (i : ℕ) (l : List ℕ) where
  pub lines_more :
      (ls : List (List ℕ)) → 1 ≤ length ls
      → service_lines decimals unit i (l ∷ ls)
      ≡ then (service_fields decimals unit i (split 32 l)) (λ s. then (service_lines decimals unit (i + 1) ls) (λ ss. got (s ∷ ss)))
  unfolding service_lines
  lines_more [] h = absurd (omega arith)
  lines_more (m ∷ ls) h = simp add-one

  pub lines-open : 1 ≤ length l → service_lines decimals unit i (l ∷ []) ≡ refused Malformed (i + 2)
  unfolding service_lines unless
  lines-open h = rw (ne_eqb (length l) 0 (λ e. omega arith))

pub lines_end : (i : ℕ) → service_lines decimals unit i ([] ∷ []) ≡ got []
unfolding service_lines unless
lines_end i = refl

-- one value more behind those that stand in a row
pub row_more :
    (before after done : List ℕ) (at n v : ℕ) → at + n < length after → take (at + n) after ≡ take at before ++ done
    → take (at + (n + 1)) (set after (at + n) v) ≡ take at before ++ (done ++ v ∷ [])
row_more before after done at n v h row =
    let next : at + (n + 1) ≡ suc (at + n) = omega arith in
    rw (next, take-suc-set after (at + n) v h, row) (append_assoc (take at before) done (v ∷ []))
