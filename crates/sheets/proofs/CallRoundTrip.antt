-- Demand 2 over the numbers that the calls are lent: what `write_table` accepts reads back to the same numbers, and what `read_table` accepts is what
-- `write_table` writes of its numbers.
use Prim.Native.Nat.{ℕ, ◌*◌}
use mathlib.Core.Path.{◌≡◌, refl, sym, ap, ◌∙◌}
use mathlib.Core.List.{List, [], ◌∷◌}
use native.Mathlib.Omega.{arith}
use lib.ListN.{length}
use Rattle.packing.specs.Answer.{cells}
use Rattle.sheets.specs.Reading.{got}
use Rattle.sheets.specs.RuleSheet.{Table, table_text, read_table}
use Rattle.sheets.specs.Calls.{lines_from, table_handed}
use Rattle.sheets.proofs.Readings.{unless-got}
use Rattle.sheets.proofs.TableChecks.{check-same}
use Rattle.sheets.proofs.NumbersText.{count-lines, count-broken}
use Rattle.sheets.proofs.TableHanded.{accepted}
use Rattle.sheets.proofs.OrderedLines.{read-checked}
use Rattle.sheets.proofs.RoundTrip.{numbers, back, only}

-- whole lines are all the numbers
cells-lines : (cs : List ℕ) → 4 * length (lines_from cs) ≡ length cs → cells (lines_from cs) ≡ cs
unfolding lines_from cells
cells-lines [] e = refl
cells-lines (s ∷ []) e = absurd (omega arith)
cells-lines (s ∷ l ∷ []) e = absurd (omega arith)
cells-lines (s ∷ l ∷ v ∷ []) e = absurd (omega arith)
cells-lines (s ∷ l ∷ v ∷ b ∷ cs) e = ap (λ (r : List ℕ). s ∷ l ∷ v ∷ b ∷ r) (cells-lines cs (omega arith))

-- what the writer accepts: its text reads back to a table of the same k, total and numbers
pub record Back (k total : ℕ) (cs : List ℕ) (t : Table) : Type 0 where
  pub read : read_table (table_text t) ≡ got t
  pub bits : t.k ≡ k
  pub amount : t.total ≡ total
  pub numbers : cells t.lines ≡ cs

pub handed-back : (k total : ℕ) (cs : List ℕ) (t : Table) → table_handed k total cs ≡ got t → Back k total cs t
unfolding table_handed
handed-back k total cs t h =
    let A = accepted k total cs t h in
    let is : record { k = k; total = total; lines = lines_from cs } ≡ t = (check-same _ t _ (unless-got _ _ _ _ h).1).0 in
    record {
      read = rw is at (back (record { k = k; total = total; lines = lines_from cs }) A.checked);
      bits = ap (λ (x : Table). x.k) (sym is);
      amount = ap (λ (x : Table). x.total) (sym is);
      numbers = ap (λ (x : Table). cells x.lines) (sym is) ∙ cells-lines cs (omega (arith, count-lines cs, count-broken cs, A.whole));
    }

-- what the reader accepts: the writer takes its numbers, and writes that text
pub record Only (text : List ℕ) (t : Table) : Type 0 where
  pub accepted : table_handed t.k t.total (cells t.lines) ≡ got t
  pub written : table_text t ≡ text

pub read_only : (text : List ℕ) (t : Table) → read_table text ≡ got t → Only text t
read_only text t h = record { accepted = (numbers t (read-checked text t h)).passed; written = sym (only text t h) }
