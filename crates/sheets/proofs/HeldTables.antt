-- What a caller holds of a rule sheet that was read: its table, which is proper, and its lines in numbers.
use Rattle.std.specs.Prelude.{Err, Ok}
use Prim.Native.Nat.{ℕ, ◌*◌, ◌≤◌, ◌<◌}
use mathlib.Core.Path.{◌≡◌, refl, ap, ◌∙◌}
use mathlib.Core.List.{List}
use native.Mathlib.Omega.{arith}
use lib.ListN.{length, take}
use borrow.Author.Tests.{le-leb, lt-leb}
use Rattle.numerals.specs.Limits.{most_bits, most_capacity}
use Rattle.numerals.specs.declared.refusal.Refusal.TheVariants.{ShortLoan}
use Rattle.packing.specs.Answer.{cells}
use Rattle.sheets.specs.Reading.{Reading, got, refused}
use Rattle.sheets.specs.RuleSheet.{Table, read_table}
use Rattle.sheets.specs.Calls.{refused_at, answered, lines_from, read_in, read_answer}
use Rattle.sheets.specs.Inner.TableNumbers.{lines_in, RuleLines}
use Rattle.sheets.specs.Inner.TableReader.{sheet_answer, Filled, table_of, Found}
use Rattle.sheets.specs.declared.answer.Refused.{Refused as Why}
use Rattle.sheets.specs.declared.rule_sheet.TableHead.{TableHead}
use Rattle.sheets.proofs.TableChecks.{Proper}
use Rattle.sheets.proofs.OrderedLines.{read-proper}
use Rattle.sheets.proofs.TableNumbers.{lines-cells}
use Rattle.sheets.proofs.NumbersText.{rule-lines}
use Rattle.sheets.proofs.FirstMatch.{found}

pub record TableHeld (text : List ℕ) (h : TableHead) (numbers : List ℕ) : Type 0 where
  pub table : Table
  pub read : read_table text ≡ got table
  pub proper : Proper table
  pub head : h ≡ record { k = table.k; n = length table.lines; total = table.total }
  pub stored : take (4 * h.n) numbers ≡ cells table.lines
  pub lines : lines_in numbers h.n ≡ table.lines
  pub ruled : RuleLines numbers h.n

pub table-held :
    (text : List ℕ) (h : TableHead) (numbers : List ℕ) → length numbers ≡ 4 * most_capacity → Ok h ≡ sheet_answer (read_table text)
    → Filled (read_table text) numbers → TableHeld text h numbers
unfolding sheet_answer
table-held text h numbers long e f = go (read_table text) refl e f
  where
    go : (r : Reading Table) → read_table text ≡ r → Ok h ≡ sheet_answer r → Filled r numbers → TableHeld text h numbers
    go (refused why line) is e f = absurd (let z : ◌≡◌ {A = ℕ} 0 1 = cc in omega arith)
    go (got t) is e f =
        let head : h ≡ record { k = t.k; n = length t.lines; total = t.total } = cc in
        let n : h.n ≡ length t.lines = ap (λ (x : TableHead). x.n) head in
        let p : Proper t = read-proper text t is in
        let stored : take (4 * h.n) numbers ≡ cells t.lines = rw n f in
        let lines : lines_in numbers h.n ≡ t.lines = ap lines_from stored ∙ lines-cells t.lines in
        record {
          table = t;
          read = is;
          proper = p;
          head = head;
          stored = stored;
          lines = lines;
          ruled = rule-lines numbers h.n (omega (arith, p.few)) t.k p.few_bits (rw lines p.sorted);
        }

-- a sheet that was refused: that refusal is the answer, whatever is asked of it
pub sheet-refused : (text : List ℕ) (w : Why) → Err w ≡ sheet_answer (read_table text) → read_table text ≡ refused w.why w.line
unfolding sheet_answer
sheet-refused text w e = go (read_table text) e
  where
    go : (r : Reading Table) → Err w ≡ sheet_answer r → r ≡ refused w.why w.line
    go (got t) e = absurd (let z : ◌≡◌ {A = ℕ} 0 1 = cc in omega arith)
    go (refused why line) e = let same : w ≡ refused_at why line = cc in rw same

pub refused-answer :
    {B : Type 0} (back : Why → B) (f : Table → B) (text : List ℕ) (w : Why) → Err w ≡ sheet_answer (read_table text)
    → back w ≡ answered back 0 (read_table text) f
unfolding sheet_answer
refused-answer {B} back f text w e = go (read_table text) e
  where
    go : (r : Reading Table) → Err w ≡ sheet_answer r → back w ≡ answered back 0 r f
    go (got t) e = absurd (let z : ◌≡◌ {A = ℕ} 0 1 = cc in omega arith)
    go (refused why line) e = let same : w ≡ refused_at why line = cc in ap back same

-- what reading a table into a lent buffer answers
module _ (text : List ℕ) (h : TableHead) (numbers : List ℕ) (H : TableHeld text h numbers) (room : ℕ) where
  size : h.n ≡ length H.table.lines
  size = ap (λ (x : TableHead). x.n) H.head

  pub read_made : 4 * h.n ≤ room → Ok (record { k = h.k; rules = h.n; total = h.total }) ≡ read_answer text room
  unfolding read_answer read_in
  read_made e =
      rw (H.read, le-leb (4 * length H.table.lines) room (omega (arith, size)))
      (ap (λ (x : TableHead). Ok (record { k = x.k; rules = x.n; total = x.total })) H.head)

  pub read_short : room < 4 * h.n → Err (refused_at ShortLoan 0) ≡ read_answer text room
  unfolding read_answer read_in
  read_short e = rw (H.read, lt-leb (4 * length H.table.lines) room (omega (arith, size)))

-- it is that table in memory, with all that a table in memory has
module _ (text : List ℕ) (h : TableHead) (numbers : List ℕ) (H : TableHeld text h numbers) where
  pub few-bits : h.k ≤ most_bits
  few-bits = omega (arith, ap (λ (x : TableHead). x.k) H.head, H.proper.few_bits)

  pub few_held : h.n ≤ most_capacity
  few_held = omega (arith, ap (λ (x : TableHead). x.n) H.head, H.proper.few)

  pub in_memory : table_of h numbers ≡ H.table
  in_memory = rw H.lines (ap (λ (x : TableHead). record { k = x.k; total = x.total; lines = H.table.lines }) H.head)

  pub found-there : (n : ℕ) → Found (lines_in numbers h.n) n
  found-there n = rw H.lines (found H.table H.proper n)
