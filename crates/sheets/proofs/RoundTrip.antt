-- The rule sheet's text and its table: a proper table's text reads back as that table, and a text that is read as a table is the text of that table,
-- byte for byte.
use Prim.Native.Nat.{ℕ, ◌+◌, ◌*◌, ◌≤◌}
use mathlib.Core.Path.{◌≡◌, refl, sym, ap, ap₂, ◌∙◌}
use mathlib.Core.List.{List, [], ◌∷◌, reverse, reverse_aux, reverse-reverse}
use native.Mathlib.Omega.{arith}
use lib.ListN.{length, length-reverse}
use borrow.Author.Tests.{le-leb, eqb-true}
use Rattle.numerals.specs.Decimal.{number}
use Rattle.numerals.specs.Text.{split}
use Rattle.numerals.proofs.Decimal.{only-text, width-least}
use Rattle.numerals.proofs.SuffixTexts.{suffix-only}
use Rattle.packing.specs.Count.{Line}
use Rattle.packing.specs.Answer.{cells}
use Rattle.sheets.specs.Reading.{Reading, got, refused, unless, field}
use Rattle.sheets.specs.FirstLine.{Opening}
use Rattle.numerals.specs.Limits.{most_bits, most_id, most_services, most_capacity, text_limit, total_limit}
use Rattle.sheets.specs.RuleSheet.{Table, table_word, table_text, placed, rule_fields, rule_lines, whole_table, table_line, read_table}
use Rattle.sheets.specs.Calls.{lines_from, broken_from, handed_text, table_handed}
use Rattle.sheets.specs.Inner.TableNumbers.{line}
use Rattle.sheets.specs.Inner.Premises.{check_table, ValuesFit, at_no_line}
use Rattle.sheets.proofs.Readings.{not-got, got_same, unless-got, on_field-got, on_suffix-got, then-got}
use Rattle.sheets.proofs.OpeningLine.{Opened, opened}
use Rattle.sheets.proofs.Joins.{join, join-split, by_number}
use Rattle.sheets.proofs.TableChecks.{InOrder, formed, Proper, proper}
use Rattle.sheets.proofs.TableTexts.{head_row, line_row, rows, table_rows, table-joined, lines_width, most_line, line-short, length-table}
use Rattle.sheets.proofs.TableNumbers.{lines-cells, length-cells}
use Rattle.sheets.proofs.NumbersText.{count-broken, whole-text}
use Rattle.sheets.proofs.HandedSheet.{as-its-sheet}

-- From the text to the table: what was read leaves no choice.

head-only :
    (text : List ℕ) (o : Opening) (O : Opened table_word (number 1 most_capacity) (number 0 total_limit) text o)
    → split 32 O.line ≡ head_row o.k o.second o.third
head-only text o O =
    let fs = split 32 O.line in
    by_number fs 0 4 O.four
    ∙ cc (
      O.named,
      (only-text 1 most_bits o.k (field fs 1) O.bits).text,
      (only-text 1 most_capacity o.second (field fs 2) O.left).text,
      (only-text 0 total_limit o.third (field fs 3) O.right).text,
    )

line-only : (k : ℕ) (before : List Line) (at : ℕ) (fs : List (List ℕ)) (l : Line) → rule_fields k before at fs ≡ got l → fs ≡ line_row l
unfolding rule_fields placed
line-only k before at fs l e =
    let three = unless-got _ _ _ _ e in
    let s = on_field-got _ _ _ three.1 in
    let r = on_suffix-got _ _ _ s.2 in
    let b = on_field-got _ _ _ r.3 in
    let sorted = unless-got _ _ _ _ (unless-got _ _ _ _ b.2).1 in
    let row : field fs 0 ∷ field fs 1 ∷ field fs 2 ∷ [] ≡ line_row (line s.0 r.0 r.1 b.0) =
    cc (
      (only-text 1 most_services s.0 (field fs 0) s.1).text,
      (suffix-only k r.0 r.1 (field fs 1) r.2).text,
      (only-text 1 most_id b.0 (field fs 2) b.1).text,
    ) in
    by_number fs 0 3 (eqb-true (length fs) 3 three.0) ∙ row ∙ ap line_row (got_same sorted.1)

rows-only :
    (k : ℕ) (before : List Line) (ms : List (List ℕ)) (all : List Line) → 1 ≤ length ms → rule_lines k before ms ≡ got all
    → (new : List Line) × (all ≡ reverse_aux new before) × (ms ≡ rows new)
unfolding rule_lines rows
rows-only k before [] all h e = absurd (omega arith)
rows-only k before ([] ∷ []) all h e = ([], cc (got_same (unless-got _ _ _ _ e).1), refl)
rows-only k before ((b ∷ l) ∷ []) all h e = absurd (omega (arith, eqb-true (length (b ∷ l)) 0 (unless-got _ _ _ _ e).0))
rows-only k before (l ∷ m ∷ ms) all h e =
    let line = then-got _ _ e in
    let rest = rows-only k (line.0 ∷ before) (m ∷ ms) all (omega arith) line.2 in (
      line.0 ∷ rest.0,
      rest.1,
      ap₂ (λ (r : List ℕ) (rs : List (List ℕ)). r ∷ rs)
          (sym (join-split 32 l) ∙ ap (join 32) (line-only k before (length before + 2) (split 32 l) line.0 line.1))
          rest.2,
    )

-- a text that is read as a table is the text of that table
pub only : (text : List ℕ) (t : Table) → read_table text ≡ got t → text ≡ table_text t
unfolding read_table table_line whole_table
only text t e =
    let first = then-got _ _ e in
    let o = first.0 in
    let O = opened _ _ _ text o first.1 in
    let read = then-got _ _ first.2 in
    let all = read.0 in
    let some = unless-got _ _ _ _ read.2 in
    let whole = unless-got _ _ _ _ some.1 in
    let last = unless-got _ _ _ _ whole.1 in
    let lines = rows-only o.k [] o.behind all O.some read.1 in
    let new = lines.0 in
    let is = got_same last.1 in
    let same : t.lines ≡ new = sym (ap (λ (x : Table). x.lines) is) ∙ ap reverse lines.1 ∙ reverse-reverse new in
    let k : o.k ≡ t.k = ap (λ (x : Table). x.k) is in
    let total : o.third ≡ t.total = ap (λ (x : Table). x.total) is in
    let n : o.second ≡ length t.lines =
    omega (arith, eqb-true (length all) o.second whole.0, ap length lines.1, length-reverse new, ap length same) in
    let rows_are : O.line ∷ o.behind ≡ table_rows t =
    ap₂ (λ (r : List ℕ) (rs : List (List ℕ)). r ∷ rs)
    (sym (join-split 32 O.line) ∙ ap (join 32) (head-only text o O ∙ rw (k, total, n)))
    (lines.2 ∙ ap rows (sym same)) in
    sym (join-split 10 text) ∙ ap (join 10) (O.lines ∙ rows_are) ∙ sym (table-joined t)

-- From the table to the text and back: what was written passes.

lines-short : (k : ℕ) → k ≤ most_bits → (before ls : List Line) → InOrder k before ls → lines_width ls ≤ most_line * length ls
unfolding lines_width InOrder
lines-short k few before [] h = omega arith
lines-short k few before (l ∷ ls) h =
    let limits = formed k l h.0.form in
    omega (
      arith,
      line-short l.service l.rule.len l.rule.backend limits.service (omega (arith, limits.short)) limits.backend,
      lines-short k few (l ∷ before) ls h.1,
    )

-- twenty digits, those of any number of 64 bits, are enough for the total
table-short : (t : Table) → Proper t → length (table_text t) ≤ text_limit
unfolding text_limit total_limit
table-short t p =
    omega (
      arith,
      length-table t,
      width-least 1 t.k (omega (arith, p.few_bits)),
      width-least 3 (length t.lines) (omega (arith, p.few)),
      width-least 19 t.total (omega (arith, p.small)),
      lines-short t.k p.few_bits [] t.lines p.sorted,
      p.few,
    )

values-fit : (k : ℕ) (before ls : List Line) → InOrder k before ls → ValuesFit ls
unfolding InOrder ValuesFit
values-fit k before [] h = tt
values-fit k before (l ∷ ls) h = ((formed k l h.0.form).bits, values-fit k (l ∷ before) ls h.1)

-- the numbers of a proper table pass, and make its text
pub record Numbers (t : Table) : Type 0 where
  pub text : handed_text t.k t.total (cells t.lines) ≡ table_text t
  pub passed : table_handed t.k t.total (cells t.lines) ≡ got t

pub numbers : (t : Table) → check_table t ≡ got t → Numbers t
unfolding table_handed unless check_table
numbers t h =
    let cs = cells t.lines in
    let whole : length (broken_from cs) ≡ 0 = omega (arith, count-broken cs, length-cells t.lines) in
    let text : handed_text t.k t.total cs ≡ table_text t = whole-text t.k t.total cs whole ∙ rw (lines-cells t.lines) in
    record {
      text = text;
      passed = rw (text, le-leb (length (table_text t)) text_limit (table-short t (proper t h)), lines-cells t.lines, whole) h;
    }

got-line : (r : Reading Table) (u : Table) → at_no_line r ≡ got u → r ≡ got u
unfolding at_no_line
got-line (got v) u e = e
got-line (refused why line) u e = absurd (not-got e)

-- a proper table's text reads back as that table
pub back : (t : Table) → check_table t ≡ got t → read_table (table_text t) ≡ got t
back t h =
    let N = numbers t h in
    let fit : ValuesFit (lines_from (cells t.lines)) = rw (lines-cells t.lines) (values-fit t.k [] t.lines (proper t h).sorted) in
    got-line (read_table (table_text t)) t (rw (← N.text) (as-its-sheet t.k t.total (cells t.lines) fit ∙ N.passed))
