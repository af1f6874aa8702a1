-- A table handed in numbers is checked as its sheet would be: the check answers what the reader answers on the text that the numbers make, but for the line.
use Rattle.std.specs.Prelude.{None, Option, Some}
use Prim.Native.Nat.{ℕ, ◌+◌, ◌^◌, ◌≤◌, ◌<◌}
use mathlib.Core.Path.{◌≡◌, refl, sym, ap, ◌∙◌}
use mathlib.Core.Bool.{Bool, true, false}
use mathlib.Core.List.{List, [], ◌∷◌, ◌++◌, reverse, reverse_aux, reverse-reverse, append_assoc}
use native.Mathlib.Omega.{arith}
use lib.Dec.{leb, ltb, eqb-suc-zero}
use lib.ListN.{length, length-reverse}
use borrow.Author.Tests.{eq-eqb, lt-ltb, le-leb, lt-leb}
use Rattle.numerals.specs.Pick.{pick, both}
use Rattle.numerals.specs.Decimal.{is_numeral, number, decimal}
use Rattle.numerals.specs.Suffix.{is_suffix, suffix, suffix_text}
use Rattle.numerals.specs.Text.{split}
use Rattle.numerals.proofs.Choice.{by_less}
use Rattle.numerals.proofs.Decimal.{first-digit, all-decimal, value-decimal, decimal-free}
use Rattle.numerals.proofs.Fields.{free-split, free-whole}
use Rattle.numerals.proofs.SuffixTexts.{suffix-only, suffix-back, length-suffix}
use Rattle.numerals.specs.declared.refusal.Refusal.{Refusal}
use Rattle.numerals.specs.Refusals.{no2, no4, no9, no11}
use Rattle.expansion.specs.Answer.{in_limits}
use Rattle.expansion.proofs.Checks.{limits as within}
use Rattle.expansion.specs.FirstMatch.{is_rule}
use Rattle.packing.specs.Count.{Line}
use Rattle.sheets.specs.Reading.{Reading, got, then, unless, on_field}
use Rattle.sheets.specs.FirstLine.{Opening, opening_fields, opening_lines, first_line}
use Rattle.numerals.specs.Limits.{most_bits, most_id, most_services, most_rules, most_capacity, text_limit, total_limit}
use Rattle.sheets.specs.RuleSheet.{Table, table_word, head_text, line_text, lines_text, on_suffix, count_of, in_order, placed, rule_fields, rule_lines}
use Rattle.sheets.specs.RuleSheet.{closed, whole_table, table_line, read_table, is_line, check_lines, check_end, check_sheet}
use Rattle.sheets.specs.Calls.{lines_from, broken_from, broken_text, lines_handed, handed_text, table_handed}
use Rattle.sheets.specs.Inner.Premises.{ValuesFit, at_no_line}
use Rattle.sheets.proofs.Words.{same_refl}
use Rattle.sheets.proofs.OpeningLine.{lines_more}
use Rattle.sheets.proofs.Joins.{join, join_free}
use Rattle.sheets.proofs.TableTexts.{head_row, line_row, line-joined, head-free, line-free, head-split, line-split}
use Rattle.numerals.specs.declared.suffixes.Suffix.{Suffix}

-- The text as its lines.

-- the lines, and what stands behind them
unfoldable rows_before : List Line → List (List ℕ) → List (List ℕ)
rows_before [] rest = rest
rows_before (l ∷ ls) rest = join 32 (line_row l) ∷ rows_before ls rest

-- a broken line, and the empty one behind the last LF
unfoldable broken_rows : List ℕ → List (List ℕ)
broken_rows [] = [] ∷ []
broken_rows (s ∷ ss) = decimal s ∷ broken_rows ss

broken-some : (ss : List ℕ) → 1 ≤ length (broken_rows ss)
unfolding broken_rows
broken-some [] = omega arith
broken-some (s ∷ ss) = omega arith

rows-some : (ls : List Line) (rest : List (List ℕ)) → 1 ≤ length rest → 1 ≤ length (rows_before ls rest)
unfolding rows_before
rows-some [] rest h = h
rows-some (l ∷ ls) rest h = omega arith

lines_split : (ls : List Line) (rest : List ℕ) → split 10 (lines_text ls ++ rest) ≡ rows_before ls (split 10 rest)
unfolding lines_text rows_before
lines_split [] rest = refl
lines_split (l ∷ ls) rest =
    ap (split 10) (append_assoc (line_text l) (lines_text ls) rest ∙ line-joined l (lines_text ls ++ rest))
    ∙ free-split 10 (join 32 (line_row l)) (lines_text ls ++ rest) (join_free 32 10 (line_row l) (λ e. omega arith) (line-free 10 l (omega arith)))
    ∙ ap (λ (r : List (List ℕ)). join 32 (line_row l) ∷ r) (lines_split ls rest)

broken-split : (ss : List ℕ) → split 10 (broken_text ss) ≡ broken_rows ss
unfolding broken_text broken_rows split
broken-split [] = refl
broken-split (s ∷ ss) =
    free-split 10 (decimal s) (broken_text ss) (decimal-free 10 s (omega arith))
    ∙ ap (λ (r : List (List ℕ)). decimal s ∷ r) (broken-split ss)

handed-split :
    (k total : ℕ) (cs : List ℕ)
    → split 10 (handed_text k total cs) ≡ join 32 (head_row k (lines_handed cs) total) ∷ rows_before (lines_from cs) (broken_rows (broken_from cs))
unfolding handed_text head_text join
handed-split k total cs =
    let head = head_row k (lines_handed cs) total in
    let rest = lines_text (lines_from cs) ++ broken_text (broken_from cs) in
    let front : handed_text k total cs ≡ join 32 head ++ 10 ∷ rest = simp append_assoc in
    ap (split 10) front
    ∙ free-split 10 (join 32 head) rest (join_free 32 10 head (λ e. omega arith) (head-free 10 k (lines_handed cs) total (omega arith)))
    ∙ ap (λ (r : List (List ℕ)). join 32 head ∷ r)
    (lines_split (lines_from cs) (broken_text (broken_from cs)) ∙ ap (rows_before (lines_from cs)) (broken-split (broken_from cs)))

-- A field that was written, read.

module _ {A : Type 0} where
  unless-none : (t : Bool) (why : Refusal) (at : ℕ) (x : Reading A) → at_no_line (unless t why at x) ≡ unless t why 0 (at_no_line x)
  unfolding unless at_no_line
  unless-none true why at x = refl
  unless-none false why at x = refl

  number_read :
      (least most n at : ℕ) (f : ℕ → Reading A)
      → on_field (number least most (decimal n)) at f ≡ unless (in_limits least most n) no2 at (f n)
  unfolding number is_numeral on_field unless in_limits
  number_read least most n at f = rw (first-digit n, all-decimal n, value-decimal n) (go (both (leb least n) (leb n most)))
    where
      go : (t : Bool) → on_field (pick t (Some n) None) at f ≡ unless t no2 at (f n)
      go true = refl
      go false = refl

  suffix-read :
      (k l v at : ℕ) (f : ℕ → ℕ → Reading A) → 1 ≤ k → k ≤ most_bits → v < 2 ^ l
      → on_suffix (suffix k (suffix_text l v)) at f ≡ unless (leb l k) no2 at (f l v)
  unfolding on_suffix unless
  suffix-read k l v at f some few small =
      by_less k l
      (λ h. rw (long (suffix k (suffix_text l v)) refl h, lt-leb l k h))
      (λ h. rw (suffix-back k l v some few h small, le-leb l k h))
    where
      long : (r : (Option Suffix)) → suffix k (suffix_text l v) ≡ r → k < l → suffix k (suffix_text l v) ≡ None
      long (Some s) e h =
          let only = suffix-only k s.len s.value (suffix_text l v) e in
          absurd (omega (arith, only.short, ap length only.text, length-suffix l v, length-suffix s.len s.value))
      long None e h = e

-- Line 1.

from-none : (most x : ℕ) → in_limits 0 most x ≡ leb x most
unfolding in_limits
from-none most x = rw (le-leb 0 x (omega arith))

head_read :
    (k n total : ℕ) (behind : List (List ℕ))
    → opening_fields table_word (number 1 most_capacity) (number 0 total_limit) (head_row k n total) behind
    ≡ unless (in_limits 1 most_bits k) no2 1
    (unless (in_limits 1 most_capacity n) no2 1
    (unless (leb total total_limit) no2 1
    (got (record { k = k; second = n; third = total; behind = behind }))))
unfolding opening_fields unless
head_read k n total behind =
    rw (same_refl table_word)
    (number_read 1 most_bits k 1 _
    ∙ ap (unless (in_limits 1 most_bits k) no2 1)
    (number_read 1 most_capacity n 1 _
    ∙ ap (unless (in_limits 1 most_capacity n) no2 1)
    (number_read 0 total_limit total 1 _ ∙ rw (from-none total_limit total))))

-- A rule line.

merged :
    (s m b : Bool) (at : ℕ) (end : Reading Line)
    → unless (both s (both (both m true) b)) no2 at end ≡ unless s no2 at (unless m no2 at (unless b no2 at end))
unfolding unless
merged true true b at end = refl
merged true false b at end = refl
merged false m b at end = refl

module _ (k : ℕ) (some : 1 ≤ k) (few : k ≤ most_bits) where
  line_read :
      (before : List Line) (at : ℕ) (l : Line) → l.rule.value < 2 ^ l.rule.len
      → rule_fields k before at (line_row l) ≡ unless (is_line k l) no2 at (placed before l at (got l))
  unfolding rule_fields is_line is_rule is_suffix unless
  line_read before at l small =
      let s = in_limits 1 most_services l.service in
      let m = leb l.rule.len k in
      let b = in_limits 1 most_id l.rule.backend in
      number_read 1 most_services l.service at _
      ∙ ap (unless s no2 at)
      (suffix-read k l.rule.len l.rule.value at _ some few small
      ∙ ap (unless m no2 at) (number_read 1 most_id l.rule.backend at _))
      ∙ rw (lt-ltb l.rule.value (2 ^ l.rule.len) small) (sym (merged s m b at (placed before l at (got l))))

  rule-more :
      (before : List Line) (l : List ℕ) (ms : List (List ℕ)) → 1 ≤ length ms
      → rule_lines k before (l ∷ ms) ≡ then (rule_fields k before (length before + 2) (split 32 l)) (λ line. rule_lines k (line ∷ before) ms)
  unfolding rule_lines
  rule-more before l [] h = absurd (omega arith)
  rule-more before l (m ∷ ms) h = refl

  -- one line more: its tests, and the lines behind it
  line-more :
      {A : Type 0} (before : List Line) (l : Line) (at : ℕ) (rest : Line → Reading (List Line)) (next : Reading (List Line)) (f g : List Line → Reading A)
      → at_no_line (then (rest l) f) ≡ then next g
      → at_no_line (then (then (unless (is_line k l) no2 at (placed before l at (got l))) rest) f)
      ≡ then (unless (is_line k l) no2 0 (placed before l 0 next)) g
  unfolding placed unless then at_no_line
  line-more {A} before l at rest next f g h = go (is_line k l) (ltb (count_of l.service before) most_rules) (in_order before l)
    where
      go :
          (x y z : Bool)
          → at_no_line (then (then (unless x no2 at (unless y no4 at (unless z no9 at (got l)))) rest) f)
          ≡ then (unless x no2 0 (unless y no4 0 (unless z no9 0 next))) g
      go true true true = h
      go true true false = refl
      go true false z = refl
      go false y z = refl

  -- the rule lines, and what comes after them
  lines-read :
      {A : Type 0} (before ls : List Line) (ss : List ℕ) (f : List Line → Reading A) (a : A) → ValuesFit ls
      → (length ss ≡ 0 → at_no_line (f (reverse_aux ls before)) ≡ unless (closed (reverse_aux ls before)) no9 0 (got a))
      → at_no_line (then (rule_lines k before (rows_before ls (broken_rows ss))) f) ≡ then (check_lines k before ls) (check_end (length ss) a)
  unfolding rows_before broken_rows rule_lines rule_fields check_lines check_end then unless at_no_line ValuesFit
  lines-read before [] [] f a fit end = end refl
  lines-read before [] (s ∷ ss) f a fit end =
      let one : split 32 (decimal s) ≡ decimal s ∷ [] = free-whole 32 (decimal s) (decimal-free 32 s (omega arith)) in
      rw (rule-more before (decimal s) (broken_rows ss) (broken-some ss), one, eqb-suc-zero (length ss))
  lines-read before (l ∷ ls) ss f a fit end =
      rw (
        rule-more before (join 32 (line_row l)) (rows_before ls (broken_rows ss)) (rows-some ls (broken_rows ss) (broken-some ss)),
        line-split l,
        line_read before (length before + 2) l fit.0,
      )
      (line-more before l (length before + 2) _ (check_lines k (l ∷ before) ls) f (check_end (length ss) a) (lines-read (l ∷ before) ls ss f a fit.1 end))

-- The whole sheet.

-- after the lines: their number is n, and there is one
whole-end :
    (k n total : ℕ) (ls : List Line) → length ls ≡ n → 1 ≤ n
    → at_no_line (whole_table k n total (reverse ls))
    ≡ unless (closed (reverse ls)) no9 0 (got (record { k = k; total = total; lines = ls }))
unfolding whole_table unless at_no_line
whole-end k n total ls e some =
    let size : length (reverse ls) ≡ n = length-reverse ls ∙ e in
    rw (size, lt-ltb 0 n some, eq-eqb n n refl, reverse-reverse ls) (unless-none (closed (reverse ls)) no9 (n + 1) _)

-- line 1 passes, and the lines behind it decide
head_more :
    {A : Type 0} (s t u : Bool) (h : Opening) (f : Opening → Reading A) (g : Reading A)
    → (s ≡ true → t ≡ true → at_no_line (f h) ≡ g)
    → at_no_line (then (unless s no2 1 (unless t no2 1 (unless u no2 1 (got h)))) f) ≡ unless s no2 0 (unless t no2 0 (unless u no2 0 g))
unfolding then unless at_no_line
head_more true true true h f g e = e refl refl
head_more true true false h f g e = refl
head_more true false u h f g e = refl
head_more false t u h f g e = refl

-- the length of the text comes before all
length-first :
    {A B : Type 0} (t : Bool) (x : Reading A) (f : A → Reading B) → at_no_line (then (unless t no11 0 x) f) ≡ unless t no11 0 (at_no_line (then x f))
unfolding then unless at_no_line
length-first true x f = refl
length-first false x f = refl

-- the check of a table in numbers answers what the reader answers on its text, but for the line
pub as-its-sheet : (k total : ℕ) (cs : List ℕ) → ValuesFit (lines_from cs) → at_no_line (read_table (handed_text k total cs)) ≡ table_handed k total cs
unfolding read_table table_line first_line table_handed check_sheet lines_handed
as-its-sheet k total cs fit =
    let ls = lines_from cs in
    let ss = broken_from cs in
    let n = length ls + length ss in
    let ms = rows_before ls (broken_rows ss) in
    let t : Table = record { k = k; total = total; lines = ls } in
    let second = number 1 most_capacity in
    let third = number 0 total_limit in
    let short = leb (length (handed_text k total cs)) text_limit in
    let read : opening_lines table_word second third (split 10 (handed_text k total cs)) ≡ opening_fields table_word second third (head_row k n total) ms =
    ap (opening_lines table_word second third) (handed-split k total cs)
    ∙ lines_more table_word second third (join 32 (head_row k n total)) ms (rows-some ls (broken_rows ss) (broken-some ss))
    ∙ rw (head-split k n total) in
    length-first short _ _
    ∙ ap (unless short no11 0)
    (rw (read, head_read k n total ms)
    (head_more (in_limits 1 most_bits k) (in_limits 1 most_capacity n) (leb total total_limit) (record { k = k; second = n; third = total; behind = ms }) _
    (then (check_lines k [] ls) (check_end (length ss) t))
    (λ bits lines.
    let few = within 1 most_bits k bits in
    lines-read k few.0 few.1 [] ls ss (whole_table k n total) t fit
    (λ none. whole-end k n total ls (omega arith) (within 1 most_capacity n lines).0))))
