-- The text of a rule sheet as its lines, and of each line as its fields; and how long it is.
use Prim.Native.Nat.{ℕ, ◌+◌, ◌≤◌, ◌<◌}
use mathlib.Core.Path.{◌≡◌, refl, sym, ap, ◌∙◌}
use mathlib.Core.List.{List, [], ◌∷◌, ◌++◌, append_assoc}
use native.Mathlib.Omega.{arith}
use lib.ListN.{length, length-append}
use Rattle.numerals.specs.Decimal.{width, decimal}
use Rattle.numerals.specs.Suffix.{suffix_text}
use Rattle.numerals.specs.Text.{split}
use Rattle.numerals.specs.Limits.{most_bits, most_id, most_services}
use Rattle.numerals.proofs.Decimal.{length-decimal, decimal-free, width-least}
use Rattle.numerals.proofs.Fields.{Free}
use Rattle.numerals.proofs.SuffixTexts.{length-suffix, suffix-free}
use Rattle.packing.specs.Count.{Line}
use Rattle.sheets.specs.RuleSheet.{Table, table_word, head_text, line_text, lines_text, table_text}
use Rattle.sheets.specs.Inner.Writing.{line_width}
use Rattle.sheets.proofs.Joins.{join, join_more, AllFree, split-join}

-- the fields of line 1 and of a rule line
abbrev pub head_row : ℕ → ℕ → ℕ → List (List ℕ)
head_row k n total = table_word ∷ decimal k ∷ decimal n ∷ decimal total ∷ []

abbrev pub line_row : Line → List (List ℕ)
line_row l = decimal l.service ∷ suffix_text l.rule.len l.rule.value ∷ decimal l.rule.backend ∷ []

-- the lines, and the empty one behind the last LF
unfoldable pub rows : List Line → List (List ℕ)
rows [] = [] ∷ []
rows (l ∷ ls) = join 32 (line_row l) ∷ rows ls

pub rows-some : (ls : List Line) → 1 ≤ length (rows ls)
unfolding rows
rows-some [] = omega arith
rows-some (l ∷ ls) = omega arith

abbrev pub table_rows : Table → List (List ℕ)
table_rows t = join 32 (head_row t.k (length t.lines) t.total) ∷ rows t.lines

-- a rule line is its fields joined, and an LF
pub line-joined : (l : Line) (rest : List ℕ) → line_text l ++ rest ≡ join 32 (line_row l) ++ 10 ∷ rest
unfolding line_text join
line-joined l rest = simp append_assoc

lines-joined : (ls : List Line) → lines_text ls ≡ join 10 (rows ls)
unfolding lines_text rows join
lines-joined [] = refl
lines-joined (l ∷ ls) =
    line-joined l (lines_text ls)
    ∙ ap (λ (r : List ℕ). join 32 (line_row l) ++ 10 ∷ r) (lines-joined ls)
    ∙ sym (join_more 10 (join 32 (line_row l)) (rows ls) (rows-some ls))

-- a rule sheet is its lines joined
pub table-joined : (t : Table) → table_text t ≡ join 10 (table_rows t)
unfolding table_text head_text join
table-joined t =
    let head = join 32 (head_row t.k (length t.lines) t.total) in
    let front : table_text t ≡ head ++ 10 ∷ lines_text t.lines = simp append_assoc in
    front ∙ ap (λ (r : List ℕ). head ++ 10 ∷ r) (lines-joined t.lines) ∙ sym (join_more 10 head (rows t.lines) (rows-some t.lines))

-- what the fields are free of

word-free : (c : ℕ) → c < 65 → Free c table_word
word-free c h = (λ e. omega arith, (λ e. omega arith, (λ e. omega arith, (λ e. omega arith, (λ e. omega arith, tt)))))

pub head-free : (c k n total : ℕ) → c < 42 → AllFree c (head_row k n total)
head-free c k n total h =
    (word-free c (omega arith), (decimal-free c k (omega arith), (decimal-free c n (omega arith), (decimal-free c total (omega arith), tt))))

pub line-free : (c : ℕ) (l : Line) → c < 42 → AllFree c (line_row l)
line-free c l h =
    (decimal-free c l.service (omega arith), (suffix-free c l.rule.len l.rule.value h, (decimal-free c l.rule.backend (omega arith), tt)))

-- so each line has these fields

pub head-split : (k n total : ℕ) → split 32 (join 32 (head_row k n total)) ≡ head_row k n total
head-split k n total = split-join 32 table_word (decimal k ∷ decimal n ∷ decimal total ∷ []) (head-free 32 k n total (omega arith))

pub line-split : (l : Line) → split 32 (join 32 (line_row l)) ≡ line_row l
line-split l =
    split-join 32 (decimal l.service) (suffix_text l.rule.len l.rule.value ∷ decimal l.rule.backend ∷ [])
    (line-free 32 l (omega arith))

-- how many bytes the lines have

unfoldable pub lines_width : List Line → ℕ
lines_width [] = 0
lines_width (l ∷ ls) = line_width l.service l.rule.len l.rule.backend + lines_width ls

-- a line in its limits has at most 22: two digits of the service, a star and twelve bits, four digits of the id, two spaces and the LF
abbrev pub most_line : ℕ
most_line = 22

pub line-short : (service len backend : ℕ) → service ≤ most_services → len ≤ most_bits → backend ≤ most_id → line_width service len backend ≤ most_line
line-short service len backend s l b =
    omega (arith, width-least 1 service (omega arith), width-least 3 backend (omega arith))

pub length-line : (l : Line) → length (line_text l) ≡ line_width l.service l.rule.len l.rule.backend
unfolding line_text
length-line l =
    simp (length-append, length-decimal, length-suffix) (omega arith)

pub length-lines : (ls : List Line) → length (lines_text ls) ≡ lines_width ls
unfolding lines_text lines_width
length-lines [] = refl
length-lines (l ∷ ls) = omega (arith, length-append (line_text l) (lines_text ls), length-line l, length-lines ls)

pub length-head : (k n total : ℕ) → length (head_text k n total) ≡ 9 + width k + width n + width total
unfolding head_text
length-head k n total = simp (length-append, length-decimal) (omega arith)

pub length-table : (t : Table) → length (table_text t) ≡ 9 + width t.k + width (length t.lines) + width t.total + lines_width t.lines
unfolding table_text
length-table t =
    omega (
      arith,
      length-append (head_text t.k (length t.lines) t.total) (lines_text t.lines),
      length-head t.k (length t.lines) t.total,
      length-lines t.lines,
    )
