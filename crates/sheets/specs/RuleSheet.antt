-- The rule sheet (document 01, "Rule sheet and program"): its text, and its reading with every refusal in its order.
use Rattle.std.specs.Prelude.{ℕ, ◌+◌, Bool, true, List, [], ◌∷◌, ◌++◌, reverse, leb, ltb, eqb, length, Err, None, Option, Result, Some}
use Rattle.numerals.specs.Pick.{pick, both}
use Rattle.numerals.specs.Decimal.{number, decimal}
use Rattle.numerals.specs.Suffix.{suffix, suffix_text}
use Rattle.numerals.specs.Digits.{put, put_end}
use Rattle.numerals.specs.Text.{split}
use Rattle.expansion.specs.Answer.{in_limits}
use Rattle.expansion.specs.FirstMatch.{is_rule}
use Rattle.numerals.specs.Refusals.{no1, no2, no4, no5, no9, no10}
use Rattle.packing.specs.Count.{Line, own_rules}
use Rattle.sheets.specs.Reading.{Reading, got, refused, then, unless, on_field, field}
use Rattle.sheets.specs.FirstLine.{Opening, first_line}
use Rattle.numerals.specs.Limits.{most_bits, most_id, most_services, most_rules, most_capacity, total_limit}
use Rattle.numerals.specs.declared.refusal.Refusal.{Refusal}
use Rattle.numerals.specs.declared.suffixes.Suffix.{Suffix}

-- what a rule sheet says; its lines have the printed numbers: services 1 to 64, backends by their ids, 1 to 9,999
pub record Table : Type 0 where
  pub k : ℕ
  pub total : ℕ
  pub lines : List Line

-- TABLE
abbrev pub table_word : List ℕ
table_word = 84 ∷ 65 ∷ 66 ∷ 76 ∷ 69 ∷ []

-- the text of a line: service suffix backend
unfoldable pub line_text : Line → List ℕ
line_text l =
    decimal l.service ++ 32 ∷ suffix_text l.rule.len l.rule.value ++ 32 ∷ decimal l.rule.backend ++ 10 ∷ []

unfoldable pub lines_text : List Line → List ℕ
lines_text [] = []
lines_text (l ∷ ls) = line_text l ++ lines_text ls

-- the text of line 1
unfoldable pub head_text : ℕ → ℕ → ℕ → List ℕ
head_text k n total = table_word ++ 32 ∷ decimal k ++ 32 ∷ decimal n ++ 32 ∷ decimal total ++ 10 ∷ []

-- the text of a rule sheet
unfoldable pub table_text : Table → List ℕ
table_text t = head_text t.k (length t.lines) t.total ++ lines_text t.lines

unfoldable pub on_suffix : {A : Type 0} → Option Suffix → ℕ → (ℕ → ℕ → Reading A) → Reading A
on_suffix (Some s) line f = f s.len s.value
on_suffix None line f = refused no2 line

-- how many of the lines are of service n
unfoldable pub count_of : ℕ → List Line → ℕ
count_of n ls = length (own_rules n ls)

-- a line behind these, the last of them first, keeps the order: services ascending, each ending in its only `*`, and the suffix doesn't lengthen
-- within a service
unfoldable pub in_order : List Line → Line → Bool
in_order [] l = true
in_order (p ∷ ps) l =
    pick (eqb p.service l.service) (both (ltb 0 p.rule.len) (leb l.rule.len p.rule.len))
    (both (ltb p.service l.service) (eqb p.rule.len 0))

-- a line behind these: the 33rd rule of a service, then the order
unfoldable pub placed : {A : Type 0} → List Line → Line → ℕ → Reading A → Reading A
placed before l at next = unless (ltb (count_of l.service before) most_rules) no4 at (unless (in_order before l) no9 at next)

-- a rule line by its fields, behind these lines
unfoldable pub rule_fields : ℕ → List Line → ℕ → List (List ℕ) → Reading Line
rule_fields k before at fs =
    unless (eqb (length fs) 3) no1 at
    (on_field (number 1 most_services (field fs 0)) at (λ s.
    on_suffix (suffix k (field fs 1)) at (λ l v.
    on_field (number 1 most_id (field fs 2)) at (λ b.
    let line : Line = record { service = s; rule = record { len = l; value = v; backend = b } } in
    placed before line at (got line)))))

-- the rule lines behind these, the last of them first: all lines, the last first
unfoldable pub rule_lines : ℕ → List Line → List (List ℕ) → Reading (List Line)
rule_lines k before [] = got before
rule_lines k before (l ∷ []) = unless (eqb (length l) 0) no1 (length before + 2) (got before)
rule_lines k before (l ∷ m ∷ ls) =
    then (rule_fields k before (length before + 2) (split 32 l)) (λ line. rule_lines k (line ∷ before) (m ∷ ls))

-- the last line is a `*`
unfoldable pub closed : List Line → Bool
closed [] = true
closed (l ∷ ls) = eqb l.rule.len 0

-- after the lines, the last first: no service, then another number of lines than n, then a last line without `*`
unfoldable pub whole_table : ℕ → ℕ → ℕ → List Line → Reading Table
whole_table k n total ls =
    unless (ltb 0 (length ls)) no5 1
    (unless (eqb (length ls) n) no10 1
    (unless (closed ls) no9 (length ls + 1)
    (got (record { k = k; total = total; lines = reverse ls }))))

-- line 1: TABLE k n total
unfoldable pub table_line : List ℕ → Reading Opening
table_line text = first_line table_word (number 1 most_capacity) (number 0 total_limit) text

unfoldable pub read_table : List ℕ → Reading Table
read_table text =
    then (table_line text) (λ line.
    then (rule_lines line.k [] line.behind) (whole_table line.k line.second line.third))

-- the numbers of a rule's line are within their limits
unfoldable pub is_line : ℕ → Line → Bool
is_line k l =
    both (in_limits 1 most_services l.service)
    (both (is_rule k l.rule) (in_limits 1 most_id l.rule.backend))

unfoldable pub check_lines : ℕ → List Line → List Line → Reading (List Line)
check_lines k before [] = got before
check_lines k before (l ∷ ls) = unless (is_line k l) no2 0 (placed before l 0 (check_lines k (l ∷ before) ls))

-- after the lines, the last first: a line of too few fields behind them, where `broken` is one, then a last line without `*`
unfoldable pub check_end : {A : Type 0} → ℕ → A → List Line → Reading A
check_end broken a ls = unless (eqb broken 0) no1 0 (unless (closed ls) no9 0 (got a))

-- a table that is no text, checked as its sheet would be: the numbers of line 1, then line by line, then the end; n counts a line of too few fields too
unfoldable pub check_sheet : Table → ℕ → Reading Table
check_sheet t broken =
    unless (in_limits 1 most_bits t.k) no2 0
    (unless (in_limits 1 most_capacity (length t.lines + broken)) no2 0
    (unless (leb t.total total_limit) no2 0
    (then (check_lines t.k [] t.lines) (check_end broken t))))

-- a lent buffer after a rule line was to be written into it at a position: one out of its limits isn't written
unfoldable pub put_line : List ℕ → ℕ → Line → List ℕ
put_line out at l = pick (is_line most_bits l) (put out at (line_text l)) out

-- the answer of that: a number out of its limits is refusal 2, which comes before 7
unfoldable pub put_line_end : List ℕ → ℕ → Line → Result ℕ Refusal
put_line_end out at l = pick (is_line most_bits l) (put_end out at (line_text l)) (Err no2)
