-- What the public calls answer, and what they write, for every input.
use Rattle.std.specs.Prelude.{ℕ, ◌+◌, ◌*◌, ◌^◌, Bool, true, false, List, [], ◌∷◌, ◌++◌, leb, ltb, eqb, length, Err, Ok, Result}
use Rattle.numerals.specs.Buffer.{filled}
use Rattle.numerals.specs.Pick.{pick}
use Rattle.numerals.specs.Decimal.{decimal}
use Rattle.numerals.specs.Limits.{text_limit, unit}
use Rattle.numerals.specs.declared.refusal.Refusal.{Refusal}
use Rattle.numerals.specs.Refusals.{no7, no8, no11, no12}
use Rattle.expansion.specs.FirstMatch.{first_match, differing}
use Rattle.packing.specs.Grants.{total}
use Rattle.packing.specs.Count.{Line, Services, own_rules}
use Rattle.packing.specs.Table.{problem, granted, one_each}
use Rattle.packing.specs.Answer.{services_with, lines_made, figures_made, cells, no_buffer, figures_buffer, table_buffer}
use Rattle.sheets.specs.Reading.{Reading, got, refused, unless}
use Rattle.sheets.specs.PercentageSheet.{Sheet, read_sheet}
use Rattle.sheets.specs.RuleSheet.{Table, head_text, lines_text, table_text, count_of, read_table, check_sheet}
use Rattle.sheets.specs.declared.answer.Refused.{Refused as Why}
use Rattle.sheets.specs.declared.answer.Plan.{Plan}
use Rattle.sheets.specs.declared.answer.TableRecord.{TableRecord}

-- a refusal with its line, about one of two sheets or buffers, or about neither
abbrev pub about : ℕ → Refusal → ℕ → Why
about of why line = record { why = why; line = line; of = of }

abbrev pub refused_at : Refusal → ℕ → Why
refused_at why line = about 0 why line

-- what is answered of what was read; a refusal of it is the answer itself, about sheet `of` where there are two
abbrev pub answered : {A B : Type 0} → (Why → B) → ℕ → Reading A → (A → B) → B
answered back of (got a) f = f a
answered back of (refused why line) f = back (about of why line)

-- the values for a lent buffer, by what was read
abbrev pub values_of : {A : Type 0} → Reading A → (A → List ℕ) → List ℕ
values_of (got a) f = f a
values_of (refused why line) f = []

-- a lent buffer afterwards: the values from its start on, where the answer is no refusal; else as it was
abbrev pub afterwards : Bool → List ℕ → List ℕ → List ℕ
afterwards made out vs = filled made out 0 vs

abbrev pub is_value : Result ℕ Why → Bool
is_value (Ok n) = true
is_value (Err r) = false

abbrev pub is_plan : Result Plan Why → Bool
is_plan (Ok p) = true
is_plan (Err r) = false

abbrev pub is_table : Result TableRecord Why → Bool
is_table (Ok r) = true
is_table (Err r) = false

-- the services of a sheet whose weights sum to `all`, as the count is fed them; backends are labelled by their ids
abbrev pub services_at : ℕ → Sheet → Services
services_at all S = services_with all S.k S.volumes S.ids S.weights

-- the services of a sheet
unfoldable pub services_in : Sheet → Services
services_in S = services_at unit S

-- the table of a sheet with these services
abbrev pub table_with : Services → Sheet → Table
table_with T S =
    record {
      k = S.k;
      total = total (problem T S.tolerance one_each S.capacity) (granted T S.tolerance one_each S.capacity);
      lines = lines_made T S.tolerance S.capacity;
    }

-- the table of a sheet
unfoldable pub table_for : Sheet → Table
table_for S = table_with (services_in S) S

-- the one call: the table and the figures of a percentage sheet's text; 7 is about the lent buffer that is too short
unfoldable pub plan_of : Sheet → ℕ → ℕ → Result Plan Why
plan_of S figures_room table_room =
    pick (leb (3 * length S.volumes) figures_room)
    (pick (leb (4 * length (table_for S).lines) table_room)
    (Ok (record { k = S.k; services = length S.volumes; rules = length (table_for S).lines; total = (table_for S).total }))
    (Err (about table_buffer no7 0)))
    (Err (about figures_buffer no7 0))

unfoldable pub plan_answer : List ℕ → ℕ → ℕ → Result Plan Why
plan_answer text figures_room table_room = answered Err no_buffer (read_sheet text) (λ S. plan_of S figures_room table_room)

unfoldable pub figures_for : Sheet → List ℕ
figures_for S = figures_made (services_in S) S.tolerance S.capacity

unfoldable pub cells_for : Sheet → List ℕ
cells_for S = cells (table_for S).lines

-- a text, or other values, for a lent buffer: how many of them are written, if there is room, else 7
unfoldable pub print_text : List ℕ → ℕ → Result ℕ Why
print_text bytes room = pick (leb (length bytes) room) (Ok (length bytes)) (Err (refused_at no7 0))

abbrev pub print_read : {A : Type 0} → Reading A → (A → List ℕ) → ℕ → Result ℕ Why
print_read r text room = answered Err 0 r (λ a. print_text (text a) room)

-- the rule sheet of a percentage sheet's text
unfoldable pub sheet_text : Sheet → List ℕ
sheet_text S = table_text (table_for S)

-- the lines that four numbers each are; what is left over is no line
unfoldable pub lines_from : List ℕ → List Line
lines_from [] = []
lines_from (s ∷ []) = []
lines_from (s ∷ l ∷ []) = []
lines_from (s ∷ l ∷ v ∷ []) = []
lines_from (s ∷ l ∷ v ∷ b ∷ cs) = record { service = s; rule = record { len = l; value = v; backend = b } } ∷ lines_from cs

-- the first number of a last line of which fewer than four are there; none where the numbers are whole lines
unfoldable pub broken_from : List ℕ → List ℕ
broken_from [] = []
broken_from (s ∷ []) = s ∷ []
broken_from (s ∷ l ∷ []) = s ∷ []
broken_from (s ∷ l ∷ v ∷ []) = s ∷ []
broken_from (s ∷ l ∷ v ∷ b ∷ cs) = broken_from cs

-- its text has one field
unfoldable pub broken_text : List ℕ → List ℕ
broken_text [] = []
broken_text (s ∷ ss) = decimal s ++ 10 ∷ broken_text ss

-- how many lines the numbers are, the broken one too
unfoldable pub lines_handed : List ℕ → ℕ
lines_handed cs = length (lines_from cs) + length (broken_from cs)

-- the text that a table in numbers makes
unfoldable pub handed_text : ℕ → ℕ → List ℕ → List ℕ
handed_text k total cs = head_text k (lines_handed cs) total ++ (lines_text (lines_from cs) ++ broken_text (broken_from cs))

-- a table that was handed in numbers, checked as its sheet would be: that text's length, line 1, line by line, the end
unfoldable pub table_handed : ℕ → ℕ → List ℕ → Reading Table
table_handed k total cs =
    unless (leb (length (handed_text k total cs)) text_limit) no11 0
    (check_sheet (record { k = k; total = total; lines = lines_from cs }) (length (broken_from cs)))

-- the table of a rule sheet's text, into a lent buffer
unfoldable pub read_in : Table → ℕ → Result TableRecord Why
read_in t room =
    pick (leb (4 * length t.lines) room)
    (Ok (record { k = t.k; rules = length t.lines; total = t.total }))
    (Err (refused_at no7 0))

unfoldable pub read_answer : List ℕ → ℕ → Result TableRecord Why
read_answer text room = answered Err 0 (read_table text) (λ t. read_in t room)

-- service n has lines
unfoldable pub has_service : Table → ℕ → Bool
has_service t n = ltb 0 (count_of n t.lines)

-- lookup (document 01, "Lookup and churn"): the id of the backend of the first matching line of service n
unfoldable pub lookup_in : Table → ℕ → ℕ → Result ℕ Why
lookup_in t n address = pick (has_service t n) (Ok (first_match (own_rules n t.lines) address)) (Err (refused_at no8 0))

unfoldable pub lookup_answer : List ℕ → ℕ → ℕ → Result ℕ Why
lookup_answer text n address = answered Err 0 (read_table text) (λ t. lookup_in t n address)

-- of the suffixes below `all`, the number for which service n has another backend in the new lines than in the old
unfoldable pub moved : ℕ → List Line → List Line → ℕ → ℕ
moved all old new n = differing all (own_rules n old) (own_rules n new)

-- what is answered of a service that both sheets have, under one k: 8 is about the first that lacks it, 12 about neither
abbrev pub of_service : {A : Type 0} → (Why → A) → Bool → Bool → Bool → A → A
of_service refuse first second alike a =
    pick first
    (pick second
    (pick alike a
    (refuse (refused_at no12 0)))
    (refuse (about 2 no8 0)))
    (refuse (about 1 no8 0))

unfoldable pub churn_of : Table → Table → ℕ → Result ℕ Why
churn_of old new n =
    of_service Err (has_service old n) (has_service new n) (eqb old.k new.k) (Ok (moved (2 ^ old.k) old.lines new.lines n))

-- the first sheet is read wholly first
unfoldable pub churn_answer : List ℕ → List ℕ → ℕ → Result ℕ Why
churn_answer old new n = answered Err 1 (read_table old) (λ o. answered Err 2 (read_table new) (λ m. churn_of o m n))
