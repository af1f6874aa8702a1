-- A table in numbers, four of each line: how many lines there are, how long their text is, and that those of a proper table are in their limits.
use Prim.Native.Nat.{ℕ, zero, suc, ◌+◌, ◌*◌, ◌/◌, ◌%◌, ◌^◌, ◌≤◌, ◌<◌}
use mathlib.Core.Path.{◌≡◌, refl, sym, ap, ◌∙◌}
use mathlib.Core.List.{List, [], ◌∷◌, ◌++◌, append-nil}
use native.Mathlib.Nat.{add-zero}
use native.Mathlib.Omega.{arith}
use lib.ListN.{length, get_or, length-append}
use lib.Seq.{slice}
use Rattle.numerals.specs.Decimal.{width}
use Rattle.numerals.proofs.Decimal.{width-least, length-decimal}
use Rattle.numerals.proofs.Slice.{slice-more, slice-none, slice-length}
use Rattle.numerals.specs.Limits.{most_bits, most_capacity, text_limit}
use Rattle.packing.specs.Count.{Line}
use Rattle.sheets.specs.Calls.{lines_from, broken_from, broken_text, lines_handed, handed_text}
use Rattle.sheets.specs.RuleSheet.{head_text, line_text, lines_text, table_text}
use Rattle.sheets.specs.Inner.TableNumbers.{line_at, lines_in, table_in, RuleLines}
use Rattle.sheets.specs.Inner.Writing.{line_width, counted}
use Rattle.sheets.proofs.TableNumbers.{four-more, rows_more, rows_none}
use Rattle.sheets.proofs.TableTexts.{lines_width, most_line, line-short, length-lines, length-table, length-head}
use Rattle.sheets.proofs.TableChecks.{Formed, formed, is-formed, InOrder}

-- as many lines as numbers by four, and a broken one where some are left over
pub count-lines : (cs : List ℕ) → length (lines_from cs) ≡ length cs / 4
unfolding lines_from
count-lines [] = refl
count-lines (a ∷ []) = refl
count-lines (a ∷ b ∷ []) = refl
count-lines (a ∷ b ∷ c ∷ []) = refl
count-lines (a ∷ b ∷ c ∷ d ∷ cs) = omega (arith, count-lines cs)

pub count-broken : (cs : List ℕ) → length (broken_from cs) ≡ (length cs % 4 + 3) / 4
unfolding broken_from
count-broken [] = refl
count-broken (a ∷ []) = refl
count-broken (a ∷ b ∷ []) = refl
count-broken (a ∷ b ∷ c ∷ []) = refl
count-broken (a ∷ b ∷ c ∷ d ∷ cs) = omega (arith, count-broken cs)

pub count-handed : (cs : List ℕ) → lines_handed cs ≡ (length cs + 3) / 4
unfolding lines_handed
count-handed cs = omega (arith, count-lines cs, count-broken cs)

-- of whole lines it is the text of their table
pub whole-text :
    (k total : ℕ) (cs : List ℕ) → length (broken_from cs) ≡ 0 → handed_text k total cs ≡ table_text (record { k = k; total = total; lines = lines_from cs })
unfolding handed_text table_text lines_handed broken_text
whole-text k total cs h =
    rw (none (broken_from cs) h, add-zero (length (lines_from cs)), append-nil (lines_text (lines_from cs)))
  where
    none : (ss : List ℕ) → length ss ≡ 0 → ss ≡ []
    none [] e = refl
    none (s ∷ ss) e = absurd (omega arith)

-- how many bytes the text has that numbers make
unfoldable pub handed_width : List ℕ → ℕ
handed_width cs = lines_width (lines_from cs) + length (broken_text (broken_from cs))

pub length-handed :
    (k total : ℕ) (cs : List ℕ) → length (handed_text k total cs) ≡ 9 + width k + width ((length cs + 3) / 4) + width total + handed_width cs
unfolding handed_text handed_width
length-handed k total cs =
    let lines = lines_text (lines_from cs) in
    let broken = broken_text (broken_from cs) in
    omega (
      arith,
      length-append (head_text k (lines_handed cs) total) (lines ++ broken),
      length-append lines broken,
      length-head k (lines_handed cs) total,
      length-lines (lines_from cs),
      ap width (count-handed cs),
    )

last-width : (s : ℕ) (cs : List ℕ) → length cs < 3 → handed_width (s ∷ cs) ≡ width s + 1
unfolding handed_width lines_from lines_width broken_from broken_text
last-width s [] h = simp (length-append, length-decimal) (omega arith)
last-width s (a ∷ []) h = simp (length-append, length-decimal) (omega arith)
last-width s (a ∷ b ∷ []) h = simp (length-append, length-decimal) (omega arith)
last-width s (a ∷ b ∷ c ∷ cs) h = absurd (omega arith)

module _ (table : List ℕ) (to : ℕ) (room : to ≤ length table) where
  -- the numbers from line i on
  pub handed-more :
      (i : ℕ) → 4 * i + 4 ≤ to
      → handed_width (slice (4 * i) to table)
      ≡ line_width (get_or table (4 * i) 0) (get_or table (4 * i + 1) 0) (get_or table (4 * i + 3) 0) + handed_width (slice (4 * (i + 1)) to table)
  unfolding handed_width lines_from lines_width broken_from
  handed-more i h = ap handed_width (four-more table to room i h) ∙ omega arith

  pub handed-none : (i : ℕ) → to ≡ 4 * i → handed_width (slice (4 * i) to table) ≡ 0
  unfolding handed_width lines_from lines_width broken_from broken_text
  handed-none i e = ap handed_width (slice-none (4 * i) to table (omega arith))

  pub handed-last : (i : ℕ) → 4 * i < to → to < 4 * i + 4 → handed_width (slice (4 * i) to table) ≡ width (get_or table (4 * i) 0) + 1
  handed-last i h m =
      ap handed_width (slice-more (4 * i) to table h (omega arith))
      ∙ last-width (get_or table (4 * i) 0) (slice (4 * i + 1) to table) (omega (arith, slice-length (4 * i + 1) to table))

module _ (table : List ℕ) (n : ℕ) (room : 4 * n ≤ length table) where
  -- the lines from number i on
  abbrev rest : ℕ → List Line
  rest i = lines_from (slice (4 * i) (4 * n) table)

  pub rest-length : (m i : ℕ) → i + m ≡ n → length (rest i) ≡ m
  rest-length zero i e = ap length (rows_none table n room i (omega arith))
  rest-length (suc m) i e =
      ap length (rows_more table n room i (omega arith)) ∙ ap suc (rest-length m (i + 1) (omega arith))

  first_two :
      (k : ℕ) (before : List Line) (i : ℕ) → i < n → InOrder k before (rest i) → Formed k (line_at table i) × InOrder k (line_at table i ∷ before)
      (rest (i + 1))
  unfolding InOrder
  first_two k before i h s =
      let all = rw (rows_more table n room i h) at s in (formed k (line_at table i) all.0.form, all.1)

  pub formed-from : (k : ℕ) (before : List Line) (m i j : ℕ) → j ≡ i + m → j < n → InOrder k before (rest i) → Formed k (line_at table j)
  formed-from k before zero i j e h s =
      let here : j ≡ i = omega arith in
      rw here (first_two k before i (omega arith) s).0
  formed-from k before (suc m) i j e h s =
      formed-from k (line_at table i ∷ before) m (i + 1) j (omega arith) h (first_two k before i (omega arith) s).1

  -- lines that passed are rule lines
  pub rule-lines : (k : ℕ) → k ≤ most_bits → InOrder k [] (lines_in table n) → RuleLines table n
  rule-lines k few s =
      record {
        room = room;
        each = λ j h.
            let f : Formed k (line_at table j) = formed-from k [] j 0 j (omega arith) h s in
            is-formed most_bits (line_at table j)
            (record {
              numbered = f.numbered;
              service = f.service;
              short = omega (arith, f.short);
              bits = f.bits;
              labelled = f.labelled;
              backend = f.backend;
            });
      }

-- how many bytes the lines from number i on have
module _ (table : List ℕ) (n : ℕ) (L : RuleLines table n) where
  abbrev left : ℕ → List Line
  left i = lines_from (slice (4 * i) (4 * n) table)

  abbrev width_at : ℕ → ℕ
  width_at i = line_width (get_or table (4 * i) 0) (get_or table (4 * i + 1) 0) (get_or table (4 * i + 3) 0)

  pub width-short : (i : ℕ) → i < n → width_at i ≤ most_line
  width-short i h =
      let f = formed most_bits (line_at table i) (L.each i h) in
      line-short (get_or table (4 * i) 0) (get_or table (4 * i + 1) 0) (get_or table (4 * i + 3) 0) f.service f.short f.backend

  pub width-more : (i : ℕ) → i < n → lines_width (left i) ≡ width_at i + lines_width (left (i + 1))
  unfolding lines_width
  width-more i h = ap lines_width (rows_more table n L.room i h)

  pub width-none : (i : ℕ) → n ≤ i → lines_width (left i) ≡ 0
  unfolding lines_width
  width-none i h = ap lines_width (rows_none table n L.room i h)

  left-short : (m i : ℕ) → i + m ≡ n → lines_width (left i) ≤ most_line * m
  left-short zero i e = omega (arith, width-none i (omega arith))
  left-short (suc m) i e = omega (arith, width-more i (omega arith), width-short i (omega arith), left-short m (i + 1) (omega arith))

  pub text-more : (i : ℕ) → i < n → lines_text (left i) ≡ line_text (line_at table i) ++ lines_text (left (i + 1))
  unfolding lines_text
  text-more i h = ap lines_text (rows_more table n L.room i h)

  pub text-none : (i : ℕ) → n ≤ i → lines_text (left i) ≡ []
  unfolding lines_text
  text-none i h = ap lines_text (rows_none table n L.room i h)

  pub lines-count : length (lines_in table n) ≡ n
  lines-count = rest-length table n L.room n 0 (omega arith)

  -- how many bytes the whole text has, and of what it is made
  pub table-width : (k total : ℕ) → length (table_text (table_in k total table n)) ≡ length (head_text k n total) + lines_width (left 0)
  table-width k total =
      omega (arith, length-table (table_in k total table n), length-head k n total, ap width lines-count)

  -- no longer than a text may be
  pub table-short : (k total : ℕ) → n ≤ most_capacity → k < 2 ^ 64 → total < 2 ^ 64 → length (table_text (table_in k total table n)) ≤ text_limit
  unfolding text_limit
  table-short k total few h j =
      omega (
        arith,
        table-width k total,
        length-head k n total,
        left-short n 0 (omega arith),
        width-least 19 k (omega arith),
        width-least 19 n (omega arith),
        width-least 19 total (omega arith),
      )

  -- so all its bytes are counted
  pub table_counted :
      (k total : ℕ) → n ≤ most_capacity → k < 2 ^ 64 → total < 2 ^ 64
      → counted (length (handed_text k total (slice 0 (4 * n) table))) ≡ length (table_text (table_in k total table n))
  unfolding text_limit
  table_counted k total few h j =
      let cs = slice 0 (4 * n) table in
      let whole : length (broken_from cs) ≡ 0 = omega (arith, count-broken cs, slice-length 0 (4 * n) table, L.room) in
      omega (arith, ap length (whole-text k total cs whole), table-short k total few h j)

  pub table-parts : (k total : ℕ) → head_text k n total ++ lines_text (left 0) ≡ table_text (table_in k total table n)
  unfolding table_text
  table-parts k total = ap (λ (m : ℕ). head_text k m total ++ lines_text (left 0)) (sym lines-count)
