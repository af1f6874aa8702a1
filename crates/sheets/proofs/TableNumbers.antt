-- The lines that numbers are, four of each: one line more, none left, those from a line on, and back from the numbers of lines.
use Prim.Native.Nat.{ℕ, ◌+◌, ◌-◌, ◌*◌, ◌≤◌, ◌<◌}
use mathlib.Core.Path.{◌≡◌, refl, sym, ap, ◌∙◌}
use mathlib.Core.List.{List, [], ◌∷◌, ◌++◌}
use native.Mathlib.Omega.{arith}
use lib.ListN.{length, get_or, take, drop, length-drop}
use lib.Seq.{slice, get_or-drop, take-add, drop_at, length-take-le}
use Rattle.numerals.proofs.Slice.{slice-more, slice-length}
use Rattle.numerals.specs.Limits.{most_bits}
use Rattle.packing.specs.Count.{Line}
use Rattle.packing.specs.Answer.{cells}
use Rattle.sheets.specs.RuleSheet.{is_line}
use Rattle.sheets.specs.Calls.{lines_from}
use Rattle.sheets.specs.Inner.TableNumbers.{line, line_at, lines_in, RuleLines}

-- the numbers of a line, and those behind it up to a position
pub four-more :
    (table : List ℕ) (to : ℕ) → to ≤ length table → (i : ℕ) → 4 * i + 4 ≤ to
    → slice (4 * i) to table
    ≡ get_or table (4 * i) 0 ∷ get_or table (4 * i + 1) 0 ∷ get_or table (4 * i + 2) 0 ∷ get_or table (4 * i + 3) 0 ∷ slice (4 * (i + 1)) to table
four-more table to room i h =
    let one : 4 * i + 1 + 1 ≡ 4 * i + 2 = omega arith in
    let two : 4 * i + 2 + 1 ≡ 4 * i + 3 = omega arith in
    let three : 4 * i + 3 + 1 ≡ 4 * (i + 1) = omega arith in
    slice-more (4 * i) to table (omega arith) (omega arith)
    ∙ rw (
      slice-more (4 * i + 1) to table (omega arith) (omega arith),
      one,
      slice-more (4 * i + 2) to table (omega arith) (omega arith),
      two,
      slice-more (4 * i + 3) to table (omega arith) (omega arith),
      three,
    )

no_lines : (cs : List ℕ) → length cs < 4 → lines_from cs ≡ []
unfolding lines_from
no_lines [] h = refl
no_lines (a ∷ []) h = refl
no_lines (a ∷ b ∷ []) h = refl
no_lines (a ∷ b ∷ c ∷ []) h = refl
no_lines (a ∷ b ∷ c ∷ d ∷ cs) h = absurd (omega arith)

module _ (table : List ℕ) (to : ℕ) (room : to ≤ length table) where
  pub lines_more : (i : ℕ) → 4 * i + 4 ≤ to → lines_from (slice (4 * i) to table) ≡ line_at table i ∷ lines_from (slice (4 * (i + 1)) to table)
  unfolding lines_from
  lines_more i h = ap lines_from (four-more table to room i h)

  pub lines_none : (i : ℕ) → to < 4 * i + 4 → lines_from (slice (4 * i) to table) ≡ []
  lines_none i h = no_lines (slice (4 * i) to table) (omega (arith, slice-length (4 * i) to table))

module _ (table : List ℕ) (n : ℕ) (room : 4 * n ≤ length table) where
  pub rows_more : (i : ℕ) → i < n → lines_from (slice (4 * i) (4 * n) table) ≡ line_at table i ∷ lines_from (slice (4 * (i + 1)) (4 * n) table)
  rows_more i h = lines_more table (4 * n) room i (omega arith)

  pub rows_none : (i : ℕ) → n ≤ i → lines_from (slice (4 * i) (4 * n) table) ≡ []
  rows_none i h = lines_none table (4 * n) room i (omega arith)

  -- the lines from line r on, taken as a table of their own
  pub lines-part : (r : ℕ) → r ≤ n → lines_in (drop (4 * r) table) (n - r) ≡ lines_from (slice (4 * r) (4 * n) table)
  lines-part r few =
      let end : 4 * r + 4 * (n - r) ≡ 4 * n = omega arith in
      let part : take (4 * (n - r)) (drop (4 * r) table) ≡ slice (4 * r) (4 * r + 4 * (n - r)) table =
      sym (drop_at (take (4 * r) table) (take (4 * (n - r)) (drop (4 * r) table)) (4 * r) (length-take-le (4 * r) table (omega arith)))
      ∙ ap (drop (4 * r)) (sym (take-add (4 * r) (4 * (n - r)) table)) in
      ap lines_from (rw end at part)

module _ (table : List ℕ) (r : ℕ) where
  number-part : (p q : ℕ) → 4 * r + p ≡ q → get_or (drop (4 * r) table) p 0 ≡ get_or table q 0
  number-part p q e = get_or-drop (4 * r) table p 0 ∙ ap (λ (x : ℕ). get_or table x 0) e

  line-part : (i : ℕ) → line_at (drop (4 * r) table) i ≡ line_at table (r + i)
  line-part i =
      line_same
      (number-part (4 * i) (4 * (r + i)) (omega arith))
      (number-part (4 * i + 1) (4 * (r + i) + 1) (omega arith))
      (number-part (4 * i + 2) (4 * (r + i) + 2) (omega arith))
      (number-part (4 * i + 3) (4 * (r + i) + 3) (omega arith))
    where
      line_same : {a b c d e f g h : ℕ} → a ≡ e → b ≡ f → c ≡ g → d ≡ h → line a b c d ≡ line e f g h
      line_same p q r s = rw (p, q, r, s)

  pub rules-part : (n : ℕ) → r ≤ n → RuleLines table n → RuleLines (drop (4 * r) table) (n - r)
  rules-part n few L = record {
    room = omega (arith, length-drop (4 * r) table, L.room);
    each = λ i l. ap (is_line most_bits) (line-part i) ∙ L.each (r + i) (omega arith);
  }

pub lines-cells : (ls : List Line) → lines_from (cells ls) ≡ ls
unfolding lines_from cells
lines-cells [] = refl
lines-cells (l ∷ ls) = ap (λ (r : List Line). l ∷ r) (lines-cells ls)

pub length-cells : (ls : List Line) → length (cells ls) ≡ 4 * length ls
unfolding cells
length-cells [] = refl
length-cells (l ∷ ls) = omega (arith, length-cells ls)

pub cells-append : (ls ms : List Line) → cells (ls ++ ms) ≡ cells ls ++ cells ms
unfolding cells
cells-append [] ms = refl
cells-append (l ∷ ls) ms = ap (λ (r : List ℕ). l.service ∷ l.rule.len ∷ l.rule.value ∷ l.rule.backend ∷ r) (cells-append ls ms)
