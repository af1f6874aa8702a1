-- The check of a table that is no text, line by line: what one line more comes to, and the end.
use Rattle.std.specs.Prelude.{Err, Ok, Result}
use Prim.Native.Nat.{ℕ, ◌+◌, ◌*◌}
use mathlib.Core.Path.{◌≡◌, refl, sym, ap, ◌∙◌}
use mathlib.Core.Bool.{true, false}
use mathlib.Core.List.{List, [], ◌∷◌}
use native.Mathlib.Nat.{le_refl}
use lib.Dec.{eqb}
use lib.ListN.{length, replicate}
use lib.Seq.{slice, take_all}
use borrow.Author.Tests.{eq-eqb, ne_eqb}
use Rattle.numerals.specs.declared.refusal.Refusal.{Refusal}
use Rattle.numerals.specs.declared.refusal.Refusal.TheVariants.{Malformed, BadField, Order}
use Rattle.numerals.specs.Limits.{most_services}
use Rattle.packing.specs.Count.{Line}
use Rattle.sheets.specs.Reading.{got, refused, then, unless}
use Rattle.sheets.specs.RuleSheet.{closed, is_line, check_lines, check_end}
use Rattle.sheets.specs.Inner.Order.{last_of, Behind, placing, PlacedAs}
use Rattle.sheets.specs.Calls.{lines_from, broken_from}
use Rattle.sheets.specs.Inner.Writing.{checked_from, checked_cells, CheckedLine}
use Rattle.sheets.specs.declared.order.Last.{Last}
use Rattle.sheets.proofs.Following.{placed-next, placed-refused, last-count}
use Rattle.sheets.proofs.Reader.{passed_none}

module _ (k broken : ℕ) (before : List Line) (l : Line) (ls : List Line) where
  pub line-bad : is_line k l ≡ false → checked_from k broken before (l ∷ ls) ≡ refused BadField 0
  unfolding checked_from check_lines unless then
  line-bad h = rw h

  pub line_refused : (why : Refusal) → is_line k l ≡ true → placing before l ≡ refused why 0 → checked_from k broken before (l ∷ ls) ≡ refused why 0
  unfolding checked_from check_lines unless then
  line_refused why h p = rw (h, placed-refused before l 0 (check_lines k (l ∷ before) ls) why p)

  pub line-next : is_line k l ≡ true → placing before l ≡ got tt → checked_from k broken before (l ∷ ls) ≡ checked_from k broken (l ∷ before) ls
  unfolding checked_from check_lines unless
  line-next h p = rw (h, placed-next before l 0 (check_lines k (l ∷ before) ls) p)

pub line-placed :
    (k : ℕ) (before : List Line) (l : Line) (r : (Result Last Refusal)) (tally : List ℕ) → is_line k l ≡ true → PlacedAs before l r tally → CheckedLine k before l r tally
line-placed k before l (Ok last) tally h p = (λ broken ls. line-next k broken before l ls h p.0, p.1)
line-placed k before l (Err why) tally h p = λ broken ls. line_refused k broken before l ls why h p

-- after the last line
closed-last : (before : List Line) → closed before ≡ eqb (last_of before).len 0
unfolding closed last_of
closed-last [] = refl
closed-last (l ∷ ls) = refl

module _ (k broken : ℕ) (before : List Line) where
  pub too_few : (broken ≡ 0 → ⊥) → checked_from k broken before [] ≡ refused Malformed 0
  unfolding checked_from check_lines check_end unless then
  too_few n = rw (ne_eqb broken 0 n)

  pub all_sound : broken ≡ 0 → (last_of before).len ≡ 0 → checked_from k broken before [] ≡ got tt
  unfolding checked_from check_lines check_end unless then
  all_sound none e = rw (eq-eqb broken 0 none, closed-last before, eq-eqb (last_of before).len 0 e)

  pub left_open : broken ≡ 0 → ((last_of before).len ≡ 0 → ⊥) → checked_from k broken before [] ≡ refused Order 0
  unfolding checked_from check_lines check_end unless then
  left_open none n = rw (eq-eqb broken 0 none, closed-last before, ne_eqb (last_of before).len 0 n)

-- i lines were checked, and the rest decides
pub record Checked (k : ℕ) (table : List ℕ) (i : ℕ) (last : Last) (tally : List ℕ) : Type 0 where
  pub before : List Line
  pub passed : length before ≡ i
  pub behind : Behind before last tally
  pub left :
      checked_cells k table
      ≡ checked_from k (length (broken_from table)) before (lines_from (slice (4 * i) (length table) table))

pub none-checked : (k : ℕ) (table : List ℕ) → Checked k table 0 (record { count = 0; service = 0; len = 0 }) (replicate (1 + most_services) 0)
none-checked k table =
    record {
      before = [];
      passed = refl;
      behind = (passed_none k table).behind;
      left = ap (λ (cs : List ℕ). checked_from k (length (broken_from table)) [] (lines_from cs))
          (sym (take_all (length table) table (le_refl (length table))));
    }

-- not more lines than n were
pub few-checked : (k : ℕ) (table : List ℕ) (i : ℕ) (last : Last) (tally : List ℕ) → Checked k table i last tally → last.count ≡ i
few-checked k table i last tally C = ap (λ (q : Last). q.count) C.behind.is ∙ last-count C.before ∙ C.passed
