-- The reader of the rule sheet, step by step: one line more that is placed and stored, and what the lines come to at their end.
use Rattle.std.specs.Prelude.{Err}
use Prim.Native.Nat.{ℕ, ◌+◌, ◌*◌, ◌≤◌, ◌<◌}
use mathlib.Core.Path.{◌≡◌, refl, sym, ap, ◌∙◌}
use mathlib.Core.Bool.{Bool, true, false}
use mathlib.Core.List.{List, [], ◌∷◌, ◌++◌, reverse, reverse-cons, reverse-reverse}
use native.Mathlib.Omega.{arith}
use lib.Dec.{ltb, eqb, eqb-suc-zero}
use lib.ListN.{length, take, drop, replicate, length-replicate, get_or-replicate, length-reverse, length-append}
use lib.Seq.{slice, sets, sets-eq, take_at, length-take-le}
use Rattle.std.proofs.lemmas.List.{nil_from_length}
use Rattle.packing.specs.Count.{Line, own_rules}
use Rattle.packing.specs.Answer.{cells}
use Rattle.numerals.specs.declared.refusal.Refusal.{Refusal}
use Rattle.numerals.specs.declared.refusal.Refusal.TheVariants.{Malformed, NoService, Order, Miscount}
use Rattle.numerals.specs.Text.{split, index_of}
use Rattle.numerals.proofs.Fields.{split-some}
use Rattle.sheets.specs.Reading.{Reading, got, refused, then, unless}
use Rattle.numerals.specs.Limits.{most_services, most_capacity}
use Rattle.sheets.specs.RuleSheet.{Table, count_of, placed, rule_fields, rule_lines, closed, whole_table, is_line, check_lines}
use Rattle.sheets.specs.Inner.Order.{last_of, Behind, placing}
use Rattle.sheets.specs.Calls.{about, refused_at}
use Rattle.sheets.specs.declared.answer.Refused.{Refused as Why}
use Rattle.sheets.specs.Inner.TableReader.{Passed, Filled, sheet_answer, whole_of, table_from}
use Rattle.sheets.specs.declared.rule_sheet.TableHead.{TableHead}
use Rattle.sheets.specs.declared.order.Last.{Last}
use Rattle.sheets.proofs.FieldParts.{cut-first, cut-none}
use Rattle.sheets.proofs.Readings.{not-got, unless-got}
use Rattle.sheets.proofs.TableChecks.{Follows, in_order_lem, check-lines}
use Rattle.sheets.proofs.Following.{last-count}
use Rattle.sheets.proofs.OrderedLines.{Ordered, ordered-none, ordered-next, ordered-sorted, sorted-ordered, few-lines}
use Rattle.sheets.proofs.TableNumbers.{length-cells, cells-append}

-- lines that pass the checks are in order
checked-ordered : (k : ℕ) (ls : List Line) → check_lines k [] (reverse ls) ≡ got ls → Ordered k ls
checked-ordered k ls h = rw (reverse-reverse ls) at (sorted-ordered k [] (reverse ls) (ordered-none k) (in_order_lem k [] (reverse ls) h))

ordered-checked : (k : ℕ) (ls : List Line) → Ordered k ls → check_lines k [] (reverse ls) ≡ got ls
ordered-checked k ls h =
    check-lines k [] (reverse ls) (ordered-sorted k [] (reverse ls) (rw (reverse-reverse ls) h)) ∙ ap got (reverse-reverse ls)

follows : (k : ℕ) (before : List Line) (l : Line) → is_line k l ≡ true → placing before l ≡ got tt → Follows k before l
unfolding placing placed
follows k before l form h =
    let few = unless-got _ _ _ _ h in
    record { form = form; few = few.0; sorted = (unless-got _ _ _ _ few.1).0 }

-- how many lines there are
module _ (k : ℕ) (before : List Line) (last : Last) (tally table : List ℕ) (passed : Passed k before last tally table) where
  pub passed-count : last.count ≡ length before
  passed-count = ap (λ (q : Last). q.count) passed.behind.is ∙ last-count before

  pub passed-few : last.count ≤ most_capacity
  passed-few = omega (arith, passed-count, few-lines k before (checked-ordered k before passed.checked))

-- a line that was placed has room, and is stored
module _
    (k : ℕ)
    (before : List Line)
    (l : Line)
    (last : Last)
    (tally table : List ℕ)
    (passed : Passed k before last tally table)
    (form : is_line k l ≡ true)
    (may : placing before l ≡ got tt)
  where
    stands : Ordered k (l ∷ before)
    stands = ordered-next (follows k before l form may) (checked-ordered k before passed.checked)

    pub passed-room : last.count < most_capacity
    passed-room = omega (arith, few-lines k (l ∷ before) stands, passed-count k before last tally table passed)

    pub passed-next :
        length table ≡ 4 * most_capacity → (last' : Last) (tally' table' : List ℕ)
        → Behind (l ∷ before) last' tally' → table' ≡ sets table (4 * last.count) (cells (l ∷ []))
        → Passed k (l ∷ before) last' tally' table'
    passed-next long last' tally' table' behind e =
        record {
          behind = behind;
          checked = ordered-checked k (l ∷ before) stands;
          stored = stored;
        }
      where
        at : ℕ
        at = 4 * last.count

        new : List ℕ
        new = cells (l ∷ [])

        count : at ≡ 4 * length before
        count = omega (arith, passed-count k before last tally table passed)

        fits : at + length new ≤ length table
        fits = omega (arith, long, length-cells (l ∷ []), passed-room)

        all : length (take at table ++ new) ≡ 4 * length (l ∷ before)
        all = omega (arith, count, length-append (take at table) new, length-take-le at table (omega (arith, fits)), length-cells (l ∷ []))

        stored : take (4 * length (l ∷ before)) table' ≡ cells (reverse (l ∷ before))
        stored =
            ap (take (4 * length (l ∷ before)))
            (e ∙ sets-eq new table at fits)
            ∙ take_at (take at table ++ new) (drop (at + length new) table) (4 * length (l ∷ before)) all
            ∙ ap (λ (r : List ℕ). r ++ new) (ap (λ (n : ℕ). take n table) count ∙ passed.stored)
            ∙ sym (cells-append (reverse before) (l ∷ []))
            ∙ ap cells (sym (reverse-cons l before))

then-then : {A B C : Type 0} (r : Reading A) (f : A → Reading B) (g : B → Reading C) → then (then r f) g ≡ then r (λ a. then (f a) g)
unfolding then
then-then (got a) f g = refl
then-then (refused why line) f g = refl

-- the lines from a position on: none left, one more, or one without LF
module _ (h : TableHead) (before : List Line) where
  pub from-none : (l : List ℕ) → length l ≡ 0 → table_from h before (l ∷ []) ≡ whole_of h before
  unfolding table_from rule_lines then unless
  from-none l e = rw e

  pub from_cut : (l : List ℕ) → 0 < length l → table_from h before (l ∷ []) ≡ refused Malformed (length before + 2)
  unfolding table_from rule_lines then unless
  from_cut [] e = absurd (omega arith)
  from_cut (b ∷ l) e = rw (eqb-suc-zero (length l))

  pub from_more :
      (l : List ℕ) (ms : List (List ℕ)) → 1 ≤ length ms
      → table_from h before (l ∷ ms) ≡ then (rule_fields h.k before (length before + 2) (split 32 l)) (λ line. table_from h (line ∷ before) ms)
  unfolding table_from rule_lines then
  from_more l [] e = absurd (omega arith)
  from_more l (m ∷ ms) e = then-then (rule_fields h.k before (length before + 2) (split 32 l)) (λ line. rule_lines h.k (line ∷ before) (m ∷ ms)) (whole_of h)

-- after the lines, by what is kept of them
pub whole_by :
    (h : TableHead) (all : List Line) (last : Last) → last ≡ last_of all
    → whole_of h all
    ≡ unless (ltb 0 last.count) NoService 1
    (unless (eqb last.count h.n) Miscount 1
    (unless (eqb last.len 0) Order (last.count + 1)
    (got (record { k = h.k; total = h.total; lines = reverse all }))))
unfolding whole_table closed last_of
whole_by h [] last e = rw e
whole_by h (l ∷ ls) last e = rw e

pub whole-filled : (h : TableHead) (all : List Line) (table : List ℕ) → take (4 * length all) table ≡ cells (reverse all) → Filled (whole_of h all) table
unfolding whole_table unless
whole-filled h all table e = go (ltb 0 (length all)) (eqb (length all) h.n) (closed all)
  where
    go :
        (s t u : Bool)
        → Filled
        (unless s NoService 1
        (unless t Miscount 1
        (unless u Order (length all + 1)
        (got (record { k = h.k; total = h.total; lines = reverse all })))))
        table
    go true true true = rw (length-reverse all) e
    go true true false = tt
    go true false u = tt
    go false t u = tt

-- a refusal that is about neither of two
pub about-none : (r : Why) → r.of ≡ 0 → refused_at r.why r.line ≡ r
about-none r e = ap (λ (o : ℕ). about o r.why r.line) (sym e)

-- a sheet that is refused
pub refused-by :
    (r : Reading Table) (why : Refusal) (line : ℕ) (table : List ℕ) → r ≡ refused why line → (Err (refused_at why line) ≡ sheet_answer r) × Filled r table
unfolding sheet_answer
refused-by (got t) why line table e = absurd (not-got (sym e))
refused-by (refused w l) why line table e = (cc, tt)

-- no line is left
pub next-none : (h : TableHead) (rest : List ℕ) (before : List Line) → length rest ≡ 0 → table_from h before (split 10 rest) ≡ whole_of h before
unfolding split
next-none h rest before e = rw (nil_from_length rest e) (from-none h before [] refl)

-- the first of the lines that are left ends at the LF that the search finds
module _ (h : TableHead) (rest : List ℕ) (before : List Line) (end : ℕ) (is : end ≡ 0 + index_of 10 (slice 0 (length rest) rest)) where
  pub next-cut : 0 < length rest → length rest ≤ end → table_from h before (split 10 rest) ≡ refused Malformed (length before + 2)
  next-cut e f = ap (table_from h before) (cut-none 10 end rest is f) ∙ from_cut h before rest e

  next-line :
      end < length rest
      → table_from h before (split 10 rest)
      ≡ then (rule_fields h.k before (length before + 2) (split 32 (take end rest)))
      (λ l. table_from h (l ∷ before) (split 10 (drop (end + 1) rest)))
  next-line e =
      let behind = drop (end + 1) rest in
      ap (table_from h before) (cut-first 10 end rest is e) ∙ from_more h before (take end rest) (split 10 behind) (split-some 10 behind)

  pub next-refused :
      end < length rest → (why : Refusal) → rule_fields h.k before (length before + 2) (split 32 (take end rest)) ≡ refused why (length before + 2)
      → table_from h before (split 10 rest) ≡ refused why (length before + 2)
  unfolding then
  next-refused e why f = next-line e ∙ rw f

  pub next-got :
      end < length rest → (l : Line) → rule_fields h.k before (length before + 2) (split 32 (take end rest)) ≡ got l
      → table_from h before (split 10 rest) ≡ table_from h (l ∷ before) (split 10 (drop (end + 1) rest))
  unfolding then
  next-got e l f = next-line e ∙ rw f

-- before the first line
pub passed_none :
    (k : ℕ) (table : List ℕ) → Passed k [] (record { count = 0; service = 0; len = 0 }) (replicate (1 + most_services) 0) table
unfolding last_of count_of own_rules check_lines cells
passed_none k table =
    record {
      behind =
          record {
            is = refl;
            places = length-replicate {A = ℕ} (1 + most_services) 0;
            tallied = λ s h. get_or-replicate {A = ℕ} (1 + most_services) s 0 0
                (omega arith);
          };
      checked = refl;
      stored = refl;
    }
