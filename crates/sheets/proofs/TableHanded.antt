-- A table handed in numbers: what each check of it comes to, in their order.
use Rattle.std.specs.Prelude.{Err, Ok, Result}
use Prim.Native.Nat.{ℕ, ◌+◌, ◌*◌, ◌/◌, ◌≤◌, ◌<◌}
use mathlib.Core.Path.{◌≡◌, refl, ap, ◌∙◌}
use mathlib.Core.Bool.{Bool, true, false}
use mathlib.Core.List.{List, []}
use native.Mathlib.Omega.{arith}
use lib.Dec.{leb, eqb}
use lib.ListN.{length}
use lib.Seq.{take_all}
use borrow.Author.Tests.{le-leb, lt-leb}
use Rattle.numerals.specs.declared.refusal.Refusal.TheVariants.{Malformed, BadField, Order, TooLong}
use Rattle.packing.specs.Count.{Line}
use Rattle.sheets.specs.Reading.{Reading, got, refused, then, unless}
use Rattle.numerals.specs.Limits.{most_bits, most_capacity, text_limit, total_limit}
use Rattle.expansion.specs.Answer.{in_limits}
use Rattle.sheets.specs.RuleSheet.{Table, closed, check_lines, check_end, check_sheet}
use Rattle.sheets.specs.Inner.Premises.{check_table}
use Rattle.sheets.specs.Calls.{lines_from, broken_from, handed_text, table_handed}
use Rattle.sheets.specs.Inner.TableNumbers.{lines_in, table_in, RuleLines}
use Rattle.sheets.specs.Inner.TableReader.{Found}
use Rattle.sheets.specs.Inner.Writing.{CheckedAs, checked_from, checked_cells, handed}
use Rattle.sheets.proofs.NumbersText.{count-lines, count-broken, rule-lines}
use Rattle.sheets.proofs.FirstMatch.{found}
use Rattle.sheets.proofs.Readings.{unless-got}
use Rattle.sheets.proofs.TableChecks.{proper, check-same}
use Rattle.numerals.specs.declared.refusal.Refusal.{Refusal}

-- the end of the check, whatever the table is answered as
ends-alike : {A : Type 0} (broken : ℕ) (a : A) (read : Reading (List Line)) (r : (Result (Unit {0}) Refusal))
    → CheckedAs r (then read (check_end broken (tt {0}))) tt
    → CheckedAs r (then read (check_end broken a)) a
unfolding then unless check_end
ends-alike broken a (got all) r h = go (eqb broken 0) (closed all) r h
  where
    go : (s t : Bool) (r : (Result (Unit {0}) Refusal))
        → CheckedAs r (unless s Malformed 0 (unless t Order 0 (got (tt {0})))) tt
        → CheckedAs r (unless s Malformed 0 (unless t Order 0 (got a))) a
    go true true (Ok tt) h = refl
    go true true (Err why) h = cc
    go true false (Ok tt) h = cc
    go true false (Err why) h = cc
    go false t (Ok tt) h = cc
    go false t (Err why) h = cc
ends-alike broken a (refused why line) (Ok tt) h = cc
ends-alike broken a (refused why line) (Err other) h = cc

module _ (k total : ℕ) (cs : List ℕ) where
  abbrev n : ℕ
  n = (length cs + 3) / 4

  count : length (lines_from cs) + length (broken_from cs) ≡ n
  count = omega (arith, count-lines cs, count-broken cs)

  pub handed-long : text_limit < length (handed_text k total cs) → table_handed k total cs ≡ refused TooLong 0
  unfolding table_handed unless
  handed-long h = rw (lt-leb (length (handed_text k total cs)) text_limit h)

  module _ (short : length (handed_text k total cs) ≤ text_limit) where
    checks : table_handed k total cs ≡ check_sheet (handed k total cs) (length (broken_from cs))
    unfolding table_handed unless
    checks = rw (le-leb (length (handed_text k total cs)) text_limit short)

    pub handed-bits : in_limits 1 most_bits k ≡ false → table_handed k total cs ≡ refused BadField 0
    unfolding check_sheet unless
    handed-bits h = checks ∙ rw h

    module _ (bits : in_limits 1 most_bits k ≡ true) where
      pub handed-count : in_limits 1 most_capacity n ≡ false → table_handed k total cs ≡ refused BadField 0
      unfolding check_sheet unless
      handed-count h = checks ∙ rw (bits, count, h)

      module _ (few : in_limits 1 most_capacity n ≡ true) where
        pub handed-total : leb total total_limit ≡ false → table_handed k total cs ≡ refused BadField 0
        unfolding check_sheet unless
        handed-total h = checks ∙ rw (bits, count, few, h)

        pub handed-lines :
            total ≤ total_limit → (r : (Result (Unit {0}) Refusal)) → CheckedAs r (checked_cells k cs) tt
            → CheckedAs r (table_handed k total cs) (handed k total cs)
        unfolding check_sheet unless checked_from
        handed-lines small r h =
            let t : Table = handed k total cs in
            let broken = length (broken_from cs) in
            let rest : table_handed k total cs ≡ then (check_lines k [] (lines_from cs)) (check_end broken t) =
            checks ∙ rw (bits, count, few, le-leb total total_limit small) in
            rw rest (ends-alike broken t (check_lines k [] (lines_from cs)) r h)

-- a table that passed: it is whole lines, which are in their limits
pub record Accepted (k total : ℕ) (cs : List ℕ) : Type 0 where
  pub whole : length (broken_from cs) ≡ 0
  pub checked : check_table (handed k total cs) ≡ got (handed k total cs)
  pub few_bits : k ≤ most_bits
  pub few : length cs / 4 ≤ most_capacity
  pub ruled : RuleLines cs (length cs / 4)
  pub table : table_in k total cs (length cs / 4) ≡ handed k total cs
  pub found : (n : ℕ) → Found (lines_in cs (length cs / 4)) n

pub accepted : (k total : ℕ) (cs : List ℕ) (u : Table) → table_handed k total cs ≡ got u → Accepted k total cs
unfolding table_handed check_table
accepted k total cs u h =
    let t : Table = handed k total cs in
    let read = (unless-got _ _ _ _ h).1 in
    let same = check-same t u (length (broken_from cs)) read in
    let passed : check_table t ≡ got t = rw (same.1, ← same.0) at read in
    let P = proper t passed in
    let ends : length cs ≡ 4 * (length cs / 4) = omega (arith, count-broken cs, same.1) in
    let all : lines_in cs (length cs / 4) ≡ lines_from cs = ap lines_from (take_all (4 * (length cs / 4)) cs (omega arith)) in
    record {
      whole = same.1;
      checked = passed;
      few_bits = P.few_bits;
      few = omega (arith, count-lines cs, P.few);
      ruled = rule-lines cs (length cs / 4) (omega arith) k P.few_bits (rw all P.sorted);
      table = rw all;
      found = λ n. rw all (found t P n);
    }
