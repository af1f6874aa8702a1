-- The rule sheets of a change, read: the table that a sheet's numbers are, and the ways in which reading both may go, in the order of the refusals.
use Rattle.std.specs.Prelude.{Err, Ok, Result}
use Prim.Native.Nat.{ℕ, ◌*◌, ◌≤◌}
use mathlib.Core.Bool.{Bool, true, false}
use mathlib.Core.List.{List, []}
use mathlib.Core.Path.{◌≡◌, refl, ap, sym, ◌∙◌, subst}
use native.Mathlib.Omega.{arith}
use lib.Dec.{leb, ltb, eqb}
use lib.ListN.{length, get_or, replicate, length-replicate}
use lib.Pow.{pow_pos}
use lib.Seq.{sets, length-sets}
use borrow.Author.Tests.{le-leb, eqb-true}
use Rattle.numerals.specs.Limits.{most_capacity, most_suffixes}
use Rattle.numerals.specs.Suffix.{place}
use Rattle.numerals.specs.declared.refusal.Refusal.{Refusal}
use Rattle.packing.specs.Count.{own_rules}
use Rattle.packing.specs.Answer.{cells}
use Rattle.sheets.specs.Reading.{Reading, got, refused}
use Rattle.sheets.specs.RuleSheet.{Table, read_table}
use Rattle.sheets.specs.Calls.{about, refused_at, answered, values_of, afterwards, of_service, has_service, lines_from, read_in, read_answer, is_table}
use Rattle.sheets.specs.Inner.TableNumbers.{lines_in, line_at}
use Rattle.sheets.specs.declared.answer.Refused.{Refused as Why}
use Rattle.sheets.specs.declared.answer.TableRecord.{TableRecord}
use Rattle.sheets.proofs.FirstMatch.{has-match}
use Rattle.sheets.proofs.NumbersText.{formed-from}
use Rattle.sheets.proofs.OneCall.{take-sets}
use Rattle.sheets.proofs.OrderedLines.{read-proper}
use Rattle.sheets.proofs.TableChecks.{Proper, is-formed}
use Rattle.sheets.proofs.TableNumbers.{lines-cells, length-cells}
use Rattle.stages.specs.Stages.{Change as Stages}
use Rattle.stages.specs.Calls.{change_of, of_sheets}
use Rattle.stages.specs.Inner.Spread.{LinesOf, Spread, LoadedAs}
use Rattle.stages.specs.Inner.Both.{compared, BothAs}

-- the numbers of the largest table
abbrev pub cell_room : ℕ
cell_room = 4 * most_capacity

abbrev pub cells₀ : List ℕ
cells₀ = replicate cell_room 1

-- a table that was read into numbers
pub record Loaded (text : List ℕ) (m : TableRecord) (numbers : List ℕ) : Type 0 where
  pub table : Table
  pub read : read_table text ≡ got table
  pub proper : Proper table
  pub bits : m.k ≡ table.k
  pub lines : lines_in numbers m.rules ≡ table.lines
  pub ruled : LinesOf m.k numbers m.rules

pub loaded :
    (text : List ℕ) (m : TableRecord) (r : (Result TableRecord Why)) (numbers : List ℕ) → r ≡ read_answer text cell_room → r ≡ Ok m
    → numbers ≡ afterwards (is_table r) cells₀ (values_of (read_table text) (λ t. cells t.lines)) → Loaded text m numbers
unfolding read_answer read_in
loaded text m r numbers e is f = go (read_table text) refl (sym is ∙ e) (f ∙ ap (λ (x : (Result TableRecord Why)). afterwards (is_table x) cells₀ values) is)
  where
    values : List ℕ
    values = values_of (read_table text) (λ t. cells t.lines)

    go : (q : Reading Table) → read_table text ≡ q → Ok m ≡ answered Err 0 q (λ t. read_in t cell_room) → numbers ≡ sets cells₀ 0 values
        → Loaded text m numbers
    go (refused why line) at e f = absurd (let z : ◌≡◌ {A = ℕ} 0 1 = cc in omega arith)
    go (got t) at e f = made p few (rw few at e)
      where
        p : Proper t
        p = read-proper text t at

        few : leb (4 * length t.lines) cell_room ≡ true
        few = le-leb (4 * length t.lines) cell_room (omega (arith, p.few))

        made : Proper t → leb (4 * length t.lines) cell_room ≡ true
            → ◌≡◌ {A = Result TableRecord Why} (Ok m) (Ok (record { k = t.k; rules = length t.lines; total = t.total })) → Loaded text m numbers
        made p few e =
            let same : m ≡ record { k = t.k; rules = length t.lines; total = t.total } = cc in
            let bits : m.k ≡ t.k = ap (λ (x : TableRecord). x.k) same in
            let count : m.rules ≡ length t.lines = ap (λ (x : TableRecord). x.rules) same in
            let stored : numbers ≡ sets cells₀ 0 (cells t.lines) = f ∙ ap (λ (x : Reading Table). sets cells₀ 0 (values_of x (λ t. cells t.lines))) at in
            let long : length numbers ≡ cell_room =
            ap length stored ∙ length-sets cells₀ 0 (cells t.lines) ∙ length-replicate {A = ℕ} cell_room 1 in
            let lines : lines_in numbers m.rules ≡ t.lines = rw (count, stored, ← length-cells t.lines)
            (ap lines_from (take-sets cells₀ (cells t.lines) (omega (arith, length-cells t.lines, p.few, length-replicate {A = ℕ} cell_room 1)))
            ∙ lines-cells t.lines) in
            let room : 4 * m.rules ≤ length numbers = omega (arith, p.few) in
            record {
              table = t;
              read = at;
              proper = p;
              bits = bits;
              lines = lines;
              ruled = record {
                room = room;
                each = λ i h. is-formed m.k (line_at numbers i)
                    (formed-from numbers m.rules room m.k [] i 0 i (omega arith) h (rw (lines, bits) p.sorted));
              };
            }

-- a sheet that is refused
pub not-loaded : (text : List ℕ) (w : Why) (r : (Result TableRecord Why)) → r ≡ read_answer text cell_room → r ≡ Err w → read_table text ≡ refused w.why w.line
unfolding read_answer read_in
not-loaded text w r e is = go (read_table text) refl (sym is ∙ e)
  where
    go : (q : Reading Table) → read_table text ≡ q → Err w ≡ answered Err 0 q (λ t. read_in t cell_room)
        → q ≡ refused w.why w.line
    go (refused why line) at e = let same : w ≡ refused_at why line = cc in rw same
    go (got t) at e =
        let few : leb (4 * length t.lines) cell_room ≡ true = le-leb (4 * length t.lines) cell_room (omega (arith, (read-proper text t at).few)) in
        absurd (not_made (rw few at e))
      where
        not_made : {m : TableRecord} → Err w ≡ Ok m → ⊥
        not_made q = let z : ◌≡◌ {A = ℕ} 0 1 = cc in omega arith

-- what both calls answer of sheets that are refused
module _ (old new : List ℕ) (n : ℕ) (f : Stages → (Result ℕ Why)) where
  pub first-refused : (why : Refusal) (line : ℕ) → read_table old ≡ refused why line → of_sheets old new n f ≡ Err (about 1 why line)
  unfolding of_sheets
  first-refused why line a = rw a

  pub second-refused : (t : Table) (why : Refusal) (line : ℕ) → read_table old ≡ got t → read_table new ≡ refused why line
      → of_sheets old new n f ≡ Err (about 2 why line)
  unfolding of_sheets
  second-refused t why line a b = rw (a, b)

  -- and of two tables
  pub of-tables : (t u : Table) → read_table old ≡ got t → read_table new ≡ got u
      → of_sheets old new n f ≡ of_service Err (has_service t n) (has_service u n) (eqb t.k u.k) (f (change_of t u n))
  unfolding of_sheets
  of-tables t u a b = rw (a, b)

-- a service is there where somebody has its suffix at place 0
there : (text : List ℕ) (t : Table) (n k : ℕ) (holder : List ℕ) → read_table text ≡ got t → Spread k (own_rules n t.lines) holder
    → has_service t n ≡ ltb 0 (get_or holder 0 0)
there text t n k holder e S =
    has-match t (read-proper text t e) n (place k 0) ∙ ap (ltb 0) (sym (S.at 0 (pow_pos k)))

-- both tables, by who has the suffix at place 0 and by their k
module _ (old new : List ℕ) (n k m : ℕ) (before after : List ℕ) (t u : Table) (a : read_table old ≡ got t) (b : read_table new ≡ got u) where
  both-as : t.k ≡ k → u.k ≡ m → Spread k (own_rules n t.lines) before → Spread m (own_rules n u.lines) after → (x y e : Bool)
      → has_service t n ≡ x → has_service u n ≡ y → eqb k m ≡ e → BothAs old new n (of_service Err x y e (Ok k)) before after
  both-as d c S T true true true x y e =
      let same : m ≡ k = sym (eqb-true k m e) in
      record {
        t = t;
        u = u;
        first = a;
        second = b;
        in_first = x;
        in_second = y;
        depth = d;
        alike = c ∙ same;
        spread_first = S;
        spread_second = subst (λ (i : ℕ). Spread i (own_rules n u.lines) after) same T;
      }
  both-as d c S T true true false x y e = λ f. of-tables old new n f t u a b ∙ rw (x, y, d, c, e)
  both-as d c S T true false e x y z = λ f. of-tables old new n f t u a b ∙ rw (x, y)
  both-as d c S T false y e x v z = λ f. of-tables old new n f t u a b ∙ rw x

  pub both_read : t.k ≡ k → u.k ≡ m → Spread k (own_rules n t.lines) before → Spread m (own_rules n u.lines) after → (r : (Result ℕ Why))
      → r ≡ compared (get_or before 0 0) (get_or after 0 0) k m → BothAs old new n r before after
  both_read d c S T r e =
      subst (λ (x : (Result ℕ Why)). BothAs old new n x before after) (sym e)
      (both-as d c S T (ltb 0 (get_or before 0 0)) (ltb 0 (get_or after 0 0)) (eqb k m) (there old t n k before a S) (there new u n m after b T) refl)

-- the listing keeps its length
pub loaded-long : (text : List ℕ) (n : ℕ) (r : (Result ℕ Why)) (holder : List ℕ) → LoadedAs text n r holder → length holder ≡ most_suffixes
loaded-long text n (Ok k) holder L = L.3.long
loaded-long text n (Err w) holder L = L.1

-- what was loaded, by its answer
module _ (old new : List ℕ) (n : ℕ) (first : (Result ℕ Why)) (before : List ℕ) (F : LoadedAs old n first before) where
  pub first-failed : (w : Why) → first ≡ Err w → (r : (Result ℕ Why)) → r ≡ Err (about 1 w.why w.line) → (before' after' : List ℕ)
      → BothAs old new n r before' after'
  first-failed w e r is before' after' =
      let L = subst (λ (x : (Result ℕ Why)). LoadedAs old n x before) e F in
      subst (λ (x : (Result ℕ Why)). BothAs old new n x before' after') (sym is) (λ f. first-refused old new n f w.why w.line L.0)

  module _ (k : ℕ) (e : first ≡ Ok k) (second : (Result ℕ Why)) (after : List ℕ) (G : LoadedAs new n second after) where
    L : LoadedAs old n (Ok k) before
    L = subst (λ (x : (Result ℕ Why)). LoadedAs old n x before) e F

    pub second-failed : (w : Why) → second ≡ Err w → (r : (Result ℕ Why)) → r ≡ Err (about 2 w.why w.line) → (before' after' : List ℕ)
        → BothAs old new n r before' after'
    second-failed w d r is before' after' =
        let M = subst (λ (x : (Result ℕ Why)). LoadedAs new n x after) d G in
        subst (λ (x : (Result ℕ Why)). BothAs old new n x before' after') (sym is) (λ f. second-refused old new n f L.0 w.why w.line L.1 M.0)

    pub both-loaded : (m : ℕ) → second ≡ Ok m → (r : (Result ℕ Why)) → r ≡ compared (get_or before 0 0) (get_or after 0 0) k m
        → BothAs old new n r before after
    both-loaded m d r is =
        let M = subst (λ (x : (Result ℕ Why)). LoadedAs new n x after) d G in
        both_read old new n k m before after L.0 M.0 L.1 M.1 L.2 M.2 L.3 M.3 r is
