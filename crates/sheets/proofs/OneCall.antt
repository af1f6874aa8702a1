-- From the one call to the rule sheet: what its answers tell of the sheet, that its buffers are long enough, that the numbers it leaves are the
-- sheet's table, and that demand 3 holds of what is printed.
use Rattle.std.specs.Prelude.{Err, Ok, Result}
use Prim.Native.Nat.{ℕ, ◌+◌, ◌*◌, ◌≤◌}
use mathlib.Core.Path.{◌≡◌, refl, sym, ap, subst, ◌∙◌}
use mathlib.Core.Bool.{Bool, true, false}
use mathlib.Core.List.{List, []}
use native.Mathlib.Omega.{arith}
use lib.Dec.{leb}
use lib.ListN.{length, take, drop}
use lib.Seq.{sets, sets-eq, length-sets, take-append_seam}
use borrow.Author.Tests.{le-leb, leb-true}
use Rattle.numerals.specs.Pick.{pick}
use Rattle.numerals.specs.Limits.{most_bits, most_services, most_capacity}
use Rattle.numerals.specs.declared.refusal.Refusal.{Refusal}
use Rattle.numerals.specs.declared.refusal.Refusal.TheVariants.{ShortLoan}
use Rattle.sheets.specs.Reading.{Reading, got, refused}
use Rattle.sheets.specs.PercentageSheet.{Sheet, read_sheet}
use Rattle.sheets.specs.RuleSheet.{Table, table_text}
use Rattle.sheets.specs.Calls.{refused_at, answered, values_of, afterwards, is_value, is_plan, table_for, plan_of, plan_answer, cells_for, lines_from}
use Rattle.sheets.specs.Calls.{print_text, print_read, sheet_text}
use Rattle.sheets.specs.Demand.{Demand3Of}
use Rattle.sheets.specs.FourPlaces.{FourPlaces}
use Rattle.sheets.specs.Inner.TableNumbers.{lines_in, table_in, RuleLines}
use Rattle.sheets.specs.Inner.TableReader.{Found}
use Rattle.sheets.specs.declared.answer.Plan.{Plan}
use Rattle.sheets.specs.declared.answer.Refused.{Refused as Why}
use Rattle.sheets.proofs.SheetLimits.{Limits, limits}
use Rattle.sheets.proofs.TableChecks.{InOrder}
use Rattle.sheets.proofs.ProperTable.{table-proper}
use Rattle.sheets.proofs.TableNumbers.{lines-cells, length-cells}
use Rattle.sheets.proofs.NumbersText.{rule-lines}
use Rattle.sheets.proofs.FirstMatch.{found}
use Rattle.sheets.proofs.Prints.{PrintedAs}
use Rattle.sheets.proofs.DemandThree.{demand-three}
use Rattle.sheets.proofs.FourPlaces.{four-places}

-- what stands at the start of a buffer after it was written
pub take-sets : (out bytes : List ℕ) → length bytes ≤ length out → take (length bytes) (sets out 0 bytes) ≡ bytes
take-sets out bytes h = ap (take (length bytes)) (sets-eq bytes out 0 (omega arith)) ∙ take-append_seam bytes (drop (0 + length bytes) out)

-- what 64 services and 2,048 lines take
abbrev most_figures : ℕ
most_figures = 3 * most_services

abbrev most_cells : ℕ
most_cells = 4 * most_capacity

-- the plan of a sheet
abbrev plan_for : Sheet → Plan
plan_for S = record { k = S.k; services = length S.volumes; rules = length (table_for S).lines; total = (table_for S).total }

-- the sheet that a plan is of
pub record Plans (text : List ℕ) (p : Plan) : Type 0 where
  pub sheet : Sheet
  pub read : read_sheet text ≡ got sheet
  pub is : p ≡ plan_for sheet

-- buffers for 64 services and 2,048 lines are long enough, so that the answer is the plan or the sheet's refusal
module _ (text : List ℕ) where
  made : (S : Sheet) → read_sheet text ≡ got S → plan_answer text most_figures most_cells ≡ Ok (plan_for S)
  unfolding plan_answer plan_of
  made S e =
      let L = limits text S e in
      let P = table-proper S L in
      rw (e, le-leb (3 * length S.volumes) most_figures (omega (arith, L.few)), le-leb (4 * length (table_for S).lines) most_cells (omega (arith, P.few)))

  plan-no : (why : Refusal) (line : ℕ) → read_sheet text ≡ refused why line → plan_answer text most_figures most_cells ≡ Err (refused_at why line)
  unfolding plan_answer
  plan-no why line e = rw e

  pub plan-made : (p : Plan) → plan_answer text most_figures most_cells ≡ Ok p → Plans text p
  plan-made p h = go (read_sheet text) refl
    where
      go : (r : Reading Sheet) → read_sheet text ≡ r → Plans text p
      go (got S) e = record { sheet = S; read = e; is = cc (made S e) }
      go (refused why line) e = absurd (let z : ◌≡◌ {A = ℕ} 0 1 = cc (plan-no why line e) in omega arith)

  pub plan-refused :
      (r : Why) → plan_answer text most_figures most_cells ≡ Err r → (f : Sheet → (Result ℕ Why)) → Err r ≡ answered Err 0 (read_sheet text) f
  plan-refused r h f = go (read_sheet text) refl
    where
      go : (s : Reading Sheet) → read_sheet text ≡ s → Err r ≡ answered Err 0 (read_sheet text) f
      go (got S) e = absurd (let z : ◌≡◌ {A = ℕ} 0 1 = cc (made S e) in omega arith)
      go (refused why line) e =
          let is : refused_at why line ≡ r = cc (plan-no why line e) in
          rw e (ap Err (sym is))

-- the numbers that the one call leaves are the sheet's table
module _ (S : Sheet) (L : Limits S) (buffer : List ℕ) (long : length buffer ≡ most_cells) where
  abbrev n : ℕ
  n = length (table_for S).lines

  abbrev left : List ℕ
  left = sets buffer 0 (cells_for S)

  cells-long : length (cells_for S) ≡ 4 * n
  unfolding cells_for
  cells-long = length-cells (table_for S).lines

  pub few-left : n ≤ most_capacity
  few-left = (table-proper S L).few

  room : 4 * n ≤ length left
  room = omega (arith, few-left, length-sets buffer 0 (cells_for S))

  lines_left : lines_in left n ≡ (table_for S).lines
  unfolding cells_for
  lines_left =
      ap (λ (m : ℕ). lines_from (take m left)) (sym cells-long)
      ∙ ap lines_from (take-sets buffer (cells_for S) (omega (arith, few-left, cells-long)))
      ∙ lines-cells (table_for S).lines

  pub table-left : table_in S.k (table_for S).total left n ≡ table_for S
  unfolding table_for
  table-left = rw lines_left

  sorted : InOrder S.k [] (table_for S).lines
  unfolding table_for
  sorted = (table-proper S L).sorted

  pub ruled-left : RuleLines left n
  ruled-left = rule-lines left n room S.k L.few_bits (rw lines_left sorted)

  pub found-left : (service : ℕ) → Found (lines_in left n) service
  found-left service = rw lines_left (found (table_for S) (table-proper S L) service)

-- what the one call leaves where it made a plan
pub record Left (text : List ℕ) (p : Plan) (after : List ℕ) : Type 0 where
  pub sheet : Sheet
  pub read : read_sheet text ≡ got sheet
  pub few_bits : p.k ≤ most_bits
  pub few : p.rules ≤ most_capacity
  pub ruled : RuleLines after p.rules
  pub found : (service : ℕ) → Found (lines_in after p.rules) service
  pub table : table_in p.k p.total after p.rules ≡ table_for sheet

left-for :
    (text : List ℕ) (p : Plan) (S : Sheet) (buffer after : List ℕ) → read_sheet text ≡ got S → p ≡ plan_for S → length buffer ≡ most_cells
    → after ≡ sets buffer 0 (cells_for S) → Left text p after
left-for text p S buffer after read is long stored =
    let L = limits text S read in
    record {
      sheet = S;
      read = read;
      few_bits = rw is L.few_bits;
      few = rw is (few-left S L buffer long);
      ruled = rw (is, stored) (ruled-left S L buffer long);
      found = λ service. rw (is, stored) (found-left S L buffer long service);
      table = rw (is, stored) (table-left S L buffer long);
    }

stored-for :
    (text : List ℕ) (r : (Result Plan Why)) (p : Plan) (S : Sheet) (buffer : List ℕ) → read_sheet text ≡ got S → r ≡ Ok p
    → afterwards (is_plan r) buffer (values_of (read_sheet text) cells_for) ≡ sets buffer 0 (cells_for S)
stored-for text r p S buffer read is = rw (is, read)

pub plan-left :
    (text : List ℕ) (r : (Result Plan Why)) (p : Plan) (buffer after : List ℕ) → length buffer ≡ most_cells
    → r ≡ plan_answer text most_figures most_cells → r ≡ Ok p → after ≡ afterwards (is_plan r) buffer (values_of (read_sheet text) cells_for) → Left text p
    after
plan-left text r p buffer after long answer is filled =
    let M = plan-made text p (sym answer ∙ is) in
    left-for text p M.sheet buffer after M.read M.is long (filled ∙ stored-for text r p M.sheet buffer M.read is)

-- where a text was printed, it fits and ends with its last byte
ended : (bytes : List ℕ) (room n : ℕ) → Ok n ≡ print_text bytes room → (n ≡ length bytes) × (length bytes ≤ room)
unfolding print_text
ended bytes room n h = go (leb (length bytes) room) refl h
  where
    go :
        (t : Bool) → leb (length bytes) room ≡ t
        → Ok n ≡ pick t (Ok (length bytes)) (Err (refused_at ShortLoan 0))
        → (n ≡ length bytes) × (length bytes ≤ room)
    go true e h = (cc, leb-true (length bytes) room e)
    go false e h = absurd (let z : ◌≡◌ {A = ℕ} 0 1 = cc in omega arith)

-- demand 3 holds of what is printed
printed-demand :
    (text : List ℕ) (S : Sheet) → read_sheet text ≡ got S → (out after : List ℕ) (r : (Result ℕ Why))
    → PrintedAs (sheet_text S) out r after → Demand3Of r text after
printed-demand text S e out after (Ok n) p =
    let fits = ended (sheet_text S) (length out) n p.0 in
    let same : take n after ≡ sheet_text S = cc (fits.0, p.1, take-sets out (sheet_text S) fits.1) in
    rw same (demand-three text S e)
printed-demand text S e out after (Err r) p = tt

-- the table of a sheet that was read, printed: demand 3 holds of it, and what is promised of four-place percentages
pub sheet-printed :
    (text : List ℕ) (S : Sheet) (t : Table) → read_sheet text ≡ got S → t ≡ table_for S → (out after : List ℕ) (r : (Result ℕ Why))
    → PrintedAs (table_text t) out r after
    → (r ≡ print_read (read_sheet text) sheet_text (length out))
    × ((after ≡ afterwards (is_value r) out (values_of (read_sheet text) sheet_text)) × (Demand3Of r text after × FourPlaces text r out after))
unfolding sheet_text
sheet-printed text S t e same out after r p =
    let q : PrintedAs (table_text (table_for S)) out r after = subst (λ (x : Table). PrintedAs (table_text x) out r after) same p in
    let answered : r ≡ print_read (read_sheet text) sheet_text (length out) = rw e q.0 in
    let written : after ≡ afterwards (is_value r) out (values_of (read_sheet text) sheet_text) = rw e q.1 in
    (answered, (written, (printed-demand text S e out after r q, four-places text r out after answered written)))
