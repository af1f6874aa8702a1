-- The two sheets of an update, read: the ways in which that may go, in the order of the refusals, and what each call answers then.
use Rattle.std.specs.Prelude.{Err, Ok, Result}
use Prim.Native.Nat.{ℕ, ◌-◌, ◌*◌, ◌≤◌}
use mathlib.Core.Bool.{Bool, true, false}
use mathlib.Core.List.{List}
use mathlib.Core.Path.{◌≡◌, refl, ap, sym, ◌∙◌, subst}
use native.Mathlib.Omega.{arith}
use lib.Dec.{eqb}
use lib.ListN.{length, take}
use lib.Seq.{sets}
use borrow.Author.Tests.{eqb-true, eq-eqb, le-leb}
use Rattle.numerals.specs.Buffer.{filled}
use Rattle.numerals.specs.Limits.{most_backends, most_rules}
use Rattle.numerals.specs.declared.refusal.Refusal.{Refusal}
use Rattle.expansion.specs.OldList.{numbers_of}
use Rattle.expansion.specs.Resume.{numbers_resumed}
use Rattle.expansion.proofs.Checks.{limits as within}
use Rattle.expansion.proofs.OldNumbers.{numbers-count}
use Rattle.sheets.specs.Reading.{Reading, got, refused}
use Rattle.sheets.specs.RuleSheet.{Table, read_table}
use Rattle.sheets.specs.PercentageSheet.{Sheet, read_sheet}
use Rattle.sheets.specs.Calls.{has_service, values_of, afterwards}
use Rattle.sheets.specs.Update as reads
use Rattle.sheets.specs.declared.answer.Refused.{Refused as Why}
use Rattle.sheets.specs.declared.answer.UpdateRecord.{UpdateRecord}
use Rattle.sheets.proofs.OneCall.{take-sets}
use Rattle.sheets.proofs.Readings.{got_same}
use Rattle.sheets.proofs.UpdateLimits.{old-few, ids-few, weights-few}
use Rattle.sheets.proofs.SheetLimits.{Row, limits}
use Rattle.numerals.proofs.Exits.{same_ok, same_err, not_both}
use Rattle.update.specs.Update.{update_answer, is_made}
use Rattle.update.specs.Promise.{PromisedFor}
use Rattle.update.specs.Sheets.{of_updated, sheets_in, sheets_answer, sheets_numbers, PromisedBoth}
use Rattle.update.specs.Sheets.{is_made as is_made_text}
use Rattle.update.specs.declared.answer.Update as update
use Rattle.update.specs.declared.answer.Update.{Update}

-- a list was made in the one as in the other
made_alike : (u : (Result Update Refusal)) → is_made u ≡ is_made_text (of_updated u)
made_alike (Ok x) = refl
made_alike (Err why) = refl

-- the ids and the weights of a service of a sheet that was read
pub new_row : (text : List ℕ) (S : Sheet) (n : ℕ) → read_sheet text ≡ got S → reads.has_weights S n ≡ true → Row (reads.new_ids S n) (reads.new_weights S n)
unfolding reads.has_weights reads.new_ids reads.new_weights
new_row text S n e h =
    let L = limits text S e in
    let there = within 1 (length S.weights) n h in
    L.row (n - 1) (omega (arith, L.rows, there.0, there.1))

-- the memory that both are read into has room for every list and all weights
abbrev pub list_room : ℕ
list_room = 3 * most_rules

module _ (old new : List ℕ) (n : ℕ) where
  -- both have the service, under one k
  pub record Both (t : Table) (S : Sheet) : Type 0 where
    pub table : read_table old ≡ got t
    pub sheet : read_sheet new ≡ got S
    pub service : has_service t n ≡ true
    pub weights : reads.has_weights S n ≡ true
    pub depth : t.k ≡ S.k

  data Way : Type 0 where
    first : (why : Refusal) (line : ℕ) → read_table old ≡ refused why line → Way
    second : (t : Table) (why : Refusal) (line : ℕ) → read_table old ≡ got t → read_sheet new ≡ refused why line → Way
    no_lines : (t : Table) (S : Sheet) → read_table old ≡ got t → read_sheet new ≡ got S → has_service t n ≡ false → Way
    no-weights : (t : Table) (S : Sheet) → read_table old ≡ got t → read_sheet new ≡ got S → has_service t n ≡ true → reads.has_weights S n ≡ false → Way
    unlike :
        (t : Table) (S : Sheet) → read_table old ≡ got t → read_sheet new ≡ got S → has_service t n ≡ true → reads.has_weights S n ≡ true
        → eqb t.k S.k ≡ false → Way
    met : (t : Table) (S : Sheet) → Both t S → Way

  way : Way
  way = tables (read_table old) refl
    where
      depths : (t : Table) (S : Sheet) (e : Bool) → read_table old ≡ got t → read_sheet new ≡ got S → has_service t n ≡ true → reads.has_weights S n ≡ true
          → eqb t.k S.k ≡ e → Way
      depths t S true a b h w e = met t S (record { table = a; sheet = b; service = h; weights = w; depth = eqb-true t.k S.k e })
      depths t S false a b h w e = unlike t S a b h w e

      weighed : (t : Table) (S : Sheet) (w : Bool) → read_table old ≡ got t → read_sheet new ≡ got S → has_service t n ≡ true → reads.has_weights S n ≡ w → Way
      weighed t S true a b h w = depths t S (eqb t.k S.k) a b h w refl
      weighed t S false a b h w = no-weights t S a b h w

      served : (t : Table) (S : Sheet) (h : Bool) → read_table old ≡ got t → read_sheet new ≡ got S → has_service t n ≡ h → Way
      served t S true a b h = weighed t S (reads.has_weights S n) a b h refl
      served t S false a b h = no_lines t S a b h

      sheets : (t : Table) (r : Reading Sheet) → read_table old ≡ got t → read_sheet new ≡ r → Way
      sheets t (refused why line) a b = second t why line a b
      sheets t (got S) a b = served t S (has_service t n) a b refl

      tables : (r : Reading Table) → read_table old ≡ r → Way
      tables (refused why line) a = first why line a
      tables (got t) a = sheets t (read_sheet new) a refl

  -- what is read where both are met
  abbrev found : Table → Sheet → UpdateRecord
  found t S =
      record { k = t.k; tolerance = S.tolerance; rules = length (reads.old_rules t n); backends = length (reads.new_weights S n) }

  met-read : (t : Table) (S : Sheet) → Both t S → reads.update_read_answer old new n list_room most_backends most_backends ≡ Ok (found t S)
  unfolding reads.update_read_answer reads.update_in
  met-read t S B =
      simp (
        B.table,
        B.sheet,
        B.service,
        B.weights,
        eq-eqb t.k S.k B.depth,
        le-leb (length (numbers_of (reads.old_rules t n))) list_room (omega (arith, numbers-count (reads.old_rules t n), old-few old t n B.table)),
        le-leb (length (reads.new_ids S n)) most_backends (ids-few new S n B.sheet),
        le-leb (length (reads.new_weights S n)) most_backends (weights-few new S n B.sheet),
      )

  -- a refusal of what is read is the answer itself
  pub both-refused : (room : ℕ) (r : Why) → reads.update_read_answer old new n list_room most_backends most_backends ≡ Err r
      → sheets_answer old new n room ≡ Err r
  unfolding reads.update_read_answer reads.update_in sheets_answer sheets_in
  both-refused room r e = go way
    where
      go : Way → sheets_answer old new n room ≡ Err r
      go (first why line a) = rw a (ap Err (same_err (rw a at e)))
      go (second t why line a b) = rw (a, b) (ap Err (same_err (rw (a, b) at e)))
      go (no_lines t S a b h) = rw (a, b, h) (ap Err (same_err (rw (a, b, h) at e)))
      go (no-weights t S a b h w) = rw (a, b, h, w) (ap Err (same_err (rw (a, b, h, w) at e)))
      go (unlike t S a b h w d) = rw (a, b, h, w, d) (ap Err (same_err (rw (a, b, h, w, d) at e)))
      go (met t S B) = not_both (sym (met-read t S B) ∙ e)

  -- then there is nothing to promise
  pub none-promised : (r : Why) (u : (Result Update Why)) (numbers : List ℕ) → reads.update_read_answer old new n list_room most_backends most_backends ≡
      Err r
      → PromisedBoth old new n u numbers
  none-promised r u numbers e t S a b h w d =
      not_both (sym (met-read t S (record { table = a; sheet = b; service = h; weights = w; depth = d })) ∙ e)

  -- what was read is from both
  pub record Met (m : UpdateRecord) : Type 0 where
    pub table : Table
    pub sheet : Sheet
    pub both : Both table sheet
    pub is : m ≡ found table sheet

  pub both-made : (m : UpdateRecord) → reads.update_read_answer old new n list_room most_backends most_backends ≡ Ok m → Met m
  unfolding reads.update_read_answer reads.update_in
  both-made m e = go way
    where
      go : Way → Met m
      go (first why line a) = not_both (sym (rw a at e))
      go (second t why line a b) = not_both (sym (rw (a, b) at e))
      go (no_lines t S a b h) = not_both (sym (rw (a, b, h) at e))
      go (no-weights t S a b h w) = not_both (sym (rw (a, b, h, w) at e))
      go (unlike t S a b h w d) = not_both (sym (rw (a, b, h, w, d) at e))
      go (met t S B) = record { table = t; sheet = S; both = B; is = same_ok (sym e ∙ met-read t S B) }

  -- an update that was made is of both
  pub record SheetsMade : Type 0 where
    pub table : Table
    pub sheet : Sheet
    pub both : Both table sheet

  pub sheets-made : (room : ℕ) (u : update.Update) → sheets_answer old new n room ≡ Ok u → SheetsMade
  unfolding sheets_answer sheets_in
  sheets-made room u e = go way
    where
      none : {r : Why} {P : Type 0} → Err r ≡ Ok u → P
      none q = absurd (let z : ◌≡◌ {A = ℕ} 0 1 = cc in omega arith)

      go : Way → SheetsMade
      go (first why line a) = none (rw a at e)
      go (second t why line a b) = none (rw (a, b) at e)
      go (no_lines t S a b h) = none (rw (a, b, h) at e)
      go (no-weights t S a b h w) = none (rw (a, b, h, w) at e)
      go (unlike t S a b h w d) = none (rw (a, b, h, w, d) at e)
      go (met t S B) = record { table = t; sheet = S; both = B }

  module _ (t : Table) (S : Sheet) (B : Both t S) where
    abbrev ids : List ℕ
    ids = reads.new_ids S n

    abbrev ws : List ℕ
    ws = reads.new_weights S n

    abbrev cs : List ℕ
    cs = numbers_of (reads.old_rules t n)

    pub answer-is : (room : ℕ) → sheets_answer old new n room ≡ of_updated (update_answer t.k S.tolerance ids ws cs room)
    unfolding sheets_answer sheets_in
    answer-is room = simp (B.table, B.sheet, B.service, B.weights, eq-eqb t.k S.k B.depth)

    pub numbers-are : sheets_numbers old new n ≡ numbers_resumed t.k S.tolerance ids ws cs
    unfolding sheets_numbers
    numbers-are = simp (B.table, B.sheet)

    -- what the memory holds then
    pub list_read : (list list' : List ℕ) → length list ≡ list_room
        → list' ≡ afterwards true list (values_of (read_table old) (λ t. numbers_of (reads.old_rules t n))) → take (3 * length (reads.old_rules t n)) list' ≡ cs
    list_read list list' long e =
        ap (λ (x : List ℕ). take (3 * length (reads.old_rules t n)) x) (rw B.table at e)
        ∙ ap (λ (i : ℕ). take i (sets list 0 cs)) (sym (numbers-count (reads.old_rules t n)))
        ∙ take-sets list cs (omega (arith, numbers-count (reads.old_rules t n), old-few old t n B.table))

    pub ids-read : (row row' : List ℕ) → length row ≡ most_backends
        → row' ≡ afterwards true row (values_of (read_sheet new) (λ S. reads.new_ids S n)) → take (length ws) row' ≡ ids
    ids-read row row' long e =
        ap (λ (i : ℕ). take i row') (sym (new_row new S n B.sheet B.weights).paired)
        ∙ ap (take (length ids)) (rw B.sheet at e)
        ∙ take-sets row ids (omega (arith, ids-few new S n B.sheet))

    pub weights-read : (row row' : List ℕ) → length row ≡ most_backends
        → row' ≡ afterwards true row (values_of (read_sheet new) (λ S. reads.new_weights S n)) → take (length ws) row' ≡ ws
    weights-read row row' long e =
        ap (take (length ws)) (rw B.sheet at e) ∙ take-sets row ws (omega (arith, weights-few new S n B.sheet))

    pub promised-both : (u : (Result Update Refusal)) (numbers : List ℕ) → PromisedFor t.k S.tolerance ids ws cs u numbers → PromisedBoth old new n (of_updated u) numbers
    promised-both u numbers P t' S' a b h w d =
        let T = got_same (sym B.table ∙ a) in
        let U = got_same (sym B.sheet ∙ b) in (
          u,
          refl,
          subst (λ (x : Table). PromisedFor x.k S'.tolerance (reads.new_ids S' n) (reads.new_weights S' n) (numbers_of (reads.old_rules x n)) u numbers) T
              (subst (λ (y : Sheet). PromisedFor t.k y.tolerance (reads.new_ids y n) (reads.new_weights y n) cs u numbers) U P),
        )

  -- the update of what was read, as the call on two texts answers it
  module _ (m : UpdateRecord) (X : Met m) (list list' names names' row row' : List ℕ) (list-long : length list ≡ list_room)
      (names-long : length names ≡ most_backends) (row-long : length row ≡ most_backends)
      (listed : list' ≡ afterwards true list (values_of (read_table old) (λ t. numbers_of (reads.old_rules t n))))
      (named : names' ≡ afterwards true names (values_of (read_sheet new) (λ S. reads.new_ids S n)))
      (weighed : row' ≡ afterwards true row (values_of (read_sheet new) (λ S. reads.new_weights S n))) where
    abbrev t : Table
    t = X.table

    abbrev S : Sheet
    S = X.sheet

    k-is : m.k ≡ t.k
    k-is = ap (λ (x : UpdateRecord). x.k) X.is

    tolerance-is : m.tolerance ≡ S.tolerance
    tolerance-is = ap (λ (x : UpdateRecord). x.tolerance) X.is

    pub list-is : take (3 * m.rules) list' ≡ cs t S X.both
    list-is = ap (λ (x : UpdateRecord). take (3 * x.rules) list') X.is ∙ list_read t S X.both list list' list-long listed

    pub names-are : take m.backends names' ≡ ids t S X.both
    names-are = ap (λ (x : UpdateRecord). take x.backends names') X.is ∙ ids-read t S X.both names names' names-long named

    pub row_is : take m.backends row' ≡ ws t S X.both
    row_is = ap (λ (x : UpdateRecord). take x.backends row') X.is ∙ weights-read t S X.both row row' row-long weighed

    -- what is so of the numbers that were read is so of the sheets
    carried : (P : ℕ → ℕ → List ℕ → List ℕ → List ℕ → Type 0)
        → P m.k m.tolerance (take m.backends names') (take m.backends row') (take (3 * m.rules) list')
        → P t.k S.tolerance (ids t S X.both) (ws t S X.both) (cs t S X.both)
    carried P p =
        subst (λ (x : ℕ). P x S.tolerance (ids t S X.both) (ws t S X.both) (cs t S X.both)) k-is
        (subst (λ (x : ℕ). P m.k x (ids t S X.both) (ws t S X.both) (cs t S X.both)) tolerance-is
        (subst (λ (x : List ℕ). P m.k m.tolerance x (ws t S X.both) (cs t S X.both)) names-are
        (subst (λ (x : List ℕ). P m.k m.tolerance (take m.backends names') x (cs t S X.both)) row_is
        (subst (λ (x : List ℕ). P m.k m.tolerance (take m.backends names') (take m.backends row') x) list-is p))))

    pub few_rules : m.rules ≤ most_rules
    few_rules = omega (arith, ap (λ (x : UpdateRecord). x.rules) X.is, old-few old t n X.both.table)

    pub few-backends : m.backends ≤ most_backends
    few-backends = omega (arith, ap (λ (x : UpdateRecord). x.backends) X.is, weights-few new S n X.both.sheet)

    module _ (room : ℕ) (u : (Result Update Refusal))
        (answer : u ≡ update_answer m.k m.tolerance (take m.backends names') (take m.backends row') (take (3 * m.rules) list') room)
        (v : (Result Update Why)) (as-text : v ≡ of_updated u) where
      pub text-answer : v ≡ sheets_answer old new n room
      text-answer =
          as-text
          ∙ ap of_updated (carried (λ k w ids ws cs. u ≡ update_answer k w ids ws cs room) answer)
          ∙ sym (answer-is t S X.both room)

      pub text-buffer : (out out' : List ℕ)
          → out'
          ≡ filled (is_made u) out 0 (numbers_resumed m.k m.tolerance (take m.backends names') (take m.backends row') (take (3 * m.rules) list'))
          → out' ≡ filled (is_made_text v) out 0 (sheets_numbers old new n)
      text-buffer out out' e =
          carried (λ k w ids ws cs. out' ≡ filled (is_made u) out 0 (numbers_resumed k w ids ws cs)) e
          ∙ ap (λ (vs : List ℕ). filled (is_made u) out 0 vs) (sym (numbers-are t S X.both))
          ∙ ap (λ (b : Bool). filled b out 0 (sheets_numbers old new n)) (made_alike u ∙ ap is_made_text (sym as-text))

      pub text-promised : (numbers : List ℕ)
          → PromisedFor m.k m.tolerance (take m.backends names') (take m.backends row') (take (3 * m.rules) list') u numbers
          → PromisedBoth old new n v numbers
      text-promised numbers P =
          subst (λ (x : (Result Update Why)). PromisedBoth old new n x numbers) (sym as-text)
          (promised-both t S X.both u numbers (carried (λ k w ids ws cs. PromisedFor k w ids ws cs u numbers) P))
