-- An update's answer by the numbers that are found: it is the definition's; and what an answer that is no refusal says of them.
use Rattle.std.specs.Prelude.{Err, Ok}
use Prim.Native.Nat.{ℕ, ◌-◌, ◌*◌, ◌≤◌}
use mathlib.Core.Path.{◌≡◌, refl, sym, ap, ◌∙◌}
use mathlib.Core.Bool.{Bool, true, false}
use mathlib.Core.List.{List, []}
use native.Mathlib.Omega.{arith}
use lib.Dec.{leb, ltb, eqb}
use lib.ListN.{length, get_or, take, length-take}
use borrow.Author.Tests.{leb-true}
use Rattle.numerals.specs.Pick.{pick, both}
use Rattle.numerals.specs.Limits.{most_backends, most_services}
use Rattle.numerals.specs.Refusals.{no7, no8, no12}
use Rattle.numerals.proofs.Choice.{both_left, both_right}
use Rattle.expansion.specs.Answer.{in_limits}
use Rattle.expansion.specs.OldList.{numbers_of}
use Rattle.expansion.proofs.Checks.{limits as within}
use Rattle.packing.specs.Answer.{chunks}
use Rattle.sheets.specs.PercentageSheet.{Sheet, read_sheet, sum}
use Rattle.sheets.specs.RuleSheet.{Table, count_of, read_table}
use Rattle.sheets.specs.Calls.{about, refused_at, answered, values_of, has_service}
use Rattle.sheets.specs.Update.{old_rules, has_weights, new_ids, new_weights, update_in, update_read_answer}
use Rattle.sheets.specs.Inner.SheetReader.{SheetHeld}
use Rattle.sheets.specs.Inner.TableReader.{table_of}
use Rattle.sheets.specs.Inner.Update.{judged, sheet_in}
use Rattle.sheets.specs.declared.percentage_sheet.Head.{Head}
use Rattle.sheets.specs.declared.rule_sheet.TableHead.{TableHead}
use Rattle.sheets.specs.declared.answer.UpdateRecord.{UpdateRecord}
use Rattle.sheets.proofs.OwnNumbers.{length-numbers}
use Rattle.sheets.proofs.Chunks.{sizes-sum, chunks-row, chunks-length, chunk-length}
use Rattle.sheets.proofs.HeldTables.{TableHeld, in_memory}

module _ (t : Table) (S : Sheet) (n own b rules_room ids_room weights_room : ℕ) where
  pub judged-as :
      own ≡ count_of n t.lines → (1 ≤ n → n ≤ length S.weights → (b ≡ length (new_ids S n)) × (b ≡ length (new_weights S n)))
      → judged (record { k = t.k; tolerance = S.tolerance; rules = own; backends = b }) S.k (length S.weights) n rules_room ids_room weights_room
      ≡ update_in t S n rules_room ids_room weights_room
  unfolding judged update_in has_service has_weights old_rules count_of
  judged-as is size = go (in_limits 1 (length S.weights) n) refl
    where
      go :
          (u : Bool) → in_limits 1 (length S.weights) n ≡ u
          → judged (record { k = t.k; tolerance = S.tolerance; rules = own; backends = b }) S.k (length S.weights) n rules_room ids_room weights_room
          ≡ update_in t S n rules_room ids_room weights_room
      go false e = rw (is, e)
      go true e =
          let w = within 1 (length S.weights) n e in
          let z = size w.0 w.1 in
          rw (is, e, ← z.0, ← z.1, length-numbers (old_rules t n))

-- an answer that is no refusal: the service is there, and there is room
pub record Fits (m : UpdateRecord) (services n rules_room ids_room weights_room : ℕ) : Type 0 where
  pub numbered : 1 ≤ n
  pub there : n ≤ services
  pub rules : 3 * m.rules ≤ rules_room
  pub ids : m.backends ≤ ids_room
  pub weights : m.backends ≤ weights_room

-- room for so many ids, and for so many weights
abbrev roomy : ℕ → ℕ → ℕ → Bool
roomy b ids_room weights_room = both (leb b ids_room) (leb b weights_room)

pub judged-made :
    (m : UpdateRecord) (k services n rules_room ids_room weights_room : ℕ) (m' : UpdateRecord)
    → judged m k services n rules_room ids_room weights_room ≡ Ok m'
    → Fits m services n rules_room ids_room weights_room
unfolding judged
judged-made m k services n rules_room ids_room weights_room m' e =
    go (ltb 0 m.rules) (in_limits 1 services n) (eqb m.k k) (both (leb (3 * m.rules) rules_room) (roomy m.backends ids_room weights_room)) refl refl e
  where
    go :
        (a b c d : Bool) → in_limits 1 services n ≡ b → both (leb (3 * m.rules) rules_room) (roomy m.backends ids_room weights_room) ≡ d
        → pick a
        (pick b
        (pick c (pick d (Ok m) (Err (refused_at no7 0))) (Err (refused_at no12 0)))
        (Err (about 2 no8 0)))
        (Err (about 1 no8 0))
        ≡ Ok m'
        → Fits m services n rules_room ids_room weights_room
    go true true true true f g h =
        let w = within 1 services n f in
        let room = both_right (leb (3 * m.rules) rules_room) (roomy m.backends ids_room weights_room) g in
        record {
          numbered = w.0;
          there = w.1;
          rules = leb-true (3 * m.rules) rules_room (both_left (leb (3 * m.rules) rules_room) (roomy m.backends ids_room weights_room) g);
          ids = leb-true m.backends ids_room (both_left (leb m.backends ids_room) (leb m.backends weights_room) room);
          weights = leb-true m.backends weights_room (both_right (leb m.backends ids_room) (leb m.backends weights_room) room);
        }
    go true true true false f g h = absurd (let z : ◌≡◌ {A = ℕ} 0 1 = cc in omega arith)
    go true true false d f g h = absurd (let z : ◌≡◌ {A = ℕ} 0 1 = cc in omega arith)
    go true false c d f g h = absurd (let z : ◌≡◌ {A = ℕ} 0 1 = cc in omega arith)
    go false b c d f g h = absurd (let z : ◌≡◌ {A = ℕ} 0 1 = cc in omega arith)

-- the sheet in memory, by its sizes and its rows
module _ (h : Head) (sizes named row : List ℕ) (n : ℕ) (ids : sum sizes ≡ length named) (all : sum sizes ≡ length row) where
  pub judged-in :
      (t : Table) (own b rules_room ids_room weights_room : ℕ) → own ≡ count_of n t.lines
      → (1 ≤ n → n ≤ length sizes → b ≡ get_or sizes (n - 1) 0)
      → judged (record { k = t.k; tolerance = h.tolerance; rules = own; backends = b }) h.k (length sizes) n rules_room ids_room weights_room
      ≡ update_in t (sheet_in h sizes named row) n rules_room ids_room weights_room
  unfolding new_ids new_weights
  judged-in t own b rules_room ids_room weights_room is size =
      ap
      (λ (x : ℕ). judged (record { k = t.k; tolerance = h.tolerance; rules = own; backends = b }) h.k x n rules_room ids_room weights_room)
      (sym (chunks-length sizes row))
      ∙ judged-as t (sheet_in h sizes named row) n own b rules_room ids_room weights_room is long
    where
      long :
          1 ≤ n → n ≤ length (chunks sizes row)
          → (b ≡ length (new_ids (sheet_in h sizes named row) n)) × (b ≡ length (new_weights (sheet_in h sizes named row) n))
      long some few =
          let there : n ≤ length sizes = omega (arith, chunks-length sizes row) in
          let of : (l : List ℕ) → sum sizes ≡ length l → b ≡ length (get_or (chunks sizes l) (n - 1) []) =
          λ l e. size some there ∙ sym (chunk-length sizes l (n - 1) (omega arith) (omega arith)) in
          (of named ids, of row all)

-- the sheet that the memory holds
module _ (text : List ℕ) {vs zs is ws : List ℕ} {head : Head} {m row : ℕ} (held : SheetHeld (read_sheet text) vs zs is ws head m row) where
  pub held-named : sum (take m zs) ≡ length (take row is)
  held-named = rw (held.holds.held_sizes, ← held.holds.paired, held.holds.held_ids) (sizes-sum held.sheet.ids)

  pub held-sum : sum (take m zs) ≡ length (take row ws)
  held-sum = rw (held.holds.held_sizes, held.holds.held_weights) (sizes-sum held.sheet.weights)

  pub held-few : length (take row ws) ≤ most_services * most_backends
  held-few = omega (arith, length-take row ws, held.holds.short, held.holds.few)

  ids-chunks : chunks (take m zs) (take row is) ≡ held.sheet.ids
  ids-chunks = rw (held.holds.held_sizes, ← held.holds.paired, held.holds.held_ids) (chunks-row held.sheet.ids)

  weights-chunks : chunks (take m zs) (take row ws) ≡ held.sheet.weights
  weights-chunks = rw (held.holds.held_sizes, held.holds.held_weights) (chunks-row held.sheet.weights)

  pub held_update :
      (t : Table) (n a b c : ℕ)
      → update_in t (sheet_in head (take m zs) (take row is) (take row ws)) n a b c ≡ answered Err 2 (read_sheet text) (λ S. update_in t S n a b c)
  unfolding update_in has_weights new_ids new_weights
  held_update t n a b c = rw (held.read, ids-chunks, weights-chunks, held.k, held.tolerance)

  pub held-new-ids :
      (n : ℕ) → new_ids (sheet_in head (take m zs) (take row is) (take row ws)) n ≡ values_of (read_sheet text) (λ S. new_ids S n)
  unfolding new_ids
  held-new-ids n = rw (held.read, ids-chunks)

  pub held_new :
      (n : ℕ) → new_weights (sheet_in head (take m zs) (take row is) (take row ws)) n ≡ values_of (read_sheet text) (λ S. new_weights S n)
  unfolding new_weights
  held_new n = rw (held.read, weights-chunks)

-- the table that the memory holds
module _ (text : List ℕ) (h : TableHead) (numbers : List ℕ) (H : TableHeld text h numbers) (n : ℕ) where
  pub held-answer :
      (sheet : List ℕ) (a b c : ℕ)
      → answered Err 2 (read_sheet sheet) (λ S. update_in (table_of h numbers) S n a b c) ≡ update_read_answer text sheet n a b c
  unfolding update_read_answer
  held-answer sheet a b c = rw (H.read, in_memory text h numbers H)

  pub held-rules : numbers_of (old_rules (table_of h numbers) n) ≡ values_of (read_table text) (λ t. numbers_of (old_rules t n))
  held-rules = rw (H.read, in_memory text h numbers H)
