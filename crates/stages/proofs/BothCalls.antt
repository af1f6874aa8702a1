-- The two calls on sheets that were read: their answers, their lent buffers and what is promised of them.
use Rattle.std.specs.Prelude.{Err, Ok, Result}
use Prim.Native.Nat.{ℕ, ◌-◌, ◌≤◌, ◌<◌}
use mathlib.Core.Bool.{true}
use mathlib.Core.List.{List, [], ◌∷◌}
use mathlib.Core.Path.{◌≡◌, refl, ap, ap₂, sym, ◌∙◌}
use native.Mathlib.Omega.{arith}
use lib.ListN.{length, get_or, take}
use lib.Seq.{sets}
use borrow.Author.Tests.{ltb-true, eq-eqb}
use Rattle.numerals.specs.Limits.{most_bits, most_services}
use Rattle.numerals.specs.Suffix.{place}
use Rattle.expansion.specs.FirstMatch.{first_match}
use Rattle.packing.specs.Count.{Line, own_rules}
use Rattle.sheets.specs.Calls.{afterwards, is_value, has_service}
use Rattle.sheets.specs.Reading.{got}
use Rattle.sheets.specs.RuleSheet.{Table, count_of, read_table}
use Rattle.sheets.specs.declared.answer.Refused.{Refused as Why}
use Rattle.sheets.proofs.FirstMatch.{has-match, first-few}
use Rattle.sheets.proofs.Following.{count-other, by-service}
use Rattle.sheets.proofs.OneCall.{take-sets}
use Rattle.sheets.proofs.OrderedLines.{read-proper}
use Rattle.sheets.proofs.Readings.{got_same}
use Rattle.sheets.proofs.TableChecks.{InOrder, formed}
use Rattle.stages.specs.Stages.{Change, row}
use Rattle.stages.specs.Lines.{stage_rules, stage_text}
use Rattle.stages.specs.Calls.{change_of, of_change, of_sheets, values_for, place_of, places_answer, places_written, lines_answer, lines_written}
use Rattle.stages.specs.Promise.{Staged, PromisedRow, PromisedStage}
use Rattle.stages.specs.Inner.Nodes.{at}
use Rattle.stages.specs.Inner.Row.{row_of, judged, Served}
use Rattle.stages.specs.Inner.Both.{BothRead}
use Rattle.stages.specs.Inner.Handed.{handed, text_at}
use Rattle.stages.specs.Inner.Spread.{Spread}
use Rattle.stages.proofs.OneChange.{judges, handed-same, change-is, handed-fits, handed-row, stage-text}
use Rattle.stages.proofs.PrintedLines.{stage-printed, stage-counted}
use Rattle.stages.proofs.ReadSheets.{of-tables}
use Rattle.stages.proofs.Rows.{row_is, staged-row}

-- a service with lines has a number in its limits
count_none : (n : ℕ) → count_of n [] ≡ 0
unfolding count_of own_rules
count_none n = refl

service-limits : (k n : ℕ) (before ls : List Line) → InOrder k before ls → 0 < count_of n ls → (1 ≤ n) × (n ≤ most_services)
unfolding InOrder
service-limits k n before [] h c = absurd (omega (arith, count_none n))
service-limits k n before (l ∷ ls) h c = go (service-limits k n (l ∷ before) ls h.1)
  where
    go : (0 < count_of n ls → (1 ≤ n) × (n ≤ most_services)) → (1 ≤ n) × (n ≤ most_services)
    go later =
        by-service n l
        (λ e. let f = formed k l h.0.form in (omega (arith, f.numbered), omega (arith, f.service)))
        (λ d. later (omega (arith, count-other n l ls d)))

-- the places of a service that is there have ids
served : (text : List ℕ) (t : Table) (n k : ℕ) (holder : List ℕ) → read_table text ≡ got t → has_service t n ≡ true
    → Spread k (own_rules n t.lines) holder → Served k n holder
unfolding has_service
served text t n k holder e h S =
    let p = read-proper text t e in
    record {
      numbered = service-limits t.k n [] t.lines p.sorted (ltb-true 0 (count_of n t.lines) h);
      long = S.long;
      held = λ q l.
          let v = place k q in
          let is = S.at q l in
          let some : 0 < first_match (own_rules n t.lines) v = ltb-true 0 (first_match (own_rules n t.lines) v) (sym (has-match t p n v) ∙ h) in
          (omega arith, omega (arith, first-few t.k n v [] t.lines p.sorted));
    }

module _ (old new : List ℕ) (n k : ℕ) (before after : List ℕ) (R : BothRead old new n k before after) where
  pub few_bits : k ≤ most_bits
  few_bits = omega (arith, R.depth, (read-proper old R.t R.first).few_bits)

  pub served-first : Served k n before
  served-first = served old R.t n k before R.first R.in_first R.spread_first

  pub served-second : Served k n after
  served-second = served new R.u n k after R.second R.in_second R.spread_second

  -- the change that they are
  abbrev C : Change
  C = record { k = k; old = own_rules n R.t.lines; new = own_rules n R.u.lines }

  same-change : change_of R.t R.u n ≡ C
  unfolding change_of
  same-change = ap (λ (j : ℕ). record { k = j; old = own_rules n R.t.lines; new = own_rules n R.u.lines }) R.depth

  sheets-are : (f : Change → (Result ℕ Why)) → of_sheets old new n f ≡ f C
  sheets-are f =
      of-tables old new n f R.t R.u R.first R.second
      ∙ rw (R.in_first, R.in_second, eq-eqb R.t.k R.u.k (R.depth ∙ sym R.alike)) (ap f same-change)

  values-are : (f : Change → List ℕ) → values_for old new n f ≡ f C
  values-are f = rw (R.first, R.second) (ap f same-change)

  abbrev f₀ : ℕ → ℕ
  f₀ = at before

  abbrev g₀ : ℕ → ℕ
  g₀ = at after

  row_same : (limit : ℕ) → 1 ≤ limit → row C limit ≡ row_of k f₀ g₀ limit
  row_same limit l = row_is C limit l f₀ g₀ R.spread_first.at R.spread_second.at

  -- any other reading is this one
  same_tables : (t u : Table) → read_table old ≡ got t → read_table new ≡ got u → change_of t u n ≡ C
  same_tables t u a b =
      ap₂ (λ (x y : Table). change_of x y n) (got_same (sym a ∙ R.first)) (got_same (sym b ∙ R.second)) ∙ same-change

  staged : (limit : ℕ) → 1 ≤ limit → Staged C limit (row C limit)
  staged limit l = staged-row C limit l (stage-counted C)

  module _ (limit capacity room : ℕ) where
    abbrev answer₁ : Result ℕ Why
    answer₁ = handed (judged k f₀ g₀ limit capacity 1) (row_of k f₀ g₀ limit) room

    pub places-answer : answer₁ ≡ places_answer old new n limit capacity room
    unfolding places_answer
    places-answer =
        sym (sheets-are (λ D. of_change D limit capacity 1 (row D limit) room)
        ∙ change-is C f₀ g₀ R.spread_first.at R.spread_second.at limit capacity 1 (row C limit) room
        ∙ handed-same k f₀ g₀ limit capacity 1 (row C limit) (row_of k f₀ g₀ limit) room (row_same limit))

    -- it counts only where the limit is in its limits
    some-limit : (m : ℕ) → answer₁ ≡ Ok m → 1 ≤ limit
    some-limit m e =
        let found = handed-row (judged k f₀ g₀ limit capacity 1) (row_of k f₀ g₀ limit) room m e in
        (judges k f₀ g₀ limit capacity 1 found.0 found.1).some

    pub places-buffer : (r : (Result ℕ Why)) (out : List ℕ) → r ≡ answer₁
        → afterwards (is_value r) out (row_of k f₀ g₀ limit) ≡ afterwards (is_value r) out (places_written old new n limit)
    unfolding places_written
    places-buffer (Err w) out e = refl
    places-buffer (Ok m) out e =
        ap (sets out 0) (sym (values-are (λ D. row D limit) ∙ row_same limit (some-limit m (sym e))))

    pub places-promised : (r : (Result ℕ Why)) (out exit : List ℕ) → r ≡ answer₁ → length out ≡ room
        → exit ≡ afterwards (is_value r) out (row_of k f₀ g₀ limit)
        → (m : ℕ)
        → r ≡ Ok m
        → PromisedRow old new n limit (take m exit)
    places-promised r out exit e long is m v t u a b =
        let here = sym e ∙ v in
        let fits = handed-fits (judged k f₀ g₀ limit capacity 1) (row_of k f₀ g₀ limit) room m here in
        let filled : exit ≡ sets out 0 (row_of k f₀ g₀ limit) = is ∙ ap (λ (x : (Result ℕ Why)). afterwards (is_value x) out (row_of k f₀ g₀ limit)) v in
        let written : take m exit ≡ row C limit =
        ap₂ (λ (i : ℕ) (x : List ℕ). take i x) fits.0 filled ∙ take-sets out (row_of k f₀ g₀ limit) (omega (arith, fits.1))
        ∙ sym (row_same limit (some-limit m here)) in
        rw (same_tables t u a b, written) (staged limit (some-limit m here))

  -- the place of a stage
  place_same : (limit number : ℕ) → 1 ≤ limit → place_of C limit number ≡ get_or (row_of k f₀ g₀ limit) (number - 1) 0
  unfolding place_of
  place_same limit number l = ap (λ (ps : List ℕ). get_or ps (number - 1) 0) (row_same limit l)

  module _ (limit capacity number room : ℕ) where
    abbrev text : List ℕ
    text = text_at k f₀ g₀ n (get_or (row_of k f₀ g₀ limit) (number - 1) 0)

    abbrev answer₂ : Result ℕ Why
    answer₂ = handed (judged k f₀ g₀ limit capacity number) text room

    text_same : 1 ≤ limit → stage_text C n (place_of C limit number) ≡ text
    text_same l = ap (stage_text C n) (place_same limit number l) ∙ stage-text C f₀ g₀ R.spread_first.at R.spread_second.at n _

    pub lines-answer : answer₂ ≡ lines_answer old new n limit capacity number room
    unfolding lines_answer
    lines-answer =
        sym (sheets-are (λ D. of_change D limit capacity number (stage_text D n (place_of D limit number)) room)
        ∙ change-is C f₀ g₀ R.spread_first.at R.spread_second.at limit capacity number (stage_text C n (place_of C limit number)) room
        ∙ handed-same k f₀ g₀ limit capacity number (stage_text C n (place_of C limit number)) text room text_same)

    some-limit₂ : (m : ℕ) → answer₂ ≡ Ok m → 1 ≤ limit
    some-limit₂ m e =
        let found = handed-row (judged k f₀ g₀ limit capacity number) text room m e in
        (judges k f₀ g₀ limit capacity number found.0 found.1).some

    pub lines-buffer : (r : (Result ℕ Why)) (out : List ℕ) → r ≡ answer₂
        → afterwards (is_value r) out text ≡ afterwards (is_value r) out (lines_written old new n limit number)
    unfolding lines_written
    lines-buffer (Err w) out e = refl
    lines-buffer (Ok m) out e =
        ap (sets out 0) (sym (values-are (λ D. stage_text D n (place_of D limit number)) ∙ text_same (some-limit₂ m (sym e))))

    pub lines-promised : (r : (Result ℕ Why)) (out exit : List ℕ) → r ≡ answer₂ → length out ≡ room → exit ≡ afterwards (is_value r) out text
        → (m : ℕ)
        → r ≡ Ok m
        → PromisedStage old new n limit number (take m exit)
    unfolding stage_text
    lines-promised r out exit e long is m v t u a b =
        let here = sym e ∙ v in
        let some = some-limit₂ m here in
        let fits = handed-fits (judged k f₀ g₀ limit capacity number) text room m here in
        let filled : exit ≡ sets out 0 text = is ∙ ap (λ (x : (Result ℕ Why)). afterwards (is_value x) out text) v in
        let written : take m exit ≡ stage_text C n (place_of C limit number) =
        ap₂ (λ (i : ℕ) (x : List ℕ). take i x) fits.0 filled ∙ take-sets out text (omega (arith, fits.1)) ∙ sym (text_same some) in
        let depth : t.k ≡ k = ap (λ (x : Table). x.k) (got_same (sym a ∙ R.first)) ∙ R.depth in
        rw (same_tables t u a b, depth) (staged limit some, (stage_rules C (place_of C limit number), written, stage-printed C (place_of C limit number)))

-- what is refused of both sheets is the answer of each call, and nothing is promised of it
module _ (old new : List ℕ) (n : ℕ) (w : Why) (no : (f : Change → (Result ℕ Why)) → of_sheets old new n f ≡ Err w) where
  pub places-refused : (limit capacity room : ℕ) → places_answer old new n limit capacity room ≡ Err w
  unfolding places_answer
  places-refused limit capacity room = no (λ C. of_change C limit capacity 1 (row C limit) room)

  pub lines-refused : (limit capacity number room : ℕ) → lines_answer old new n limit capacity number room ≡ Err w
  unfolding lines_answer
  lines-refused limit capacity number room = no (λ C. of_change C limit capacity number (stage_text C n (place_of C limit number)) room)

pub not-value : {w : Why} {m : ℕ} {P : Type 0} → Err w ≡ Ok m → P
not-value e = absurd (let z : ◌≡◌ {A = ℕ} 0 1 = cc in omega arith)
