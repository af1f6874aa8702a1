-- `texts::update_sheets` meets its contract: both sheets read, and the update of what they say.
use Rattle.std.specs.Prelude.{Ok, Result}
use Prim.Native.Nat.{ℕ, ◌*◌, ◌≤◌}
use mathlib.Core.Bool.{true}
use mathlib.Core.List.{List}
use mathlib.Core.Path.{◌≡◌, refl, ap, sym, ◌∙◌}
use native.Mathlib.Omega.{arith}
use lib.ListN.{length, replicate, length-replicate}
use lib.Seq.{length-sets, length-take-le}
use Rattle.numerals.specs.Limits.{most_backends}
use Rattle.expansion.specs.OldList.{numbers_of}
use Rattle.sheets.specs.RuleSheet.{read_table}
use Rattle.sheets.specs.PercentageSheet.{read_sheet}
use Rattle.sheets.specs.Calls.{afterwards, values_of}
use Rattle.sheets.specs.Update.{old_rules, new_ids, new_weights, is_read}
use Rattle.sheets.specs.declared.answer.UpdateRecord.{UpdateRecord}
use Rattle.numerals.specs.Buffer.{filled}
use Rattle.numerals.proofs.Exits.{handed_on}
use Rattle.update.specs.Sheets.{of_updated, sheets_answer, sheets_numbers, is_made, PromisedBoth}
use Rattle.update.specs.declared.answer.Update.{Update}
use Rattle.update.proofs.BothSheets.{list_room, both-refused, none-promised, Met, both-made, few_rules, few-backends}
use Rattle.update.proofs.BothSheets.{text-answer, text-buffer, text-promised}
use Rattle.update.proofs.texts.update_sheets.Goals as goal
use Rattle.update.proofs.texts.update_sheets.Goals.{After-update, In_ok-m}
use Rattle.sheets.specs.declared.answer.Refused.{Refused}

abbrev list₀ : List ℕ
list₀ = replicate list_room 0

abbrev row₀ : List ℕ
row₀ = replicate most_backends 0

-- what was read
module _ (d : In_ok-m) where
  abbrev m : UpdateRecord
  m = d.in_ok-m.m

  abbrev list : List ℕ
  list = d.read_update.new.rules

  abbrev row : List ℕ
  row = d.read_update.new.weights

  is : d.read_update.result ≡ Ok m
  is = d.in_ok-m.was

  X : Met d.args.old.now d.args.sheet.now d.args.service m
  X = both-made d.args.old.now d.args.sheet.now d.args.service m (sym d.read_update.ensures.answer ∙ is)

  listed : list ≡ afterwards true list₀ (values_of (read_table d.args.old.now) (λ t. numbers_of (old_rules t d.args.service)))
  listed =
      d.read_update.ensures.rules
      ∙ ap (λ (r : (Result UpdateRecord Refused)). afterwards (is_read r) list₀ (values_of (read_table d.args.old.now) (λ t. numbers_of (old_rules t d.args.service)))) is

  abbrev names : List ℕ
  names = d.read_update.new.ids

  named : names ≡ afterwards true row₀ (values_of (read_sheet d.args.sheet.now) (λ S. new_ids S d.args.service))
  named =
      d.read_update.ensures.ids
      ∙ ap (λ (r : (Result UpdateRecord Refused)). afterwards (is_read r) row₀ (values_of (read_sheet d.args.sheet.now) (λ S. new_ids S d.args.service))) is

  weighed : row ≡ afterwards true row₀ (values_of (read_sheet d.args.sheet.now) (λ S. new_weights S d.args.service))
  weighed =
      d.read_update.ensures.weights
      ∙ ap (λ (r : (Result UpdateRecord Refused)). afterwards (is_read r) row₀ (values_of (read_sheet d.args.sheet.now) (λ S. new_weights S d.args.service))) is

  few : m.rules ≤ 32
  few =
      few_rules d.args.old.now d.args.sheet.now d.args.service m X list₀ list row₀ names row₀ row (length-replicate {A = ℕ} list_room 0)
      (length-replicate {A = ℕ} most_backends 0) (length-replicate {A = ℕ} most_backends 0) listed named weighed

  some-few : m.backends ≤ most_backends
  some-few =
      few-backends d.args.old.now d.args.sheet.now d.args.service m X list₀ list row₀ names row₀ row (length-replicate {A = ℕ} list_room 0)
      (length-replicate {A = ℕ} most_backends 0) (length-replicate {A = ℕ} most_backends 0) listed named weighed

  list-long : length list ≡ list_room
  list-long =
      ap length listed ∙ length-sets list₀ 0 (values_of (read_table d.args.old.now) (λ t. numbers_of (old_rules t d.args.service)))
      ∙ length-replicate {A = ℕ} list_room 0

  names-long : length names ≡ most_backends
  names-long =
      ap length named ∙ length-sets row₀ 0 (values_of (read_sheet d.args.sheet.now) (λ S. new_ids S d.args.service))
      ∙ length-replicate {A = ℕ} most_backends 0

  row-long : length row ≡ most_backends
  row-long =
      ap length weighed ∙ length-sets row₀ 0 (values_of (read_sheet d.args.sheet.now) (λ S. new_weights S d.args.service))
      ∙ length-replicate {A = ℕ} most_backends 0

pub overflow_mul-n : goal.overflow_mul-n
overflow_mul-n c = omega (arith, few (goal.at.overflow_mul-n c).In_ok-m)

pub slice_bounds-list-end : goal.slice_bounds-list-end
slice_bounds-list-end c = omega (arith, few (goal.at.slice_bounds-list-end c).In_ok-m, list-long (goal.at.slice_bounds-list-end c).In_ok-m)

pub slice_bounds-update-end : goal.slice_bounds-update-end
slice_bounds-update-end c = sym (length-take-le (3 * (m (goal.at.slice_bounds-update-end c).In_ok-m).rules) (list (goal.at.slice_bounds-update-end c).In_ok-m)
    (omega (arith, few (goal.at.slice_bounds-update-end c).In_ok-m, list-long (goal.at.slice_bounds-update-end c).In_ok-m)))

pub slice_bounds-ids-end : goal.slice_bounds-ids-end
slice_bounds-ids-end c = omega (arith, some-few (goal.at.slice_bounds-ids-end c).In_ok-m, names-long (goal.at.slice_bounds-ids-end c).In_ok-m)

pub slice_bounds-update-end-2 : goal.slice_bounds-update-end-2
slice_bounds-update-end-2 c = sym (length-take-le (m (goal.at.slice_bounds-update-end-2 c).In_ok-m).backends
    (names (goal.at.slice_bounds-update-end-2 c).In_ok-m) (omega (
      arith,
      some-few (goal.at.slice_bounds-update-end-2 c).In_ok-m,
      names-long
          (goal.at.slice_bounds-update-end-2 c).In_ok-m,
    )))

pub slice_bounds-weights-end : goal.slice_bounds-weights-end
slice_bounds-weights-end c = omega (arith, some-few (goal.at.slice_bounds-weights-end c).In_ok-m, row-long (goal.at.slice_bounds-weights-end c).In_ok-m)

pub slice_bounds-update-end-3 : goal.slice_bounds-update-end-3
slice_bounds-update-end-3 c = sym (length-take-le (m (goal.at.slice_bounds-update-end-3 c).In_ok-m).backends
    (row (goal.at.slice_bounds-update-end-3 c).In_ok-m) (omega (
      arith,
      some-few (goal.at.slice_bounds-update-end-3 c).In_ok-m,
      row-long
          (goal.at.slice_bounds-update-end-3 c).In_ok-m,
    )))

pub returns-in_err-m : goal.returns-in_err-m
returns-in_err-m c =
    let a = c.args in
    let r = c.in_err-m.field-0.0 in
    let e = sym c.read_update.ensures.answer ∙ c.in_err-m.was in
    let x = handed_on _ _ c.from_residual.ensures in
    record {
      answer = x ∙ sym (both-refused a.old.now a.sheet.now a.service (length a.rules.now) r e);
      rules = rw x;
      promise = rw x (none-promised a.old.now a.sheet.now a.service r _ a.rules.now e);
    }

-- what the call without a text answered, as the one on two texts answers it
told :
    (c : After-update) (v : Result Update Refused) → v ≡ of_updated c.update.result
    → let a = c.args in
    (v ≡ sheets_answer a.old.now a.sheet.now a.service (length a.rules.now))
    × ((c.update.new.rules ≡ filled (is_made v) a.rules.now 0 (sheets_numbers a.old.now a.sheet.now a.service))
    × PromisedBoth a.old.now a.sheet.now a.service v c.update.new.rules)
told c v is =
    let a = c.args in
    let d = (goal.at.After-update c).In_ok-m in
    let e = c.update.ensures in
    let long = length-replicate {A = ℕ} list_room 0 in
    let wide = length-replicate {A = ℕ} most_backends 0 in
    let room = length a.rules.now in (
      text-answer a.old.now a.sheet.now a.service (m d) (X d) list₀ (list d) row₀ (names d) row₀ (row d) long wide wide (listed d) (named d) (weighed d)
          room c.update.result e.answer v is,
      (
        text-buffer a.old.now a.sheet.now a.service (m d) (X d) list₀ (list d) row₀ (names d) row₀ (row d) long wide wide (listed d) (named d) (weighed d)
            room c.update.result e.answer v is a.rules.now _ e.rules,
        text-promised a.old.now a.sheet.now a.service (m d) (X d) list₀ (list d) row₀ (names d) row₀ (row d) long wide wide (listed d) (named d)
            (weighed d) room c.update.result e.answer v is _ e.promise,
      ),
    )

pub returns-in_err-made : goal.returns-in_err-made
returns-in_err-made c =
    let t = told (goal.at.returns-in_err-made c).After-update _
    (handed_on _ _ c.from_residual-in_err-made.ensures ∙ sym (ap of_updated c.in_err-made.was)) in
    record { answer = t.0; rules = t.1.0; promise = t.1.1 }

pub returns : goal.returns
returns c =
    let t = told (goal.at.returns c).After-update _ (sym (ap of_updated c.in_ok-made.was)) in
    record { answer = t.0; rules = t.1.0; promise = t.1.1 }
