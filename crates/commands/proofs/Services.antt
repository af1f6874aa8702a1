-- No table that was read has a service above 64: every number above that is answered as 65 is.
use Rattle.std.specs.Prelude.{Err}
use Prim.Native.Nat.{ℕ, ◌+◌, ◌<◌, min}
use mathlib.Core.Path.{◌≡◌, refl}
use mathlib.Core.Bool.{false}
use mathlib.Core.List.{List, [], ◌∷◌}
use native.Mathlib.Omega.{arith}
use borrow.Author.Tests.{ne_eqb}
use Rattle.numerals.specs.Limits.{most_services}
use Rattle.packing.specs.Count.{Line, own_rules}
use Rattle.sheets.specs.Reading.{Reading, got, refused}
use Rattle.sheets.specs.PercentageSheet.{Sheet, read_sheet}
use Rattle.sheets.specs.RuleSheet.{Table, count_of, read_table}
use Rattle.sheets.specs.Calls.{answered, has_service, lookup_in, lookup_answer, churn_of, churn_answer}
use Rattle.sheets.proofs.TableChecks.{InOrder, formed}
use Rattle.sheets.proofs.OrderedLines.{read-proper}
use Rattle.gauges.specs.Gauges.{gauges_in, gauges_answer}
use Rattle.expansion.specs.declared.rule.Rule.{Rule}
use Rattle.update.specs.Sheets.{sheets_in, sheets_answer}
use Rattle.commands.specs.Update.{updated_text, list_room, update_text}
use Rattle.commands.proofs.Numerals.{capped_same}

none_above : (k n : ℕ) (before ls : List Line) → InOrder k before ls → most_services < n → count_of n ls ≡ 0
unfolding count_of own_rules InOrder
none_above k n before [] h m = refl
none_above k n before (l ∷ ls) h m =
    rw (ne_eqb l.service n (λ e. omega (arith, (formed k l h.0.form).service))) (none_above k n (l ∷ before) ls h.1 m)

pub unknown : (text : List ℕ) (t : Table) → read_table text ≡ got t → (n : ℕ) → most_services < n → has_service t n ≡ false
unfolding has_service
unknown text t e n h = rw (none_above t.k n [] t.lines (read-proper text t e).sorted h)

pub lookup-capped : (text : List ℕ) (n a : ℕ) → lookup_answer text (min n (most_services + 1)) a ≡ lookup_answer text n a
unfolding lookup_answer lookup_in
lookup-capped text n a = capped_same (λ (m : ℕ). lookup_answer text m a) most_services n (λ h. go h (read_table text) refl)
  where
    go : most_services < n → (r : Reading Table) → read_table text ≡ r
        → answered Err 0 r (λ t. lookup_in t (most_services + 1) a) ≡ answered Err 0 r (λ t. lookup_in t n a)
    go h (got t) e = rw (unknown text t e n h, unknown text t e (most_services + 1) (omega arith))
    go h (refused why line) e = refl

pub churn-capped : (old new : List ℕ) (n : ℕ) → churn_answer old new (min n (most_services + 1)) ≡ churn_answer old new n
unfolding churn_answer churn_of
churn-capped old new n = capped_same (λ (m : ℕ). churn_answer old new m) most_services n (λ h. go h (read_table old) (read_table new) refl)
  where
    go : most_services < n → (r s : Reading Table) → read_table old ≡ r
        → answered Err 1 r (λ o. answered Err 2 s (λ m. churn_of o m (most_services + 1)))
        ≡ answered Err 1 r (λ o. answered Err 2 s (λ m. churn_of o m n))
    go h (refused why line) s e = refl
    go h (got t) (refused why line) e = refl
    go h (got t) (got u) e = rw (unknown old t e n h, unknown old t e (most_services + 1) (omega arith))

pub gauges-capped : (text : List ℕ) (n volume b : ℕ) → gauges_answer text (min n (most_services + 1)) volume b ≡ gauges_answer text n volume b
unfolding gauges_answer gauges_in
gauges-capped text n volume b = capped_same (λ (m : ℕ). gauges_answer text m volume b) most_services n (λ h. go h (read_table text) refl)
  where
    go : most_services < n → (r : Reading Table) → read_table text ≡ r
        → answered Err 0 r (λ t. gauges_in t (most_services + 1) volume b) ≡ answered Err 0 r (λ t. gauges_in t n volume b)
    go h (got t) e = rw (unknown text t e n h, unknown text t e (most_services + 1) (omega arith))
    go h (refused why line) e = refl

-- the text: a list is only made for a service that the table has
pub update-capped : (old sheet : List ℕ) (n : ℕ) → update_text old sheet (min n (most_services + 1)) ≡ update_text old sheet n
unfolding update_text updated_text sheets_answer sheets_in
update-capped old sheet n = capped_same (λ (m : ℕ). update_text old sheet m) most_services n (λ h. go h _ _ (read_table old) (read_sheet sheet) refl)
  where
    go : most_services < n → (a b : List Rule) (r : Reading Table) (s : Reading Sheet) → read_table old ≡ r
        → updated_text (answered Err 1 r (λ t. answered Err 2 s (λ S. sheets_in t S (most_services + 1) list_room)))
        (most_services + 1) a
        ≡ updated_text (answered Err 1 r (λ t. answered Err 2 s (λ S. sheets_in t S n list_room))) n b
    go h a b (refused why line) s e = refl
    go h a b (got t) (refused why line) e = refl
    go h a b (got t) (got S) e = rw (unknown old t e n h, unknown old t e (most_services + 1) (omega arith))
