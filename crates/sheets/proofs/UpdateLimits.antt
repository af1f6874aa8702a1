-- The limits of what an update reads: at most 32 rules of a service, and at most 32 weights with their ids.
use Prim.Native.Nat.{ℕ, ◌+◌, ◌-◌, ◌≤◌}
use mathlib.Core.Path.{◌≡◌, refl, sym, ap, ◌∙◌, subst}
use mathlib.Core.Bool.{Bool, true, false}
use mathlib.Core.List.{List, [], ◌∷◌}
use native.Mathlib.Omega.{arith}
use lib.Dec.{ltb}
use lib.ListN.{length, get_or-eq_default}
use borrow.Author.Tests.{ltb-true, ltb-false}
use Rattle.numerals.specs.Limits.{most_backends, most_rules}
use Rattle.packing.specs.Count.{Line, own_rules}
use Rattle.sheets.specs.Reading.{got}
use Rattle.sheets.specs.PercentageSheet.{Sheet, read_sheet}
use Rattle.sheets.specs.RuleSheet.{Table, count_of, read_table}
use Rattle.sheets.specs.Update.{old_rules, new_ids, new_weights}
use Rattle.sheets.proofs.TableChecks.{InOrder}
use Rattle.sheets.proofs.OrderedLines.{read-proper}
use Rattle.sheets.proofs.Following.{count_same, count-other, by-service}
use Rattle.sheets.proofs.SheetLimits.{Row, limits}

-- behind others that are few
few-behind : (k s : ℕ) (before ls : List Line) → count_of s before ≤ most_rules → InOrder k before ls → count_of s before + count_of s ls ≤ most_rules
unfolding InOrder count_of own_rules
few-behind k s before [] few h = omega arith
few-behind k s before (l ∷ ls) few h =
    by-service s l
    (λ e.
    subst (λ (x : ℕ). count_of x before + count_of x (l ∷ ls) ≤ most_rules) e
    (let one : count_of l.service (l ∷ before) ≤ most_rules =
    omega (arith, count_same l before, ltb-true (count_of l.service before) most_rules h.0.few) in
    omega (arith, count_same l before, count_same l ls, few-behind k l.service (l ∷ before) ls one h.1)))
    (λ n.
    let same : count_of s (l ∷ before) ≤ most_rules = omega (arith, count-other s l before n) in
    omega (arith, count-other s l before n, count-other s l ls n, few-behind k s (l ∷ before) ls same h.1))

pub old-few : (text : List ℕ) (t : Table) (n : ℕ) → read_table text ≡ got t → length (old_rules t n) ≤ most_rules
unfolding old_rules count_of own_rules
old-few text t n e = omega (arith, few-behind t.k n [] t.lines (omega arith) (read-proper text t e).sorted)

module _ (text : List ℕ) (S : Sheet) (n : ℕ) (e : read_sheet text ≡ got S) where
  -- a service of the sheet, or none
  by-service-of : {P : Type 0} → (Row (new_ids S n) (new_weights S n) → P) → ((new_ids S n ≡ []) × (new_weights S n ≡ []) → P) → P
  unfolding new_ids new_weights
  by-service-of {P} there none = go (ltb (n - 1) (length S.weights)) refl
    where
      go : (t : Bool) → ltb (n - 1) (length S.weights) ≡ t → P
      go true h =
          let L = limits text S e in
          there (L.row (n - 1) (omega (arith, L.rows, ltb-true (n - 1) (length S.weights) h)))
      go false h =
          let L = limits text S e in
          let beyond = ltb-false (n - 1) (length S.weights) h in
          none (get_or-eq_default S.ids [] (omega (arith, L.rows, L.named)), get_or-eq_default S.weights [] beyond)

  -- an id for each weight
  pub ids-paired : length (new_ids S n) ≡ length (new_weights S n)
  ids-paired = by-service-of (λ r. r.paired) (λ z. ap length z.0 ∙ sym (ap length z.1))

  pub weights-few : length (new_weights S n) ≤ most_backends
  weights-few = by-service-of (λ r. r.few) (λ z. omega (arith, ap length z.1))

  pub ids-few : length (new_ids S n) ≤ most_backends
  ids-few = omega (arith, ids-paired, weights-few)
