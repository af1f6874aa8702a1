-- The list of an update that was made on two texts, in numbers: whole rules, no more than a service may have, each of a suffix's form.
use Rattle.std.specs.Prelude.{Err, Ok, Result}
use Prim.Native.Nat.{ℕ, ◌*◌, ◌≤◌, ◌<◌}
use mathlib.Core.Bool.{true}
use mathlib.Core.List.{List}
use mathlib.Core.Path.{◌≡◌, ap, sym, ◌∙◌, subst}
use native.Mathlib.Omega.{arith}
use lib.ListN.{length, get_or}
use Rattle.numerals.specs.Limits.{most_bits, most_rules}
use Rattle.expansion.specs.FirstMatch.{is_rule}
use Rattle.expansion.specs.Imbalance.{Targets}
use Rattle.expansion.specs.Known.{targets_known}
use Rattle.expansion.specs.OldList.{rules_from, numbers_of}
use Rattle.expansion.specs.Resume.{ends_within, churn_kept, kept_of, list_resumed, numbers_resumed}
use Rattle.expansion.specs.Inner.Lists.{no_rule}
use Rattle.expansion.specs.Inner.OldList.{rule_at}
use Rattle.expansion.specs.declared.rule.Rule.{Rule}
use Rattle.expansion.proofs.FirstMatch.{rule-short, rule-bits, is-rule}
use Rattle.expansion.proofs.KeptLists.{kept-few, kept-known}
use Rattle.expansion.proofs.Lowest.{lowest-found}
use Rattle.expansion.proofs.OldChecks.{old-passed}
use Rattle.expansion.proofs.OldNumbers.{numbers-count, rules-numbers, rule-is}
use Rattle.sheets.specs.Update.{new_ids, new_weights, old_rules}
use Rattle.update.specs.Update.{update_answer}
use Rattle.update.specs.Sheets.{of_updated, sheets_answer, sheets_numbers}
use Rattle.update.specs.declared.answer.Update as update
use Rattle.update.proofs.BothSheets.{sheets-made, answer-is, numbers-are}
use Rattle.update.proofs.UpdateForm.{Making, making}
use Rattle.update.specs.declared.answer.Update.{Update}
use Rattle.numerals.specs.declared.refusal.Refusal.{Refusal}

pub record Listed (cs : List ℕ) (n : ℕ) : Type 0 where
  pub long : length cs ≡ 3 * n
  pub few : n ≤ most_rules
  pub each : (i : ℕ) → i < n → is_rule most_bits (rule_at cs i) ≡ true

made_of : (x : (Result Update Refusal)) (u : update.Update) → of_updated x ≡ Ok u → x ≡ Ok u
made_of (Ok v) u e = ap Ok cc
made_of (Err why) u e = absurd (let z : ◌≡◌ {A = ℕ} 0 1 = cc in omega arith)

-- of the call without a text
module _ (k tolerance : ℕ) (ids ws cs : List ℕ) (room : ℕ) (u : update.Update) (made : update_answer k tolerance ids ws cs room ≡ Ok u) where
  abbrev R : List Rule
  R = rules_from cs

  abbrev T : Targets
  T = targets_known k R ids ws

  abbrev new : List Rule
  new = list_resumed T tolerance R

  M : Making k tolerance ids ws cs room u
  M = making k tolerance ids ws cs room u made

  most : kept_of T tolerance R ≤ length R
  unfolding kept_of
  most = (lowest-found (length R) (ends_within T tolerance R) (churn_kept T tolerance R)).most

  count : u.rules ≡ length new
  count = ap (λ (y : update.Update). y.rules) M.is

  few_rules : length new ≤ most_rules
  unfolding list_resumed
  few_rules =
      omega (
        arith,
        kept-few k tolerance cs ids ws (kept_of T tolerance R) M.passed M.some most,
        (old-passed k tolerance cs ids ws M.passed).proper.few,
      )

  each-rule : (i : ℕ) → i < length new → is_rule k (get_or new i no_rule) ≡ true
  unfolding list_resumed
  each-rule i l = (kept-known k tolerance cs ids ws (kept_of T tolerance R) M.passed M.some most i l).rule

  listed : Listed (numbers_of new) u.rules
  listed =
      let bits = (old-passed k tolerance cs ids ws M.passed).valid.few_bits in
      record {
        long = omega (arith, numbers-count new, count);
        few = omega (arith, few_rules, count);
        each = λ i l.
            let r = rule_at (numbers_of new) i in
            let is : get_or new i no_rule ≡ r =
            ap (λ (rs : List Rule). get_or rs i no_rule) (sym (rules-numbers new)) ∙ rule-is (numbers_of new) i (omega (arith, numbers-count new, count)) in
            let K : is_rule k r ≡ true = ap (is_rule k) (sym is) ∙ each-rule i (omega (arith, count)) in
            is-rule most_bits r (omega (arith, rule-short k r K)) (rule-bits k r K);
      }

-- on two texts
pub made-listed : (old sheet : List ℕ) (n room : ℕ) (u : update.Update) → sheets_answer old sheet n room ≡ Ok u
    → Listed (sheets_numbers old sheet n) u.rules
unfolding numbers_resumed
made-listed old sheet n room u e =
    let X = sheets-made old sheet n room u e in
    let t = X.table in
    let S = X.sheet in
    let made = made_of _ u (sym (answer-is old sheet n t S X.both room) ∙ e) in
    subst (λ (cs : List ℕ). Listed cs u.rules) (sym (numbers-are old sheet n t S X.both))
    (listed t.k S.tolerance (new_ids S n) (new_weights S n) (numbers_of (old_rules t n)) room u made)
