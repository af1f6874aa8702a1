-- What two accepted sheets hand to the update passes its checks: the lines of a service as an old list, and its ids and weights. Nothing is left to refuse
-- but that no r ends within.
use Rattle.std.specs.Prelude.{Ok}
use Prim.Native.Nat.{ℕ, suc, ◌≤◌, ◌<◌}
use mathlib.Core.Bool.{true}
use mathlib.Core.List.{List, [], ◌∷◌, reverse_aux}
use mathlib.Core.Path.{◌≡◌, refl, ap, sym, ◌∙◌}
use native.Mathlib.Omega.{arith}
use lib.Dec.{leb, ltb, eqb}
use lib.ListN.{length}
use borrow.Author.Tests.{ltb-true, eq-eqb, ne_eqb, lt-ltb, le-leb}
use Rattle.numerals.specs.Pick.{both}
use Rattle.numerals.specs.Limits.{most_bits, most_services, most_rules, unit}
use Rattle.numerals.proofs.Choice.{both_left, both_right}
use Rattle.numerals.proofs.Searches.{true-both}
use Rattle.expansion.specs.Answer.{in_limits, check_weights}
use Rattle.expansion.specs.OldList.{numbers_of, is_proper, check_rules, check_list}
use Rattle.expansion.specs.Resume.{check_old}
use Rattle.expansion.specs.declared.rule.Rule.{Rule}
use Rattle.expansion.proofs.OldNumbers.{numbers-count}
use Rattle.packing.specs.Count.{Line, own_rules}
use Rattle.sheets.specs.Reading.{got}
use Rattle.sheets.specs.RuleSheet.{Table, count_of, in_order, closed, is_line, read_table}
use Rattle.sheets.specs.PercentageSheet.{Sheet, read_sheet}
use Rattle.sheets.specs.Calls.{has_service}
use Rattle.sheets.specs.Update.{old_rules, has_weights, new_ids, new_weights}
use Rattle.sheets.proofs.Following.{count_same, count-other, by-service}
use Rattle.sheets.proofs.FirstMatch.{own-here, own-other}
use Rattle.sheets.proofs.TableChecks.{is_within_lem, formed, InOrder}
use Rattle.sheets.proofs.OrderedLines.{read-proper}
use Rattle.sheets.proofs.SheetLimits.{limits, row-passes}
use Rattle.update.proofs.BothSheets.{Both, new_row}

-- the order of a line behind p: of its service, or of a later one behind its `*`
module _ (p : Line) (ps : List Line) (l : Line) (h : in_order (p ∷ ps) l ≡ true) where
  of-same : p.service ≡ l.service → both (ltb 0 p.rule.len) (leb l.rule.len p.rule.len) ≡ true
  unfolding in_order
  of-same e = rw (eq-eqb p.service l.service e) at h

  of-later : (p.service ≡ l.service → ⊥) → both (ltb p.service l.service) (eqb p.rule.len 0) ≡ true
  unfolding in_order
  of-later d = rw (ne_eqb p.service l.service d) at h

  -- services ascend
  ascending : p.service ≤ l.service
  ascending =
      by-service l.service p
      (λ e. omega arith)
      (λ d. omega (arith, ltb-true p.service l.service (both_left (ltb p.service l.service) (eqb p.rule.len 0) (of-later d))))

-- no lines have no rules
own-none : (n : ℕ) → own_rules n [] ≡ []
unfolding own_rules
own-none n = refl

count_none : (n : ℕ) → count_of n [] ≡ 0
unfolding count_of
count_none n = ap length (own-none n)

-- behind a line of a later service no line of n stands
none-behind : (k n : ℕ) (p : Line) (before ls : List Line) → InOrder k (p ∷ before) ls → n < p.service → own_rules n ls ≡ []
unfolding InOrder
none-behind k n p before [] h a = own-none n
none-behind k n p before (l ∷ ls) h a =
    let up = ascending p before l h.0.sorted in
    own-other n l ls (λ e. omega arith) ∙ none-behind k n l (p ∷ before) ls h.1 (omega arith)

-- a service with lines has numbers
own-numbers : (n : ℕ) (ls : List Line) → 0 < count_of n ls → 0 < length (numbers_of (own_rules n ls))
unfolding count_of
own-numbers n ls c = omega (arith, numbers-count (own_rules n ls))

-- the numbers of a line are those of a rule
line-proper : (k : ℕ) (l : Line) → is_line k l ≡ true → is_proper k l.rule ≡ true
unfolding is_line is_proper
line-proper k l e = both_right (in_limits 1 most_services l.service) _ e

-- one rule of an old list passes
one_passes : (k m last : ℕ) (r : Rule) (rs : List Rule) → is_proper k r ≡ true → ltb m most_rules ≡ true → both (ltb 0 last) (leb r.len last) ≡ true
    → check_rules k m last (numbers_of (r ∷ rs)) ≡ check_rules k (suc m) r.len (numbers_of rs)
unfolding check_rules numbers_of
one_passes k m last r rs a b c =
    let fields : is_proper k (record { len = r.len; value = r.value; backend = r.backend }) ≡ true = a in
    simp (fields, b, c)

-- and the end, behind a `*`
end-passes : (k m last : ℕ) (rs : List Rule) → rs ≡ [] → eqb last 0 ≡ true → check_rules k m last (numbers_of rs) ≡ Ok tt
unfolding check_rules numbers_of
end-passes k m last rs e z = rw (e, z)

-- the lines of service n behind p, which is its line number m
rules-behind : (k n m : ℕ) (p : Line) (before ls : List Line) → p.service ≡ n → count_of n (p ∷ before) ≡ m → InOrder k (p ∷ before) ls
    → closed (reverse_aux ls (p ∷ before)) ≡ true → check_rules k m p.rule.len (numbers_of (own_rules n ls)) ≡ Ok tt
unfolding InOrder closed
rules-behind k n m p before [] own count h end = end-passes k m p.rule.len (own_rules n []) (own-none n) end
rules-behind k n m p before (l ∷ ls) own count h end =
    by-service n l
    (λ e.
    let more : count_of n (l ∷ p ∷ before) ≡ suc m = rw (← e) (count_same l (p ∷ before)) ∙ ap suc count in
    let few : ltb m most_rules ≡ true = ap (λ (x : ℕ). ltb x most_rules) (sym count ∙ ap (λ (x : ℕ). count_of x (p ∷ before)) (sym e)) ∙ h.0.few in
    ap (λ (rs : List Rule). check_rules k m p.rule.len (numbers_of rs)) (own-here n l ls e)
    ∙ one_passes k m p.rule.len l.rule (own_rules n ls) (line-proper k l h.0.form) few (of-same p before l h.0.sorted (own ∙ sym e))
    ∙ rules-behind k n (suc m) l (p ∷ before) ls e more h.1 end)
    (λ d.
    let later = of-later p before l h.0.sorted (λ q. d (sym q ∙ own)) in
    let up = ltb-true p.service l.service (both_left (ltb p.service l.service) (eqb p.rule.len 0) later) in
    end-passes k m p.rule.len (own_rules n (l ∷ ls))
    (own-other n l ls d ∙ none-behind k n l (p ∷ before) ls h.1 (omega arith))
    (both_right (ltb p.service l.service) _ later))

-- the lines of service n behind lines of others
rules-from : (k n : ℕ) (before ls : List Line) → 1 ≤ k → count_of n before ≡ 0 → InOrder k before ls → closed (reverse_aux ls before) ≡ true
    → 0 < count_of n ls → check_rules k 0 k (numbers_of (own_rules n ls)) ≡ Ok tt
unfolding InOrder
rules-from k n before [] some none h end c = absurd (omega (arith, count_none n))
rules-from k n before (l ∷ ls) some none h end c =
    by-service n l
    (λ e.
    let first : count_of n (l ∷ before) ≡ 1 = rw (← e) (count_same l before) ∙ ap suc none in
    ap (λ (rs : List Rule). check_rules k 0 k (numbers_of rs)) (own-here n l ls e)
    ∙ one_passes k 0 k l.rule (own_rules n ls) (line-proper k l h.0.form) (lt-ltb 0 most_rules (omega arith))
    (true-both (ltb 0 k) (leb l.rule.len k) (lt-ltb 0 k some) (le-leb l.rule.len k (formed k l h.0.form).short))
    ∙ rules-behind k n 1 l before ls e first h.1 end)
    (λ d.
    ap (λ (rs : List Rule). check_rules k 0 k (numbers_of rs)) (own-other n l ls d)
    ∙ rules-from k n (l ∷ before) ls some (count-other n l before d ∙ none) h.1 end (omega (arith, count-other n l ls d)))

pub rules-pass : (text : List ℕ) (t : Table) (n : ℕ) → read_table text ≡ got t → has_service t n ≡ true
    → check_list t.k (numbers_of (old_rules t n)) ≡ Ok tt
unfolding check_list has_service old_rules
rules-pass text t n e h =
    let P = read-proper text t e in
    let some = ltb-true 0 (count_of n t.lines) h in
    rw (lt-ltb 0 (length (numbers_of (own_rules n t.lines))) (own-numbers n t.lines some))
    (rules-from t.k n [] t.lines P.bits (count_none n) P.sorted P.ends some)

pub weights-pass : (text : List ℕ) (S : Sheet) (n : ℕ) → read_sheet text ≡ got S → has_weights S n ≡ true
    → check_weights (new_ids S n) (new_weights S n) ≡ Ok tt
weights-pass text S n e h = row-passes (new_row text S n e h)

-- of two sheets that have the service under one k nothing is refused: no rule is held against the weights
pub both-pass : (old sheet : List ℕ) (n : ℕ) (t : Table) (S : Sheet) → Both old sheet n t S
    → check_old t.k S.tolerance (numbers_of (old_rules t n)) (new_ids S n) (new_weights S n) ≡ Ok tt
unfolding check_old
both-pass old sheet n t S B =
    let P = read-proper old t B.table in
    simp (
      is_within_lem 1 most_bits t.k P.bits P.few_bits,
      le-leb S.tolerance unit (limits sheet S B.sheet).tolerant,
      rules-pass old t n B.table B.service,
      weights-pass sheet S n B.sheet B.weights,
    )
