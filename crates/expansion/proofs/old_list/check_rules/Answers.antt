-- `old_list::check_rules` meets its contract. The loop's invariant: the check of all rules is that of those from rule i on, behind one of `last` bits.
use Prim.Native.Nat.{◌*◌, ◌<◌}
use mathlib.Core.Bool.{true}
use mathlib.Core.Path.{◌≡◌, sym, ◌∙◌}
use native.Mathlib.Omega.{arith}
use lib.ListN.{drop, length-drop}
use borrow.Author.Tests.{not-true, not-false, eq-eqb, ne_eqb}
use Rattle.expansion.specs.OldList.{is_proper}
use Rattle.expansion.specs.Inner.OldList.{rule_at}
use Rattle.expansion.proofs.OldChecks.{rule-bad, rule-many, rule-behind, rule-longer, rule-next, rules-broken, rules-over}
use Rattle.expansion.proofs.old_list.check_rules.Goals as goal
use Rattle.expansion.proofs.old_list.check_rules.Goals.{Else-not-is_proper}

pub returns-then-not-is_proper : goal.returns-then-not-is_proper
returns-then-not-is_proper c =
    let l = c.loop-i in
    let bad = sym c.is_proper.ensures ∙ not-true _ c.if-not-is_proper.true-raw in
    sym (l.invariant ∙ rule-bad _ _ _ l.i (omega arith) (rw c.rule_at-rule.ensures at bad))

-- a proper rule
good :
    (c : Else-not-is_proper)
    → is_proper c.args.k (rule_at c.args.old.now c.loop-i.i) ≡ true
good c =
    let proper = sym c.is_proper.ensures ∙ not-false _ c.if-not-is_proper.false-raw in
    rw c.rule_at-rule.ensures at proper

pub returns-then-i-ge-MOST_RULES : goal.returns-then-i-ge-MOST_RULES
returns-then-i-ge-MOST_RULES c =
    let l = c.loop-i in
    sym (l.invariant ∙ rule-many _ _ _ l.i (omega arith) (good (goal.at.returns-then-i-ge-MOST_RULES c).Else-not-is_proper) c.if-i-ge-MOST_RULES.true)

pub returns-then-last-eq0 : goal.returns-then-last-eq0
returns-then-last-eq0 c =
    let l = c.loop-i in
    sym (l.invariant ∙ rule-behind _ _ _ l.i (omega arith) (good (goal.at.returns-then-last-eq0 c).Else-not-is_proper) (omega arith) c.if-last-eq0.true)

pub returns-then-last-rule : goal.returns-then-last-rule
returns-then-last-rule c =
    let l = c.loop-i in
    let longer = rw c.rule_at-rule.ensures at c.if-last-rule.true in
    let some : 0 < l.last = omega (arith, c.if-last-eq0.false) in
    sym (l.invariant ∙ rule-longer _ _ _ l.i (omega arith) (good (goal.at.returns-then-last-rule c).Else-not-is_proper) (omega arith) some longer)

pub loop-i-preserved : goal.loop-i-preserved
loop-i-preserved c =
    let l = c.loop-i in
    let short = rw c.rule_at-rule.ensures at c.if-last-rule.false in
    let some : 0 < l.last = omega (arith, c.if-last-eq0.false) in
    rw c.rule_at-rule.ensures
    (l.invariant ∙ rule-next _ _ _ l.i (omega arith) (good (goal.at.loop-i-preserved c).Else-not-is_proper) (omega arith) some short)

pub returns-then-old-ne0 : goal.returns-then-old-ne0
returns-then-old-ne0 c =
    let old = c.args.old.now in
    let l = c.loop-i in
    let left = length-drop (3 * l.i) old in
    sym (l.invariant ∙ rules-broken _ _ _ (drop (3 * l.i) old) (omega arith) (omega arith))

-- no number is left: the last rule decides
pub returns-then-last-eq0-2 : goal.returns-then-last-eq0-2
returns-then-last-eq0-2 c =
    let old = c.args.old.now in
    let l = c.loop-i in
    sym (l.invariant ∙ rules-over _ _ _ (drop (3 * l.i) old) (omega (arith, length-drop (3 * l.i) old)) ∙ rw (eq-eqb _ _ c.if-last-eq0-2.true))

pub returns-else-last-eq0-2 : goal.returns-else-last-eq0-2
returns-else-last-eq0-2 c =
    let old = c.args.old.now in
    let l = c.loop-i in
    sym (l.invariant ∙ rules-over _ _ _ (drop (3 * l.i) old) (omega (arith, length-drop (3 * l.i) old)) ∙ rw (ne_eqb _ _ c.if-last-eq0-2.false))
