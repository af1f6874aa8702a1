-- `known::know` meets its contract. The loop's invariant: the ids of the rules from rule i on are known.
use Prim.Native.Nat.{ℕ, ◌+◌, ◌-◌, ◌*◌, ◌/◌, ◌≤◌, ◌<◌}
use mathlib.Core.List.{List, ◌++◌}
use mathlib.Core.Path.{◌≡◌, refl, sym, ◌∙◌, subst}
use native.Mathlib.Omega.{arith}
use lib.ListN.{length, drop, get_or, take, length-drop, length-append}
use Rattle.std.proofs.lemmas.List.{take_at}
use Rattle.numerals.specs.Limits.{most_known}
use Rattle.expansion.specs.OldList.{rules_from}
use Rattle.expansion.specs.Inner.Known.{Knows}
use Rattle.expansion.specs.Inner.Lists.{no_rule}
use Rattle.expansion.specs.declared.rule.Rule.{Rule}
use Rattle.expansion.proofs.KnownPlaces.{knows-first, knows_more}
use Rattle.expansion.proofs.OldNumbers.{rules-count, rules-more, rules-end, rule-is}
use Rattle.expansion.proofs.known.know.Goals as goal
use Rattle.expansion.proofs.known.know.Goals.{After-rule_at-rule}

-- a list copied to the front of a longer one
copied : (n : ℕ) (xs front out : List ℕ) → length xs ≡ n → front ≡ xs → take n (front ++ drop n out) ≡ xs
copied n xs front out few e = rw e (take_at xs (drop n out) n few)

copied-long : (n m : ℕ) (xs front out : List ℕ) → length xs ≡ n → front ≡ xs → length out ≡ m → n ≤ m → length (front ++ drop n out) ≡ m
copied-long n m xs front out few e long less = rw e (omega (arith, length-append xs (drop n out), length-drop n out))

pub loop-i-init : goal.loop-i-init
loop-i-init c =
    let a = c.args in
    let K = c.requires in
    let n = length a.ids.now in
    let k = c.copy_from_slice.new.self in
    let w = c.copy_from_slice-2.new.self in
    let none = rules-end a.old.now (length a.old.now / 3) (omega arith) in
    let less : n ≤ most_known = omega (arith, K.few_ids) in
    let known-long : length a.known.now ≡ most_known = omega arith in
    let wanted-long : length a.wanted.now ≡ most_known = omega arith in
    rw none (knows-first a.ids.now a.weights.now _ _ K.above K.paired (
      copied-long n most_known a.ids.now k a.known.now refl c.copy_from_slice.ensures.after known-long less,
      copied-long n most_known a.weights.now w a.wanted.now (sym K.paired) c.copy_from_slice-2.ensures.after wanted-long less,
    )
    (copied n a.ids.now k a.known.now refl c.copy_from_slice.ensures.after)
    (copied n a.weights.now w a.wanted.now (sym K.paired) c.copy_from_slice-2.ensures.after))

-- the rule is one of those whose ids are from 1 on
named : (q : After-rule_at-rule) → 1 ≤ q.rule_at-rule.result.backend
named q =
    let cs = q.args.old.now in
    let i : ℕ = q.loop-i.i - 1 in
    let inside : i < length cs / 3 = omega arith in
    let is : get_or (rules_from cs) i no_rule ≡ q.rule_at-rule.result = rule-is cs i inside ∙ sym q.rule_at-rule.ensures in
    subst (λ (r : Rule). 1 ≤ r.backend) is (q.requires.named i (omega (arith, rules-count cs)))

room : (q : After-rule_at-rule) → q.loop-i.count < most_known
room q =
    let cs = q.args.old.now in
    let K = q.requires in
    omega (
      arith,
      q.loop-i.invariant.inside,
      rules-count (drop (3 * q.loop-i.i) cs),
      length-drop (3 * q.loop-i.i) cs,
      rules-count cs,
      K.few_rules,
      K.few_ids,
    )

pub include-count-requires : goal.include-count-requires
include-count-requires c =
    let q = (goal.at.include-count-requires c).After-rule_at-rule in
    (named q, (omega (arith, room q, c.loop-i.invariant.long.0), omega (arith, room q, c.loop-i.invariant.long.1)))

pub loop-i-preserved : goal.loop-i-preserved
loop-i-preserved c =
    let a = c.args in
    let o = c.loop-i in
    let cs = a.old.now in
    let i : ℕ = o.i - 1 in
    let inside : i < length cs / 3 = omega arith in
    let here : i + 1 ≡ o.i = omega arith in
    let k' = c.include-count.new.ids in
    let w' = c.include-count.new.weights in
    let long : (length k' ≡ most_known) × (length w' ≡ most_known) = (omega (arith, o.invariant.long.0), omega (arith, o.invariant.long.1)) in
    let rest = rules_from (drop (3 * (i + 1)) cs) in
    let K : Knows rest a.ids.now a.weights.now o.known o.wanted o.count = rw here o.invariant in
    let more = knows_more a.ids.now a.weights.now c.rule_at-rule.result rest o.known o.wanted o.count k' w' c.include-count.result K
    c.include-count.ensures (named (goal.at.loop-i-preserved c).After-rule_at-rule) long in
    rw (rules-more cs i inside, ← c.rule_at-rule.ensures) more
