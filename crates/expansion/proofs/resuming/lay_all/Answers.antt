-- `resuming::lay_all` meets its contract. The loop's invariant: the i oldest rules are laid.
use Prim.Native.Nat.{ℕ, ◌+◌, ◌-◌, ◌/◌, ◌≤◌, ◌<◌}
use mathlib.Core.List.{List, ◌∷◌}
use mathlib.Core.Path.{◌≡◌, sym, ap, ◌∙◌, subst}
use native.Mathlib.Omega.{arith}
use lib.ListN.{length, set, get_or, length-replicate, get_or-replicate}
use Rattle.numerals.specs.Limits.{most_rules}
use Rattle.expansion.specs.Steps.{oldest}
use Rattle.expansion.specs.OldList.{rules_from}
use Rattle.expansion.specs.Inner.Laying.{Held, Had, LaidTo}
use Rattle.expansion.specs.Inner.Lists.{no_rule}
use Rattle.expansion.specs.Inner.OldList.{rule_at, Known, Proper}
use Rattle.expansion.specs.Inner.Sound.{Lengths}
use Rattle.expansion.specs.declared.rule.Rule.{Rule}
use Rattle.expansion.specs.declared.list.RuleList.{RuleList}
use Rattle.expansion.proofs.KeptSearch.{next_known, next-lengths, laid-star, laid_more}
use Rattle.expansion.proofs.OldNumbers.{rules-count}
use Rattle.expansion.proofs.resuming.lay_all.Goals as goal
use Rattle.expansion.proofs.resuming.lay_all.Goals.{After-rule_at-rule, Start}

module _ (s : Start) where
  abbrev cs : List ℕ
  cs = s.args.old.now

  abbrev ids : List ℕ
  ids = s.args.service.now.labels.now

  proper : Proper s.args.service.now.k ids (rules_from cs)
  proper = s.requires.proper

  some : 0 < length cs / 3
  some = omega (arith, rules-count cs, proper.some)

  few : length cs / 3 ≤ most_rules
  few = omega (arith, rules-count cs, proper.few)

pub overflow_sub-n : goal.overflow_sub-n
overflow_sub-n c = some (goal.at.overflow_sub-n c).Start

pub rule_at-star-requires : goal.rule_at-star-requires
rule_at-star-requires c = omega (arith, some (goal.at.rule_at-star-requires c).Start)

pub loop-i-init : goal.loop-i-init
loop-i-init c =
    let star = c.rule_at-star.result in
    let list = c.of_one-list.result in
    let is = c.of_one-list.ensures.1 in
    let first : get_or list.rules 0 no_rule ≡ rule_at (cs (goal.at.loop-i-init c).Start) (length (cs (goal.at.loop-i-init c).Start) / 3 - 1 - 0) =
    ap (λ (l : RuleList). get_or l.rules 0 no_rule) is
    ∙ get_or-replicate most_rules 0 star no_rule (omega arith)
    ∙ c.rule_at-star.ensures
    ∙ ap (rule_at (cs (goal.at.loop-i-init c).Start)) (omega arith) in (
      ap (λ (l : RuleList). l.count) is,
      laid-star c.args.service.now.k (ids (goal.at.loop-i-init c).Start) (cs (goal.at.loop-i-init c).Start) (proper (goal.at.loop-i-init c).Start)
          c.args.holder.now c.args.shares.now list.rules _
          (ap (λ (l : RuleList). length l.rules) is ∙ length-replicate most_rules star, length-replicate {A = ℕ} most_rules 0) c.requires.held first,
    )

-- the next rule
module _ (q : After-rule_at-rule) where
  abbrev i : ℕ
  i = q.loop-i.i

  abbrev next : Rule
  next = rule_at (cs (goal.at.After-rule_at-rule q).Start) (length (cs (goal.at.After-rule_at-rule q).Start) / 3 - 1 - i)

  is : q.rule_at-rule.result ≡ next
  is = q.rule_at-rule.ensures

  less : i < length (rules_from (cs (goal.at.After-rule_at-rule q).Start))
  less = omega (arith, rules-count (cs (goal.at.After-rule_at-rule q).Start), q.loop-i-test.true)

  few-i : i < most_rules
  few-i = omega (arith, less, (proper (goal.at.After-rule_at-rule q).Start).few)

  abbrev rs : List Rule
  rs = oldest i (rules_from (cs (goal.at.After-rule_at-rule q).Start))

  known : Known q.args.service.now.k (ids (goal.at.After-rule_at-rule q).Start) q.rule_at-rule.result
  known =
      subst (Known q.args.service.now.k (ids (goal.at.After-rule_at-rule q).Start)) (sym is)
      (next_known q.args.service.now.k (ids (goal.at.After-rule_at-rule q).Start)
      (cs (goal.at.After-rule_at-rule q).Start) (proper (goal.at.After-rule_at-rule q).Start) i less)

  lengths : Lengths q.rule_at-rule.result.len rs
  lengths = subst (λ (r : Rule). Lengths r.len rs) (sym is) (next-lengths q.args.service.now.k (ids (goal.at.After-rule_at-rule q).Start)
      (cs (goal.at.After-rule_at-rule q).Start) (proper (goal.at.After-rule_at-rule q).Start) i less)

pub lay-requires : goal.lay-requires
lay-requires c =
    record {
      held = (rs (goal.at.lay-requires c).After-rule_at-rule, (c.loop-i.invariant.1.held, lengths (goal.at.lay-requires c).After-rule_at-rule));
      ascending = c.requires.ascending;
      known = known (goal.at.lay-requires c).After-rule_at-rule;
    }

pub bounds-had-i : goal.bounds-had-i
bounds-had-i c = omega (arith, few-i (goal.at.bounds-had-i c).After-rule_at-rule, c.loop-i.invariant.1.long.1)

pub push-requires : goal.push-requires
push-requires c = omega (arith, few-i (goal.at.push-requires c).After-rule_at-rule, c.loop-i.invariant.0)

pub loop-i-preserved : goal.loop-i-preserved
loop-i-preserved c =
    let k = c.args.service.now.k in
    let o = c.loop-i in
    let h' = c.lay.new.holder in
    let s' = c.lay.new.shares in
    let b = c.lay.result in
    let done = c.lay.ensures (rs (goal.at.loop-i-preserved c).After-rule_at-rule) o.invariant.1.held (lengths (goal.at.loop-i-preserved c).After-rule_at-rule) in
    let held = subst (λ (r : Rule). Held k (ids (goal.at.loop-i-preserved c).Start) (r ∷ rs (goal.at.loop-i-preserved c).After-rule_at-rule) h' s')
    (is (goal.at.loop-i-preserved c).After-rule_at-rule) done.0 in
    let had = subst (λ (r : Rule). Had k (ids (goal.at.loop-i-preserved c).Start) (rs (goal.at.loop-i-preserved c).After-rule_at-rule) r b)
    (is (goal.at.loop-i-preserved c).After-rule_at-rule) done.1 in
    let more = laid_more k (ids (goal.at.loop-i-preserved c).Start) (cs (goal.at.loop-i-preserved c).Start) (proper (goal.at.loop-i-preserved c).Start)
    o.i o.holder o.shares o.list.rules o.had h' s' b
    (less (goal.at.loop-i-preserved c).After-rule_at-rule) o.invariant.1 held had in
    let at : o.list.count ≡ o.i = o.invariant.0 in
    let e = c.push.ensures.1 in
    let Laid : List Rule → Type 0 = λ rules. LaidTo k (ids (goal.at.loop-i-preserved c).Start)
    (rules_from (cs (goal.at.loop-i-preserved c).Start)) (o.i + 1) h' s' rules (set o.had o.i b) in (
      ap (λ (l : RuleList). l.count) e ∙ ap (λ (n : ℕ). n + 1) at,
      subst Laid (sym (ap (λ (l : RuleList). l.rules) e ∙ ap (λ (n : ℕ). set o.list.rules n c.rule_at-rule.result) at))
          (subst (λ (r : Rule). Laid (set o.list.rules o.i r)) (sym (is (goal.at.loop-i-preserved c).After-rule_at-rule)) more),
    )

pub returns : goal.returns
returns c =
    let all : c.loop-i.i ≡ length (rules_from (cs (goal.at.returns c).Start)) = omega (
      arith,
      rules-count (cs (goal.at.returns c).Start),
      c.loop-i.invariant.1.inside,
      c.loop-i-test.false,
    ) in
    record {
      count = c.loop-i.invariant.0 ∙ all;
      laid = subst (λ (n : ℕ). LaidTo c.args.service.now.k (ids (goal.at.returns c).Start) (rules_from (cs (goal.at.returns c).Start)) n
          c.loop-i.holder c.loop-i.shares c.loop-i.list.rules c.loop-i.had) all
          c.loop-i.invariant.1;
    }
