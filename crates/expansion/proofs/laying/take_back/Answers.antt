-- `laying::take_back` meets its contract: the rule's backend has the first place of its suffix.
use Prim.Native.Nat.{ℕ, ◌-◌, ◌*◌, ◌%◌, ◌^◌, ◌≤◌, ◌<◌}
use mathlib.Core.Bool.{true}
use mathlib.Core.List.{List, ◌∷◌}
use mathlib.Core.Path.{◌≡◌, ap, ◌∙◌, subst}
use native.Mathlib.Omega.{arith}
use lib.ListN.{get_or}
use Rattle.numerals.specs.Limits.{most_bits, most_suffixes}
use Rattle.numerals.specs.Suffix.{place}
use Rattle.numerals.proofs.Powers.{pow-few, shifted}
use Rattle.expansion.specs.FirstMatch.{is_rule}
use Rattle.expansion.specs.Inner.Holders.{Given}
use Rattle.expansion.specs.Inner.Known.{Ascending}
use Rattle.expansion.specs.Inner.Laying.{passed_on, Placed, Held}
use Rattle.expansion.specs.declared.rule.Rule.{Rule}
use Rattle.expansion.proofs.FirstMatch.{rule-short}
use Rattle.expansion.proofs.LaidRules.{at-inside, has_first, back-passable, held_back}
use Rattle.expansion.proofs.laying.take_back.Goals as goal
use Rattle.expansion.proofs.laying.take_back.Goals.{Start}

module _ (s : Start) where
  abbrev k : ℕ
  k = s.args.service.now.k

  abbrev rule : Rule
  rule = s.args.rule

  abbrev holder : List ℕ
  holder = s.args.holder.now

  abbrev shares : List ℕ
  shares = s.args.shares.now

  few : k ≤ most_bits
  few = s.args.service.now.valid.few_bits

  formed : is_rule k rule ≡ true
  formed = s.requires.formed

  short : rule.len ≤ k
  short = rule-short k rule formed

  size_is : (1 * 2 ^ (k - rule.len)) % 2 ^ 64 ≡ 2 ^ (k - rule.len)
  size_is = shifted (k - rule.len) (omega (arith, few))

  abbrev at : ℕ
  at = place rule.len rule.value * 2 ^ (k - rule.len)

  small : at < most_suffixes
  small = omega (arith, at-inside k rule formed, pow-few k few)

  -- the place of the rule's backend
  abbrev from : ℕ
  from = get_or holder at 0

  has : (labels : List ℕ) (rs : List Rule) → Ascending labels → Held k labels (rule ∷ rs) holder shares → Placed k labels rule from
  has labels rs A H = has_first k rule formed few labels A rs holder shares H

pub first_place-at-requires : goal.first_place-at-requires
first_place-at-requires c = c.requires.formed

pub offset_bounds-holder-at : goal.offset_bounds-holder-at
offset_bounds-holder-at c = omega (arith, c.first_place-at.ensures, small (goal.at.offset_bounds-holder-at c).Start)

pub bounds-holder-at : goal.bounds-holder-at
bounds-holder-at c =
    omega (arith, c.first_place-at.ensures, small (goal.at.bounds-holder-at c).Start, c.requires.by_index.2.1.0.wide)

pub overflow_cast-from : goal.overflow_cast-from
overflow_cast-from c =
    let P = c.requires.by_index in
    let H = has (goal.at.overflow_cast-from c).Start P.0 P.1 P.2.0 P.2.1.0 in
    omega (arith, H.inside, P.2.0.few, ap (λ (x : ℕ). get_or (holder (goal.at.overflow_cast-from c).Start) x 0) c.first_place-at.ensures)

pub overflow_sub-k : goal.overflow_sub-k
overflow_sub-k c = short (goal.at.overflow_sub-k c).Start

pub pass_on-requires : goal.pass_on-requires
pass_on-requires c =
    let P = c.requires.by_index in
    rw (c.first_place-at.ensures, size_is (goal.at.pass_on-requires c).Start)
    (back-passable (k (goal.at.pass_on-requires c).Start) (rule (goal.at.pass_on-requires c).Start) (formed (goal.at.pass_on-requires c).Start)
    (few (goal.at.pass_on-requires c).Start) P.0 P.2.0 P.1 (holder (goal.at.pass_on-requires c).Start) (shares (goal.at.pass_on-requires c).Start)
    c.args.had (from (goal.at.pass_on-requires c).Start) P.2.1.1
    (has (goal.at.pass_on-requires c).Start P.0 P.1 P.2.0 P.2.1.0) P.2.1.0)

pub returns : goal.returns
returns c labels rs A H B =
    let size : ℕ = 2 ^ (k (goal.at.returns c).Start - (rule (goal.at.returns c).Start).len) in
    let had = c.args.had in
    let h' = c.pass_on.new.holder in
    let s' = c.pass_on.new.shares in
    let is = c.first_place-at.ensures in
    let given : Given (at (goal.at.returns c).Start) size had (holder (goal.at.returns c).Start) h' =
    subst (λ (x : ℕ). Given x size had (holder (goal.at.returns c).Start) h') is
    (subst (λ (x : ℕ). Given c.first_place-at.result x had (holder (goal.at.returns c).Start) h') (size_is (goal.at.returns c).Start)
    c.pass_on.ensures.holder) in
    let passed : s' ≡ passed_on (shares (goal.at.returns c).Start) (from (goal.at.returns c).Start) had size =
    c.pass_on.ensures.shares
    ∙ ap (λ (x : ℕ). passed_on (shares (goal.at.returns c).Start) (get_or (holder (goal.at.returns c).Start) x 0) had
    (1 * 2 ^ (k (goal.at.returns c).Start - (rule (goal.at.returns c).Start).len) % 2 ^ 64)) is
    ∙ ap (passed_on (shares (goal.at.returns c).Start) (from (goal.at.returns c).Start) had) (size_is (goal.at.returns c).Start) in
    held_back (k (goal.at.returns c).Start) (rule (goal.at.returns c).Start) (formed (goal.at.returns c).Start) (few (goal.at.returns c).Start) labels A rs
    (holder (goal.at.returns c).Start) (shares (goal.at.returns c).Start) had (from (goal.at.returns c).Start) B
    (has (goal.at.returns c).Start labels rs A H) h' s' H given passed
