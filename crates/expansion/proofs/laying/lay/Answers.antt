-- `laying::lay` meets its contract: whoever has the first place of the suffix has it wholly.
use Prim.Native.Nat.{ℕ, ◌-◌, ◌*◌, ◌%◌, ◌^◌, ◌≤◌, ◌<◌}
use mathlib.Core.List.{List}
use mathlib.Core.Path.{◌≡◌, sym, ap, ◌∙◌, subst}
use native.Mathlib.Omega.{arith}
use lib.ListN.{get_or}
use lib.Seq.{take-length}
use Rattle.numerals.specs.Limits.{most_bits, most_suffixes}
use Rattle.numerals.specs.Suffix.{place}
use Rattle.numerals.proofs.Powers.{pow-few, shifted}
use Rattle.expansion.specs.Inner.Holders.{Given}
use Rattle.expansion.specs.Inner.Known.{place_in, Ascending}
use Rattle.expansion.specs.Inner.Laying.{passed_on, Placed, Held, Had}
use Rattle.expansion.specs.Inner.OldList.{Known}
use Rattle.expansion.specs.Inner.Sound.{Lengths}
use Rattle.expansion.specs.declared.rule.Rule.{Rule}
use Rattle.expansion.proofs.FirstMatch.{rule-short}
use Rattle.expansion.proofs.LaidRules.{placed, at-inside, had-first, lay-passable, held-laid}
use Rattle.expansion.proofs.laying.lay.Goals as goal
use Rattle.expansion.proofs.laying.lay.Goals.{After-place_of-to, Start}

module _ (s : Start) where
  abbrev k : ℕ
  k = s.args.service.now.k

  abbrev rule : Rule
  rule = s.args.rule

  abbrev ids : List ℕ
  ids = s.args.service.now.labels.now

  abbrev holder : List ℕ
  holder = s.args.holder.now

  abbrev shares : List ℕ
  shares = s.args.shares.now

  few : k ≤ most_bits
  few = s.args.service.now.valid.few_bits

  ascending : Ascending ids
  ascending = s.requires.ascending

  known : Known k ids rule
  known = s.requires.known

  short : rule.len ≤ k
  short = rule-short k rule known.rule

  size_is : (1 * 2 ^ (k - rule.len)) % 2 ^ 64 ≡ 2 ^ (k - rule.len)
  size_is = shifted (k - rule.len) (omega (arith, few))

  abbrev at : ℕ
  at = place rule.len rule.value * 2 ^ (k - rule.len)

  small : at < most_suffixes
  small = omega (arith, at-inside k rule known.rule, pow-few k few)

  -- the places of who had the suffix and of who gets it
  abbrev from : ℕ
  from = get_or holder at 0

  abbrev to : ℕ
  to = place_in rule.backend ids

  had : (rs : List Rule) → Held k ids rs holder shares → Lengths rule.len rs → Had k ids rs rule from
  had rs H L = had-first k rule known.rule few ids ascending rs holder shares H L

  gets : Placed k ids rule to
  gets = placed ids ascending k rule known

to_is : (c : After-place_of-to) → c.place_of-to.result ≡ to (goal.at.After-place_of-to c).Start
to_is c =
    c.place_of-to.ensures ∙ ap (place_in (rule (goal.at.After-place_of-to c).Start).backend) (take-length (ids (goal.at.After-place_of-to c).Start))

pub first_place-at-requires : goal.first_place-at-requires
first_place-at-requires c = c.requires.known.rule

pub offset_bounds-holder-at : goal.offset_bounds-holder-at
offset_bounds-holder-at c = omega (arith, c.first_place-at.ensures, small (goal.at.offset_bounds-holder-at c).Start)

pub bounds-holder-at : goal.bounds-holder-at
bounds-holder-at c =
    omega (arith, c.first_place-at.ensures, small (goal.at.bounds-holder-at c).Start, c.requires.held.1.0.wide)

pub overflow_cast-had : goal.overflow_cast-had
overflow_cast-had c =
    let H = had (goal.at.overflow_cast-had c).Start c.requires.held.0 c.requires.held.1.0 c.requires.held.1.1 in
    omega (
      arith,
      H.known,
      (ascending (goal.at.overflow_cast-had c).Start).few,
      ap (λ (x : ℕ). get_or (holder (goal.at.overflow_cast-had c).Start) x 0)
          c.first_place-at.ensures,
    )

pub overflow_sub-k : goal.overflow_sub-k
overflow_sub-k c = short (goal.at.overflow_sub-k c).Start

pub pass_on-requires : goal.pass_on-requires
pass_on-requires c =
    let rs = c.requires.held.0 in
    let H = c.requires.held.1.0 in
    rw (c.first_place-at.ensures, size_is (goal.at.pass_on-requires c).Start, to_is (goal.at.pass_on-requires c).After-place_of-to)
    (lay-passable (k (goal.at.pass_on-requires c).Start) (rule (goal.at.pass_on-requires c).Start) (known (goal.at.pass_on-requires c).Start).rule
    (few (goal.at.pass_on-requires c).Start) (ids (goal.at.pass_on-requires c).Start) (ascending (goal.at.pass_on-requires c).Start) rs
    (holder (goal.at.pass_on-requires c).Start) (shares (goal.at.pass_on-requires c).Start) (from (goal.at.pass_on-requires c).Start)
    (to (goal.at.pass_on-requires c).Start) (had (goal.at.pass_on-requires c).Start rs H c.requires.held.1.1) (gets (goal.at.pass_on-requires c).Start)
    H)

pub returns : goal.returns
returns c rs H L =
    let size : ℕ = 2 ^ (k (goal.at.returns c).Start - (rule (goal.at.returns c).Start).len) in
    let h' = c.pass_on.new.holder in
    let s' = c.pass_on.new.shares in
    let is = c.first_place-at.ensures in
    let t : ℕ = c.place_of-to.result in
    let given : Given (at (goal.at.returns c).Start) size (to (goal.at.returns c).Start) (holder (goal.at.returns c).Start) h' =
    subst (λ (x : ℕ). Given (at (goal.at.returns c).Start) size x (holder (goal.at.returns c).Start) h') (to_is (goal.at.returns c).After-place_of-to)
    (subst (λ (x : ℕ). Given x size t (holder (goal.at.returns c).Start) h') is
    (subst (λ (x : ℕ). Given c.first_place-at.result x t (holder (goal.at.returns c).Start) h') (size_is (goal.at.returns c).Start) c.pass_on.ensures.holder))
    in
    let passed : s' ≡ passed_on (shares (goal.at.returns c).Start) (from (goal.at.returns c).Start) (to (goal.at.returns c).Start) size =
    c.pass_on.ensures.shares
    ∙ ap (λ (x : ℕ). passed_on (shares (goal.at.returns c).Start) (get_or (holder (goal.at.returns c).Start) x 0) t
    (1 * 2 ^ (k (goal.at.returns c).Start - (rule (goal.at.returns c).Start).len) % 2 ^ 64)) is
    ∙ ap (passed_on (shares (goal.at.returns c).Start) (from (goal.at.returns c).Start) t) (size_is (goal.at.returns c).Start)
    ∙ ap (λ (x : ℕ). passed_on (shares (goal.at.returns c).Start) (from (goal.at.returns c).Start) x size) (to_is (goal.at.returns c).After-place_of-to) in
    let B = had (goal.at.returns c).Start rs H L in (
      held-laid (k (goal.at.returns c).Start) (rule (goal.at.returns c).Start) (known (goal.at.returns c).Start).rule (few (goal.at.returns c).Start)
          (ids (goal.at.returns c).Start) (ascending (goal.at.returns c).Start) rs (holder (goal.at.returns c).Start) (shares (goal.at.returns c).Start)
          (from (goal.at.returns c).Start) (to (goal.at.returns c).Start) B (gets (goal.at.returns c).Start) h' s' H given passed,
      subst (λ (x : ℕ). Had (k (goal.at.returns c).Start) (ids (goal.at.returns c).Start) rs (rule (goal.at.returns c).Start)
          (get_or (holder (goal.at.returns c).Start) x 0)) (sym is) B,
    )
