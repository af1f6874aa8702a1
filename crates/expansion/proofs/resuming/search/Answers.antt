-- `resuming::search` meets its contract. The loop's invariant: of the numbers above that of the rules that are laid, the best is kept.
use Prim.Native.Nat.{ℕ, suc, ◌-◌, ◌/◌, ◌≤◌, ◌<◌}
use mathlib.Core.Bool.{true, false}
use mathlib.Core.List.{List, ◌∷◌}
use mathlib.Core.Path.{◌≡◌, ap, sym, ◌∙◌, subst}
use native.Mathlib.Omega.{arith}
use lib.ListN.{length, get_or}
use lib.Seq.{take-length}
use Rattle.numerals.specs.Limits.{most_known}
use Rattle.numerals.proofs.Powers.{shifted}
use Rattle.std.specs.Prelude.{Option, None, Some}
use Rattle.expansion.specs.Imbalance.{Targets}
use Rattle.expansion.specs.OldList.{rules_from}
use Rattle.expansion.specs.Resume.{frame_from, frame_kept}
use Rattle.expansion.specs.Inner.Resume.{Tried, is_lower}
use Rattle.expansion.specs.Steps.{oldest}
use Rattle.expansion.specs.Inner.Known.{place_in, Ascending}
use Rattle.expansion.specs.Inner.Laying.{Placed, Held, Had, LaidTo}
use Rattle.expansion.specs.Inner.Lists.{no_rule, newest_first}
use Rattle.expansion.specs.Inner.OldList.{rule_at, Known, Proper}
use Rattle.expansion.specs.Inner.Run.{Valid}
use Rattle.expansion.specs.Inner.Service.{targets_for}
use Rattle.expansion.specs.declared.rule.Rule.{Rule}
use Rattle.expansion.specs.declared.list.RuleList.{RuleList}
use Rattle.expansion.specs.declared.resuming.Attempt.{Attempt}
use Rattle.expansion.proofs.KeptBest.{BestAbove, best-passes, best-taken, best-stays, found_all, found-free}
use Rattle.expansion.proofs.KeptSearch.{Searched, held_first, next_known, newest-is, newest-held, laid-less}
use Rattle.expansion.proofs.KeptSearch.{searched-none, starts-at, tried_here}
use Rattle.expansion.proofs.LaidRules.{placed}
use Rattle.expansion.proofs.OldNumbers.{rules-count}
use Rattle.expansion.proofs.resuming.search.Goals as goal
use Rattle.expansion.proofs.resuming.search.Goals.{After-place_of-first, After-rule_at-star, At-loop-left, Start}
use Rattle.expansion.proofs.resuming.search.Goals.{in-Some+then-is_better+else-churn-eq0, in-Some+else-is_better, in_default}

module _ (s : Start) where
  abbrev cs : List ℕ
  cs = s.args.old.now

  abbrev ids : List ℕ
  ids = s.args.service.now.labels.now

  valid : Valid s.args.service.now.k s.args.service.now.tolerance ids s.args.service.now.weights.now
  valid = s.args.service.now.valid

  ascending : Ascending ids
  ascending = s.requires.ascending

  proper : Proper s.args.service.now.k ids (rules_from cs)
  proper = s.requires.proper

  someone : 0 < length cs / 3
  someone = omega (arith, rules-count cs, proper.some)

pub overflow_sub-n : goal.overflow_sub-n
overflow_sub-n c = someone (goal.at.overflow_sub-n c).Start

pub rule_at-star-requires : goal.rule_at-star-requires
rule_at-star-requires c = omega (arith, someone (goal.at.rule_at-star-requires c).Start)

-- the oldest rule
module _ (q : After-rule_at-star) where
  abbrev star : Rule
  star = q.rule_at-star.result

  star-known : Known q.args.service.now.k (ids (goal.at.After-rule_at-star q).Start) star
  star-known =
      let e : length (cs (goal.at.After-rule_at-star q).Start) / 3 - 1 - 0 ≡ length (cs (goal.at.After-rule_at-star q).Start) / 3 - 1 = omega arith in
      subst (Known q.args.service.now.k (ids (goal.at.After-rule_at-star q).Start))
      (ap (rule_at (cs (goal.at.After-rule_at-star q).Start)) e ∙ sym q.rule_at-star.ensures)
      (next_known q.args.service.now.k (ids (goal.at.After-rule_at-star q).Start) (cs (goal.at.After-rule_at-star q).Start)
      (proper (goal.at.After-rule_at-star q).Start) 0 (proper (goal.at.After-rule_at-star q).Start).some)

-- the place of its backend
star-placed : (c : After-place_of-first)
    → Placed c.args.service.now.k (ids (goal.at.After-place_of-first c).Start) (star (goal.at.After-place_of-first c).After-rule_at-star)
    c.place_of-first.result
star-placed c =
    subst (Placed c.args.service.now.k (ids (goal.at.After-place_of-first c).Start) (star (goal.at.After-place_of-first c).After-rule_at-star))
    (sym (c.place_of-first.ensures ∙ ap (place_in (star (goal.at.After-place_of-first c).After-rule_at-star).backend)
    (take-length (ids (goal.at.After-place_of-first c).Start))))
    (placed (ids (goal.at.After-place_of-first c).Start) (ascending (goal.at.After-place_of-first c).Start) c.args.service.now.k
    (star (goal.at.After-place_of-first c).After-rule_at-star) (star-known (goal.at.After-place_of-first c).After-rule_at-star))

last : (c : After-place_of-first) → c.place_of-first.result < most_known
last c = omega (arith, (star-placed c).inside, (ascending (goal.at.After-place_of-first c).Start).few)

pub overflow_cast-holder : goal.overflow_cast-holder
overflow_cast-holder c = omega (arith, last c)

pub overflow_shl-shares : goal.overflow_shl-shares
overflow_shl-shares c = omega (arith, (valid (goal.at.overflow_shl-shares c).Start).few_bits)

pub offset_bounds-shares-first : goal.offset_bounds-shares-first
offset_bounds-shares-first c = omega (arith, last c)

pub bounds-shares-first : goal.bounds-shares-first
bounds-shares-first c = last c

pub lay_all-laid-requires : goal.lay_all-laid-requires
lay_all-laid-requires c =
    record {
      ascending = ascending (goal.at.lay_all-laid-requires c).Start;
      proper = proper (goal.at.lay_all-laid-requires c).Start;
      held = rw (shifted c.args.service.now.k (valid (goal.at.lay_all-laid-requires c).Start).few_bits)
          (held_first c.args.service.now.k (ids (goal.at.lay_all-laid-requires c).Start) (cs (goal.at.lay_all-laid-requires c).Start)
          (valid (goal.at.lay_all-laid-requires c).Start).few_bits (ascending (goal.at.lay_all-laid-requires c).Start)
          (proper (goal.at.lay_all-laid-requires c).Start) (star (goal.at.lay_all-laid-requires c).After-rule_at-star) c.rule_at-star.ensures
          c.place_of-first.result
          (star-placed (goal.at.lay_all-laid-requires c).After-place_of-first));
    }

pub loop-left-init : goal.loop-left-init
loop-left-init c =
    let s = (goal.at.loop-left-init c).Start in
    let laid = c.lay_all-laid in (
      omega (arith, laid.ensures.count, rules-count (cs s)),
      searched-none c.args.service.now (cs s) laid.new.holder laid.new.shares laid.result.list laid.result.had
          laid.ensures.count laid.ensures.laid,
    )

-- where the loop has come to
module _ (l : At-loop-left) where
  abbrev s : Start
  s = (goal.at.At-loop-left l).Start

  abbrev R : List Rule
  R = rules_from (cs s)

  abbrev T : Targets
  T = targets_for s.args.service.now

  abbrev count : ℕ
  count = l.loop-left.list.count

  abbrev had : List ℕ
  had = l.lay_all-laid.result.had

  abbrev here : Searched s.args.service.now (cs s) l.lay_all-laid.new.holder l.loop-left.holder l.loop-left.shares l.loop-left.list had
      l.loop-left.best
  here = l.loop-left.invariant.1

pub try_kept-tried-requires : goal.try_kept-tried-requires
try_kept-tried-requires c =
    let l = (goal.at.try_kept-tried-requires c).At-loop-left in
    let s = (goal.at.At-loop-left l).Start in
    starts-at s.args.service.now (cs s) (proper s) c.loop-left.holder c.loop-left.shares c.loop-left.list (had l)
    (here l).laid

-- the best with the try that was made
module _ (l : At-loop-left) where
  abbrev Told : Option Attempt → Type 0
  Told tried = (old : List Rule) (held : List ℕ) → Held l.args.service.now.k (ids (s l)) old l.lay_all-laid.new.holder held
      → Tried (frame_from (T l) l.args.service.now.tolerance (newest_first l.loop-left.list.rules (count l))) (length (cs (s l)) / 3) (count l) old tried

  abbrev Next : Option Attempt → Type 0
  Next = BestAbove (T l) l.args.service.now.tolerance (R l) (count l - 1)

  told : (tried : Option Attempt) → Told tried → Tried (frame_kept (T l) l.args.service.now.tolerance (R l) (count l)) (length (R l)) (count l) (R l) tried
  told tried M =
      tried_here l.args.service.now (cs (s l)) (proper (s l)) l.loop-left.holder l.loop-left.shares
      l.loop-left.list (had l) (here l).laid tried (M (R l) (here l).full.0 (here l).full.1)

  taken : (tried : Attempt) → Told (Some tried) → is_lower tried.churn l.loop-left.best ≡ true → Next (Some tried)
  taken tried M =
      best-taken (T l) l.args.service.now.tolerance (R l) (count l) (here l).laid.some (here l).laid.inside l.loop-left.best (here l).above tried
      (told (Some tried) M)

  stays : (tried : Attempt) → Told (Some tried) → is_lower tried.churn l.loop-left.best ≡ false → Next l.loop-left.best
  stays tried M =
      best-stays (T l) l.args.service.now.tolerance (R l) (count l) (here l).laid.some (here l).laid.inside l.loop-left.best (here l).above tried
      (told (Some tried) M)

  passes : Told None → Next l.loop-left.best
  passes M =
      best-passes (T l) l.args.service.now.tolerance (R l) (count l) (here l).laid.some (here l).laid.inside l.loop-left.best (here l).above (told None M)

pub returns-then-churn-eq0 : goal.returns-then-churn-eq0
returns-then-churn-eq0 c =
    let l = (goal.at.returns-then-churn-eq0 c).At-loop-left in
    found-free (T l) c.args.service.now.tolerance (R l) (count l - 1) c.in-Some.tried (taken l c.in-Some.tried c.in-Some.ensures (sym c.if-is_better.ensures))
    c.if-churn-eq0.true

pub returns-then-left-eq0 : goal.returns-then-left-eq0
returns-then-left-eq0 c =
    let l = (goal.at.returns-then-left-eq0 c).At-loop-left in
    let next : Next l c.match-tried.best =
    elim c.match-tried.branch [
      | in-Some+then-is_better+else-churn-eq0 w ↦
          subst (Next l) (sym w.best-is) (taken l w.in-Some.tried w.in-Some.ensures (sym w.if-is_better.ensures))
      | in-Some+else-is_better w ↦ subst (Next l) (sym w.best-is) (stays l w.in-Some.tried w.in-Some.ensures (sym w.if-is_better.ensures))
      | in_default w ↦ subst (Next l) (sym w.best-is) (passes l w.in_default.ensures)
    ] in
    found_all (T l) c.args.service.now.tolerance (R l) (count l - 1) c.match-tried.best next (omega (arith, c.loop-left.invariant.0, c.if-left-eq0.true))

-- a rule that is taken back, where another is left
module _ (l : At-loop-left) (i : ℕ) (is-next : count l ≡ suc i) (some : 1 ≤ i) where
  abbrev newest : Rule
  newest = get_or l.loop-left.list.rules i no_rule

  abbrev rs : List Rule
  rs = oldest i (R l)

  laid : LaidTo l.args.service.now.k (ids (s l)) (R l) (suc i) l.loop-left.holder l.loop-left.shares l.loop-left.list.rules (had l)
  laid =
      subst (λ (n : ℕ). LaidTo l.args.service.now.k (ids (s l)) (R l) n l.loop-left.holder l.loop-left.shares l.loop-left.list.rules (had l))
      is-next (here l).laid

  newest-known : Known l.args.service.now.k (ids (s l)) newest
  newest-known =
      subst (Known l.args.service.now.k (ids (s l)))
      (sym (newest-is l.args.service.now.k (ids (s l)) (cs (s l)) (proper (s l)) i l.loop-left.holder l.loop-left.shares l.loop-left.list.rules (had l)
      l.loop-left.holder l.loop-left.shares laid))
      (next_known l.args.service.now.k (ids (s l)) (cs (s l)) (proper (s l)) i laid.inside)

  held : Held l.args.service.now.k (ids (s l)) (newest ∷ rs) l.loop-left.holder l.loop-left.shares
  held =
      newest-held l.args.service.now.k (ids (s l)) (cs (s l)) (proper (s l)) i l.loop-left.holder l.loop-left.shares l.loop-left.list.rules (had l)
      l.loop-left.holder l.loop-left.shares laid

  before : Had l.args.service.now.k (ids (s l)) rs newest (get_or (had l) i 0)
  before = laid.before i some (omega arith)

pub take_back-requires : goal.take_back-requires
take_back-requires c =
    let l = (goal.at.take_back-requires c).At-loop-left in
    let i = c.loop-left.left - 1 in
    let some : 1 ≤ i = omega (arith, c.if-left-eq0.false) in
    let is-next : count l ≡ suc i = omega (arith, c.loop-left.invariant.0) in
    record {
      by_index = (ids (s l), rs l i is-next some, (ascending (s l), (held l i is-next some, before l i is-next some)));
      formed = (newest-known l i is-next some).rule;
    }

pub keep-requires : goal.keep-requires
keep-requires c = omega (arith, c.loop-left.invariant.0)

pub loop-left-preserved : goal.loop-left-preserved
loop-left-preserved c =
    let l = (goal.at.loop-left-preserved c).At-loop-left in
    let i = c.loop-left.left - 1 in
    let some : 1 ≤ i = omega (arith, c.if-left-eq0.false) in
    let is-next : count l ≡ suc i = omega (arith, c.loop-left.invariant.0) in
    let one-less : count l - 1 ≡ i = omega (arith, is-next) in
    let next : Next l c.match-tried.best =
    elim c.match-tried.branch [
      | in-Some+then-is_better+else-churn-eq0 w ↦
          subst (Next l) (sym w.best-is) (taken l w.in-Some.tried w.in-Some.ensures (sym w.if-is_better.ensures))
      | in-Some+else-is_better w ↦ subst (Next l) (sym w.best-is) (stays l w.in-Some.tried w.in-Some.ensures (sym w.if-is_better.ensures))
      | in_default w ↦ subst (Next l) (sym w.best-is) (passes l w.in_default.ensures)
    ] in
    let h' = c.take_back.new.holder in
    let s' = c.take_back.new.shares in
    let less = c.take_back.ensures (ids (s l)) (rs l i is-next some) (ascending (s l)) (held l i is-next some) (before l i is-next some) in
    let e = c.keep.ensures.1 in (
      ap (λ (t : RuleList). t.count) e,
      subst (λ (t : RuleList). Searched l.args.service.now (cs (s l)) l.lay_all-laid.new.holder h' s' t (had l) c.match-tried.best) (sym e)
          (record {
            laid =
                laid-less l.args.service.now.k (ids (s l)) (cs (s l)) (proper (s l)) i l.loop-left.holder l.loop-left.shares l.loop-left.list.rules (had l) h' s'
                (laid l i is-next some) some less;
            full = (here l).full;
            above = subst (λ (n : ℕ). BestAbove (T l) l.args.service.now.tolerance (R l) n c.match-tried.best) one-less next;
          }),
    )
