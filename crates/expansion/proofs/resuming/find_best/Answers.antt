-- `resuming::find_best` meets its contract: the search for the backends that are known.
use Prim.Native.Nat.{ℕ, ◌≤◌}
use mathlib.Core.List.{List, map}
use mathlib.Core.Path.{◌≡◌, ap₂, sym, subst}
use native.Mathlib.Omega.{arith}
use lib.ListN.{take}
use lib.Seq.{length-take-le}
use Rattle.numerals.specs.Limits.{most_known}
use Rattle.expansion.specs.Imbalance.{Targets}
use Rattle.expansion.specs.Known.{known_ids, weight_of, targets_known}
use Rattle.expansion.specs.OldList.{rules_from}
use Rattle.expansion.specs.Inner.Known.{Ascending}
use Rattle.expansion.specs.Inner.OldList.{Proper}
use Rattle.expansion.specs.Inner.Resume.{Found}
use Rattle.expansion.specs.Inner.Run.{labelled_by, Valid}
use Rattle.expansion.specs.declared.rule.Rule.{Rule}
use Rattle.expansion.proofs.OldChecks.{OldPassed, old-passed}
use Rattle.expansion.proofs.resuming.find_best.Goals as goal
use Rattle.expansion.proofs.resuming.find_best.Goals.{After-know-n, Start}

module _ (s : Start) where
  abbrev R : List Rule
  R = rules_from s.args.old.now

  abbrev ids : List ℕ
  ids = s.args.ids.now

  abbrev ws : List ℕ
  ws = s.args.weights.now

  passed : OldPassed s.args.k s.args.tolerance R ids ws
  passed = old-passed s.args.k s.args.tolerance s.args.old.now ids ws s.requires

pub know-n-requires : goal.know-n-requires
know-n-requires c = (passed (goal.at.know-n-requires c).Start).knowable

-- what is known
module _ (n : After-know-n) where
  few : n.know-n.result ≤ most_known
  few =
      let K = (passed (goal.at.After-know-n n).Start).knowable in
      omega (arith, n.know-n.ensures.inside, K.few_rules, K.few_ids)

  abbrev labels : List ℕ
  labels = take n.know-n.result n.know-n.new.known

  abbrev weights : List ℕ
  weights = take n.know-n.result n.know-n.new.wanted

  valid : Valid n.args.k n.args.tolerance labels weights
  valid = rw (n.know-n.ensures.labels, n.know-n.ensures.weighed) (passed (goal.at.After-know-n n).Start).valid

  ascending : Ascending labels
  ascending = rw (n.know-n.ensures.labels) (passed (goal.at.After-know-n n).Start).ascending

  proper : Proper n.args.k labels (R (goal.at.After-know-n n).Start)
  proper = rw (n.know-n.ensures.labels) (passed (goal.at.After-know-n n).Start).proper

pub slice_bounds-known-end : goal.slice_bounds-known-end
slice_bounds-known-end c = omega (arith, few (goal.at.slice_bounds-known-end c).After-know-n, c.know-n.ensures.long.0)

pub slice_bounds-service-end : goal.slice_bounds-service-end
slice_bounds-service-end c =
    sym (length-take-le c.know-n.result c.know-n.new.known (omega (arith, few (goal.at.slice_bounds-service-end c).After-know-n, c.know-n.ensures.long.0)))

pub slice_bounds-wanted-end : goal.slice_bounds-wanted-end
slice_bounds-wanted-end c = omega (arith, few (goal.at.slice_bounds-wanted-end c).After-know-n, c.know-n.ensures.long.1)

pub slice_bounds-service-end-2 : goal.slice_bounds-service-end-2
slice_bounds-service-end-2 c =
    sym (length-take-le c.know-n.result c.know-n.new.wanted (omega (arith, few (goal.at.slice_bounds-service-end-2 c).After-know-n, c.know-n.ensures.long.1)))

pub invariant_of-service : goal.invariant_of-service
invariant_of-service c =
    let n = (goal.at.invariant_of-service c).After-know-n in
    search (valid n)

pub search-requires : goal.search-requires
search-requires c =
    let n = (goal.at.search-requires c).After-know-n in
    record { ascending = ascending n; proper = proper n }

pub returns : goal.returns
unfolding targets_known
returns c =
    let is : labelled_by c.args.k (labels (goal.at.returns c).After-know-n) (weights (goal.at.returns c).After-know-n)
    ≡ labelled_by c.args.k (known_ids (R (goal.at.returns c).Start) (ids (goal.at.returns c).Start))
    (map (weight_of (ids (goal.at.returns c).Start) (ws (goal.at.returns c).Start))
    (known_ids (R (goal.at.returns c).Start) (ids (goal.at.returns c).Start))) =
    ap₂ (labelled_by c.args.k) c.know-n.ensures.labels c.know-n.ensures.weighed in
    subst (λ (T : Targets). Found T c.args.tolerance (R (goal.at.returns c).Start) c.search.result) is c.search.ensures
