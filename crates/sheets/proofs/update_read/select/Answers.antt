-- `update_read::select` meets its contract: what was found is judged, and stored where the answer is no refusal.
use Prim.Native.Nat.{ℕ, ◌+◌, ◌-◌, ◌*◌, ◌^◌, ◌≤◌, ◌<◌}
use mathlib.Core.List.{List}
use mathlib.Core.Path.{◌≡◌, refl, sym, ap, ◌∙◌}
use native.Mathlib.Omega.{arith}
use lib.ListN.{length, get_or, take, drop, length-drop}
use lib.Seq.{sets, length-take-le}
use Rattle.std.proofs.Common.{rules}
use Rattle.std.proofs.iter.runs.Made.{chains}
use Rattle.std.specs.List as list
use Rattle.std.proofs.lemmas.List.Recursion.{is_sum_by}
use Rattle.numerals.specs.Limits.{most_backends, most_services}
use Rattle.numerals.proofs.Exits.{handed_on}
use Rattle.sheets.specs.PercentageSheet.{sum}
use Rattle.sheets.specs.Update.{old_rules, new_ids, new_weights, update_in}
use Rattle.sheets.specs.Inner.HeldTable.{table_of}
use Rattle.sheets.specs.Inner.Update.{sheet_of}
use Rattle.sheets.proofs.Chunks.{sum_fits, part_at}
use Rattle.sheets.proofs.Copies.{copied}
use Rattle.sheets.proofs.Judging.{Fits, judged-made, judged-in}
use Rattle.sheets.proofs.update_read.select.Goals as goal
use Rattle.sheets.proofs.update_read.select.Goals.{After-judge, After-sum-from, In_ok-made}

-- the judgement is the definition's answer
judged-is :
    (c : After-judge)
    → let a = c.args in
    c.judge.result
    ≡ update_in (table_of a.table.now) (sheet_of a.new.now) a.service
    (length a.rules.now) (length a.ids.now) (length a.weights.now)
judged-is c =
    let a = c.args in
    c.judge.ensures
    ∙ judged-in a.new.now.head a.new.now.sizes.now a.new.now.ids.now a.new.now.weights.now a.service a.new.now.named a.new.now.weighed
    (table_of a.table.now) _ _ (length a.rules.now) (length a.ids.now) (length a.weights.now)
    c.count_of.ensures.count c.size_of-backends.ensures

-- what an answer that is no refusal says
fits :
    (c : In_ok-made)
    → let a = c.args in
    Fits
    (record { k = a.table.now.k; tolerance = a.new.now.head.tolerance; rules = c.count_of.result; backends = c.size_of-backends.result })
    (length a.new.now.sizes.now) a.service (length a.rules.now) (length a.ids.now) (length a.weights.now)
fits c = judged-made _ _ _ _ _ _ _ _ (sym c.judge.ensures ∙ c.in_ok-made.was)

pub store_own-requires : goal.store_own-requires
store_own-requires c =
    omega (arith, (fits (goal.at.store_own-requires c).In_ok-made).rules, c.count_of.ensures.count)

pub slice_bounds-iter-count : goal.slice_bounds-iter-count
slice_bounds-iter-count c = (fits (goal.at.slice_bounds-iter-count c).In_ok-made).numbered

-- the services before it
before : (c : In_ok-made) → c.args.service - 1 < length c.args.new.now.sizes.now
before c = let F = fits c in omega (arith, F.numbered, F.there)

pub slice_bounds-iter-length : goal.slice_bounds-iter-length
slice_bounds-iter-length c =
    let few = before (goal.at.slice_bounds-iter-length c).In_ok-made in sym (length-take-le _ _ (omega (arith, few)))

-- the definition's sum is the library's
summed : (ns : List ℕ) → sum ns ≡ list.sum ns
unfolding sum
summed = is_sum_by sum (λ n. n) refl (λ n ns. refl)

pub sum-from-requires-clause-fits : goal.sum-from-requires-clause-fits
sum-from-requires-clause-fits c =
    let p = c.args.new.now in
    let i = c.args.service - 1 in
    let ns = c.args.new.now.sizes.now in
    let fits : list.sum (take i ns) < 2 ^ 64 =
    omega (arith, p.named, p.weighed, p.few, summed (take i ns), sum_fits ns i (before (goal.at.sum-from-requires-clause-fits c).In_ok-made)) in
    search (rules, chains)

-- where both rows of the service begin, and how many backends it has
start :
    (c : After-sum-from) → c.sum-from.result ≡ sum (take (c.args.service - 1) c.args.new.now.sizes.now)
start c = rw (summed (take (c.args.service - 1) c.args.new.now.sizes.now)) (search (rules, chains))

size :
    (c : In_ok-made)
    → let a = c.args in
    c.size_of-backends.result ≡ get_or a.new.now.sizes.now (a.service - 1) 0
size c = c.size_of-backends.ensures (fits c).numbered (fits c).there

within :
    (c : After-sum-from)
    → c.sum-from.result + c.size_of-backends.result ≤ sum c.args.new.now.sizes.now
within c =
    let made = (goal.at.After-sum-from c).In_ok-made in
    omega (arith, sum_fits c.args.new.now.sizes.now (c.args.service - 1) (before made), start c, size made)

small : (c : After-sum-from) → c.sum-from.result + c.size_of-backends.result ≤ most_services * most_backends
small c = let p = c.args.new.now in omega (arith, within c, p.named, p.weighed, p.few)

pub overflow_add-to : goal.overflow_add-to
overflow_add-to c = omega (arith, small (goal.at.overflow_add-to c).After-sum-from)

pub slice_bounds-copy_from_slice-end : goal.slice_bounds-copy_from_slice-end
slice_bounds-copy_from_slice-end c = (fits (goal.at.slice_bounds-copy_from_slice-end c).In_ok-made).ids

pub slice_bounds-copy_from_slice-end-2 : goal.slice_bounds-copy_from_slice-end-2
slice_bounds-copy_from_slice-end-2 c =
    sym (length-take-le _ _ (fits (goal.at.slice_bounds-copy_from_slice-end-2 c).In_ok-made).ids)

pub offset_bounds-new-from : goal.offset_bounds-new-from
offset_bounds-new-from c = omega (arith, small (goal.at.offset_bounds-new-from c).After-sum-from)

-- a row has the service's part
part : (row : List ℕ) (from n : ℕ) → from + n ≤ length row → take (from + n - from) (drop from row) ≡ take n (drop from row)
part row from n h = ap (λ (m : ℕ). take m (drop from row)) (omega arith)

part_long : (row : List ℕ) (from n : ℕ) → from + n ≤ length row → length (take (from + n - from) (drop from row)) ≡ n
part_long row from n h = rw (part row from n h) (length-take-le n (drop from row) (omega (arith, length-drop from row)))

named_long : (c : After-sum-from) → c.sum-from.result + c.size_of-backends.result ≤ length c.args.new.now.ids.now
named_long c = omega (arith, within c, c.args.new.now.named)

row_long : (c : After-sum-from) → c.sum-from.result + c.size_of-backends.result ≤ length c.args.new.now.weights.now
row_long c = omega (arith, within c, c.args.new.now.weighed)

pub slice_bounds-copy_from_slice-end-3 : goal.slice_bounds-copy_from_slice-end-3
slice_bounds-copy_from_slice-end-3 c = named_long (goal.at.slice_bounds-copy_from_slice-end-3 c).After-sum-from

pub copy_from_slice-requires : goal.copy_from_slice-requires
copy_from_slice-requires c =
    length-take-le _ _ (fits (goal.at.copy_from_slice-requires c).In_ok-made).ids
    ∙ sym (part_long c.args.new.now.ids.now _ _ (named_long (goal.at.copy_from_slice-requires c).After-sum-from))

pub slice_bounds-copy_from_slice-end-4 : goal.slice_bounds-copy_from_slice-end-4
slice_bounds-copy_from_slice-end-4 c = (fits (goal.at.slice_bounds-copy_from_slice-end-4 c).In_ok-made).weights

pub slice_bounds-copy_from_slice-end-5 : goal.slice_bounds-copy_from_slice-end-5
slice_bounds-copy_from_slice-end-5 c =
    sym (length-take-le _ _ (fits (goal.at.slice_bounds-copy_from_slice-end-5 c).In_ok-made).weights)

pub offset_bounds-new-from-2 : goal.offset_bounds-new-from-2
offset_bounds-new-from-2 c = omega (arith, small (goal.at.offset_bounds-new-from-2 c).After-sum-from)

pub slice_bounds-copy_from_slice-end-6 : goal.slice_bounds-copy_from_slice-end-6
slice_bounds-copy_from_slice-end-6 c = row_long (goal.at.slice_bounds-copy_from_slice-end-6 c).After-sum-from

pub copy_from_slice-requires-2 : goal.copy_from_slice-requires-2
copy_from_slice-requires-2 c =
    length-take-le _ _ (fits (goal.at.copy_from_slice-requires-2 c).In_ok-made).weights
    ∙ sym (part_long c.args.new.now.weights.now _ _ (row_long (goal.at.copy_from_slice-requires-2 c).After-sum-from))

pub returns-in_err-made : goal.returns-in_err-made
returns-in_err-made c =
    let e = handed_on _ _ c.from_residual.ensures in
    record {
      answer = e ∙ sym c.in_err-made.was ∙ judged-is (goal.at.returns-in_err-made c).After-judge;
      rules = rw e;
      ids = rw e;
      weights = rw e;
    }

pub returns : goal.returns
unfolding old_rules new_ids new_weights
returns c =
    let after = (goal.at.returns c).After-sum-from in
    let made = (goal.at.returns c).In_ok-made in
    let F = fits made in
    let a = c.args in
    let s = a.new.now in
    record {
      answer = sym c.in_ok-made.was ∙ judged-is (goal.at.returns c).After-judge;
      rules = c.store_own.ensures;
      ids = rw c.copy_from_slice.ensures.after (copied a.ids.now _ _ (part_long s.ids.now _ _ (named_long after)) F.ids)
          ∙ ap (sets a.ids.now 0)
          (part s.ids.now _ _ (named_long after) ∙ part_at s.sizes.now s.ids.now a.service _ _ F.numbered F.there (start after) (size made));
      weights = rw c.copy_from_slice-2.ensures.after (copied a.weights.now _ _ (part_long s.weights.now _ _ (row_long after)) F.weights)
          ∙ ap (sets a.weights.now 0)
          (part s.weights.now _ _ (row_long after) ∙ part_at s.sizes.now s.weights.now a.service _ _ F.numbered F.there (start after) (size made));
    }
