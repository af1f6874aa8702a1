-- `call::copy_out` meets its contract. The loop's invariant: the first i rules are stored, in three columns.
use Prim.Native.Nat.{ℕ, ◌+◌, ◌-◌, ◌<◌, ◌≤◌}
use mathlib.Core.List.{List, ◌++◌}
use mathlib.Core.Path.{◌≡◌, sym, ◌∙◌}
use native.Mathlib.Omega.{arith}
use lib.ListN.{length, take, drop}
use lib.Seq.{sets}
use Rattle.std.proofs.Common.{append_assoc}
use Rattle.std.proofs.lemmas.List.{drop-drop, length-take-le}
use Rattle.std.proofs.lemmas.List.Edits.{sets-eq}
use Rattle.expansion.specs.Inner.Lists.{no_rule}
use Rattle.expansion.proofs.Listing.{copied_more}
use Rattle.expansion.proofs.call.copy_out.Goals as goal

pub loop-i-preserved : goal.loop-i-preserved
loop-i-preserved c =
    let l = c.loop-i in
    let here : l.i < length c.args.list.rules = omega arith in
    (copied_more no_rule here l.invariant.0, copied_more no_rule here l.invariant.1, copied_more no_rule here l.invariant.2)

-- a part from a position on, stored at once
stored : (xs vs part : List ℕ) (at m : ℕ) → part ≡ vs → m ≡ length vs → at + length vs ≤ length xs
    → take at xs ++ (part ++ drop m (drop at xs)) ≡ sets xs at vs
stored xs vs part at m e l h = rw (e, l, drop-drop (length vs) at xs)
    (sym (sets-eq vs xs at h ∙ append_assoc (take at xs) vs (drop (at + length vs) xs)))

pub returns-clause-stairs : goal.returns-clause-stairs
returns-clause-stairs c =
    let a = c.args in
    let n = a.list.count in
    let all : n ≤ length a.list.stairs = omega arith in
    let long : length (take n a.list.stairs) ≡ n = length-take-le n a.list.stairs all in
    stored a.stairs.now (take n a.list.stairs) _ a.at (a.at + n - a.at) c.copy_from_slice.ensures.after (omega arith) (omega arith)
