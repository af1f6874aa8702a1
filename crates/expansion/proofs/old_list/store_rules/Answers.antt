-- `old_list::store_rules` meets its contract. The loop's invariant: the stores of all rules are those of the n - i that are left.
use Prim.Native.Nat.{suc, ◌+◌, ◌-◌, ◌*◌}
use mathlib.Core.Path.{◌≡◌, sym, ◌∙◌}
use native.Mathlib.Omega.{arith}
use Rattle.expansion.specs.OldList.{numbers_of}
use Rattle.expansion.specs.Inner.Lists.{newest_first}
use Rattle.expansion.proofs.OldNumbers.{sets-rule}
use Rattle.expansion.proofs.old_list.store_rules.Goals as goal

pub loop-i-init : goal.loop-i-init
loop-i-init c =
    let n = c.args.list.count in
    let all : n - 0 ≡ n = omega arith in
    rw all

pub loop-i-preserved : goal.loop-i-preserved
loop-i-preserved c =
    let l = c.loop-i in
    let t = c.args.list in
    let here : t.count - l.i ≡ suc (t.count - 1 - l.i) = omega arith in
    let next : t.count - (l.i + 1) ≡ t.count - 1 - l.i = omega arith in
    let at : 3 * (l.i + 1) ≡ 3 * l.i + 3 = omega arith in
    rw (next, at) (rw here at l.invariant ∙ sets-rule t.rules (t.count - 1 - l.i) (3 * l.i) l.out)

pub returns : goal.returns
unfolding newest_first numbers_of
returns c =
    let l = c.loop-i in
    let t = c.args.list in
    let none : t.count - l.i ≡ 0 = omega arith in
    sym (rw none at l.invariant)
