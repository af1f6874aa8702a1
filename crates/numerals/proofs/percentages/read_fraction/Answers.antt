-- `percentages::read_fraction` meets its contract: one digit to `decimals`, times the worth of the last of them.
-- Assumes nothing.
use Rattle.std.specs.Prelude.{Some}
use Prim.Native.Nat.{◌-◌, ◌*◌, ◌^◌, ◌≤◌}
use native.Mathlib.Nat.{le_trans, le_of_eq, pow-le-pow_right, mul-le-mul}
use native.Mathlib.Omega.{arith}
use mathlib.Core.Path.{◌≡◌, sym, ap, ◌∙◌}
use lib.ListN.{length}
use lib.Seq.{slice, length-slice}
use Rattle.numerals.specs.Limits.{decimals}
use Rattle.numerals.specs.Digits.{on_value}
use Rattle.numerals.specs.Inner.Digits.{read_digits}
use Rattle.numerals.specs.Percentage.{fraction}
use Rattle.numerals.proofs.Slice.{slice-none}
use Rattle.numerals.proofs.Base.{read-limit}
use Rattle.numerals.proofs.Percent.{fraction-none, fraction-long, fraction-read}
use Rattle.numerals.proofs.percentages.read_fraction.Goals as goal
use Rattle.numerals.proofs.percentages.read_fraction.Goals.{After-read_digits}

pub returns-then-to-from : goal.returns-then-to-from
returns-then-to-from c =
    let a = c.args in
    sym (ap (fraction decimals) (slice-none a.from a.to a.s.now (omega arith)) ∙ fraction-none decimals)

pub returns-then-to-from-gt-DECIMALS : goal.returns-then-to-from-gt-DECIMALS
returns-then-to-from-gt-DECIMALS c =
    let a = c.args in
    sym (fraction-long decimals _ (omega (arith, length-slice a.from a.to a.s.now c.requires)))

whole :
    (c : After-read_digits)
    → let a = c.args in
    fraction decimals (slice a.from a.to a.s.now) ≡ on_value c.read_digits.result (λ v. Some (v * 10 ^ (decimals - (a.to - a.from))))
whole c =
    let a = c.args in
    let part = slice a.from a.to a.s.now in
    let l : length part ≡ a.to - a.from = length-slice _ _ _ c.requires in
    fraction-read decimals part (omega arith) (omega arith)
    ∙ ap (λ k. on_value (read_digits 10 (10 ^ decimals - 1) part) (λ v. Some (v * 10 ^ (decimals - k)))) l
    ∙ ap (λ r. on_value r (λ v. Some (v * 10 ^ (decimals - (a.to - a.from))))) (sym c.read_digits.ensures)

pub returns-in_err-v : goal.returns-in_err-v
unfolding on_value
returns-in_err-v c = sym (whole (goal.at.returns-in_err-v c).After-read_digits ∙ rw (c.in_err-v.was, c.from_residual.ensures))

pub overflow_mul-result : goal.overflow_mul-result
overflow_mul-result c =
    let a = c.args in
    let v : c.in_ok-v.v
    ≤ (10 ^ decimals - 1) = read-limit 10 (10 ^ decimals - 1) _ (slice a.from a.to a.s.now)
    (sym c.read_digits.ensures ∙ c.in_ok-v.was) in
    let w : c.worth.result ≤ 10 ^ decimals = le_trans (le_of_eq c.worth.ensures) (pow-le-pow_right {n = 10} (omega arith) {j = decimals} (omega arith)) in
    omega (arith, mul-le-mul v w)

pub returns : goal.returns
unfolding on_value
returns c = sym (whole (goal.at.returns c).After-read_digits ∙ rw (c.in_ok-v.was, c.worth.ensures))
