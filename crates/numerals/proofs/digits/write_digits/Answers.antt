-- `digits::write_digits` meets its contract. The loop's invariant: once the digits of what is left are written too, the buffer is what it is to be.
-- Assumes nothing.
use Prim.Native.Nat.{ℕ, suc, ◌+◌, ◌-◌, ◌≤◌, ◌%◌, ◌/◌, ◌<◌}
use native.Mathlib.Nat.{mod-lt, mod-eq_of_lt}
use native.Mathlib.Omega.{arith}
use mathlib.Core.Path.{◌≡◌, sym, ap, ◌∙◌}
use mathlib.Core.List.{List}
use lib.ListN.{set}
use lib.Seq.{sets}
use Rattle.numerals.specs.Digits.{lowest}
use Rattle.numerals.proofs.Base.{write-next}
use Rattle.numerals.proofs.digits.write_digits.Goals as goal

pub loop-i-init : goal.loop-i-init
loop-i-init c =
    let a = c.args in
    let whole : a.len ≡ a.at + a.len - a.at = omega arith in
    (omega arith, ap (λ (l : ℕ). sets a.out.now a.at (lowest a.base l a.n)) whole)

-- one store more: the digit is below 10, so that `% 10` leaves it as it is
turn :
    (base at i n : ℕ) (out : List ℕ)
    → 1 ≤ base
    → base ≤ 10
    → at < i
    → sets out at (lowest base (i - at) n) ≡ sets (set out (i - 1) (48 + n % base % 10)) at (lowest base (i - 1 - at) (n / base))
turn base at i n out one ten h =
    let next : i - at ≡ suc (i - 1 - at) = omega arith in
    let here : at + (i - 1 - at) ≡ i - 1 = omega arith in
    let small : n % base < 10 = omega (arith, mod-lt n one) in
    rw (next, write-next base (i - 1 - at) n out at, here, mod-eq_of_lt small)

pub loop-i-preserved : goal.loop-i-preserved
loop-i-preserved c =
    let a = c.args in
    let l = c.loop-i in
    (omega arith, l.invariant.1 ∙ turn a.base a.at l.i l.rest l.out (omega arith) (omega arith) (omega arith))

-- no digit is left
done : (l : ℕ) (out : List ℕ) (at : ℕ) → l ≡ 0 → (base n : ℕ) → sets out at (lowest base l n) ≡ out
unfolding lowest
done l out at h base n = rw h

pub returns : goal.returns
returns c =
    let a = c.args in
    let l = c.loop-i in
    let none : l.i - a.at ≡ 0 = omega arith in
    sym (l.invariant.1 ∙ done _ _ _ none _ _)
