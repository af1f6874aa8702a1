-- `dyadic::put_decimals` meets its contract. The invariant: whoever writes the digits that are left has written all of them.
use Prim.Native.Nat.{◌+◌, ◌-◌, ◌*◌}
use mathlib.Core.Path.{◌≡◌, refl}
use native.Mathlib.Nat.{mod-lt}
use native.Mathlib.Omega.{arith}
use lib.ListN.{length-set}
use Rattle.numerals.specs.Limits.{most_bits}
use Rattle.numerals.proofs.Powers.{pow-few}
use Rattle.sheets.proofs.Writes.{chain, byte, nothing}
use Rattle.commands.proofs.Decimals.{Left, more-bits, half, half-some, next_small, next-decimal, decimals-none}
use Rattle.commands.proofs.dyadic.put_decimals.Goals as goal
use Rattle.commands.proofs.dyadic.put_decimals.Goals.{In-loop-left}

pub loop-left-init : goal.loop-left-init
loop-left-init c =
    let bits : c.args.at + most_bits - c.args.at ≡ most_bits = omega arith in
    (omega arith, omega arith, rw bits, omega arith, refl, λ last next w. rw bits at w)

left : (c : In-loop-left) → let l = c.loop-left in Left (c.args.at + most_bits - l.end) l.all l.left
left c = record { is = c.loop-left.invariant.2; some = omega arith; few = c.loop-left.invariant.3 }

pub overflow_mul-left : goal.overflow_mul-left
overflow_mul-left c =
    let l = c.loop-left in
    omega (arith, pow-few (c.args.at + most_bits - l.end) (omega arith))

pub nonzero_div-out : goal.nonzero_div-out
nonzero_div-out c = half-some (left c)

pub overflow_add-out : goal.overflow_add-out
overflow_add-out c = omega (arith, next_small (left c))

pub overflow_cast-out : goal.overflow_cast-out
overflow_cast-out c = omega (arith, next_small (left c))

pub bounds-out-end : goal.bounds-out-end
bounds-out-end c = omega (arith, more-bits (left c))

pub nonzero_rem-left : goal.nonzero_rem-left
nonzero_rem-left c = half-some (left c)

pub overflow_add-end : goal.overflow_add-end
overflow_add-end c = omega (arith, more-bits (left c))

pub loop-left-smaller : goal.loop-left-smaller
loop-left-smaller c = omega (arith, more-bits (left c))

pub loop-left-preserved : goal.loop-left-preserved
loop-left-preserved c =
    let a = c.args in
    let l = c.loop-left in
    let fewer : a.at + most_bits - (l.end + 1) ≡ a.at + most_bits - l.end - 1 = omega (arith, more-bits (left c)) in (
      omega arith,
      omega (arith, more-bits (left c)),
      rw fewer (half (left c)),
      mod-lt (l.left * 5) (half-some (left c)),
      simp length-set l.invariant.4,
      λ last next w. l.invariant.5 last next (rw (next-decimal (left c)) (chain (byte _ _ _) (rw fewer at w))),
    )

pub returns : goal.returns
returns c =
    let l = c.loop-left in
    let none : l.left ≡ 0 = omega arith in
    record {
      text = l.invariant.5 l.out l.end (rw (none, decimals-none) (nothing l.out l.end));
      end = l.invariant.1;
    }
