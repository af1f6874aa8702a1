-- `term::reduction`: twice a difference of naturals, or 0 where that is below zero.
use Prim.Native.Nat.{ℕ, zero, suc, ◌+◌, ◌-◌, ◌*◌, ◌^◌, ◌≤◌, ◌<◌, min}
use mathlib.Core.Path.{◌≡◌, ap, refl, ◌∙◌}
use native.Mathlib.Omega.{arith}
use lib.IntN.{ℤ, pos, negsuc, sub_ℕ, ◌+ℤ◌, ◌-ℤ◌, ◌*ℤ◌}
use lib.Signed.{mag}
use mir.Syntax.{w64}
use mir.Facts.{to_z-of_z}
use mir.Val.{to_z, of_z}
use borrow.Author.Tests.{lt-ltb}
use Rattle.std.specs.Int.{int_min, int_max}
use Rattle.std.proofs.lemmas.Bool.Decides.{nat_tests}
use Rattle.expansion.specs.Steps.{reduction}
use Rattle.expansion.specs.Inner.Ledger.{over}
use Rattle.expansion.proofs.Signed.{over-mag, pos-less, mag-sub, mag-sides, over-sub, under-sub, over-twice, under_twice, back}
use Rattle.expansion.proofs.term.reduction.Goals as goal
use Rattle.expansion.proofs.term.reduction.Goals.{After-min-2}

-- the smaller of two naturals, and a number or 0 where it is below
least : (m n : ℕ) → int_min (pos m) (pos n) ≡ pos (min m n)
least m n = grind (arith, nat_tests)

most : (z : ℤ) → int_max z (pos 0) ≡ pos (over z)
most (pos zero) = refl
most (pos (suc n)) = simp (lt-ltb 0 (suc n) (omega arith))
most (negsuc n) = refl

-- the steps of the code, as the machine has them
abbrev sum : ℤ → ℤ → ℤ
sum x y = to_z w64 (of_z w64 x) +ℤ to_z w64 (of_z w64 y)

abbrev rest : ℤ → ℤ → ℤ → ℤ
rest x y t = to_z w64 (of_z w64 (sum x y)) -ℤ to_z w64 (of_z w64 t)

abbrev twice : ℤ → ℤ → ℤ → ℤ
twice x y t = pos 2 *ℤ to_z w64 (of_z w64 (rest x y t))

module _ (x y z : ℤ) (a b n : ℕ) (p : x ≡ pos a) (q : y ≡ pos b) (r : z ≡ pos n) (h : a ≤ n) (l : b ≤ n) (m : n < 2 ^ 50) where
  sum_is : sum x y ≡ pos (a + b)
  sum_is = rw (p, q, back (pos a) (omega arith), back (pos b) (omega arith))

  rest-is : rest x y z ≡ sub_ℕ (a + b) n
  rest-is = rw (sum_is, r, back (pos (a + b)) (omega arith), back (pos n) (omega arith)) (pos-less (a + b) n)

  twice-is : twice x y z ≡ pos 2 *ℤ sub_ℕ (a + b) n
  twice-is = rw (rest-is, back (sub_ℕ (a + b) n) (omega (arith, mag-sub (a + b) n)))

  twice-few : mag (twice x y z) < 2 ^ 60
  twice-few =
      rw twice-is
      (omega (
        arith,
        mag-sides (pos 2 *ℤ sub_ℕ (a + b) n),
        over-twice (sub_ℕ (a + b) n),
        under_twice (sub_ℕ (a + b) n),
        over-sub (a + b) n,
        under-sub (a + b) n,
      ))

  twice-over : over (twice x y z) ≡ 2 * (a + b - n)
  twice-over = rw twice-is (omega (arith, over-twice (sub_ℕ (a + b) n), over-sub (a + b) n))

-- the two smaller numbers and the term, as naturals
module _ (c : After-min-2) where
  abbrev u : ℕ
  u = over c.args.u

  abbrev o : ℕ
  o = over c.args.o

  abbrev t : ℕ
  t = over c.args.t

  few : t < 2 ^ 50
  few = omega (arith, over-mag c.args.t, c.requires.small.small)

  u-is : c.min.result ≡ pos (min u t)
  u-is = c.min.ensures.value ∙ rw (to_z-of_z c.ranges.u, to_z-of_z c.ranges.t, c.requires.u_value.0, c.requires.u_value.1.1) (least u t)

  o_is : c.min-2.result ≡ pos (min o t)
  o_is = c.min-2.ensures.value ∙ rw (to_z-of_z c.ranges.o, to_z-of_z c.ranges.t, c.requires.u_value.1.0, c.requires.u_value.1.1) (least o t)

  abbrev x : ℤ
  x = c.min.result

  abbrev y : ℤ
  y = c.min-2.result

  abbrev z : ℤ
  z = c.args.t

  sum-here : sum x y ≡ pos (min u t + min o t)
  sum-here = sum_is x y z (min u t) (min o t) t u-is o_is c.requires.u_value.1.1 (omega arith) (omega arith) few

  rest-here : rest x y z ≡ sub_ℕ (min u t + min o t) t
  rest-here = rest-is x y z (min u t) (min o t) t u-is o_is c.requires.u_value.1.1 (omega arith) (omega arith) few

  is-few : mag (twice x y z) < 2 ^ 60
  is-few = twice-few x y z (min u t) (min o t) t u-is o_is c.requires.u_value.1.1 (omega arith) (omega arith) few

  is-over : over (twice x y z) ≡ reduction u o t
  unfolding reduction
  is-over = twice-over x y z (min u t) (min o t) t u-is o_is c.requires.u_value.1.1 (omega arith) (omega arith) few

  read : to_z w64 (of_z w64 (twice x y z)) ≡ twice x y z
  read = back (twice x y z) (omega (arith, is-few))

pub overflow_mul-twice : goal.overflow_mul-twice
overflow_mul-twice c = record { sfits = omega (arith, is-few c) }

pub returns : goal.returns
returns c =
    let d = (goal.at.returns c).After-min-2 in
    back c.max.result c.max.type_inv ∙ c.max.ensures.value ∙ ap (λ (w : ℤ). int_max w (pos 0)) (read d) ∙ most (twice (x d) (y d) (z d))
    ∙ ap pos (is-over d)
