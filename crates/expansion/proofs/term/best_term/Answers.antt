-- `term::best_term`: of the terms passed, from the largest down, the index is the last place of the greatest gain.
use Prim.Native.Nat.{ℕ, ◌+◌, ◌-◌, ◌*◌, ◌^◌, ◌≤◌, ◌<◌}
use mathlib.Core.Bool.{Bool, true, false}
use mathlib.Core.Path.{◌≡◌, refl, sym, ap, ◌∙◌}
use native.Mathlib.Nat.{mul-le-mul_right, le_of_lt}
use native.Mathlib.Omega.{arith}
use lib.Dec.{leb, lit≤}
use lib.IntN.{ℤ, pos, ◌+ℤ◌}
use lib.Pow.{pow_mono}
use lib.Signed.{le_z}
use mir.Facts.{to_z-of_z}
use mir.Syntax.{w64}
use mir.Val.{to_z, of_z}
use borrow.Author.Tests.{leb-true, leb-false}
use Rattle.numerals.specs.Limits.{unit}
use Rattle.expansion.specs.Steps.{reduction}
use Rattle.expansion.specs.Inner.Ledger.{over}
use Rattle.expansion.specs.Inner.Terms.{Best}
use Rattle.numerals.proofs.Powers.{pow-few}
use Rattle.expansion.proofs.Reduction.{reduction-term}
use Rattle.numerals.proofs.Searches.{Led, led-higher, led-kept, led-end}
use Rattle.expansion.proofs.Signed.{back, parts-few, term-read}
use Rattle.expansion.proofs.term.best_term.Goals as goal
use Rattle.expansion.proofs.term.best_term.Invariants.{gain}
use Rattle.expansion.proofs.term.best_term.Goals.{After-reduction-r, Joined-least-r, Start, then-least-r, else-least-r}

-- the gain of each term, small, and what the search comes to
module _ (s : Start) where
  abbrev each : ℕ → ℕ
  each = gain (to_z w64 (of_z w64 s.args.u)) (to_z w64 (of_z w64 s.args.o))

  few : (j : ℕ) → j ≤ s.args.cap → each j ≤ 2 ^ 41
  few j l =
      omega (
        arith,
        reduction-term (over (to_z w64 (of_z w64 s.args.u))) (over (to_z w64 (of_z w64 s.args.o))) (2 ^ j * unit),
        parts-few (2 ^ j) unit (pow-few j (omega arith)) (omega arith),
      )

  ends : (left index : ℕ) (best : ℤ) → best ≡ pos (over best) → Led each s.args.cap left index (over best)
      → ((j : ℕ) → j < left → each j ≤ over best)
      → Best (over s.args.u) (over s.args.o) s.args.cap (record { index = index; reduction = best })
  ends left index best e L h =
      let p = led-end each s.args.cap left index (over best) L h in
      let b : Best (over (to_z w64 (of_z w64 s.args.u))) (over (to_z w64 (of_z w64 s.args.o))) s.args.cap
      (record { index = index; reduction = best }) =
      record { index = p.0; gain = e ∙ ap pos p.1 } in
      rw (to_z-of_z s.ranges.u, to_z-of_z s.ranges.o) at b

-- this turn's gain as the machine has it
module _ (c : After-reduction-r) where
  abbrev i : ℕ
  i = c.loop-i.i - 1

  abbrev now : ℤ
  now = to_z w64 c.loop-i.best-bits

  abbrev best : ℕ
  best = over now

  abbrev r : ℤ
  r = c.reduction-r.result

  led : Led (each (goal.at.After-reduction-r c).Start) c.args.cap c.loop-i.i c.loop-i.index best
  led = c.loop-i.invariant.0

  now-is : now ≡ pos best
  now-is = c.loop-i.invariant.1

  is-each : r ≡ pos (each (goal.at.After-reduction-r c).Start i)
  unfolding unit
  is-each =
      c.reduction-r.ensures
      ∙ ap (λ (v : ℤ). pos (reduction (over (to_z w64 (of_z w64 c.args.u))) (over (to_z w64 (of_z w64 c.args.o))) (over v)))
      (term-read i (omega arith))

  best-few : best < 2 ^ 50
  best-few = omega (arith, led.low, few (goal.at.After-reduction-r c).Start c.loop-i.index led.inside)

-- the test of a gain that is n above the best so far
module _ (c : After-reduction-r) (n : ℕ) where
  abbrev reaches : Bool
  reaches = le_z (to_z w64 (of_z w64 (now c +ℤ pos n))) (to_z w64 (of_z w64 (r c)))

  test : n ≤ 1 → reaches ≡ leb (best c + n) (each (goal.at.After-reduction-r c).Start (i c))
  test h =
      ap (λ (v : ℤ). le_z (to_z w64 (of_z w64 (v +ℤ pos n))) (to_z w64 (of_z w64 (r c)))) (now-is c)
      ∙ ap (λ (v : ℤ). le_z v (to_z w64 (of_z w64 (r c)))) (back (pos (best c + n)) (omega (arith, best-few c)))
      ∙ ap (le_z (pos (best c + n))) (back (r c) c.reduction-r.type_inv ∙ is-each c)

  reached : reaches ≡ true → n ≤ 1 → best c + n ≤ each (goal.at.After-reduction-r c).Start (i c)
  reached t h = leb-true (best c + n) (each (goal.at.After-reduction-r c).Start (i c)) (sym (test h) ∙ t)

  missed : reaches ≡ false → n ≤ 1 → each (goal.at.After-reduction-r c).Start (i c) < best c + n
  missed t h = leb-false (best c + n) (each (goal.at.After-reduction-r c).Start (i c)) (sym (test h) ∙ t)

pub overflow_add-least : goal.overflow_add-least
overflow_add-least c = rw (now-is c) (record { sfits = omega (arith, best-few c) })

module _ (c : Joined-least-r) where
  abbrev a : After-reduction-r
  a = (goal.at.Joined-least-r c).After-reduction-r

  abbrev left_best : ℤ
  left_best = to_z w64 c.if-least-r.best-bits

  led_on : Led (each (goal.at.Joined-least-r c).Start) c.args.cap (i a) c.if-least-r.index (over left_best) × (left_best ≡ pos (over left_best))
  led_on =
      let l = c.loop-i in
      let f = each (goal.at.Joined-least-r c).Start in
      let cap = c.args.cap in
      elim c.if-least-r.branch [
        | then-least-r w ↦
            let more = reached a _ w.if-least-r.true (lit≤ tt) in
            let e : left_best ≡ pos (each (goal.at.Joined-least-r c).Start (i a)) = w.best-is ∙ back (r a) c.reduction-r.type_inv ∙ is-each a in
            rw (w.index-is, e) (led-higher f cap l.i l.index (best a) (led a) (i a) (omega arith) (omega arith) (omega (arith, more)), refl)
        | else-least-r w ↦
            let less = missed a _ w.if-least-r.false (lit≤ tt) in
            let e : left_best ≡ pos (best a) = w.best-is ∙ now-is a in
            rw (w.index-is, e) (led-kept f cap l.i l.index (best a) (led a) (i a) (omega arith) (omega (arith, less)), refl)
      ]

pub loop-i-preserved : goal.loop-i-preserved
loop-i-preserved c =
    let L = led_on (goal.at.loop-i-preserved c).Joined-least-r in
    (L.0, L.1)

pub returns-after-loop-i : goal.returns-after-loop-i
returns-after-loop-i c =
    let l = c.loop-i in
    ends (goal.at.returns-after-loop-i c).Start l.i l.index (to_z w64 l.best-bits) l.invariant.1 l.invariant.0 (λ j m. absurd (omega arith))

-- a term that is enough: none below it gains more
pub returns-then-is_enough : goal.returns-then-is_enough
unfolding unit
returns-then-is_enough c =
    let d : After-reduction-r = (goal.at.returns-then-is_enough c).After-reduction-r in
    let L = led_on (goal.at.returns-then-is_enough c).Joined-least-r in
    let t = term-read (i d) (omega arith) in
    let gains : ℤ → ℕ = λ v. reduction (over (to_z w64 (of_z w64 c.args.u))) (over (to_z w64 (of_z w64 c.args.o))) (over v) in
    ends (goal.at.returns-then-is_enough c).Start (i d) c.if-least-r.index (to_z w64 c.if-least-r.best-bits) L.1 L.0
    (λ j m.
    let less : 2 ^ j * unit ≤ 2 ^ i d * unit = mul-le-mul_right unit (pow_mono (le_of_lt m)) in
    omega (
      arith,
      c.is_enough.ensures c.if-is_enough.true (2 ^ j * unit) (omega (arith, ap over t)),
      ap gains t,
      L.0.passed (i d) (omega arith) (omega arith),
    ))
