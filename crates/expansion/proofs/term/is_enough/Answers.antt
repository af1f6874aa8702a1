-- `term::is_enough`: up to the larger of the two errors, a larger term doesn't gain less.
use Prim.Native.Nat.{◌≤◌}
use mathlib.Core.Bool.{true}
use mathlib.Core.Logic.{inl, inr}
use mathlib.Core.Path.{◌≡◌, sym, ap, ◌∙◌}
use lib.IntN.{ℤ, pos}
use lib.Signed.{le_z}
use mir.Facts.{to_z-of_z}
use borrow.Author.Tests.{leb-true}
use Rattle.expansion.specs.Inner.Ledger.{over}
use Rattle.expansion.proofs.Reduction.{reduction-enough}
use Rattle.expansion.proofs.term.is_enough.Goals as goal

-- a test of two numbers that are not below zero
below : (a b : ℤ) → a ≡ pos (over a) → b ≡ pos (over b) → le_z a b ≡ true → over a ≤ over b
below a b p q e =
    leb-true (over a) (over b) (sym (ap (λ (x : ℤ). le_z x b) p ∙ ap (le_z (pos (over a))) q) ∙ e)

pub returns-then-t-u : goal.returns-then-t-u
returns-then-t-u c t s l =
    let a = c.args in
    reduction-enough (over a.u) (over a.o) s (over a.t)
    (inl (below a.t a.u c.requires.1.1 c.requires.0 (rw (to_z-of_z c.ranges.t, to_z-of_z c.ranges.u) at t))) l

pub returns-else-t-u : goal.returns-else-t-u
returns-else-t-u c t s l =
    let a = c.args in
    reduction-enough (over a.u) (over a.o) s (over a.t)
    (inr (below a.t a.o c.requires.1.1 c.requires.1.0 (rw (to_z-of_z c.ranges.t, to_z-of_z c.ranges.o) at t))) l
