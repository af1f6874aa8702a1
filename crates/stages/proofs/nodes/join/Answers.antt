-- `nodes::join` meets its contract.
use Prim.Native.Nat.{ℕ, ◌+◌}
use mathlib.Core.Bool.{Bool, true, false}
use mathlib.Core.Path.{◌≡◌, refl, ap, sym}
use lib.Dec.{eqb}
use Rattle.std.specs.Prelude.{◌≢◌}
use borrow.Author.Tests.{eq-eqb, ne_eqb}
use Rattle.numerals.specs.Pick.{pick}
use Rattle.numerals.proofs.Searches.{true-both}
use Rattle.stages.specs.Inner.Nodes.{joined}
use Rattle.stages.proofs.nodes.join.Goals as goal
use Rattle.stages.proofs.nodes.join.Goals.{else-same-via-then-same+else-a-b-eq2, else-same-via-else-same}

one : (a b : ℕ) (s : Bool) → s ≡ true → a + b ≡ 2 → 1 ≡ joined a b s
one a b s p q = sym (ap (λ (x : Bool). pick x 1 (a + b)) (true-both s (eqb (a + b) 2) p (eq-eqb _ _ q)))

more : (a b : ℕ) (s : Bool) → a + b ≢ 2 → a + b ≡ joined a b s
more a b true e = sym (ap (λ (x : Bool). pick x 1 (a + b)) (ne_eqb _ _ e))
more a b false e = refl

other : (a b : ℕ) (s : Bool) → s ≡ false → a + b ≡ joined a b s
other a b s e = sym (ap (joined a b) e)

pub returns-then-a-b-eq2 : goal.returns-then-a-b-eq2
returns-then-a-b-eq2 c = let a = c.args in one a.a a.b a.same c.if-same.true c.if-a-b-eq2.true

pub returns-else-same : goal.returns-else-same
returns-else-same c =
    let a = c.args in
    elim c.else-same.branch [
      | else-same-via-then-same+else-a-b-eq2 w ↦ more a.a a.b a.same w.if-a-b-eq2.false
      | else-same-via-else-same w ↦ other a.a a.b
          a.same w.if-same.false
    ]
