-- `tables::count_moved` meets its contract. The invariant: the suffixes below s that moved are counted.
use Prim.Native.Nat.{ℕ, ◌+◌}
use mathlib.Core.Path.{◌≡◌, sym, ap, ◌∙◌}
use mathlib.Core.Bool.{Bool, true, false, not}
use native.Mathlib.Numerals.{add-one}
use native.Mathlib.Omega.{arith}
use borrow.Author.Tests.{eq-eqb, ne_eqb}
use Rattle.numerals.specs.Sums.{count_to}
use Rattle.expansion.specs.FirstMatch.{differing}
use Rattle.numerals.proofs.Sums.{sum-none, count-suc, count-le}
use Rattle.sheets.specs.Calls.{moved}
use Rattle.sheets.proofs.tables.count_moved.Goals as goal
use Rattle.sheets.proofs.tables.count_moved.Goals.{then-first_backend, else-first_backend}
use Rattle.sheets.proofs.tables.count_moved.Invariants.{differs}

pub loop-s-init : goal.loop-s-init
unfolding count_to
loop-s-init c = sym (sum-none _)

-- one suffix more
one : (s : ℕ) (t : ℕ → Bool) → t s ≡ true → count_to (s + 1) t ≡ count_to s t + 1
one s t e = rw (add-one s) (count-suc s t ∙ rw e)

none : (s : ℕ) (t : ℕ → Bool) → t s ≡ false → count_to (s + 1) t ≡ count_to s t
none s t e = rw (add-one s) (count-suc s t ∙ rw e (omega arith))

pub overflow_add-moved : goal.overflow_add-moved
overflow_add-moved c =
    let a = c.args in
    let l = c.loop-s in
    omega (arith, l.invariant, count-le l.s (differs a.old.now a.new.now a.service))

pub loop-s-preserved : goal.loop-s-preserved
loop-s-preserved c =
    let l = c.loop-s in
    let old = c.first_backend.ensures in
    let new = c.first_backend-in-loop-s.ensures in
    elim c.if-first_backend.branch [
      | then-first_backend w ↦ w.moved-is ∙ ap (λ (n : ℕ). n + 1) l.invariant ∙ sym
          (one l.s _ (ap not (ne_eqb _ _ (λ e. w.if-first_backend.true (old ∙ e ∙ sym new)))))
      | else-first_backend w ↦ w.moved-is ∙ l.invariant ∙ sym
          (none l.s _ (ap not (eq-eqb _ _ (sym old ∙ w.if-first_backend.false ∙ new))))
    ]

pub returns : goal.returns
unfolding moved differing
returns c =
    let end : c.loop-s.s ≡ c.args.all = omega arith in
    c.loop-s.invariant ∙ rw end
