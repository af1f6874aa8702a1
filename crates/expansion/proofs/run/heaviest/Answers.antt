-- `run::heaviest` meets its contract. The loop's invariant: `best` is the place of the greatest of the first b weights.
use Prim.Native.Nat.{ℕ, ◌+◌, ◌≤◌, ◌<◌}
use mathlib.Core.Path.{◌≡◌, sym, ap, ◌∙◌}
use native.Mathlib.Numerals.{add-one}
use native.Mathlib.Omega.{arith}
use lib.ListN.{get_or}
use Rattle.numerals.specs.Sums.{argmax}
use Rattle.numerals.proofs.Searches.{argmax-one, argmax-higher, argmax-kept}
use Rattle.expansion.proofs.run.heaviest.Goals as goal
use Rattle.expansion.proofs.run.heaviest.Goals.{then-weights-best, else-weights-best}

pub loop-b-init : goal.loop-b-init
loop-b-init c = (omega arith, sym (argmax-one _))

-- one weight more
taken : (f : ℕ → ℕ) (best b : ℕ) → best ≡ argmax f b → f best < f b → b ≡ argmax f (b + 1)
taken f best b e l = rw add-one (sym (argmax-higher f b (omega (arith, ap f e))))

kept : (f : ℕ → ℕ) (best b : ℕ) → best ≡ argmax f b → f b ≤ f best → best ≡ argmax f (b + 1)
kept f best b e l = rw add-one (e ∙ sym (argmax-kept f b (omega (arith, ap f e))))

pub loop-b-preserved : goal.loop-b-preserved
loop-b-preserved c =
    let l = c.loop-b in
    let at : ℕ → ℕ = λ j. get_or c.args.service.now.weights.now j 0 in
    elim c.if-weights-best.branch [
      | then-weights-best w ↦ (omega arith, w.best-is ∙ taken at l.best l.b l.invariant.1 w.if-weights-best.true)
      | else-weights-best w ↦ (omega arith, w.best-is ∙ kept at l.best l.b l.invariant.1 w.if-weights-best.false)
    ]
