-- A run of stores, taken from its end.
use Prim.Native.Nat.{ℕ, suc, ◌+◌}
use native.Mathlib.Nat.{add-zero, add-suc, suc-add}
use native.Mathlib.Omega.{arith}
use mathlib.Core.Path.{◌≡◌, sym, ap, ◌∙◌}
use mathlib.Core.List.{List, [], ◌∷◌, ◌++◌}
use lib.ListN.{length, set}
use lib.Seq.{sets, set_comm}

-- the last store of a run comes first
pub sets-snoc : (l : List ℕ) (i : ℕ) (vs : List ℕ) (a : ℕ) → sets l i (vs ++ (a ∷ [])) ≡ sets (set l (i + length vs) a) i vs
sets-snoc l i [] a = ap (λ (k : ℕ). set l k a) (sym (add-zero i))
sets-snoc l i (v ∷ vs) a =
    sets-snoc (set l i v) (suc i) vs a
    ∙ ap (λ (r : List ℕ). sets r (suc i) vs)
    (set_comm l i (suc i + length vs) v a (λ e. omega arith)
    ∙ ap (λ (k : ℕ). set (set l k a) i v) (suc-add i (length vs) ∙ sym (add-suc i (length vs))))
