-- A lent buffer afterwards, by equal answers.
use Prim.Native.Nat.{ℕ}
use mathlib.Core.Bool.{Bool}
use mathlib.Core.Path.{◌≡◌, ap, ◌∙◌}
use mathlib.Core.List.{List}
use Rattle.numerals.specs.Buffer.{filled}
use Rattle.sheets.specs.Calls.{afterwards}

pub lent : {p q : Bool} {x : List ℕ} (out vs : List ℕ) → p ≡ q → x ≡ afterwards p out vs → x ≡ afterwards q out vs
lent out vs e g = g ∙ ap (λ (t : Bool). afterwards t out vs) e

pub lent-filled :
    {p q : Bool} {x : List ℕ} (out : List ℕ) (at : ℕ) (vs : List ℕ) → p ≡ q → x ≡ filled p out at vs → x ≡ filled q out at vs
lent-filled out at vs e g = g ∙ ap (λ (t : Bool). filled t out at vs) e
