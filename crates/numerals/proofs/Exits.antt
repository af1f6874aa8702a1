-- What the exit of a `?` hands on.
use mathlib.Core.Path.{◌≡◌, refl, ap, ◌∙◌}
use Prim.Native.Nat.{ℕ}
use native.Mathlib.Omega.{arith}
use Rattle.std.specs.Prelude.{Option, Some, None, Result, Ok, Err, IsErrAnd, IsErr, MatchResult, ok_or}
use Rattle.std.proofs.lemmas.Result.{err_from_is_err_and}

-- the error that was met, where it needs no conversion
pub handed_on : {T E : Type 0} (r : Result T E) (e : E) → IsErr r × IsErrAnd r (λ y. y ≡ e) → r ≡ Err e
handed_on r e h = let p = err_from_is_err_and r h.1 in p.1 ∙ ap Err p.2

-- an `ok_or` that gave a value had it, and one that gave an error had none and gave the error that it was handed
pub had : {T E : Type 0} {r : Result T E} {x : T} (o : Option T) (e : E) → r ≡ ok_or o e → r ≡ Ok x → o ≡ Some x
had None e h g = cc
had (Some y) e h g = cc

pub had_none : {T E : Type 0} {r : Result T E} {d : E} (o : Option T) (e : E) → r ≡ ok_or o e → r ≡ Err d → (o ≡ None) × (d ≡ e)
had_none None e h g = (refl, cc)
had_none (Some y) e h g = (cc, cc)

-- what a `map_err` was handed: the same value, or an error that it turned into the one that it gave
module _ {T E D : Type 0} (Q : E → D → Type 0) {r : Result T D} where
  pub had_ok : {x : T} (s : Result T E) → MatchResult s (λ y. r ≡ Ok y) (λ e. IsErrAnd r (Q e)) → r ≡ Ok x → s ≡ Ok x
  had_ok (Ok y) h g = cc
  had_ok (Err e) h g = absurd (rw g at h)

  pub had_err : {d : D} (s : Result T E) → MatchResult s (λ y. r ≡ Ok y) (λ e. IsErrAnd r (Q e)) → r ≡ Err d → (e : E) × (s ≡ Err e) × Q e d
  had_err (Ok y) h g = absurd (let z : ◌≡◌ {A = ℕ} 0 1 = cc in omega arith)
  had_err (Err e) h g = (e, refl, rw g at h)

-- answers of one case have one value, and no answer is of two cases
pub same_ok : {T E : Type 0} {x y : T} → ◌≡◌ {A = Result T E} (Ok x) (Ok y) → x ≡ y
same_ok h = cc

pub same_err : {T E : Type 0} {d e : E} → ◌≡◌ {A = Result T E} (Err d) (Err e) → d ≡ e
same_err h = cc

pub not_both : {T E P : Type 0} {x : T} {e : E} → ◌≡◌ {A = Result T E} (Ok x) (Err e) → P
not_both h = absurd (let z : ◌≡◌ {A = ℕ} 0 1 = cc in omega arith)
