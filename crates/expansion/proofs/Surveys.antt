-- Laws of the one walk over the ledger, which keeps the extremes of the backends passed.
use Prim.Native.Nat.{ℕ, ◌+◌, ◌<◌}
use mathlib.Core.Bool.{Bool, true, false}
use mathlib.Core.Path.{◌≡◌, refl, ap, sym, ◌∙◌, subst}
use native.Mathlib.Decide.{dec_lt}
use native.Mathlib.Numerals.{add-one}
use native.Mathlib.Omega.{arith}
use lib.IntN.{ℤ, pos}
use Rattle.numerals.specs.Sums.{argmax}
use Rattle.expansion.specs.Inner.Ledger.{over, side, Small, error_at, largest_of, Raised, Surveyed, Sized}
use Rattle.expansion.specs.Inner.Terms.{next_for, next_of}
use Rattle.expansion.specs.declared.ledger.Ledger.{Ledger}
use Rattle.expansion.specs.declared.ledger.Extreme.{Extreme}
use Rattle.expansion.specs.declared.ledger.Survey.{Survey}
use Rattle.numerals.proofs.Searches.{argmax-is, argmax-none, peak, peak-none, peak-is, peak-higher, peak-kept}
use Rattle.expansion.proofs.Signed.{side-mag}

-- the extreme of the first n values; its size is 0 where there is none
abbrev pub top : (ℕ → ℕ) → ℕ → Extreme
top f n = record { backend = argmax f n; size = pos (peak f n) }

pub top-none : (f : ℕ → ℕ) → top f 0 ≡ record { backend = 0; size = pos 0 }
top-none f = rw (argmax-none f, peak-none f)

module _ (f : ℕ → ℕ) (n : ℕ) where
  -- one value more
  pub top-raised : (best r : Extreme) (z : ℤ) → best ≡ top f n → z ≡ pos (f n) → Raised best n z r → r ≡ top f (n + 1)
  top-raised best r z e is h = go (dec_lt (peak f n) (f n))
    where
      size : over best.size ≡ peak f n
      size = ap (λ (x : Extreme). over x.size) e

      own : over z ≡ f n
      own = ap over is

      go : Dec (peak f n < f n) → r ≡ top f (n + 1)
      go (yes l) =
          let p = peak-higher f n l in
          h.higher (omega (arith, size, own)) ∙ rw (add-one n, p.0, p.1, is)
      go (no l) =
          let p = peak-kept f n (omega arith) in
          h.stays (omega (arith, size, own)) ∙ e ∙ rw (add-one n, p.0, p.1)

  pub top-zero : f n ≡ 0 → top f (n + 1) ≡ top f n
  top-zero z = let p = peak-kept f n (omega arith) in rw (add-one n, p.0, p.1)

module _ (L : Ledger) (n : ℕ) (below : Bool) where
  pub top-largest : 0 < n → top (λ i. side below (error_at L i)) n ≡ largest_of L n below
  unfolding largest_of
  top-largest h = rw (peak-is (λ i. side below (error_at L i)) n h)

  largest-sized : 0 < n → ((b : ℕ) → b < n → Small (error_at L b)) → Sized (largest_of L n below)
  unfolding largest_of
  largest-sized h small =
      let each : ℕ → ℕ = λ i. side below (error_at L i) in
      let b : ℕ = argmax each n in
      record {
        natural = refl;
        few = omega (arith, side-mag below (error_at L b), (small b (argmax-is each n h).inside).small);
      }

-- what a walk found
module _ (L : Ledger) (n : ℕ) (s : Survey) (S : Surveyed L n s) where
  pub surveyed-sized : 0 < n → ((b : ℕ) → b < n → Small (error_at L b)) → Sized s.give × Sized s.take
  surveyed-sized h small =
      (subst Sized (sym S.give) (largest-sized L n false h small), subst Sized (sym S.take) (largest-sized L n true h small))

  pub surveyed-next : (k tolerance cap : ℕ) → next_for s.give s.take k tolerance cap ≡ next_of L n k tolerance cap
  unfolding next_of
  surveyed-next k tolerance cap = rw (S.give, S.take)
