-- Churn by tree places: as many places differ in their holders as suffixes in their backends.
use Prim.Native.Nat.{ℕ, ◌^◌, ◌<◌}
use mathlib.Core.Bool.{not}
use mathlib.Core.List.{List}
use mathlib.Core.Path.{◌≡◌, ap, ap₂, sym, ◌∙◌}
use native.Mathlib.Omega.{arith}
use lib.Dec.{eqb}
use lib.ListN.{length, get_or}
use borrow.Author.Tests.{eqb-true}
use Rattle.numerals.specs.Suffix.{place}
use Rattle.numerals.specs.Sums.{count_to}
use Rattle.numerals.proofs.PlaceSums.{count-places}
use Rattle.numerals.proofs.Sums.{count-ext}
use Rattle.expansion.specs.FirstMatch.{nobody, first_match, gives, differing, churn}
use Rattle.expansion.specs.Imbalance.{backends, label}
use Rattle.expansion.specs.Inner.Holders.{Holds}
use Rattle.expansion.specs.Inner.Laying.{Held}
use Rattle.expansion.specs.Inner.Run.{labelled_by, Valid}
use Rattle.expansion.specs.declared.rule.Rule.{Rule}
use Rattle.expansion.proofs.LaidRules.{same-label}

-- the holders after the old list and after the new one
pub unlike-churn : (k tolerance : ℕ) (labels ws : List ℕ) → Valid k tolerance labels ws
    → (old new : List Rule) (before had after low : List ℕ) → Held k labels old before had → Holds (labelled_by k labels ws) new after low
    → count_to (2 ^ k) (λ p. not (eqb (get_or before p 0) (get_or after p 0))) ≡ churn k old new
unfolding churn differing gives label backends
unlike-churn k tolerance labels ws valid old new before had after low H A =
    count-ext (2 ^ k) (λ p. not (eqb (get_or before p 0) (get_or after p 0))) (λ p. not (eqb (first_match old (place k p)) (first_match new (place k p)))) at
    ∙ count-places k (λ s. not (eqb (first_match old s) (first_match new s)))
  where
    at : (p : ℕ) → p < 2 ^ k → not (eqb (get_or before p 0) (get_or after p 0)) ≡ not (eqb (first_match old (place k p)) (first_match new (place k p)))
    at p l =
        ap not
        (sym (same-label labels (length ws) valid.distinct (get_or before p 0) (get_or after p 0) (omega (arith, H.known p l, valid.labelled)) (A.known p l))
        ∙ sym (ap₂ eqb (H.holders p l) (eqb-true (first_match new (place k p)) (get_or labels (get_or after p 0) nobody) (A.holders p l))))
