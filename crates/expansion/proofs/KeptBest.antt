-- The best number of kept rules, looked for from all of them down: of those that end within, the one with the lowest churn, the largest if equal.
use Prim.Native.Nat.{ℕ, ◌-◌, ◌≤◌, ◌<◌}
use mathlib.Core.Bool.{Bool, true, false}
use mathlib.Core.List.{List}
use mathlib.Core.Path.{◌≡◌, refl, ap, sym, ◌∙◌, subst}
use native.Mathlib.Omega.{arith}
use lib.ListN.{length}
use borrow.Author.Tests.{ltb-true, ltb-false}
use Rattle.std.specs.Option.{IfSome}
use Rattle.std.specs.Prelude.{Option, None, Some}
use Rattle.numerals.proofs.Searches.{clash}
use Rattle.expansion.specs.Imbalance.{Targets}
use Rattle.expansion.specs.Resume.{frame_from, frame_kept, list_kept, ends_within, churn_kept, kept_of}
use Rattle.expansion.specs.Inner.Resume.{Comes, Found, Ended, Tried, kept_in, is_lower}
use Rattle.expansion.specs.declared.rule.Rule.{Rule}
use Rattle.expansion.specs.declared.resuming.Attempt.{Attempt}
use Rattle.expansion.proofs.Lowest.{LowestAbove, lowest_start, lowest-free, lowest-passed-over, lowest-taken, lowest-kept, lowest-same}

-- the best of the numbers above `from`
pub record BestAbove (T : Targets) (tolerance : ℕ) (old : List Rule) (from : ℕ) (best : Option Attempt) : Type 0 where
  pub lowest : LowestAbove from (length old) (ends_within T tolerance old) (churn_kept T tolerance old) (kept_in best)
  pub comes : IfSome best (Comes T tolerance old)

module _ (T : Targets) (tolerance : ℕ) (old : List Rule) where
  abbrev ends : ℕ → Bool
  ends = ends_within T tolerance old

  abbrev cost : ℕ → ℕ
  cost = churn_kept T tolerance old

  -- none was tried
  pub best-start : BestAbove T tolerance old (length old) None
  best-start = record { lowest = lowest_start (length old) ends cost; comes = tt }

  -- one number less was tried
  module _ (c : ℕ) (some : 1 ≤ c) (inside : c ≤ length old) (best : Option Attempt) (B : BestAbove T tolerance old c best) where
    -- it doesn't end within
    pub best-passes : Tried (frame_kept T tolerance old c) (length old) c old None → BestAbove T tolerance old (c - 1) best
    unfolding ends_within list_kept
    best-passes e =
        record { lowest = lowest-passed-over (length old) ends cost c some inside (kept_in best) B.lowest e; comes = B.comes }

    module _ (tried : Attempt) (M : Ended (frame_kept T tolerance old c) (length old) c old tried) where
      came : Comes T tolerance old tried
      unfolding ends_within list_kept churn_kept frame_kept frame_from
      came =
          record {
            some = omega (arith, M.number);
            rules = M.rules ∙ ap (list_kept T tolerance old) (sym M.number);
            moved = M.moved ∙ ap cost (sym M.number);
          }

      -- its churn
      moved-is : tried.churn ≡ cost c
      moved-is = came.moved ∙ ap cost M.number

      ended : ends c ≡ true
      unfolding ends_within list_kept
      ended = M.within

      -- it is better: none above it costs as little
      pub best-taken : is_lower tried.churn best ≡ true → BestAbove T tolerance old (c - 1) (Some tried)
      best-taken b =
          record {
            lowest =
                subst (LowestAbove (c - 1) (length old) ends cost) (sym M.number)
                (lowest-taken (length old) ends cost c some inside (kept_in best) B.lowest ended (lower best B b));
            comes = came;
          }
        where
          lower : (best : Option Attempt) → BestAbove T tolerance old c best → is_lower tried.churn best ≡ true
              → 0 < kept_in best → cost c < cost (kept_in best)
          lower None B b s = absurd (omega arith)
          lower (Some a) B b s = omega (arith, ltb-true tried.churn a.churn b, moved-is, B.comes.moved)

      -- it isn't: one above it costs as little
      pub best-stays : is_lower tried.churn best ≡ false → BestAbove T tolerance old (c - 1) best
      best-stays b =
          let h = higher best B b in
          record { lowest = lowest-kept (length old) ends cost c some inside (kept_in best) B.lowest ended h.0 h.1; comes = B.comes }
        where
          higher : (best : Option Attempt) → BestAbove T tolerance old c best → is_lower tried.churn best ≡ false
              → (0 < kept_in best) × (cost (kept_in best) ≤ cost c)
          higher None B b = absurd (clash true refl b)
          higher (Some a) B b = (B.comes.some, omega (arith, ltb-false tried.churn a.churn b, moved-is, B.comes.moved))

  -- all were tried, or the best moves nothing
  module _ (from : ℕ) (best : Option Attempt) (B : BestAbove T tolerance old from best) where
    found : LowestAbove 0 (length old) ends cost (kept_in best) → Found T tolerance old best
    unfolding kept_of
    found L =
        record { kept = lowest-same (length old) ends cost (kept_in best) L; comes = B.comes }

    pub found_all : from ≡ 0 → Found T tolerance old best
    found_all z = found (subst (λ (f : ℕ). LowestAbove f (length old) ends cost (kept_in best)) z B.lowest)

  pub found-free : (from : ℕ) (best : Attempt) → BestAbove T tolerance old from (Some best) → best.churn ≡ 0 → Found T tolerance old (Some best)
  found-free from best B e =
      found from (Some best) B (lowest-free (length old) ends cost from best.kept B.lowest B.comes.some (sym B.comes.moved ∙ e))
