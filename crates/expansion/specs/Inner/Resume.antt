-- What the search for a number of kept rules has found.
use Rattle.std.specs.Prelude.{ℕ, ◌<◌, Bool, true, false, ◌≡◌, List, Option, None, Some, IfSome, MatchOption, ltb}
use Rattle.expansion.specs.Imbalance.{Targets}
use Rattle.expansion.specs.Steps.{Frame, is_within, list_of}
use Rattle.expansion.specs.FirstMatch.{churn}
use Rattle.expansion.specs.Resume.{list_kept, churn_kept, kept_of}
use Rattle.expansion.specs.Inner.Lists.{newest_first}
use Rattle.expansion.specs.declared.rule.Rule.{Rule}
use Rattle.expansion.specs.declared.resuming.Attempt.{Attempt}

-- an attempt is what its number of kept rules, from 1 on, comes to: the list and the churn
pub record Comes (T : Targets) (tolerance : ℕ) (old : List Rule) (a : Attempt) : Type 0 where
  pub some : 0 < a.kept
  pub rules : newest_first a.list.rules a.list.count ≡ list_kept T tolerance old a.kept
  pub moved : a.churn ≡ churn_kept T tolerance old a.kept

-- the number of kept rules of an attempt, or 0 where there is none
abbrev pub kept_in : Option Attempt → ℕ
kept_in None = 0
kept_in (Some a) = a.kept

-- the attempt that is answered; none where no number of kept rules ends within
pub record Found (T : Targets) (tolerance : ℕ) (old : List Rule) (best : Option Attempt) : Type 0 where
  pub kept : kept_in best ≡ kept_of T tolerance old
  pub comes : IfSome best (Comes T tolerance old)

-- the expansion from so many kept rules ended within: its number, its list and its churn from the old list
pub record Ended (F : Frame) (budget kept : ℕ) (old : List Rule) (a : Attempt) : Type 0 where
  pub within : is_within F (list_of F budget) ≡ true
  pub number : a.kept ≡ kept
  pub rules : newest_first a.list.rules a.list.count ≡ list_of F budget
  pub moved : a.churn ≡ churn F.targets.k old (list_of F budget)

-- the expansion from so many kept rules was tried: there is an attempt where it ends within
abbrev pub Tried : Frame → ℕ → ℕ → List Rule → Option Attempt → Type 0
Tried F budget kept old tried = MatchOption tried (is_within F (list_of F budget) ≡ false) (Ended F budget kept old)

-- whether an attempt with such a churn is better than the best of those that keep more: there is none of these or its churn is higher
abbrev pub is_lower : ℕ → Option Attempt → Bool
is_lower churn None = true
is_lower churn (Some best) = ltb churn best.churn
