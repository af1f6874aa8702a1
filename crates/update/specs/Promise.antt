-- What Req 03 and 05 of document 02 ask of an answer, in their words.
use Rattle.std.specs.Prelude.{ℕ, ◌≤◌, ◌<◌, ◌≡◌, List, ◌≢◌, length, take, Err, Ok, Result}
use Rattle.numerals.specs.Refusals.{no7, no13}
use Rattle.numerals.specs.declared.refusal.Refusal.{Refusal}
use Rattle.expansion.specs.FirstMatch.{churn}
use Rattle.expansion.specs.Imbalance.{Targets}
use Rattle.expansion.specs.Steps.{end_of}
use Rattle.expansion.specs.OldList.{rules_from, numbers_of}
use Rattle.expansion.specs.Known.{targets_known}
use Rattle.expansion.specs.Resume.{frame_kept, list_kept, check_old}
use Rattle.expansion.specs.declared.rule.Rule.{Rule}
use Rattle.expansion.specs.declared.rule.Ended.TheVariants.{Within}
use Rattle.update.specs.declared.answer.Update as update
use Rattle.update.specs.declared.answer.Update.{Update}

-- r is from 1 to all and ends within tolerance, and this is the list that it comes to
pub record Ends (T : Targets) (tolerance : ℕ) (old : List Rule) (r : ℕ) (new : List Rule) : Type 0 where
  pub some : 1 ≤ r
  pub inside : r ≤ length old
  pub list : new ≡ list_kept T tolerance old r
  pub within : end_of (frame_kept T tolerance old r) new ≡ Within

-- least disturbance: r ends within; every other r that ends within has at least its churn, and at equal churn is smaller
pub record Least (T : Targets) (tolerance : ℕ) (old : List Rule) (r : ℕ) (new : List Rule) : Type 0 where
  pub ends : Ends T tolerance old r new
  pub lowest : (s : ℕ) (other : List Rule) → Ends T tolerance old s other → churn T.k old new ≤ churn T.k old other
  pub largest : (s : ℕ) (other : List Rule) → Ends T tolerance old s other → churn T.k old other ≡ churn T.k old new → s ≤ r

-- an update that was made, with its list: that r, a list of no more rules than the old one, and its churn, counted over all suffixes
pub record Kept (T : Targets) (tolerance : ℕ) (old new : List Rule) (u : update.Update) : Type 0 where
  pub least : Least T tolerance old u.kept new
  pub depth : u.k ≡ T.k
  pub rules : u.rules ≡ length new
  pub few : length new ≤ length old
  pub counted : u.churn ≡ churn T.k old new

-- stuck: no r ends within
pub record Stuck (T : Targets) (tolerance : ℕ) (old : List Rule) : Type 0 where
  pub none : (r : ℕ) → 1 ≤ r → r ≤ length old → end_of (frame_kept T tolerance old r) (list_kept T tolerance old r) ≢ Within

-- The answer r keeps to it, `numbers` being the lent buffer afterwards. Where the checks passed, and only there: what was made is such an update, its list at
-- the buffer's start; 13 is answered if and only if no r ends within; 7 only where the list of that r doesn't fit; and nothing else.
pub record Promised (T : Targets) (tolerance : ℕ) (old : List Rule) (passed : Type 0) (r : Result Update Refusal) (numbers : List ℕ) : Type 0 where
  pub made :
      (u : update.Update) → r ≡ Ok u
      → passed × ((new : List Rule) × Kept T tolerance old new u × (take (length (numbers_of new)) numbers ≡ numbers_of new))
  pub stuck : r ≡ Err no13 → passed × Stuck T tolerance old
  pub only : passed → Stuck T tolerance old → r ≡ Err no13
  pub short :
      r ≡ Err no7
      → passed × ((kept : ℕ) × (new : List Rule) × Least T tolerance old kept new × (length numbers < length (numbers_of new)))
  pub other : passed → (why : Refusal) → r ≡ Err why → why ≢ no13 → why ≡ no7

-- of the call without a text
abbrev pub PromisedFor : ℕ → ℕ → List ℕ → List ℕ → List ℕ → Result Update Refusal → List ℕ → Type 0
PromisedFor k tolerance ids ws old r numbers =
    Promised (targets_known k (rules_from old) ids ws) tolerance (rules_from old) (check_old k tolerance old ids ws ≡ Ok tt) r numbers
