-- What the call answers, by what its checks and its search found.
use Prim.Native.Nat.{ℕ, ◌*◌, ◌≤◌, ◌<◌}
use mathlib.Core.Bool.{Bool}
use mathlib.Core.List.{List}
use mathlib.Core.Path.{◌≡◌, ap, sym, ◌∙◌}
use native.Mathlib.Omega.{arith}
use lib.Dec.{leb}
use lib.ListN.{length}
use borrow.Author.Tests.{eq-eqb, ne_eqb, le-leb, lt-leb}
use Rattle.numerals.specs.Pick.{pick}
use Rattle.numerals.specs.declared.refusal.Refusal.{Refusal}
use Rattle.numerals.specs.declared.refusal.Refusal.TheVariants.{ShortLoan, Stuck}
use Rattle.std.specs.Prelude.{None, Some, Err, Ok, Result}
use Rattle.expansion.specs.Imbalance.{Targets}
use Rattle.expansion.specs.Answer.{on_checked}
use Rattle.expansion.specs.Known.{targets_known}
use Rattle.expansion.specs.OldList.{rules_from, numbers_of}
use Rattle.expansion.specs.Resume.{list_kept, churn_kept, kept_of, list_resumed, numbers_resumed, check_old, record_resumed, resume_of, resume_answer}
use Rattle.expansion.specs.Inner.Lists.{newest_first}
use Rattle.expansion.specs.Inner.Resume.{Found}
use Rattle.expansion.specs.declared.rule.Rule.{Rule}
use Rattle.expansion.specs.declared.resuming.Attempt.{Attempt}
use Rattle.expansion.proofs.Listing.{length-newest}
use Rattle.expansion.proofs.OldNumbers.{numbers-count}

module _ (k tolerance : ℕ) (ids ws cs : List ℕ) (room : ℕ) where
  abbrev R : List Rule
  R = rules_from cs

  abbrev T : Targets
  T = targets_known k R ids ws

  pub resume-refused : (why : Refusal) → check_old k tolerance cs ids ws ≡ Err why → resume_answer k tolerance ids ws cs room ≡ Err why
  unfolding resume_answer
  resume-refused why e = ap (λ (c : (Result (Unit {0}) Refusal)). on_checked Err c (resume_of T tolerance R room)) e

  passed_on_lem : check_old k tolerance cs ids ws ≡ Ok tt → resume_answer k tolerance ids ws cs room ≡ resume_of T tolerance R room
  unfolding resume_answer
  passed_on_lem e = ap (λ (c : (Result (Unit {0}) Refusal)). on_checked Err c (resume_of T tolerance R room)) e

  module _ (passed : check_old k tolerance cs ids ws ≡ Ok tt) where
    pub resume-stuck : Found T tolerance R None → resume_answer k tolerance ids ws cs room ≡ Err Stuck
    unfolding resume_of
    resume-stuck F =
        passed_on_lem passed
        ∙ simp (eq-eqb (kept_of T tolerance R) 0 (sym F.kept))

    module _ (best : Attempt) (F : Found T tolerance R (Some best)) where
      list-is : newest_first best.list.rules best.list.count ≡ list_resumed T tolerance R
      unfolding list_resumed
      list-is = F.comes.rules ∙ ap (λ (r : ℕ). list_kept T tolerance R r) F.kept

      pub numbers-are : numbers_of (newest_first best.list.rules best.list.count) ≡ numbers_resumed k tolerance ids ws cs
      unfolding numbers_resumed
      numbers-are = ap numbers_of list-is

      count-is : best.list.count ≡ length (list_resumed T tolerance R)
      count-is = sym (length-newest best.list.rules best.list.count) ∙ ap length list-is

      churn-is : best.churn ≡ churn_kept T tolerance R (kept_of T tolerance R)
      churn-is = F.comes.moved ∙ ap (churn_kept T tolerance R) F.kept

      size_is : length (numbers_of (list_resumed T tolerance R)) ≡ 3 * best.list.count
      size_is = omega (arith, numbers-count (list_resumed T tolerance R), count-is)

      found-one : resume_answer k tolerance ids ws cs room
          ≡ pick (leb (length (numbers_of (list_resumed T tolerance R))) room)
          (Ok (record_resumed T tolerance R)) (Err ShortLoan)
      unfolding resume_of
      found-one =
          passed_on_lem passed
          ∙ simp (ne_eqb (kept_of T tolerance R) 0 (λ e. omega (arith, F.kept, F.comes.some)))

      pub resume-short : room < 3 * best.list.count → resume_answer k tolerance ids ws cs room ≡ Err ShortLoan
      resume-short l = found-one ∙ simp (lt-leb (length (numbers_of (list_resumed T tolerance R))) room (omega (arith, size_is)))

      told : record { kept = best.kept; rules = best.list.count; churn = best.churn } ≡ record_resumed T tolerance R
      told = rw (churn-is, F.kept, count-is)

      pub resume-made : 3 * best.list.count ≤ room
          → resume_answer k tolerance ids ws cs room ≡ Ok (record { kept = best.kept; rules = best.list.count; churn = best.churn })
      resume-made l =
          found-one
          ∙ ap (λ (t : Bool). pick t (Ok (record_resumed T tolerance R)) (Err ShortLoan))
          (le-leb (length (numbers_of (list_resumed T tolerance R))) room (omega (arith, size_is)))
          ∙ ap Ok (sym told)
