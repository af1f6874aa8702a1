-- The answer of an update written out: the checks, 13 where no r ends within, 7 last. What follows where a list was made.
use Rattle.std.specs.Prelude.{Err, Ok, Result}
use Prim.Native.Nat.{ℕ, zero, suc, ◌<◌}
use mathlib.Core.Bool.{Bool, true, false}
use mathlib.Core.List.{List}
use mathlib.Core.Path.{◌≡◌, refl, ap, sym, ◌∙◌}
use native.Mathlib.Omega.{arith}
use lib.Dec.{leb, eqb}
use lib.ListN.{length}
use borrow.Author.Tests.{eq-eqb, ne_eqb}
use Rattle.numerals.specs.Pick.{pick}
use Rattle.numerals.specs.Refusals.{no7, no13}
use Rattle.numerals.specs.declared.refusal.Refusal.{Refusal}
use Rattle.expansion.specs.Imbalance.{Targets}
use Rattle.expansion.specs.Answer.{on_checked}
use Rattle.expansion.specs.Known.{targets_known}
use Rattle.expansion.specs.OldList.{rules_from, numbers_of}
use Rattle.expansion.specs.Resume.{kept_of, list_resumed, check_old, record_resumed, resume_of, resume_answer}
use Rattle.expansion.specs.declared.rule.Rule.{Rule}
use Rattle.expansion.specs.declared.resuming.Kept as told
use Rattle.numerals.proofs.Exits.{same_ok, not_both}
use Rattle.update.specs.Update.{of_resumed, update_answer}
use Rattle.update.specs.declared.answer.Update as update
use Rattle.update.specs.declared.answer.Update.{Update}

-- what is told of a list that was made
abbrev with_depth : ℕ → told.Kept → update.Update
with_depth k m = record { k = k; kept = m.kept; rules = m.rules; churn = m.churn }

abbrev pub record_updated : Targets → ℕ → List Rule → update.Update
record_updated T tolerance old = with_depth T.k (record_resumed T tolerance old)

unfoldable update_of : Targets → ℕ → List Rule → ℕ → Result Update Refusal
update_of T tolerance old room =
    pick (eqb (kept_of T tolerance old) 0) (Err no13)
    (pick (leb (length (numbers_of (list_resumed T tolerance old))) room) (Ok (record_updated T tolerance old)) (Err no7))

-- whatever the tests come to
by_tests : (k : ℕ) (m : told.Kept) (c : (Result (Unit {0}) Refusal)) (stuck fits : Bool)
    → of_resumed k (on_checked Err c (pick stuck (Err no13) (pick fits (Ok m) (Err no7))))
    ≡ on_checked Err c (pick stuck (Err no13) (pick fits (Ok (with_depth k m)) (Err no7)))
by_tests k m (Err why) stuck fits = refl
by_tests k m (Ok tt) true fits = refl
by_tests k m (Ok tt) false true = refl
by_tests k m (Ok tt) false false = refl

module _ (k tolerance : ℕ) (ids ws cs : List ℕ) (room : ℕ) where
  abbrev R : List Rule
  R = rules_from cs

  abbrev T : Targets
  T = targets_known k R ids ws

  abbrev new : List Rule
  new = list_resumed T tolerance R

  update-form : update_answer k tolerance ids ws cs room ≡ on_checked Err (check_old k tolerance cs ids ws) (update_of T tolerance R room)
  unfolding update_answer resume_answer resume_of update_of targets_known
  update-form =
      by_tests k (record_resumed T tolerance R) (check_old k tolerance cs ids ws) (eqb (kept_of T tolerance R) 0) (leb (length (numbers_of new)) room)

  passed_on_lem : check_old k tolerance cs ids ws ≡ Ok tt → update_answer k tolerance ids ws cs room ≡ update_of T tolerance R room
  passed_on_lem e = update-form ∙ ap (λ (c : (Result (Unit {0}) Refusal)). on_checked Err c (update_of T tolerance R room)) e

  pub update-failed : (why : Refusal) → check_old k tolerance cs ids ws ≡ Err why → update_answer k tolerance ids ws cs room ≡ Err why
  update-failed why e = update-form ∙ ap (λ (c : (Result (Unit {0}) Refusal)). on_checked Err c (update_of T tolerance R room)) e

  pub update-stuck : check_old k tolerance cs ids ws ≡ Ok tt → kept_of T tolerance R ≡ 0 → update_answer k tolerance ids ws cs room ≡ Err no13
  unfolding update_of
  update-stuck passed e = passed_on_lem passed ∙ simp (eq-eqb (kept_of T tolerance R) 0 e)

  pub update_found : check_old k tolerance cs ids ws ≡ Ok tt → 0 < kept_of T tolerance R
      → update_answer k tolerance ids ws cs room ≡ pick (leb (length (numbers_of new)) room) (Ok (record_updated T tolerance R)) (Err no7)
  unfolding update_of
  update_found passed l = passed_on_lem passed ∙ simp (ne_eqb (kept_of T tolerance R) 0 (λ e. omega arith))

  -- a list was made: the checks passed, and some r ends within
  pub record Making (u : update.Update) : Type 0 where
    pub passed : check_old k tolerance cs ids ws ≡ Ok tt
    pub some : 0 < kept_of T tolerance R
    pub is : u ≡ record_updated T tolerance R

  module _ (u : update.Update) (made : update_answer k tolerance ids ws cs room ≡ Ok u) where
    pub making : Making u
    making = by-checks (check_old k tolerance cs ids ws) refl
      where
        by-room : check_old k tolerance cs ids ws ≡ Ok tt → 0 < kept_of T tolerance R → (t : Bool) → leb (length (numbers_of new)) room ≡ t → Making u
        by-room p s true e =
            record {
              passed = p;
              some = s;
              is = same_ok (sym made ∙ update_found p s ∙ ap (λ (t : Bool). pick t (Ok (record_updated T tolerance R)) (Err no7)) e);
            }
        by-room p s false e =
            not_both (sym made ∙ update_found p s ∙ ap (λ (t : Bool). pick t (Ok (record_updated T tolerance R)) (Err no7)) e)

        by-kept : check_old k tolerance cs ids ws ≡ Ok tt → (n : ℕ) → kept_of T tolerance R ≡ n → Making u
        by-kept p zero e = not_both (sym made ∙ update-stuck p e)
        by-kept p (suc n) e = by-room p (omega arith) (leb (length (numbers_of new)) room) refl

        by-checks : (c : (Result (Unit {0}) Refusal)) → check_old k tolerance cs ids ws ≡ c → Making u
        by-checks (Ok tt) e = by-kept e (kept_of T tolerance R) refl
        by-checks (Err why) e = not_both (sym made ∙ update-failed why e)
