-- What the requests ask of an answer follows from its definition: of the r that end within it has the lowest churn and is the largest at equal churn, and
-- where none does, no r does. Their words leave one r and one list.
use Rattle.std.specs.Prelude.{Err, Ok, Result}
use Prim.Native.Nat.{ℕ, zero, suc, ◌≤◌, ◌<◌}
use mathlib.Core.Bool.{Bool, true, false}
use mathlib.Core.List.{List}
use mathlib.Core.Path.{◌≡◌, refl, ap, sym, ◌∙◌, subst}
use native.Mathlib.Omega.{arith}
use lib.Dec.{leb}
use lib.ListN.{length, take}
use lib.Seq.{sets}
use borrow.Author.Tests.{leb-true, leb-false}
use Rattle.numerals.specs.Pick.{pick}
use Rattle.numerals.specs.Buffer.{filled}
use Rattle.numerals.specs.Refusals.{no7, no13}
use Rattle.numerals.specs.declared.refusal.Refusal.{Refusal}
use Rattle.expansion.specs.FirstMatch.{churn}
use Rattle.expansion.specs.Imbalance.{Targets}
use Rattle.expansion.specs.Steps.{end_of}
use Rattle.expansion.specs.Known.{targets_known}
use Rattle.expansion.specs.OldList.{rules_from, numbers_of}
use Rattle.expansion.specs.Resume.{frame_kept, list_kept, ends_within, churn_kept, kept_of, list_resumed, check_old, numbers_resumed}
use Rattle.expansion.specs.declared.rule.Rule.{Rule}
use Rattle.expansion.proofs.KeptLists.{ended-within, within-ended, ended-other, early, kept-few}
use Rattle.expansion.proofs.Lowest.{LowestAbove, lowest-found}
use Rattle.sheets.proofs.OneCall.{take-sets}
use Rattle.numerals.proofs.Exits.{same_ok, same_err, not_both}
use Rattle.update.specs.Update.{update_answer, is_made}
use Rattle.update.specs.Promise.{Ends, Least, Kept, Stuck, PromisedFor}
use Rattle.update.proofs.UpdateForm.{record_updated, update-failed, update-stuck, update_found}
use Rattle.update.specs.declared.answer.Update.{Update}

seven-thirteen : {P : Type 0} → no7 ≡ no13 → P
seven-thirteen e = absurd (let z : ◌≡◌ {A = ℕ} 0 1 = cc in omega arith)

module _ (k tolerance : ℕ) (ids ws cs out : List ℕ) where
  abbrev T : Targets
  T = targets_known k (rules_from cs) ids ws

  abbrev R : List Rule
  R = rules_from cs

  abbrev new : List Rule
  new = list_resumed T tolerance R

  abbrev kept : ℕ
  kept = kept_of T tolerance R

  abbrev L : LowestAbove 0 (length R) (ends_within T tolerance R) (churn_kept T tolerance R) kept
  unfolding kept_of
  L = lowest-found (length R) (ends_within T tolerance R) (churn_kept T tolerance R)

  -- the r that was found is one of those
  ends_found : 0 < kept → Ends T tolerance R kept new
  unfolding list_resumed ends_within
  ends_found l =
      record {
        some = l;
        inside = L.most;
        list = refl;
        within = ended-within (frame_kept T tolerance R kept) (list_kept T tolerance R kept) (L.passing l);
      }

  -- another that ends within
  ends-passes : (s : ℕ) (other : List Rule) → Ends T tolerance R s other → ends_within T tolerance R s ≡ true
  unfolding ends_within
  ends-passes s other E =
      within-ended (frame_kept T tolerance R s) (list_kept T tolerance R s) (ap (end_of (frame_kept T tolerance R s)) (sym E.list) ∙ E.within)

  churn-of : (s : ℕ) (other : List Rule) → Ends T tolerance R s other → churn k R other ≡ churn_kept T tolerance R s
  unfolding churn_kept targets_known
  churn-of s other E = ap (churn k R) E.list

  -- every other that does has at least its churn, and at equal churn is smaller
  least-found : 0 < kept → Least T tolerance R kept new
  unfolding targets_known
  least-found l =
      let E = ends_found l in
      let low : (s : ℕ) (other : List Rule) → Ends T tolerance R s other
      → (churn_kept T tolerance R kept ≤ churn_kept T tolerance R s) × (churn_kept T tolerance R s ≡ churn_kept T tolerance R kept → s ≤ kept) = λ s other F.
      L.least l s F.some F.inside (ends-passes s other F) in
      record {
        ends = E;
        lowest = λ s other F. omega (arith, (low s other F).0, churn-of s other F, churn-of kept new E);
        largest = λ s other F same. (low s other F).1 (sym (churn-of s other F) ∙ same ∙ churn-of kept new E);
      }

  -- where none was found no r is
  stuck-all : kept ≡ 0 → Stuck T tolerance R
  unfolding ends_within
  stuck-all e =
      record { none = λ r some inside. ended-other (frame_kept T tolerance R r) (list_kept T tolerance R r) (L.none e r some inside) }

  not_stuck : {P : Type 0} → 0 < kept → Stuck T tolerance R → P
  not_stuck l S =
      let E = ends_found l in
      absurd (S.none kept E.some E.inside (ap (end_of (frame_kept T tolerance R kept)) (sym E.list) ∙ E.within))

  kept-found : check_old k tolerance cs ids ws ≡ Ok tt → 0 < kept → Kept T tolerance R new (record_updated T tolerance R)
  unfolding list_resumed churn_kept
  kept-found passed l =
      let least = least-found l in
      record {
        least = least;
        depth = refl;
        rules = refl;
        few = kept-few k tolerance cs ids ws kept passed least.ends.some least.ends.inside;
        counted = refl;
      }

  module _ (r : (Result Update Refusal)) (out' : List ℕ) (answer : r ≡ update_answer k tolerance ids ws cs (length out))
      (buffer : out' ≡ filled (is_made r) out 0 (numbers_resumed k tolerance ids ws cs)) where
    at-found : check_old k tolerance cs ids ws ≡ Ok tt → 0 < kept
        → r ≡ pick (leb (length (numbers_of new)) (length out)) (Ok (record_updated T tolerance R)) (Err no7)
    at-found passed some = answer ∙ update_found k tolerance ids ws cs (length out) passed some

    when-refused : (why : Refusal) → check_old k tolerance cs ids ws ≡ Err why → PromisedFor k tolerance ids ws cs r out'
    when-refused why e =
        let is : r ≡ Err why = answer ∙ update-failed k tolerance ids ws cs (length out) why e in
        let late = early k tolerance cs ids ws why e in
        record {
          made = λ u q. not_both (sym q ∙ is);
          stuck = λ q. absurd (late.1 (same_err (sym is ∙ q)));
          only = λ passed S. absurd (let z : ◌≡◌ {A = ℕ} 0 1 = clash-checks (sym passed ∙ e) in omega arith);
          short = λ q. absurd (late.0 (same_err (sym is ∙ q)));
          other = λ passed w q d. absurd (let z : ◌≡◌ {A = ℕ} 0 1 = clash-checks (sym passed ∙ e) in omega arith);
        }
      where
        clash-checks : {w : Refusal} → ◌≡◌ {A = Result (Unit {0}) Refusal} (Ok tt) (Err w) → ◌≡◌ {A = ℕ} 0 1
        clash-checks q = cc

    when-stuck : check_old k tolerance cs ids ws ≡ Ok tt → kept ≡ 0 → PromisedFor k tolerance ids ws cs r out'
    when-stuck passed none =
        let is : r ≡ Err no13 = answer ∙ update-stuck k tolerance ids ws cs (length out) passed none in
        record {
          made = λ u q. not_both (sym q ∙ is);
          stuck = λ q. (passed, stuck-all none);
          only = λ p S. is;
          short = λ q. seven-thirteen (sym (same_err (sym is ∙ q)));
          other = λ p w q d. absurd (d (same_err (sym q ∙ is)));
        }

    when-short : check_old k tolerance cs ids ws ≡ Ok tt → 0 < kept → leb (length (numbers_of new)) (length out) ≡ false
        → PromisedFor k tolerance ids ws cs r out'
    when-short passed some no_room =
        let is : r ≡ Err no7 =
        at-found passed some ∙ ap (λ (t : Bool). pick t (Ok (record_updated T tolerance R)) (Err no7)) no_room in
        let same : out' ≡ out = buffer ∙ ap (λ (x : (Result Update Refusal)). filled (is_made x) out 0 (numbers_resumed k tolerance ids ws cs)) is in
        record {
          made = λ u q. not_both (sym q ∙ is);
          stuck = λ q. seven-thirteen (same_err (sym is ∙ q));
          only = λ p S. not_stuck some S;
          short = λ q.
              (passed, (kept, new, least-found some, omega (arith, ap length same, leb-false (length (numbers_of new)) (length out) no_room)));
          other = λ p w q d. same_err (sym q ∙ is);
        }

    when-made : check_old k tolerance cs ids ws ≡ Ok tt → 0 < kept → leb (length (numbers_of new)) (length out) ≡ true
        → PromisedFor k tolerance ids ws cs r out'
    unfolding numbers_resumed
    when-made passed some room =
        let is : r ≡ Ok (record_updated T tolerance R) =
        at-found passed some ∙ ap (λ (t : Bool). pick t (Ok (record_updated T tolerance R)) (Err no7)) room in
        let written : out' ≡ sets out 0 (numbers_of new) =
        buffer ∙ ap (λ (x : (Result Update Refusal)). filled (is_made x) out 0 (numbers_resumed k tolerance ids ws cs)) is in
        record {
          made = λ u q. (
            passed,
            (
              new,
              subst (Kept T tolerance R new) (same_ok (sym is ∙ q)) (kept-found passed some),
              ap (take (length (numbers_of new))) written ∙ take-sets out (numbers_of new) (leb-true (length (numbers_of new)) (length out) room),
            ),
          );
          stuck = λ q. not_both (sym is ∙ q);
          only = λ p S. not_stuck some S;
          short = λ q. not_both (sym is ∙ q);
          other = λ p w q d. not_both (sym is ∙ q);
        }

    pub promised : PromisedFor k tolerance ids ws cs r out'
    promised = by-checks (check_old k tolerance cs ids ws) refl
      where
        by-room : check_old k tolerance cs ids ws ≡ Ok tt → 0 < kept → (t : Bool) → leb (length (numbers_of new)) (length out) ≡ t
            → PromisedFor k tolerance ids ws cs r out'
        by-room passed some true e = when-made passed some e
        by-room passed some false e = when-short passed some e

        by-kept : check_old k tolerance cs ids ws ≡ Ok tt → (n : ℕ) → kept ≡ n → PromisedFor k tolerance ids ws cs r out'
        by-kept passed zero e = when-stuck passed e
        by-kept passed (suc n) e = by-room passed (omega arith) (leb (length (numbers_of new)) (length out)) refl

        by-checks : (c : (Result (Unit {0}) Refusal)) → check_old k tolerance cs ids ws ≡ c → PromisedFor k tolerance ids ws cs r out'
        by-checks (Ok tt) e = by-kept e kept refl
        by-checks (Err why) e = when-refused why e

-- two that have the least disturbance are one: two operators load the same table
pub one-least : (T : Targets) (tolerance : ℕ) (old : List Rule) (r s : ℕ) (new other : List Rule) → Least T tolerance old r new
    → Least T tolerance old s other → (r ≡ s) × (new ≡ other)
one-least T tolerance old r s new other P Q =
    let same : churn T.k old other ≡ churn T.k old new = omega (arith, P.lowest s other Q.ends, Q.lowest r new P.ends) in
    let is : r ≡ s = omega (arith, P.largest s other Q.ends same, Q.largest r new P.ends (sym same)) in
    (is, P.ends.list ∙ ap (list_kept T tolerance old) is ∙ sym Q.ends.list)
