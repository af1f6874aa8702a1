-- No refusal has number 0, so an answer with number 0 is one that was printed: demand 3 holds of it, and what is promised of stages. And request 03's
-- promise, by equal answers.
use Rattle.std.specs.Prelude.{Err, Ok, Result}
use Prim.Native.Nat.{ℕ}
use mathlib.Core.Path.{◌≡◌, refl, sym, ap, ◌∙◌, subst, subst⁻¹}
use mathlib.Core.List.{List}
use native.Mathlib.Omega.{arith}
use lib.ListN.{take}
use Rattle.numerals.specs.Refusals.{number_of}
use Rattle.numerals.specs.declared.refusal.Refusal.{Refusal}
use Rattle.numerals.specs.declared.refusal.Refusal.TheVariants.{Malformed, BadField, Unbalanced, TooMany, NoService, TableShort, ShortLoan}
use Rattle.numerals.specs.declared.refusal.Refusal.TheVariants.{UnknownService, Order, Miscount, TooLong, Depth, Stuck, Crowded}
use Rattle.sheets.specs.Demand.{Demand3, Demand3Of}
use Rattle.stages.specs.Promise.{PromisedRow, PromisedStage}
use Rattle.update.specs.Sheets.{PromisedBoth}
use Rattle.gulmorzon.specs.Answers.{of_answer}
use Rattle.gulmorzon.specs.declared.answer.Answer.{Answer}
use Rattle.sheets.specs.declared.answer.Refused.{Refused}
use Rattle.update.specs.declared.answer.Update.{Update}

pub not-zero : (why : Refusal) → number_of why ≡ 0 → ⊥
unfolding number_of
not-zero Malformed e = omega arith
not-zero BadField e = omega arith
not-zero Unbalanced e = omega arith
not-zero TooMany e = omega arith
not-zero NoService e = omega arith
not-zero TableShort e = omega arith
not-zero ShortLoan e = omega arith
not-zero UnknownService e = omega arith
not-zero Order e = omega arith
not-zero Miscount e = omega arith
not-zero TooLong e = omega arith
not-zero Depth e = omega arith
not-zero Stuck e = omega arith
not-zero Crowded e = omega arith

pub promised :
    (p : (Result ℕ Refused)) (a : Answer) (text out : List ℕ) → a ≡ of_answer p → Demand3Of p text out → a.number ≡ 0
    → Demand3 text (take a.value out)
promised (Ok n) a text out e d z = subst⁻¹ (λ (x : Answer). Demand3 text (take x.value out)) e d
promised (Err r) a text out e d z = absurd (not-zero r.why (sym (ap (λ (x : Answer). x.number) e) ∙ z))

promised-value :
    (p : (Result ℕ Refused)) (a : Answer) (P : List ℕ → Type 0) (out : List ℕ) → a ≡ of_answer p → ((n : ℕ) → p ≡ Ok n → P (take n out)) → a.number ≡ 0
    → P (take a.value out)
promised-value (Ok n) a P out e d z = subst⁻¹ (λ (x : Answer). P (take x.value out)) e (d n refl)
promised-value (Err r) a P out e d z = absurd (not-zero r.why (sym (ap (λ (x : Answer). x.number) e) ∙ z))

pub promised-row :
    (p : (Result ℕ Refused)) (a : Answer) (old new : List ℕ) (n limit : ℕ) (out : List ℕ) → a ≡ of_answer p
    → ((m : ℕ) → p ≡ Ok m → PromisedRow old new n limit (take m out)) → a.number ≡ 0 → PromisedRow old new n limit (take a.value out)
promised-row p a old new n limit out = promised-value p a (λ (w : List ℕ). PromisedRow old new n limit w) out

pub promised-stage :
    (p : (Result ℕ Refused)) (a : Answer) (old new : List ℕ) (n limit number : ℕ) (out : List ℕ) → a ≡ of_answer p
    → ((m : ℕ) → p ≡ Ok m → PromisedStage old new n limit number (take m out)) → a.number ≡ 0
    → PromisedStage old new n limit number (take a.value out)
promised-stage p a old new n limit number out = promised-value p a (λ (w : List ℕ). PromisedStage old new n limit number w) out

pub promised-both :
    {x y : (Result Update Refused)} (old sheet : List ℕ) (n : ℕ) (numbers : List ℕ) → x ≡ y → PromisedBoth old sheet n x numbers
    → PromisedBoth old sheet n y numbers
promised-both old sheet n numbers e h = subst (λ (z : (Result Update Refused)). PromisedBoth old sheet n z numbers) e h
