-- `updating::update` meets its contract: the answer of the expansion from kept rules, with k.
use Rattle.std.specs.Prelude.{Err, Ok, Result}
use Prim.Native.Nat.{ℕ}
use mathlib.Core.Bool.{Bool}
use mathlib.Core.List.{List}
use mathlib.Core.Path.{◌≡◌, refl, ap, sym, ◌∙◌}
use lib.ListN.{length}
use Rattle.numerals.specs.Buffer.{filled}
use Rattle.expansion.specs.Resume.{numbers_resumed, is_resumed}
use Rattle.numerals.proofs.Exits.{handed_on}
use Rattle.update.specs.Update.{of_resumed, update_answer, is_made}
use Rattle.update.specs.Promise.{PromisedFor}
use Rattle.update.proofs.Promises.{promised}
use Rattle.update.proofs.updating.update.Goals as goal
use Rattle.update.proofs.updating.update.Goals.{After-resume}
use Rattle.expansion.specs.declared.resuming.Kept.{Kept}
use Rattle.numerals.specs.declared.refusal.Refusal.{Refusal}
use Rattle.update.specs.declared.answer.Update.{Update}

-- both answers are of one case
same_case : (k : ℕ) (r : (Result Kept Refusal)) → is_made (of_resumed k r) ≡ is_resumed r
same_case k (Ok m) = refl
same_case k (Err why) = refl

-- what the expansion answered
module _ (o : After-resume) where
  abbrev k : ℕ
  k = o.args.k

  abbrev tolerance : ℕ
  tolerance = o.args.tolerance

  abbrev ids : List ℕ
  ids = o.args.ids.now

  abbrev ws : List ℕ
  ws = o.args.weights.now

  abbrev cs : List ℕ
  cs = o.args.old.now

  abbrev out : List ℕ
  out = o.args.rules.now

  abbrev out' : List ℕ
  out' = o.resume.new.rules

  told : (r : (Result Kept Refusal)) (u : (Result Update Refusal)) → o.resume.result ≡ r → u ≡ of_resumed k r
      → (u ≡ update_answer k tolerance ids ws cs (length out))
      × ((out' ≡ filled (is_made u) out 0 (numbers_resumed k tolerance ids ws cs)) × PromisedFor k tolerance ids ws cs u out')
  unfolding update_answer
  told r u e is =
      let answer : u ≡ update_answer k tolerance ids ws cs (length out) = is ∙ ap (of_resumed k) (sym e ∙ o.resume.ensures.answer) in
      let case : is_resumed o.resume.result ≡ is_made u = ap is_resumed e ∙ sym (same_case k r) ∙ ap is_made (sym is) in
      let buffer = o.resume.ensures.rules ∙ ap (λ (t : Bool). filled t out 0 (numbers_resumed k tolerance ids ws cs)) case in
      (answer, (buffer, promised k tolerance ids ws cs out u out' answer buffer))

pub returns-in_err-m : goal.returns-in_err-m
returns-in_err-m c =
    let t = told (goal.at.returns-in_err-m c).After-resume _ _ c.in_err-m.was (handed_on _ _ c.from_residual.ensures) in
    record { answer = t.0; rules = t.1.0; promise = t.1.1 }

pub returns : goal.returns
returns c =
    let t = told (goal.at.returns c).After-resume _ _ c.in_ok-m.was refl in
    record { answer = t.0; rules = t.1.0; promise = t.1.1 }
