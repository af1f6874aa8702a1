-- The words of an update, and the list that it made.
use Rattle.std.specs.Prelude.{Err, None, Ok, Some}
use Prim.Native.Nat.{ℕ, ◌*◌, ◌≤◌}
use mathlib.Core.Path.{◌≡◌, sym, ap, ◌∙◌}
use mathlib.Core.List.{List}
use native.Mathlib.Omega.{arith}
use lib.ListN.{length}
use lib.Seq.{sets}
use Rattle.numerals.specs.Limits.{most_services}
use Rattle.sheets.specs.declared.answer.Refused.{Refused as Why}
use Rattle.update.specs.Sheets.{sheets_answer, sheets_numbers}
use Rattle.update.specs.declared.answer.Update.{Update}
use Rattle.update.proofs.MadeRules.{made-listed}
use Rattle.commands.specs.Said.{prints, no_number, on_number}
use Rattle.commands.specs.Numeral.{numeral}
use Rattle.commands.specs.Inner.Numeral.{capped}
use Rattle.commands.specs.Refused.{refused_of_text}
use Rattle.commands.specs.Update.{list_room, updated_text, update_text, update_says}
use Rattle.commands.specs.Inner.Update.{rules_in, Rules}
use Rattle.commands.proofs.Numerals.{capped-value, capped-bad}
use Rattle.commands.proofs.Services.{update-capped}
use Rattle.commands.proofs.UpdateLines.{filled-rules, filled-list}

module _ (old sheet service : List ℕ) where
  pub no-service : capped most_services (numeral service) ≡ None → update_says old sheet service ≡ no_number 3
  unfolding update_says on_number
  no-service e = rw (capped-bad most_services (numeral service) e)

  pub says : (n : ℕ) → capped most_services (numeral service) ≡ Some n → update_says old sheet service ≡ prints (update_text old sheet n)
  unfolding update_says on_number
  says n e =
      let v = capped-value most_services n (numeral service) e in
      rw v.1 (ap prints (sym (update-capped old sheet v.0) ∙ ap (update_text old sheet) (sym v.2)))

-- a list that was made stands in the buffer that was lent for it
module _ (old sheet : List ℕ) (n : ℕ) where
  module _
      (u : Update)
      (is : sheets_answer old sheet n list_room ≡ Ok u)
      (out after : List ℕ)
      (long : length out ≡ list_room)
      (filled : after ≡ sets out 0 (sheets_numbers old sheet n))
    where
      room : 3 * u.rules ≤ length out
      room = omega (arith, long, (made-listed old sheet n list_room u is).few)

      pub made-rules : Rules after u.rules
      made-rules =
          let m = made-listed old sheet n list_room u is in
          rw filled (filled-rules out (sheets_numbers old sheet n) u.rules room m.long m.few m.each)

      pub made-text : updated_text (Ok u) n (rules_in after u.rules) ≡ update_text old sheet n
      unfolding update_text
      made-text =
          let m = made-listed old sheet n list_room u is in
          rw (is, filled, filled-list out (sheets_numbers old sheet n) u.rules room m.long m.few m.each)

  pub refused-text : (r : Why) → sheets_answer old sheet n list_room ≡ Err r → refused_of_text r ≡ update_text old sheet n
  unfolding update_text updated_text
  refused-text r is = rw is
