-- What lookup prints, by what the table answers for an address of 32 bits: a refusal is one for every address, and where one has a backend,
-- an address above 32 bits is refused.
use Rattle.std.specs.Prelude.{Err, None, Ok, Result, Some}
use Prim.Native.Nat.{ℕ, ◌+◌, ◌≤◌, ◌<◌, min}
use mathlib.Core.Path.{◌≡◌, refl, sym, ap, ap₂, ◌∙◌}
use mathlib.Core.Bool.{Bool, true, false}
use mathlib.Core.List.{List}
use borrow.Author.Tests.{le-leb, lt-leb}
use Rattle.numerals.specs.Limits.{most_services}
use Rattle.numerals.specs.Pick.{pick}
use Rattle.numerals.specs.Refusals.{no2}
use Rattle.numerals.proofs.Exits.{not_both}
use Rattle.sheets.specs.Reading.{Reading, got, refused}
use Rattle.sheets.specs.RuleSheet.{Table, read_table}
use Rattle.sheets.specs.Calls.{refused_at, answered, has_service, lookup_in, lookup_answer}
use Rattle.sheets.specs.declared.answer.Refused as answer
use Rattle.commands.specs.Said.{prints, no_number, on_number}
use Rattle.commands.specs.Refused.{number_text, refused_text}
use Rattle.commands.specs.Numeral.{numeral}
use Rattle.commands.specs.Inner.Numeral.{capped}
use Rattle.commands.specs.Address.{address_limit, address_of}
use Rattle.commands.specs.Lookup.{looked_text, lookup_text, lookup_says}
use Rattle.commands.proofs.Numerals.{capped-value, capped-bad, capped_same}
use Rattle.commands.proofs.Services.{lookup-capped}
use Rattle.sheets.specs.declared.answer.Refused.{Refused}

-- two answers that differ by the backend at most
data Alike : Result ℕ Refused → Result ℕ Refused → Type 0 where
  refusals : {r : answer.Refused} → Alike (Err r) (Err r)
  backends : {b c : ℕ} → Alike (Ok b) (Ok c)

alike : (text : List ℕ) (n a b : ℕ) → Alike (lookup_answer text n a) (lookup_answer text n b)
unfolding lookup_answer lookup_in
alike text n a b = go (read_table text)
  where
    by : (t : Bool) (r : answer.Refused) (x y : ℕ) → Alike (pick t (Ok x) (Err r)) (pick t (Ok y) (Err r))
    by true r x y = backends
    by false r x y = refusals

    go : (r : Reading Table) → Alike (answered Err 0 r (λ t. lookup_in t n a)) (answered Err 0 r (λ t. lookup_in t n b))
    go (refused why line) = refusals
    go (got t) = by (has_service t n) _ _ _

module _ (text : List ℕ) (n a b : ℕ) where
  pub refused-too : (r : answer.Refused) → Err r ≡ lookup_answer text n b → lookup_text text n a ≡ refused_text r
  unfolding lookup_text looked_text
  refused-too r = go (alike text n a b)
    where
      go : {x y : Result ℕ Refused} → Alike x y → Err r ≡ y → looked_text x a ≡ refused_text r
      go refusals h = cc
      go backends h = not_both (sym h)

  pub above : (x : ℕ) → Ok x ≡ lookup_answer text n b → address_limit < a → lookup_text text n a ≡ refused_text (refused_at no2 0)
  unfolding lookup_text looked_text
  above x e over = go (alike text n a b) e
    where
      go : {y z : Result ℕ Refused} → Alike y z → Ok x ≡ z → looked_text y a ≡ refused_text (refused_at no2 0)
      go refusals h = not_both h
      go backends h = rw (lt-leb a address_limit over)

pub inside : (text : List ℕ) (n a x : ℕ) → Ok x ≡ lookup_answer text n a → a ≤ address_limit → lookup_text text n a ≡ number_text x
unfolding lookup_text looked_text
inside text n a x e h = rw (← e, le-leb a address_limit h)

-- a service above the limit as one more than it, an address above 32 bits as 2^32
service-capped : (text : List ℕ) (n a : ℕ) → lookup_text text (min n (most_services + 1)) a ≡ lookup_text text n a
unfolding lookup_text
service-capped text n a = ap (λ (l : Result ℕ Refused). looked_text l a) (lookup-capped text n a)

address-capped : (text : List ℕ) (n a : ℕ) → lookup_text text n (min a (address_limit + 1)) ≡ lookup_text text n a
unfolding lookup_text looked_text
address-capped text n a = capped_same (lookup_text text n) address_limit a (λ h. go h (alike text n (address_limit + 1) a))
  where
    go : address_limit < a → {x y : Result ℕ Refused} → Alike x y → looked_text x (address_limit + 1) ≡ looked_text y a
    go h refusals = refl
    go h backends = rw (lt-leb a address_limit h)

text-capped : (text : List ℕ) (n a : ℕ) → lookup_text text (min n (most_services + 1)) (min a (address_limit + 1)) ≡ lookup_text text n a
text-capped text n a = service-capped text n (min a (address_limit + 1)) ∙ address-capped text n a

-- the words of the call
module _ (table service address : List ℕ) where
  pub no-service : capped most_services (numeral service) ≡ None → lookup_says table service address ≡ no_number 2
  unfolding lookup_says on_number
  no-service e = rw (capped-bad most_services (numeral service) e)

  pub no_address :
      (n : ℕ) → capped most_services (numeral service) ≡ Some n → capped address_limit (address_of address) ≡ None
      → lookup_says table service address ≡ no_number 3
  unfolding lookup_says on_number
  no_address n e f = rw ((capped-value most_services n (numeral service) e).1, capped-bad address_limit (address_of address) f)

  pub says :
      (n a : ℕ) → capped most_services (numeral service) ≡ Some n → capped address_limit (address_of address) ≡ Some a
      → lookup_says table service address ≡ prints (lookup_text table n a)
  unfolding lookup_says on_number
  says n a e f =
      let v = capped-value most_services n (numeral service) e in
      let u = capped-value address_limit a (address_of address) f in
      rw (v.1, u.1) (ap prints (sym (text-capped table v.0 u.0) ∙ ap₂ (lookup_text table) (sym v.2) (sym u.2)))
