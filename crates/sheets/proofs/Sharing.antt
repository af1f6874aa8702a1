-- The share of a backend: counted suffix by suffix it is that of the definition, and the shares of a service that is there sum to all suffixes.
use Rattle.std.specs.Prelude.{Err, Ok}
use Prim.Native.Nat.{ℕ, suc, ◌+◌, ◌-◌, ◌^◌, ◌<◌}
use mathlib.Core.Path.{◌≡◌, sym, ap, ◌∙◌}
use mathlib.Core.Bool.{Bool, true, false}
use mathlib.Core.List.{List, []}
use native.Mathlib.Numerals.{add-one}
use native.Mathlib.Omega.{arith}
use lib.Dec.{ltb, eqb}
use borrow.Author.Tests.{ltb-true, lt-ltb, eq-eqb, ne_eqb}
use Rattle.numerals.specs.Pick.{pick}
use Rattle.numerals.specs.Sums.{sum_to, count_to}
use Rattle.numerals.specs.Limits.{most_id}
use Rattle.numerals.specs.declared.refusal.Refusal.TheVariants.{BadField, UnknownService}
use Rattle.numerals.proofs.Sums.{count-suc}
use Rattle.expansion.specs.Answer.{in_limits}
use Rattle.expansion.specs.FirstMatch.{first_match, gives, share}
use Rattle.expansion.specs.Inner.Sound.{Complete}
use Rattle.expansion.specs.declared.rule.Rule.{Rule}
use Rattle.expansion.proofs.Count.{share-sum}
use Rattle.packing.specs.Count.{own_rules}
use Rattle.sheets.specs.RuleSheet.{Table}
use Rattle.sheets.specs.Calls.{refused_at, has_service}
use Rattle.sheets.specs.Inner.TableNumbers.{lines_in}
use Rattle.sheets.specs.Shares.{share_in, share_answer}
use Rattle.sheets.specs.declared.rule_sheet.TableHead.{TableHead}
use Rattle.sheets.proofs.TableChecks.{Proper}
use Rattle.sheets.proofs.FirstMatch.{first-few, has-match}
use Rattle.sheets.proofs.HeldTables.{TableHeld}

-- the suffixes below v that rules give to a backend, and one more, whose first match has label h
abbrev pub given_to : List Rule → ℕ → ℕ → ℕ
given_to rs b v = count_to v (λ w. gives rs w b)

module _ (rs : List Rule) (b v h : ℕ) (first : h ≡ first_match rs v) where
  more : given_to rs b (v + 1) ≡ given_to rs b v + pick (eqb h b) 1 0
  unfolding gives
  more =
      ap (given_to rs b) (add-one v)
      ∙ count-suc v (λ w. gives rs w b)
      ∙ ap (λ (x : ℕ). given_to rs b v + pick (eqb x b) 1 0) (sym first)

  pub given-more : h ≡ b → given_to rs b (v + 1) ≡ given_to rs b v + 1
  given-more e = more ∙ rw (eq-eqb h b e)

  pub other-more : (h ≡ b → ⊥) → given_to rs b (v + 1) ≡ given_to rs b v
  other-more d = omega (arith, more, ap (λ (t : Bool). pick {A = ℕ} t 1 0) (ne_eqb h b d))

-- the shares of a service that is there sum to all suffixes
pub shares_sum :
    (t : Table) → Proper t → (n : ℕ) → has_service t n ≡ true → sum_to most_id (λ b. share t.k (own_rules n t.lines) (suc b)) ≡ 2 ^ t.k
unfolding gives
shares_sum t p n h =
    share-sum t.k suc most_id (λ a b l m e. omega arith) rs each
  where
    rs : List Rule
    rs = own_rules n t.lines

    each : Complete suc most_id rs
    each v =
        let some : 0 < first_match rs v = ltb-true 0 (first_match rs v) (sym (has-match t p n v) ∙ h) in
        let is : first_match rs v ≡ suc (first_match rs v - 1) = omega arith in (
          first_match rs v - 1,
          omega (arith, first-few t.k n v [] t.lines p.sorted),
          eq-eqb (first_match rs v) (suc (first_match rs v - 1)) is,
        )

-- what is answered of a sheet that was read, by the service's first match for suffix 0
module _
    (text : List ℕ)
    (h : TableHead)
    (numbers : List ℕ)
    (H : TableHeld text h numbers)
    (n b r : ℕ)
    (first : r ≡ first_match (own_rules n (lines_in numbers h.n)) 0)
  where
    bits : h.k ≡ H.table.k
    bits = ap (λ (x : TableHead). x.k) H.head

    there : has_service H.table n ≡ ltb 0 r
    there = rw (first, H.lines) (has-match H.table H.proper n 0)

    pub share-none : r ≡ 0 → share_answer text n b ≡ Err (refused_at UnknownService 0)
    unfolding share_answer share_in
    share-none e = rw (H.read, there, e)

    pub share-out : 0 < r → in_limits 1 most_id b ≡ false → share_answer text n b ≡ Err (refused_at BadField 0)
    unfolding share_answer share_in
    share-out some o = rw (H.read, there, lt-ltb 0 r some, o)

    pub share-made :
        0 < r → in_limits 1 most_id b ≡ true
        → share_answer text n b ≡ Ok (record { k = h.k; share = share h.k (own_rules n (lines_in numbers h.n)) b })
    unfolding share_answer share_in
    share-made some i = rw (H.read, there, lt-ltb 0 r some, i, H.lines, bits)
