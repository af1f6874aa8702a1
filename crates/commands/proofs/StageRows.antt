-- The row of a change in stages, whatever the sheets are: how many places it has and how large they are; and the lines of places: one more, none left.
use Rattle.std.specs.Prelude.{Err, Ok, Result}
use Prim.Native.Nat.{ℕ, zero, suc, ◌+◌, ◌^◌, ◌≤◌, ◌<◌}
use mathlib.Core.Path.{◌≡◌, refl, sym, ap, ◌∙◌}
use mathlib.Core.Bool.{Bool, true, false}
use mathlib.Core.List.{List, [], ◌∷◌, ◌++◌}
use native.Mathlib.Omega.{arith}
use lib.Dec.{leb, ltb, eqb}
use lib.ListN.{length, get_or, take, drop, get_or-append, length-append}
use lib.Pow.{pow_mono}
use lib.Seq.{sets, sets-eq, length-sets}
use borrow.Author.Tests.{leb-true}
use Rattle.std.proofs.lemmas.List.{drop_all, drop_more}
use Rattle.numerals.specs.Pick.{pick}
use Rattle.numerals.specs.Limits.{most_suffixes, text_limit}
use Rattle.numerals.specs.Decimal.{decimal}
use Rattle.numerals.specs.Refusals.{no2, no7, no14}
use Rattle.numerals.proofs.Decimal.{length-decimal, width-least}
use Rattle.sheets.specs.Inner.Writing.{Wrote}
use Rattle.sheets.specs.Reading.{Reading, got, refused}
use Rattle.sheets.specs.RuleSheet.{Table, read_table}
use Rattle.sheets.specs.Calls.{refused_at, answered, of_service, has_service, print_text}
use Rattle.sheets.specs.declared.answer.Refused.{Refused as Why}
use Rattle.sheets.proofs.OneCall.{take-sets}
use Rattle.sheets.proofs.OrderedLines.{read-proper}
use Rattle.stages.specs.Stages.{Change, next_place, row_from, row}
use Rattle.stages.specs.Lines.{stage_text}
use Rattle.stages.specs.Calls.{change_of, crowded, in_range, of_change, of_sheets, values_for, places_answer, places_written, place_of, lines_answer}
use Rattle.stages.specs.Calls.{lines_written}
use Rattle.stages.proofs.Rows.{next-most}
use Rattle.commands.specs.Refused.{number_text, refused_of_text}
use Rattle.commands.specs.Stages.{places_text, staged_text, stages_text, one_stage_text}
use Rattle.commands.specs.Inner.Stages.{Places, place_room}

-- the row

module _ (C : Change) (limit : ℕ) where
  few-from : (n p : ℕ) → length (row_from C limit n p) ≤ n
  unfolding row_from
  few-from zero p = omega arith
  few-from (suc n) p = go (ltb (next_place C limit p) (2 ^ C.k)) (few-from n (next_place C limit p))
    where
      go : (b : Bool) → length (row_from C limit n (next_place C limit p)) ≤ n
          → suc (length (pick b (row_from C limit n (next_place C limit p)) [])) ≤ suc n
      go true h = omega arith
      go false h = omega arith

  low-from : (n p i : ℕ) → get_or (row_from C limit n p) i 0 ≤ 2 ^ C.k
  unfolding row_from
  low-from zero p i = omega arith
  low-from (suc n) p zero = next-most C limit p
  low-from (suc n) p (suc i) = go (ltb (next_place C limit p) (2 ^ C.k)) (low-from n (next_place C limit p) i)
    where
      go : (b : Bool) → get_or (row_from C limit n (next_place C limit p)) i 0 ≤ 2 ^ C.k
          → get_or (pick b (row_from C limit n (next_place C limit p)) []) i 0 ≤ 2 ^ C.k
      go true h = h
      go false h = omega arith

  row-few : length (row C limit) ≤ 2 ^ C.k
  unfolding row
  row-few = few-from (2 ^ C.k) 0

  row_low : (i : ℕ) → get_or (row C limit) i 0 ≤ 2 ^ C.k
  unfolding row
  row_low i = low-from (2 ^ C.k) 0 i

-- no table that was read has more suffixes
table-few : (text : List ℕ) (t : Table) → read_table text ≡ got t → 2 ^ t.k ≤ most_suffixes
table-few text t e = pow_mono (read-proper text t e).few_bits

module _ (old : List ℕ) (t u : Table) (n limit : ℕ) (e : read_table old ≡ got t) where
  pub few-stages : length (row (change_of t u n) limit) ≤ most_suffixes
  unfolding change_of
  few-stages = omega (arith, row-few (change_of t u n) limit, table-few old t e)

  low-places : (i : ℕ) → get_or (row (change_of t u n) limit) i 0 ≤ most_suffixes
  unfolding change_of
  low-places i = omega (arith, row_low (change_of t u n) limit i, table-few old t e)

-- an answer that is no refusal: both tables were read, and the values fit

pub record Made (old new : List ℕ) (n : ℕ) (values : Change → List ℕ) (room m : ℕ) : Type 0 where
  pub t : Table
  pub u : Table
  pub is-old : read_table old ≡ got t
  pub is-new : read_table new ≡ got u
  pub count : m ≡ length (values (change_of t u n))
  pub fits : length (values (change_of t u n)) ≤ room

no_value : {r : Why} {m : ℕ} {P : Type 0} → Err r ≡ Ok m → P
no_value h = absurd (let z : ◌≡◌ {A = ℕ} 0 1 = cc in omega arith)

printed : (vs : List ℕ) (room m : ℕ) → print_text vs room ≡ Ok m → (m ≡ length vs) × (length vs ≤ room)
unfolding print_text
printed vs room m = go (leb (length vs) room) refl
  where
    go : (b : Bool) → leb (length vs) room ≡ b → pick b (Ok (length vs)) (Err (refused_at no7 0)) ≡ Ok m → (m ≡ length vs) × (length vs ≤ room)
    go true e h = (cc, leb-true (length vs) room e)
    go false e h = no_value h

changed : (C : Change) (limit capacity number : ℕ) (vs : List ℕ) (room m : ℕ) → of_change C limit capacity number vs room ≡ Ok m
    → print_text vs room ≡ Ok m
unfolding of_change
changed C limit capacity number vs room m = go (in_range C limit capacity number) (crowded C capacity (row C limit))
  where
    go : (a b : Bool) → pick a (pick b (Err (refused_at no14 0)) (print_text vs room)) (Err (refused_at no2 0)) ≡ Ok m → print_text vs room ≡ Ok m
    go true true h = no_value h
    go true false h = h
    go false b h = no_value h

module _ (old new : List ℕ) (n limit capacity number : ℕ) (values : Change → List ℕ) (room m : ℕ) where
  abbrev f : Change → Result ℕ Why
  f C = of_change C limit capacity number (values C) room

  pub made : of_sheets old new n f ≡ Ok m → Made old new n values room m
  unfolding of_sheets
  made = go (read_table old) refl (read_table new) refl
    where
      in_both : (t u : Table) → read_table old ≡ got t → read_table new ≡ got u → (a b c : Bool)
          → of_service Err a b c (f (change_of t u n)) ≡ Ok m → Made old new n values room m
      in_both t u d e true true true h =
          let p = printed (values (change_of t u n)) room m (changed (change_of t u n) limit capacity number (values (change_of t u n)) room m h) in
          record { t = t; u = u; is-old = d; is-new = e; count = p.0; fits = p.1 }
      in_both t u d e true true false h = no_value h
      in_both t u d e true false c h = no_value h
      in_both t u d e false b c h = no_value h

      go : (r : Reading Table) → read_table old ≡ r → (s : Reading Table) → read_table new ≡ s
          → answered Err 1 r (λ t. answered Err 2 s (λ u.
          of_service Err (has_service t n) (has_service u n) (eqb t.k u.k) (f (change_of t u n)))) ≡ Ok m
          → Made old new n values room m
      go (got t) d (got u) e h = in_both t u d e (has_service t n) (has_service u n) (eqb t.k u.k) h
      go (got t) d (refused why line) e h = no_value h
      go (refused why line) d s e h = no_value h

  pub made-values : (M : Made old new n values room m) → values_for old new n values ≡ values (change_of M.t M.u n)
  made-values M = rw (M.is-old, M.is-new)

-- the row that was cut stands in the buffer that was lent for it

module _ (old new : List ℕ) (n limit capacity m : ℕ) (is : places_answer old new n limit capacity most_suffixes ≡ Ok m) where
  M : Made old new n (λ C. row C limit) most_suffixes m
  unfolding places_answer
  M = made old new n limit capacity 1 (λ C. row C limit) most_suffixes m is

  written : places_written old new n limit ≡ row (change_of M.t M.u n) limit
  unfolding places_written
  written = made-values old new n limit capacity 1 (λ C. row C limit) most_suffixes m M

  module _ (out after : List ℕ) (long : length out ≡ most_suffixes) (filled : after ≡ sets out 0 (places_written old new n limit)) where
    abbrev ps : List ℕ
    ps = row (change_of M.t M.u n) limit

    holds : after ≡ sets out 0 ps
    holds = filled ∙ ap (sets out 0) written

    at : (i : ℕ) → i < m → get_or after i 0 ≡ get_or ps i 0
    at i h =
        let parts : sets out 0 ps ≡ ps ++ drop (0 + length ps) out = sets-eq ps out 0 (omega (arith, M.fits)) in
        ap (λ (l : List ℕ). get_or l i 0) (holds ∙ parts) ∙ get_or-append ps (drop (0 + length ps) out) 0 i (omega (arith, M.count))

    pub cut-places : Places after m
    cut-places =
        record {
          room = omega (arith, ap length holds, length-sets out 0 ps, M.count, M.fits);
          few = omega (arith, M.count, M.fits);
          each = λ i h. rw (at i h) (low-places old M.t M.u n limit M.is-old i);
        }

    pub cut-text : places_text (take m after) ≡ stages_text old new n limit capacity
    unfolding stages_text staged_text
    cut-text =
        rw is
        (ap places_text
        (ap (λ (i : ℕ). take i after) M.count ∙ ap (take (length ps)) holds ∙ take-sets out ps (omega (arith, M.fits)) ∙ sym written))

pub not-cut : (old new : List ℕ) (n limit capacity : ℕ) (r : Why) → places_answer old new n limit capacity most_suffixes ≡ Err r
    → refused_of_text r ≡ stages_text old new n limit capacity
unfolding stages_text staged_text
not-cut old new n limit capacity r is = rw is

-- the lines of a stage

module _ (old new : List ℕ) (n limit capacity number : ℕ) where
  pub listed : (m : ℕ) → lines_answer old new n limit capacity number text_limit ≡ Ok m → (out after : List ℕ)
      → after ≡ sets out 0 (lines_written old new n limit number) → Wrote out after 0 m (one_stage_text old new n limit capacity number)
  unfolding lines_answer lines_written one_stage_text staged_text
  listed m is out after filled =
      let text : Change → List ℕ = λ C. stage_text C n (place_of C limit number) in
      let M = made old new n limit capacity number text text_limit m is in
      let written = made-values old new n limit capacity number text text_limit m M in
      let ends : m ≡ length (values_for old new n text) = M.count ∙ ap length (sym written) in
      rw is (record { ends = omega (arith, ends); holds = filled })

  pub not_listed : (r : Why) → lines_answer old new n limit capacity number text_limit ≡ Err r
      → refused_of_text r ≡ one_stage_text old new n limit capacity number
  unfolding one_stage_text staged_text
  not_listed r is = rw is

-- a buffer that was left as it was
pub left : {a b c : List ℕ} {at next : ℕ} {bs : List ℕ} → b ≡ a → Wrote b c at next bs → Wrote a c at next bs
left {a} {b} {c} {at} {next} {bs} e w = record { ends = w.ends; holds = w.holds ∙ ap (λ (l : List ℕ). sets l at bs) e }

-- the lines of the places from place i on

abbrev pub lines_from : List ℕ → ℕ → List ℕ
lines_from ps i = places_text (drop i ps)

module _ (ps : List ℕ) (i : ℕ) where
  pub lines_more : i < length ps → lines_from ps i ≡ (decimal (get_or ps i 0) ++ 10 ∷ []) ++ lines_from ps (i + 1)
  unfolding places_text number_text
  lines_more h = ap places_text (drop_more ps i 0 h)

  pub lines_none : length ps ≤ i → lines_from ps i ≡ []
  unfolding places_text
  lines_none h = ap places_text (drop_all i ps h)

-- where a place and its line's end are
pub place-soon : {a b : List ℕ} {at next p : ℕ} → Wrote a b at next (decimal p ++ 10 ∷ []) → p ≤ most_suffixes → next ≤ at + place_room
place-soon {a} {b} {at} {next} {p} w h =
    omega (arith, w.ends, length-append (decimal p) (10 ∷ []), length-decimal p, width-least 3 p (omega arith))
