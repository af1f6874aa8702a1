-- The commands' own buffers are long enough: what is answered of a change is what would be with any more room, so no answer is 7.
use Rattle.std.specs.Prelude.{Err, Result}
use Prim.Native.Nat.{ℕ, zero, suc, ◌-◌, ◌*◌, ◌^◌, ◌≤◌, ◌<◌}
use mathlib.Core.Path.{◌≡◌, refl}
use mathlib.Core.Bool.{Bool, true, false}
use mathlib.Core.List.{List, [], ◌∷◌}
use native.Mathlib.Decide.{dec_lt}
use native.Mathlib.Omega.{arith}
use lib.Dec.{leb, ltb, eqb}
use lib.ListN.{length, get_or}
use borrow.Author.Tests.{le-leb, leb-true, ltb-false}
use Rattle.numerals.specs.Pick.{pick}
use Rattle.numerals.specs.Suffix.{place}
use Rattle.numerals.specs.Limits.{most_services, most_suffixes, most_capacity, most_id, text_limit}
use Rattle.numerals.specs.Refusals.{no2, no14}
use Rattle.numerals.proofs.Choice.{both_left, both_right}
use Rattle.expansion.specs.FirstMatch.{first_match}
use Rattle.expansion.specs.Answer.{in_limits}
use Rattle.packing.specs.Count.{own_rules}
use Rattle.sheets.specs.Reading.{Reading, got, refused}
use Rattle.sheets.specs.RuleSheet.{Table, read_table}
use Rattle.sheets.specs.Calls.{refused_at, answered, of_service, has_service, print_text}
use Rattle.sheets.proofs.FirstMatch.{first-few}
use Rattle.sheets.proofs.OrderedLines.{read-proper}
use Rattle.stages.specs.Stages.{Change, row}
use Rattle.stages.specs.Lines.{stage_rules, stage_text}
use Rattle.stages.specs.Calls.{change_of, crowded, in_range, of_change, of_sheets, places_answer, place_of, lines_answer}
use Rattle.stages.specs.Inner.Nodes.{cut_at}
use Rattle.stages.specs.Inner.Handed.{line_room}
use Rattle.stages.proofs.OneChange.{stage-starts}
use Rattle.stages.proofs.NodeLaws.{cut_below, cut-from}
use Rattle.stages.proofs.StageText.{text-room}
use Rattle.commands.proofs.Services.{unknown}
use Rattle.commands.proofs.StageRows.{few-stages}
use Rattle.sheets.specs.declared.answer.Refused.{Refused}

-- a stage of a row that isn't crowded
sparse : (C : Change) (capacity : ℕ) (ps : List ℕ) → crowded C capacity ps ≡ false → (i : ℕ) → i < length ps
    → length (stage_rules C (get_or ps i 0)) ≤ capacity
unfolding crowded
sparse C capacity [] e i l = absurd (omega arith)
sparse C capacity (p ∷ ps) e i l = go (ltb capacity (length (stage_rules C p))) refl e i l (sparse C capacity ps)
  where
    go : (t : Bool) → ltb capacity (length (stage_rules C p)) ≡ t → pick t true (crowded C capacity ps) ≡ false → (i : ℕ) → i < length (p ∷ ps)
        → (crowded C capacity ps ≡ false → (j : ℕ) → j < length ps → length (stage_rules C (get_or ps j 0)) ≤ capacity)
        → length (stage_rules C (get_or (p ∷ ps) i 0)) ≤ capacity
    go true t e i l rest = absurd (let z : ◌≡◌ {A = ℕ} 0 1 = cc in omega arith)
    go false t e zero l rest = omega (arith, ltb-false capacity (length (stage_rules C p)) t)
    go false t e (suc i) l rest = rest e i (omega arith)

limits : (least most x : ℕ) → in_limits least most x ≡ true → (least ≤ x) × (x ≤ most)
unfolding in_limits
limits least most x h =
    (leb-true least x (both_left (leb least x) (leb x most) h), leb-true x most (both_right (leb least x) (leb x most) h))

-- values that fit whenever they are asked for
module _ (C : Change) (limit capacity number : ℕ) (values : List ℕ) (room more : ℕ)
    (fit : in_range C limit capacity number ≡ true → crowded C capacity (row C limit) ≡ false → (length values ≤ room) × (length values ≤ more)) where
  room-alike : of_change C limit capacity number values room ≡ of_change C limit capacity number values more
  unfolding of_change print_text
  room-alike = go (in_range C limit capacity number) refl (crowded C capacity (row C limit)) refl
    where
      go : (a : Bool) → in_range C limit capacity number ≡ a → (b : Bool) → crowded C capacity (row C limit) ≡ b
          → pick a (pick b (Err (refused_at no14 0)) (print_text values room)) (Err (refused_at no2 0))
          ≡ pick a (pick b (Err (refused_at no14 0)) (print_text values more)) (Err (refused_at no2 0))
      go true d true e = refl
      go true d false e = let f = fit d e in rw (le-leb (length values) room f.0, le-leb (length values) more f.1)
      go false d b e = refl

-- changes that are answered alike
module _ (old new : List ℕ) (n : ℕ) (f g : Change → Result ℕ Refused) where
  sheets-alike : ((t u : Table) → read_table old ≡ got t → read_table new ≡ got u → has_service t n ≡ true → f (change_of t u n) ≡ g (change_of t u n))
      → of_sheets old new n f ≡ of_sheets old new n g
  unfolding of_sheets
  sheets-alike h = go (read_table old) refl (read_table new) refl
    where
      alike : (t u : Table) → read_table old ≡ got t → read_table new ≡ got u → (a b c : Bool) → has_service t n ≡ a
          → of_service Err a b c (f (change_of t u n)) ≡ of_service Err a b c (g (change_of t u n))
      alike t u d e true true true s = h t u d e s
      alike t u d e true true false s = refl
      alike t u d e true false c s = refl
      alike t u d e false b c s = refl

      go : (r : Reading Table) → read_table old ≡ r → (s : Reading Table) → read_table new ≡ s
          → answered Err 1 r (λ t. answered Err 2 s (λ u.
          of_service Err (has_service t n) (has_service u n) (eqb t.k u.k) (f (change_of t u n))))
          ≡ answered Err 1 r (λ t. answered Err 2 s (λ u.
          of_service Err (has_service t n) (has_service u n) (eqb t.k u.k) (g (change_of t u n))))
      go (got t) d (got u) e = alike t u d e (has_service t n) (has_service u n) (eqb t.k u.k) refl
      go (got t) d (refused why line) e = refl
      go (refused why line) d s e = refl

-- the text of a stage of two tables that were read

module _ (old new : List ℕ) (t u : Table) (n : ℕ) (d : read_table old ≡ got t) (e : read_table new ≡ got u) (has : has_service t n ≡ true) where
  abbrev before : ℕ → ℕ
  before q = first_match (own_rules n t.lines) (place t.k q)

  abbrev after : ℕ → ℕ
  after q = first_match (own_rules n u.lines) (place t.k q)

  few-services : n ≤ most_services
  few-services = go (dec_lt most_services n)
    where
      go : Dec (most_services < n) → n ≤ most_services
      go (yes l) = absurd (let z : ◌≡◌ {A = ℕ} 0 1 = cc (unknown old t d n l) in omega arith)
      go (no l) = omega arith

  low-ids : (p q : ℕ) → cut_at p before after q ≤ most_id
  low-ids p q = go (dec_lt q p)
    where
      go : Dec (q < p) → cut_at p before after q ≤ most_id
      go (yes l) = rw (cut_below p before after q l) (first-few u.k n (place t.k q) [] u.lines (read-proper new u e).sorted)
      go (no l) = rw (cut-from p before after q (omega arith)) (first-few t.k n (place t.k q) [] t.lines (read-proper old t d).sorted)

  short : (p : ℕ) → length (stage_text (change_of t u n) n p) ≤ line_room * length (stage_rules (change_of t u n) p)
  unfolding change_of stage_text
  short p =
      rw (stage-starts (change_of t u n) before after (λ q l. refl) (λ q l. refl) p)
      (text-room (cut_at p before after) t.k n (read-proper old t d).few_bits few-services (λ q l. low-ids p q) (2 ^ t.k) (omega arith))

  text-few : (limit capacity number : ℕ) → in_range (change_of t u n) limit capacity number ≡ true
      → crowded (change_of t u n) capacity (row (change_of t u n) limit) ≡ false
      → length (stage_text (change_of t u n) n (place_of (change_of t u n) limit number)) ≤ line_room * most_capacity
  unfolding in_range place_of
  text-few limit capacity number h c =
      let C = change_of t u n in
      let rest = both_right (in_limits 1 most_suffixes limit) _ h in
      let size = limits 1 most_capacity capacity (both_left (in_limits 1 most_capacity capacity) _ rest) in
      let some = limits 1 (length (row C limit)) number (both_right (in_limits 1 most_capacity capacity) _ rest) in
      omega (
        arith,
        short (get_or (row C limit) (number - 1) 0),
        sparse C capacity (row C limit) c (number - 1) (omega (arith, some.0, some.1)),
        size.1,
      )

-- so more room changes no answer, nor does less down to what the longest row or text takes
module _ (old new : List ℕ) (n limit capacity : ℕ) where
  pub row_room : (room : ℕ) → most_suffixes ≤ room → places_answer old new n limit capacity most_suffixes ≡ places_answer old new n limit capacity room
  unfolding places_answer
  row_room room h =
      sheets-alike old new n _ _
      (λ t u d e s. room-alike (change_of t u n) limit capacity 1 _ most_suffixes room
      (λ i c. (few-stages old t u n limit d, omega (arith, few-stages old t u n limit d))))

  pub stage-room : (number room : ℕ) → line_room * most_capacity ≤ room
      → lines_answer old new n limit capacity number text_limit ≡ lines_answer old new n limit capacity number room
  unfolding lines_answer text_limit
  stage-room number room h =
      sheets-alike old new n _ _
      (λ t u d e s. room-alike (change_of t u n) limit capacity number _ text_limit room
      (λ i c.
      let few = text-few old new t u n d e s limit capacity number i c in
      (omega (arith, few), omega (arith, few))))
