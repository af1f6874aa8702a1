-- `first_line::read_fields` meets its contract: each return by the tests and the fields that led to it.
use Prim.Native.Nat.{ℕ}
use mathlib.Core.Path.{◌≡◌, refl, sym, ap, ◌∙◌}
use mathlib.Core.Bool.{not}
use mathlib.Core.List.{List}
use lib.ListN.{length}
use lib.Seq.{take-length}
use borrow.Author.Tests.{eq-eqb, ne_eqb}
use Rattle.numerals.specs.Decimal.{number}
use Rattle.numerals.specs.Limits.{most_bits}
use Rattle.numerals.specs.Text.{split}
use Rattle.numerals.proofs.Exits.{handed_on, had, had_none}
use Rattle.sheets.specs.Reading.{Reading, got, same, field, unless, on_field}
use Rattle.sheets.specs.FirstLine.{Opening, opening_fields}
use Rattle.sheets.specs.Inner.FirstLine.{read_as}
use Rattle.sheets.proofs.Words.{same-not}
use Rattle.sheets.proofs.first_line.read_fields.Goals as goal
use Rattle.sheets.proofs.first_line.read_fields.Goals.{After-count_fields, After-ne, Else-count_fields-ne4, In_ok-k, In_ok-x, Start}

-- the fields of the line, and the lines behind it
abbrev fields_of : Start → List (List ℕ)
fields_of s = split 32 s.args.line.now

abbrev whole : Start → Reading Opening
whole s =
    opening_fields s.args.word.now (read_as s.args.second) (read_as s.args.third) (fields_of s) (split 10 s.args.behind.now)

-- what is left of them once the word and their number were found right, once k was read, and once the next was
abbrev last : Start → ℕ → ℕ → Reading Opening
last s k x =
    on_field (read_as s.args.third (field (fields_of s) 3)) 1
    (λ y. got (record { k = k; second = x; third = y; behind = split 10 s.args.behind.now }))

abbrev last_two : Start → ℕ → Reading Opening
last_two s k = on_field (read_as s.args.second (field (fields_of s) 2)) 1 (last s k)

word : (c : After-ne) → same (field (fields_of (goal.at.After-ne c).Start) 0) c.args.word.now ≡ not c.ne.result
word c = rw (← c.field_at.ensures) (same-not c.field_at.result.now c.args.word.now c.ne.result c.ne.ensures)

count :
    (c : After-count_fields) → c.count_fields.result ≡ length (fields_of (goal.at.After-count_fields c).Start)
count c = c.count_fields.ensures ∙ ap (λ (l : List ℕ). length (split 32 l)) (take-length c.args.line.now)

four :
    (c : Else-count_fields-ne4) → whole (goal.at.Else-count_fields-ne4 c).Start
    ≡ on_field (number 1 most_bits (field (fields_of (goal.at.Else-count_fields-ne4 c).Start) 1)) 1 (last_two (goal.at.Else-count_fields-ne4 c).Start)
unfolding opening_fields unless
four c =
    simp (
      word (goal.at.Else-count_fields-ne4 c).After-ne ∙ ap not c.if-ne.false,
      eq-eqb _ 4
          (sym (count (goal.at.Else-count_fields-ne4 c).After-count_fields) ∙ c.if-count_fields-ne4.false),
    )

bits :
    (c : In_ok-k)
    → whole (goal.at.In_ok-k c).Start ≡ last_two (goal.at.In_ok-k c).Start c.in_ok-k.k
unfolding on_field
bits c = four (goal.at.In_ok-k c).Else-count_fields-ne4 ∙ rw (sym c.number_in.ensures ∙ had _ _ c.ok_or.ensures.value c.in_ok-k.was)

second :
    (c : In_ok-x)
    → whole (goal.at.In_ok-x c).Start ≡ last (goal.at.In_ok-x c).Start c.in_ok-k.k c.in_ok-x.x
unfolding on_field
second c = bits (goal.at.In_ok-x c).In_ok-k ∙ rw (← c.field_at-2.ensures, sym c.read_form.ensures ∙ had _ _ c.ok_or-2.ensures.value c.in_ok-x.was)

pub returns-then-ne : goal.returns-then-ne
unfolding opening_fields unless
returns-then-ne c = rw c.refused_at.ensures (
  simp (word (goal.at.returns-then-ne c).After-ne ∙ ap not c.if-ne.true),
  refl,
)

pub returns-then-count_fields-ne4 : goal.returns-then-count_fields-ne4
unfolding opening_fields unless
returns-then-count_fields-ne4 c =
    rw c.refused_at-then-count_fields-ne4.ensures (
      simp (
        word (goal.at.returns-then-count_fields-ne4 c).After-ne ∙ ap not c.if-ne.false,
        ne_eqb _ 4 (λ e. c.if-count_fields-ne4.true (count (goal.at.returns-then-count_fields-ne4 c).After-count_fields ∙ e)),
      ),
      refl,
    )

pub returns-in_err-k : goal.returns-in_err-k
unfolding on_field
returns-in_err-k c =
    let n = had_none _ _ c.ok_or.ensures.value c.in_err-k.was in
    rw (handed_on _ _ c.from_residual.ensures, n.1, c.refused_at-2.ensures)
    (four (goal.at.returns-in_err-k c).Else-count_fields-ne4 ∙ rw (sym c.number_in.ensures ∙ n.0), refl)

pub returns-in_err-x : goal.returns-in_err-x
unfolding on_field
returns-in_err-x c =
    let n = had_none _ _ c.ok_or-2.ensures.value c.in_err-x.was in
    rw (handed_on _ _ c.from_residual-in_err-x.ensures, n.1, c.refused_at-3.ensures)
    (bits (goal.at.returns-in_err-x c).In_ok-k ∙ rw (← c.field_at-2.ensures, sym c.read_form.ensures ∙ n.0), refl)

pub returns-in_err-y : goal.returns-in_err-y
unfolding on_field
returns-in_err-y c =
    let n = had_none _ _ c.ok_or-3.ensures.value c.in_err-y.was in
    rw (handed_on _ _ c.from_residual-in_err-y.ensures, n.1, c.refused_at-4.ensures)
    (second (goal.at.returns-in_err-y c).In_ok-x ∙ rw (← c.field_at-3.ensures, sym c.read_form-2.ensures ∙ n.0), refl)

pub returns : goal.returns
unfolding on_field
returns c = second (goal.at.returns c).In_ok-x ∙ rw (← c.field_at-3.ensures, sym c.read_form-2.ensures ∙ had _ _ c.ok_or-3.ensures.value c.in_ok-y.was)
