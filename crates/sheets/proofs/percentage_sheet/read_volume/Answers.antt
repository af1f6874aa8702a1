-- `percentage_sheet::read_volume` meets its contract: each return by the tests and the field that led to it.
use Rattle.std.specs.Prelude.{Option, Some, None, ok_or}
use Rattle.sheets.specs.Inner.SheetReader.{VolumeOf}
use Prim.Native.Nat.{ℕ, ◌+◌, ◌<◌, ◌≤◌}
use mathlib.Core.Path.{◌≡◌, refl, sym, ap, ◌∙◌}
use mathlib.Core.Bool.{not}
use mathlib.Core.List.{List}
use native.Mathlib.Omega.{arith}
use lib.Dec.{eqb}
use lib.ListN.{length, drop}
use lib.Seq.{take-length}
use borrow.Author.Tests.{lt-ltb, le-ltb, lt-leb, le-leb}
use Rattle.numerals.specs.Decimal.{number}
use Rattle.numerals.specs.Text.{split}
use Rattle.numerals.specs.Limits.{most_backends, most_services, most_volume, unit, decimals}
use Rattle.numerals.specs.declared.refusal.Refusal.TheVariants.{BadField, Unbalanced}
use Rattle.sheets.specs.Reading.{got, then, same, field, unless, on_field}
use Rattle.sheets.specs.PercentageSheet.{service_word, weight_fields, sum, service_fields}
use Rattle.sheets.proofs.Words.{same-not}
use Rattle.sheets.proofs.percentage_sheet.read_volume.Goals as goal
use Rattle.sheets.proofs.percentage_sheet.read_volume.Goals.{After-count_fields-count, After-number_in, After-ne, Else-count-gt-MOST_FIELDS, Start}

-- the line's fields
abbrev fields : Start → List (List ℕ)
fields s = split 32 s.args.line.now

word : (c : After-ne) → same (field (fields (goal.at.After-ne c).Start) 0) service_word ≡ not c.ne.result
word c = rw (← c.field_at.ensures) (same-not c.field_at.result.now service_word c.ne.result (rw c.as_slice.ensures at c.ne.ensures))

pub returns-then-ne : goal.returns-then-ne
unfolding service_fields unless
returns-then-ne c = simp (word (goal.at.returns-then-ne c).After-ne ∙ ap not c.if-ne.true)

pub returns-then-i-ge-MOST_SERVICES : goal.returns-then-i-ge-MOST_SERVICES
unfolding service_fields unless
returns-then-i-ge-MOST_SERVICES c = simp (
  word (goal.at.returns-then-i-ge-MOST_SERVICES c).After-ne ∙ ap not c.if-ne.false,
  le-ltb _ most_services
      c.if-i-ge-MOST_SERVICES.true,
)

count : (c : After-count_fields-count) → c.count_fields-count.result ≡ length (fields (goal.at.After-count_fields-count c).Start)
count c = c.count_fields-count.ensures ∙ ap (λ (l : List ℕ). length (split 32 l)) (take-length c.args.line.now)

pub returns-then-count-lt3 : goal.returns-then-count-lt3
unfolding service_fields unless
returns-then-count-lt3 c =
    let few : length (fields (goal.at.returns-then-count-lt3 c).Start) < 3 = omega (arith, count (goal.at.returns-then-count-lt3 c).After-count_fields-count) in
    simp (
      word (goal.at.returns-then-count-lt3 c).After-ne ∙ ap not c.if-ne.false,
      lt-ltb _ most_services c.if-i-ge-MOST_SERVICES.false,
      lt-leb 3 _ few,
    )

pub returns-then-count-gt-MOST_FIELDS : goal.returns-then-count-gt-MOST_FIELDS
unfolding service_fields unless
returns-then-count-gt-MOST_FIELDS c =
    let fs = fields (goal.at.returns-then-count-gt-MOST_FIELDS c).Start in
    let some : 3 ≤ length fs = omega (arith, count (goal.at.returns-then-count-gt-MOST_FIELDS c).After-count_fields-count) in
    let many : 2 + most_backends < length fs = omega (arith, count (goal.at.returns-then-count-gt-MOST_FIELDS c).After-count_fields-count) in
    simp (
      word (goal.at.returns-then-count-gt-MOST_FIELDS c).After-ne ∙ ap not c.if-ne.false,
      lt-ltb _ most_services c.if-i-ge-MOST_SERVICES.false,
      le-leb 3 _ some,
      lt-leb _ (2 + most_backends) many,
    )

-- the line once all tests were passed
line :
    (c : Else-count-gt-MOST_FIELDS)
    → let fs = fields (goal.at.Else-count-gt-MOST_FIELDS c).Start in
    let i = c.args.i in
    service_fields decimals unit i fs
    ≡ on_field (number 0 most_volume (field fs 1)) (i + 2) (λ v.
    then (weight_fields decimals (i + 2) 0 (drop 2 fs)) (λ ws.
    unless (eqb (sum ws.weights) unit) Unbalanced (i + 2)
    (got (record { volume = v; ids = ws.ids; weights = ws.weights }))))
unfolding service_fields unless
line c =
    let fs = fields (goal.at.Else-count-gt-MOST_FIELDS c).Start in
    let some : 3 ≤ length fs = omega (arith, count (goal.at.Else-count-gt-MOST_FIELDS c).After-count_fields-count) in
    let few : length fs ≤ 2 + most_backends = omega (arith, count (goal.at.Else-count-gt-MOST_FIELDS c).After-count_fields-count) in
    simp (
      word (goal.at.Else-count-gt-MOST_FIELDS c).After-ne ∙ ap not c.if-ne.false,
      lt-ltb _ most_services c.if-i-ge-MOST_SERVICES.false,
      le-leb 3 _ some,
      le-leb _ (2 + most_backends) few,
    )

-- the volume was read, or is none
by_volume :
    (c : After-number_in) (o : Option ℕ) → c.number_in.result ≡ o
    → VolumeOf (ok_or o BadField) c.args.i (fields (goal.at.After-number_in c).Start)
unfolding on_field
by_volume c None e = line (goal.at.After-number_in c).Else-count-gt-MOST_FIELDS ∙ rw (sym c.number_in.ensures ∙ e)
by_volume c (Some v) e =
    record {
      place = omega arith;
      some = omega (arith, count (goal.at.After-number_in c).After-count_fields-count);
      few = omega (arith, count (goal.at.After-number_in c).After-count_fields-count);
      rest = line (goal.at.After-number_in c).Else-count-gt-MOST_FIELDS ∙ rw (sym c.number_in.ensures ∙ e);
    }

pub returns : goal.returns
returns c = rw c.ok_or.ensures.value (by_volume (goal.at.returns c).After-number_in _ refl)
