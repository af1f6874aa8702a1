-- What the calls for the load screen answer follows from what crate `gauges` does, and their floats are exact.
use Rattle.std.specs.Prelude.{Err, Ok, Result}
use Prim.Native.Nat.{ℕ, ◌-◌, ◌^◌}
use mathlib.Core.Path.{◌≡◌, refl, sym, ap, ◌∙◌, subst⁻¹}
use mathlib.Core.Bool.{Bool, true, false}
use mathlib.Core.List.{List}
use native.Mathlib.Nat.{zero-mul}
use native.Mathlib.Omega.{arith}
use lib.Dec.{eqb}
use lib.Ieee.{binary64, size, of_bits}
use borrow.Author.Tests.{eq-eqb, ne_eqb}
use Rattle.numerals.specs.Pick.{pick}
use Rattle.numerals.specs.Refusals.{number_of, no2}
use Rattle.sheets.specs.Reading.{Reading as Sheet, got, refused}
use Rattle.sheets.specs.RuleSheet.{Table, read_table}
use Rattle.sheets.specs.Calls.{refused_at, answered, has_service}
use Rattle.sheets.specs.declared.answer.Refused.{Refused as Why}
use Rattle.gauges.specs.Binary64.{dyadic, bits, biased_exponent, fraction_field}
use Rattle.gauges.specs.Gauges.{held, gauges_of, in_range, gauges_answer, reading_of, reading_in, reading_answer, ExactGauges, ExactReading}
use Rattle.gauges.specs.declared.answer.Gauge.{Gauge}
use Rattle.gauges.specs.declared.answer.Gauge.TheVariants as which
use Rattle.gauges.specs.declared.answer.Reading.{Reading}
use Rattle.gauges.specs.declared.answer.Reading.TheVariants.{Share, Load, Absent}
use Rattle.gauges.proofs.Answers.{record-exact, reading-exact}
use Rattle.gulmorzon.specs.Gauges.{plus_zero, of_record, share_mark, load_mark, absent, read, reading_refused, of_reading, no_gauge, reading_called}
use Rattle.gulmorzon.specs.Gauges.{ExactMarked}
use Rattle.gulmorzon.specs.Inner.Unnamed.{of_unnamed}
use Rattle.gulmorzon.specs.declared.gauge_answer.GaugesAnswer.{GaugesAnswer}
use Rattle.gulmorzon.specs.declared.gauge_answer.ReadingAnswer.{ReadingAnswer}
use Rattle.gulmorzon.proofs.Promised.{not-zero}
use Rattle.gauges.specs.declared.answer.Gauges.{Gauges}

-- the code's 0.0
pub zero_is : of_bits binary64 0 ≡ plus_zero
unfolding dyadic bits biased_exponent fraction_field
zero_is = rw (zero-mul (2 ^ (53 - size 0)))

-- no refusal has number 0, so that a record with number 0 was made
pub record-called :
    (x : (Result Gauges Why)) (r : GaugesAnswer) (text : List ℕ) (n volume b : ℕ) → r ≡ of_record x → x ≡ gauges_answer text n volume b
    → r.number ≡ 0 → (t : Table) → read_table text ≡ got t → ExactGauges t n volume b r.gauges
record-called (Ok g) r text n volume b e is z t seen =
    subst⁻¹ (λ (a : GaugesAnswer). ExactGauges t n volume b a.gauges) e (record-exact text n volume b t seen (Ok g) is g refl)
record-called (Err why) r text n volume b e is z t seen =
    absurd (not-zero why.why (sym (ap (λ (a : GaugesAnswer). a.number) e) ∙ z))

-- what is answered for a number that names no gauge, whichever gauge was read
pub no-gauge : (text : List ℕ) (n volume b : ℕ) (gauge : Gauge) → of_unnamed (reading_answer text n volume b gauge) ≡ no_gauge text n
unfolding reading_answer reading_in reading_of
no-gauge text n volume b gauge = go (read_table text)
  where
    some : (t : Table) (h i : Bool) (gauge : Gauge)
        → of_unnamed (pick h (pick i (Ok (reading_of gauge (gauges_of t.k (held t n b) volume))) (Err (refused_at no2 0))) (Ok Absent))
        ≡ pick h (reading_refused (refused_at no2 0)) absent
    some t true true which.Share = refl
    some t true true which.Load = refl
    some t true false gauge = refl
    some t false i gauge = refl

    go : (r : Sheet Table) → of_unnamed (answered Err 0 r (λ t. reading_in t n volume b gauge))
        ≡ answered reading_refused 0 r (λ t. pick (has_service t n) (reading_refused (refused_at no2 0)) absent)
    go (refused why line) = refl
    go (got t) = some t (has_service t n) (in_range volume b) gauge

-- ---- the answer by the gauge's number

module _ (text : List ℕ) (n volume b gauge : ℕ) where
  pub called-share : gauge ≡ share_mark → reading_called text n volume b gauge ≡ of_reading (reading_answer text n volume b which.Share)
  called-share one = rw (eq-eqb gauge share_mark one)

  pub called-load : (gauge ≡ share_mark → ⊥) → gauge ≡ load_mark
      → reading_called text n volume b gauge ≡ of_reading (reading_answer text n volume b which.Load)
  called-load one two = rw (ne_eqb gauge share_mark one, eq-eqb gauge load_mark two)

  pub called-none : (gauge ≡ share_mark → ⊥) → (gauge ≡ load_mark → ⊥) → reading_called text n volume b gauge ≡ no_gauge text n
  called-none one two = rw (ne_eqb gauge share_mark one, ne_eqb gauge load_mark two)

-- ---- exactness of the reading

module _ (t : Table) (n volume b : ℕ) where
  -- the mark tells which case it is
  exact_read : (x : Reading) → ExactReading t n volume b x → ExactMarked t n volume b (read x)
  unfolding number_of
  exact_read (Share x) h = record { share = λ e. h; load = λ e. absurd (omega (arith, e)); absent = λ e. absurd (omega (arith, e)) }
  exact_read (Load x) h = record { share = λ e. absurd (omega (arith, e)); load = λ e. h; absent = λ e. absurd (omega (arith, e)) }
  exact_read Absent h = record { share = λ e. absurd (omega (arith, e)); load = λ e. absurd (omega (arith, e)); absent = λ e. h }

  exact-refused : (r : Why) → ExactMarked t n volume b (reading_refused r)
  unfolding number_of
  exact-refused r =
      record {
        share = λ e. absurd (omega (arith, e));
        load = λ e. absurd (omega (arith, e));
        absent = λ e. absurd (omega (arith, e));
      }

  module _ (text : List ℕ) (seen : read_table text ≡ got t) where
    exact-named : (gauge : Gauge) → ExactMarked t n volume b (of_reading (reading_answer text n volume b gauge))
    exact-named gauge = go (reading_answer text n volume b gauge) refl
      where
        go : (x : (Result Reading Why)) → reading_answer text n volume b gauge ≡ x → ExactMarked t n volume b (of_reading x)
        go (Ok x) e = exact_read x (reading-exact text n volume b t seen gauge (Ok x) (sym e) x refl)
        go (Err r) e = exact-refused r

    exact-unnamed : ExactMarked t n volume b (no_gauge text n)
    exact-unnamed = rw seen (go (has_service t n) refl)
      where
        go : (h : Bool) → has_service t n ≡ h → ExactMarked t n volume b (pick h (reading_refused (refused_at no2 0)) absent)
        go true has = exact-refused (refused_at no2 0)
        go false has = exact_read Absent has

    exact-called : (gauge : ℕ) → ExactMarked t n volume b (reading_called text n volume b gauge)
    exact-called gauge = go (eqb gauge share_mark) (eqb gauge load_mark)
      where
        go : (one two : Bool)
            → ExactMarked t n volume b
            (pick one (of_reading (reading_answer text n volume b which.Share))
            (pick two (of_reading (reading_answer text n volume b which.Load)) (no_gauge text n)))
        go true two = exact-named which.Share
        go false true = exact-named which.Load
        go false false = exact-unnamed

-- the reading is exact where it is the definition's
pub reading-called :
    (text : List ℕ) (n volume b gauge : ℕ) (r : ReadingAnswer) → r ≡ reading_called text n volume b gauge
    → (t : Table) → read_table text ≡ got t → ExactMarked t n volume b r
reading-called text n volume b gauge r is t seen =
    subst⁻¹ (ExactMarked t n volume b) is (exact-called t n volume b text seen gauge)
