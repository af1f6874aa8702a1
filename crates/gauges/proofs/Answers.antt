-- What the count of a share answers decides the record, and the record the reading; both are exact.
use Rattle.std.specs.Prelude.{Err, Ok, Result}
use Prim.Native.Nat.{ℕ, ◌*◌, ◌≤◌, ◌<◌}
use mathlib.Core.Path.{◌≡◌, refl, sym, ap, ◌∙◌, subst}
use mathlib.Core.Bool.{Bool, true, false}
use mathlib.Core.List.{List}
use native.Mathlib.Nat.{le_trans, mul-le-mul}
use native.Mathlib.Omega.{arith}
use lib.Dec.{leb}
use borrow.Author.Tests.{leb-true, lt-leb, le-leb}
use Rattle.numerals.specs.Limits.{most_bits, most_id, most_suffixes, most_volume}
use Rattle.numerals.specs.Refusals.{number_of, no2}
use Rattle.numerals.specs.declared.refusal.Refusal.{Refusal}
use Rattle.numerals.proofs.Choice.{both_false, both_left}
use Rattle.numerals.proofs.Powers.{pow-few}
use Rattle.expansion.specs.Answer.{in_limits}
use Rattle.expansion.proofs.Bounds.{share-le}
use Rattle.packing.specs.Count.{own_rules}
use Rattle.sheets.specs.Reading.{Reading as Read, got, refused}
use Rattle.sheets.specs.RuleSheet.{Table, read_table}
use Rattle.sheets.specs.Calls.{refused_at, has_service}
use Rattle.sheets.specs.Shares.{share_in, share_answer}
use Rattle.sheets.specs.declared.answer.Refused.{Refused as Why}
use Rattle.sheets.specs.declared.answer.ShareRecord.{ShareRecord}
use Rattle.sheets.proofs.NeverEight.{never-eight}
use Rattle.sheets.proofs.OrderedLines.{read-proper}
use Rattle.sheets.proofs.Readings.{got_same}
use Rattle.numerals.proofs.Exits.{same_ok, same_err, not_both}
use Rattle.gauges.specs.Gauges.{held, gauges_of, in_range, gauges_in, gauges_answer, reading_of, reading_in, reading_answer, ExactGauges, ExactReading}
use Rattle.gauges.specs.Inner.Absence.{in_place_of_8}
use Rattle.gauges.specs.declared.answer.Gauge.{Gauge}
use Rattle.gauges.specs.declared.answer.Gauge.TheVariants as which
use Rattle.gauges.specs.declared.answer.Gauges.{Gauges}
use Rattle.gauges.specs.declared.answer.Reading.{Reading}
use Rattle.gauges.proofs.Fractions.{exactly}

-- the numbers beside the text, by their limits
module _ (volume b : ℕ) where
  pub little : in_range volume b ≡ true → volume ≤ most_volume
  unfolding in_range
  little h = leb-true volume most_volume (both_left (leb volume most_volume) (in_limits 1 most_id b) h)

  pub over-volume : most_volume < volume → in_range volume b ≡ false
  unfolding in_range
  over-volume h = rw (lt-leb volume most_volume h)

  pub no-id : in_limits 1 most_id b ≡ false → in_range volume b ≡ false
  unfolding in_range
  no-id h = rw h (both_false (leb volume most_volume))

  both-within : volume ≤ most_volume → in_limits 1 most_id b ≡ true → in_range volume b ≡ true
  unfolding in_range
  both-within h i = rw (le-leb volume most_volume h, i)

-- no backend holds more than all suffixes
pub held-most : (text : List ℕ) (t : Table) → read_table text ≡ got t → (n b : ℕ) → held t n b ≤ most_suffixes
unfolding held
held-most text t is n b = le_trans (share-le t.k (own_rules n t.lines) b) (pow-few t.k (read-proper text t is).few_bits)

pub load-most : (text : List ℕ) (t : Table) → read_table text ≡ got t → (n volume b : ℕ) → in_range volume b ≡ true
    → volume * held t n b ≤ most_volume * most_suffixes
load-most text t is n volume b i = mul-le-mul (little volume b i) (held-most text t is n b)

module _ (text : List ℕ) (n volume b : ℕ) where
  -- the four ways in which a call may go, in the order of the refusals; i says whether the numbers beside the text pass
  data Way (i : Bool) : Type 0 where
    unread : (why : Refusal) (line : ℕ) → read_table text ≡ refused why line → Way i
    absent : (t : Table) → read_table text ≡ got t → has_service t n ≡ false → Way i
    out : (t : Table) → read_table text ≡ got t → has_service t n ≡ true → i ≡ false → Way i
    made : (t : Table) → read_table text ≡ got t → has_service t n ≡ true → i ≡ true → Way i

  way : (i : Bool) → Way i
  way i = go (read_table text) refl
    where
      ranges : (t : Table) (j : Bool) → read_table text ≡ got t → has_service t n ≡ true → i ≡ j → Way i
      ranges t true is has in-range = made t is has in-range
      ranges t false is has in-range = out t is has in-range

      services : (t : Table) (h : Bool) → read_table text ≡ got t → has_service t n ≡ h → Way i
      services t true is has = ranges t i is has refl
      services t false is has = absent t is has

      go : (r : Read Table) → read_table text ≡ r → Way i
      go (refused why line) is = unread why line is
      go (got t) is = services t (has_service t n) is refl

  -- ---- the record

  -- the sheet was refused, or lacks the service, or the id is out of its limits
  pub record-refused : (r : Why) → Err r ≡ share_answer text n b → gauges_answer text n volume b ≡ Err r
  unfolding share_answer share_in gauges_answer gauges_in
  record-refused r e = go (way (in_limits 1 most_id b))
    where
      go : Way (in_limits 1 most_id b) → gauges_answer text n volume b ≡ Err r
      go (unread why line is) = rw is (ap Err (sym (same_err (rw is at e))))
      go (absent t is has) = rw (is, has) (ap Err (sym (same_err (rw (is, has) at e))))
      go (out t is has o) = rw (is, has, no-id volume b o) (ap Err (sym (same_err (rw (is, has, o) at e))))
      go (made t is has i) = not_both (sym (rw (is, has, i) at e))

  -- the share of the backend was counted
  pub record Counted (m : ShareRecord) : Type 0 where
    pub table : Table
    pub read : read_table text ≡ got table
    pub has : has_service table n ≡ true
    pub known : in_limits 1 most_id b ≡ true
    pub is : m ≡ record { k = table.k; share = held table n b }

  pub counted : (m : ShareRecord) → Ok m ≡ share_answer text n b → Counted m
  unfolding share_answer share_in held
  counted m e = go (way (in_limits 1 most_id b))
    where
      go : Way (in_limits 1 most_id b) → Counted m
      go (unread why line is) = not_both (rw is at e)
      go (absent t is has) = not_both (rw (is, has) at e)
      go (out t is has o) = not_both (rw (is, has, o) at e)
      go (made t is has i) = record { table = t; read = is; has = has; known = i; is = same_ok (rw (is, has, i) at e) }

  module _ (m : ShareRecord) (c : Counted m) where
    bits_are : m.k ≡ c.table.k
    bits_are = ap (λ (x : ShareRecord). x.k) c.is

    share-is : m.share ≡ held c.table n b
    share-is = ap (λ (x : ShareRecord). x.share) c.is

    pub few_bits : m.k ≤ most_bits
    few_bits = omega (arith, bits_are, (read-proper text c.table c.read).few_bits)

    pub few-held : m.share ≤ most_suffixes
    few-held = omega (arith, share-is, held-most text c.table c.read n b)

    pub record-out : most_volume < volume → gauges_answer text n volume b ≡ Err (refused_at no2 0)
    unfolding gauges_answer gauges_in
    record-out o = rw (c.read, c.has, over-volume volume b o)

    pub record-made : volume ≤ most_volume → gauges_answer text n volume b ≡ Ok (gauges_of m.k m.share volume)
    unfolding gauges_answer gauges_in
    record-made h = rw (c.read, c.has, both-within volume b h c.known, bits_are, share-is)

  -- a record that was made
  pub record Whole (g : Gauges) : Type 0 where
    pub table : Table
    pub read : read_table text ≡ got table
    pub in-range : in_range volume b ≡ true
    pub is : g ≡ gauges_of table.k (held table n b) volume

  pub whole : (g : Gauges) → Ok g ≡ gauges_answer text n volume b → Whole g
  unfolding gauges_answer gauges_in
  whole g e = go (way (in_range volume b))
    where
      go : Way (in_range volume b) → Whole g
      go (unread why line is) = not_both (rw is at e)
      go (absent t is has) = not_both (rw (is, has) at e)
      go (out t is has o) = not_both (rw (is, has, o) at e)
      go (made t is has i) = record { table = t; read = is; in-range = i; is = same_ok (rw (is, has, i) at e) }

  -- ---- the reading

  module _ (gauge : Gauge) where
    pub reading-made : (g : Gauges) → Ok g ≡ gauges_answer text n volume b → reading_answer text n volume b gauge ≡ Ok (reading_of gauge g)
    unfolding gauges_answer gauges_in reading_answer reading_in
    reading-made g e = go (way (in_range volume b))
      where
        go : Way (in_range volume b) → reading_answer text n volume b gauge ≡ Ok (reading_of gauge g)
        go (unread why line is) = not_both (rw is at e)
        go (absent t is has) = not_both (rw (is, has) at e)
        go (out t is has o) = not_both (rw (is, has, o) at e)
        go (made t is has i) = rw (is, has, i) (ap (λ (h : Gauges). Ok (reading_of gauge h)) (sym (same_ok (rw (is, has, i) at e))))

    pub reading-refused : (r : Why) → Err r ≡ gauges_answer text n volume b → reading_answer text n volume b gauge ≡ in_place_of_8 r
    unfolding gauges_answer gauges_in reading_answer reading_in in_place_of_8 number_of
    reading-refused r e = go (way (in_range volume b))
      where
        go : Way (in_range volume b) → reading_answer text n volume b gauge ≡ in_place_of_8 r
        go (unread why line is) =
            rw (is, same_err (rw is at e), rw is at (never-eight text))
        go (absent t is has) = rw (is, has, same_err (rw (is, has) at e))
        go (out t is has o) = rw (is, has, o, same_err (rw (is, has, o) at e))
        go (made t is has i) = not_both (sym (rw (is, has, i) at e))

  -- ---- both are exact

  module _ (t : Table) (is : read_table text ≡ got t) where
    exact-of : in_range volume b ≡ true → ExactGauges t n volume b (gauges_of t.k (held t n b) volume)
    unfolding gauges_of
    exact-of i =
        let bits = (read-proper text t is).few_bits in
        record {
          share = exactly (held t n b) t.k (omega (arith, held-most text t is n b)) (omega (arith, bits));
          load = exactly (volume * held t n b) t.k (omega (arith, load-most text t is n volume b i)) (omega (arith, bits));
        }

    pub record-exact : (r : (Result Gauges Why)) → r ≡ gauges_answer text n volume b → (g : Gauges) → r ≡ Ok g → ExactGauges t n volume b g
    record-exact r r-is g e =
        let w = whole g (sym e ∙ r-is) in
        let same : t ≡ w.table = got_same (sym is ∙ w.read) in
        rw (w.is, ← same) (exact-of w.in-range)

    exact_read : (gauge : Gauge) → in_range volume b ≡ true → ExactReading t n volume b (reading_of gauge (gauges_of t.k (held t n b) volume))
    unfolding reading_of
    exact_read which.Share i = (exact-of i).share
    exact_read which.Load i = (exact-of i).load

    pub reading-exact :
        (gauge : Gauge) (r : (Result Reading Why)) → r ≡ reading_answer text n volume b gauge → (x : Reading) → r ≡ Ok x → ExactReading t n volume b x
    unfolding reading_answer reading_in
    reading-exact gauge r r-is x r-reads = services (has_service t n) (in_range volume b) refl refl
      where
        e : reading_answer text n volume b gauge ≡ Ok x
        e = sym r-is ∙ r-reads

        services : (h i : Bool) → has_service t n ≡ h → in_range volume b ≡ i → ExactReading t n volume b x
        services true true has i = subst (ExactReading t n volume b) (same_ok (rw (is, has, i) at e)) (exact_read gauge i)
        services true false has i = not_both (sym (rw (is, has, i) at e))
        services false i has j = subst (ExactReading t n volume b) (same_ok (rw (is, has) at e)) has
