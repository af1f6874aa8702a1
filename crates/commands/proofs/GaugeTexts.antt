-- The text of a gauge: times 2^12 a gauge is a whole number, whose decimal over 2^12 is that of the gauge, exactly.
use Rattle.std.specs.Prelude.{Ok}
use Prim.Native.Nat.{ℕ, suc, ◌+◌, ◌-◌, ◌*◌, ◌^◌, ◌≤◌, ◌<◌}
use mathlib.Core.Path.{◌≡◌, refl, sym, ap, ◌∙◌, subst}
use mathlib.Core.Bool.{true, false}
use mathlib.Core.List.{List}
use native.Mathlib.Nat.{zero-lt-suc, mul_assoc, mul-one, mul-le-mul, mul-pos, div-one}
use native.Mathlib.Omega.{arith}
use lib.Dec.{T}
use lib.ListN.{length}
use lib.IntN.{pos, negsuc}
use lib.Pow.{pow-add, pow_pos}
use lib.Ieee.{Float, nan, inf, fin, binary64, of_int, mul, in_unsigned, to_unsigned}
use lib.Ieee.Exact.{HasValue}
use lib.Ieee.Back.{unsigned_back}
use lib.Ieee.Scale.{round_same}
use Rattle.numerals.specs.Limits.{most_bits, most_suffixes, most_volume}
use Rattle.numerals.specs.Decimal.{decimal}
use Rattle.numerals.proofs.Powers.{pow-few}
use Rattle.sheets.proofs.OrderedLines.{read-proper}
use Rattle.gauges.specs.Binary64.{dyadic}
use Rattle.gauges.specs.Gauges.{held, gauges_of, gauges_answer}
use Rattle.gauges.specs.declared.answer.Gauges.{Gauges}
use Rattle.gauges.proofs.Fractions.{dyadic-value}
use Rattle.gauges.proofs.Operations.{whole-value, whole_in, mul-values}
use Rattle.gauges.proofs.Answers.{held-most, load-most, whole}
use Rattle.commands.specs.Inner.Gauge.{IsGauge, gauge_room}
use Rattle.commands.specs.Dyadic.{dyadic_text, DecimalOf}
use Rattle.commands.specs.Gauge.{float_text}
use Rattle.commands.proofs.Decimals.{dyadic-same, dyadic-whole, dyadic-exact, dyadic-short}

-- ---- the text of a gauge

whole-text : (n : ℕ) → dyadic_text n 0 ≡ decimal n
whole-text n = dyadic-whole n 0 (omega arith) ∙ ap decimal (div-one n)

text-by : (x : Float) (n k : ℕ) → HasValue x false n (2 ^ k) → float_text x ≡ dyadic_text n k
unfolding float_text
text-by nan n k v = absurd v
text-by (inf s) n k v = absurd v
text-by (fin true m e) n k v = absurd (subst T v.0 tt)
text-by (fin false m (pos e)) n k v = sym (whole-text (m * 2 ^ e)) ∙ dyadic-same (m * 2 ^ e) 0 n k v.1
text-by (fin false m (negsuc e)) n k v =
    dyadic-same m (suc e) n k (ap (λ (i : ℕ). i * 2 ^ k) (sym (mul-one m)) ∙ v.1)

-- a gauge times 2^12
module _ (x : Float) (g : IsGauge x) where
  abbrev parts : ℕ
  parts = g.count * 2 ^ (most_bits - g.k)

  parts_are : parts * 2 ^ g.k ≡ g.count * most_suffixes
  parts_are =
      let all : most_bits - g.k + g.k ≡ most_bits = omega (arith, g.bits) in
      mul_assoc g.count (2 ^ (most_bits - g.k)) (2 ^ g.k)
      ∙ ap (λ (i : ℕ). g.count * i) (sym (pow-add 2 (most_bits - g.k) g.k) ∙ ap (λ (i : ℕ). 2 ^ i) all)

  parts-few : parts ≤ most_volume * most_suffixes * most_suffixes
  parts-few = mul-le-mul g.few (pow-few (most_bits - g.k) (omega arith))

  product : mul binary64 x (of_int binary64 (pos most_suffixes)) ≡ of_int binary64 (pos parts)
  unfolding of_int
  product =
      let value = dyadic-value g.count g.k (omega (arith, g.few)) (omega (arith, g.bits)) in
      ap (λ (y : Float). mul binary64 y (of_int binary64 (pos most_suffixes))) g.is
      ∙ mul-values _ _ g.count (2 ^ g.k) most_suffixes 1 (pow_pos g.k) (zero-lt-suc 0) value (whole-value most_suffixes (omega arith))
      ∙ round_same binary64 false (g.count * most_suffixes) (2 ^ g.k * 1) parts 1 (mul-pos (pow_pos g.k) (zero-lt-suc 0)) (zero-lt-suc 0)
      (mul-one (g.count * most_suffixes) ∙ sym parts_are ∙ ap (λ (i : ℕ). parts * i) (sym (mul-one (2 ^ g.k))))

  back : T (in_unsigned binary64 64 (of_int binary64 (pos parts))) × (to_unsigned 64 (of_int binary64 (pos parts)) ≡ parts)
  back = unsigned_back binary64 64 parts (whole_in parts (omega (arith, parts-few))) (omega (arith, parts-few))

  pub parts_in : T (in_unsigned binary64 64 (mul binary64 x (of_int binary64 (pos most_suffixes))))
  parts_in = rw product back.0

  pub gauge-text : dyadic_text (to_unsigned 64 (mul binary64 x (of_int binary64 (pos most_suffixes)))) most_bits ≡ float_text x
  gauge-text =
      rw (product, back.1)
      (dyadic-same parts most_bits g.count g.k parts_are
      ∙ sym (text-by x g.count g.k
      (subst (λ (y : Float). HasValue y false g.count (2 ^ g.k)) (sym g.is)
      (dyadic-value g.count g.k (omega (arith, g.few)) (omega (arith, g.bits))))))

-- ---- the gauges of a record

gauge-by : (count k : ℕ) → count ≤ most_volume * most_suffixes → k ≤ most_bits → IsGauge (dyadic count k)
gauge-by count k few bits = record { count = count; k = k; is = refl; few = few; bits = bits }

pub made-gauges : (text : List ℕ) (n volume b : ℕ) (g : Gauges) → Ok g ≡ gauges_answer text n volume b → IsGauge g.share × IsGauge g.load
unfolding gauges_of
made-gauges text n volume b g e =
    let w = whole text n volume b g e in
    let count = held w.table n b in
    let bits = (read-proper text w.table w.read).few_bits in
    let few = held-most text w.table w.read n b in
    rw w.is (
      gauge-by count w.table.k (omega (arith, few)) bits,
      gauge-by (volume * count) w.table.k (load-most text w.table w.read n volume b w.in-range) bits,
    )

-- ---- the text is exact

-- the text of a gauge of a table
gauge-line : (n k : ℕ) → n ≤ most_volume * most_suffixes → k ≤ most_bits → float_text (dyadic n k) ≡ dyadic_text n k
gauge-line n k few bits = text-by (dyadic n k) n k (dyadic-value n k (omega arith) (omega arith))

pub gauge-exact : (n k : ℕ) → n ≤ most_volume * most_suffixes → k ≤ most_bits → DecimalOf (float_text (dyadic n k)) n k
gauge-exact n k few bits = rw (gauge-line n k few bits) (dyadic-exact n k)

pub gauge-short : (n k : ℕ) → n ≤ most_volume * most_suffixes → k ≤ most_bits → length (float_text (dyadic n k)) < gauge_room
gauge-short n k few bits = rw (gauge-line n k few bits) (omega (arith, dyadic-short n k (omega arith)))
