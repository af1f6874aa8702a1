-- `suffixes::suffix_place` meets its contract: the place is read from that of twelve bits.
use Rattle.std.specs.Prelude.{Some}
use mathlib.Core.Path.{◌≡◌, sym, ap, ◌∙◌}
use mathlib.Core.Bool.{true}
use Prim.Native.Nat.{ℕ, ◌-◌, ◌/◌, ◌^◌}
use native.Mathlib.Nat.{lt_of_lt_of_le}
use lib.Pow.{pow_mono}
use borrow.Author.Tests.{not-true, not-false}
use Rattle.numerals.specs.Suffix.{is_suffix, suffix_place}
use Rattle.numerals.specs.Limits.{most_bits}
use Rattle.numerals.proofs.Place.{place-first}
use Rattle.numerals.proofs.SuffixTexts.{Limits, suffix-limits}
use Rattle.numerals.proofs.suffixes.suffix_place.Goals as goal
use Rattle.numerals.proofs.suffixes.suffix_place.Goals.{Else-not-is_suffix}

pub returns-then-not-is_suffix : goal.returns-then-not-is_suffix
unfolding suffix_place
returns-then-not-is_suffix c = rw (sym c.is_suffix.ensures ∙ not-true c.is_suffix.result c.if-not-is_suffix.true-raw)

passed : (c : Else-not-is_suffix) → let a = c.args in is_suffix most_bits a.len a.value ≡ true
passed c = sym c.is_suffix.ensures ∙ not-false c.is_suffix.result c.if-not-is_suffix.false-raw

limits : (c : Else-not-is_suffix) → let a = c.args in Limits a.len a.value
limits c = suffix-limits _ _ (passed c)

pub place_of_twelve-requires : goal.place_of_twelve-requires
place_of_twelve-requires c = lt_of_lt_of_le (limits c).small (pow_mono (limits c).short)

pub overflow_sub-place : goal.overflow_sub-place
overflow_sub-place c = (limits (goal.at.overflow_sub-place c).Else-not-is_suffix).short

pub returns : goal.returns
unfolding suffix_place
returns c =
    let a = c.args in
    let h = limits (goal.at.returns c).Else-not-is_suffix in
    rw (passed (goal.at.returns c).Else-not-is_suffix)
    (ap Some
    (ap (λ (x : ℕ). x / 2 ^ (most_bits - a.len)) c.place_of_twelve.ensures ∙ place-first a.len most_bits a.value h.short h.small))
