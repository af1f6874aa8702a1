-- `suffixes::read_suffix` meets its contract: each refusal is one test of the definition, and the bits are what `read_digits` finds.
use mathlib.Core.Path.{◌≡◌, sym, ap, ap₂, ◌∙◌}
use Prim.Native.Nat.{◌+◌, ◌-◌}
use native.Mathlib.Omega.{arith}
use lib.ListN.{length}
use lib.Seq.{slice}
use Rattle.numerals.specs.Limits.{most_suffixes}
use Rattle.numerals.specs.Inner.Digits.{read_digits}
use Rattle.numerals.specs.Suffix.{suffix}
use Rattle.numerals.proofs.Slice.{slice-more, slice-none, slice-length, slice-end}
use Rattle.numerals.proofs.SuffixTexts.{suffix-none, no_bits, many-bits, no-star, too_long, on_bits, suffix-bits}
use Rattle.numerals.proofs.suffixes.read_suffix.Goals as goal
use Rattle.numerals.proofs.suffixes.read_suffix.Goals.{After-read_digits}

pub returns-then-k-lt1 : goal.returns-then-k-lt1
returns-then-k-lt1 c = sym (no_bits _ _ c.if-k-lt1.true)

pub returns-then-k-gt-MOST_BITS : goal.returns-then-k-gt-MOST_BITS
returns-then-k-gt-MOST_BITS c = sym (many-bits _ _ c.if-k-gt-MOST_BITS.true)

pub returns-then-end-from : goal.returns-then-end-from
returns-then-end-from c =
    let a = c.args in
    sym (ap (suffix a.k) (slice-none a.from a.to a.s.now (omega arith)) ∙ suffix-none a.k)

pub returns-then-s-from-ne42 : goal.returns-then-s-from-ne42
returns-then-s-from-ne42 c =
    let a = c.args in
    sym
    (ap (suffix a.k) (slice-more a.from a.to a.s.now (omega arith) (omega arith))
    ∙ no-star a.k _ (slice (a.from + 1) a.to a.s.now) c.if-s-from-ne42.true)

pub returns-then-k-len : goal.returns-then-k-len
returns-then-k-len c =
    let a = c.args in
    sym
    (ap (suffix a.k) (slice-more a.from a.to a.s.now (omega arith) (omega arith))
    ∙ too_long a.k _ (slice (a.from + 1) a.to a.s.now) (omega (arith, slice-length (a.from + 1) a.to a.s.now)))

-- the suffix is what its bits are read as
whole :
    (c : After-read_digits)
    → let a = c.args in
    suffix a.k (slice a.from a.to a.s.now)
    ≡ on_bits (c.min-end.result - a.from - 1) c.read_digits.result
whole c =
    let least = c.min-end in
    let a = c.args in
    let bits = slice (a.from + 1) a.to a.s.now in
    let long : length bits ≡ least.result - a.from - 1 = omega (arith, slice-length (a.from + 1) a.to a.s.now) in
    let same : slice (a.from + 1) least.result a.s.now ≡ bits =
    sym (slice-end (a.from + 1) a.to least.result a.s.now least.ensures) in
    ap (suffix a.k) (slice-more a.from a.to a.s.now (omega arith) (omega arith))
    ∙ suffix-bits a.k _ bits c.if-k-lt1.false c.if-k-gt-MOST_BITS.false c.if-s-from-ne42.false (omega arith)
    ∙ ap₂ on_bits long (sym (c.read_digits.ensures ∙ ap (read_digits 2 (most_suffixes - 1)) same))

pub returns-in_err-value : goal.returns-in_err-value
returns-in_err-value c = sym (whole (goal.at.returns-in_err-value c).After-read_digits ∙ rw (c.in_err-value.was, c.from_residual.ensures))

pub returns : goal.returns
returns c = sym (whole (goal.at.returns c).After-read_digits ∙ rw c.in_ok-value.was)
