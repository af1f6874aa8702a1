-- `printing::put_suffix` meets its contract: the suffix, since it fits, and the space behind it.
use Rattle.std.specs.Prelude.{Result}
use Prim.Native.Nat.{ℕ, ◌+◌, ◌<◌}
use mathlib.Core.Path.{◌≡◌, ◌∙◌}
use mathlib.Core.List.{List}
use native.Mathlib.Omega.{arith}
use lib.ListN.{length}
use Rattle.numerals.specs.Digits.{put, put_end}
use Rattle.numerals.specs.Suffix.{suffix_text, put_suffix, put_suffix_end}
use Rattle.numerals.proofs.SuffixTexts.{Limits, is-suffix, length-suffix}
use Rattle.sheets.specs.Inner.Writing.{Wrote, Before, end_at}
use Rattle.sheets.proofs.Writes.{chain, text, before-end}
use Rattle.sheets.proofs.printing.put_suffix.Goals as goal
use Rattle.numerals.specs.declared.refusal.Refusal.{Refusal}

-- a suffix in its limits is written as it is
module _
    (out : List ℕ)
    (at len value : ℕ)
    (limits : Limits len value)
    (room : at + (len + 1) < length out)
    (w : (Result ℕ Refusal))
    (after : List ℕ)
    (is : w ≡ put_suffix_end out at len value)
    (put-it : after ≡ put_suffix out at len value)
  where
    fits : at + length (suffix_text len value) < length out
    fits = omega (arith, length-suffix len value)

    answer : w ≡ put_end out at (suffix_text len value)
    unfolding put_suffix_end
    answer = is ∙ rw (is-suffix len value limits)

    buffer : after ≡ put out at (suffix_text len value)
    unfolding put_suffix
    buffer = put-it ∙ rw (is-suffix len value limits)

    suffix-text : Wrote out after at (end_at w) (suffix_text len value)
    suffix-text = text out at (suffix_text len value) fits w after answer buffer

    suffix-before : Before w (length after)
    suffix-before = before-end out at (suffix_text len value) fits w after answer buffer

pub separate-requires : goal.separate-requires
separate-requires c =
    let w = c.write_suffix-written in
    suffix-before _ _ _ _ (record { short = c.requires.0.0; small = c.requires.0.1 }) c.requires.1 _ _ w.ensures.answer w.ensures.buffer

pub returns : goal.returns
returns c =
    let w = c.write_suffix-written in
    chain (suffix-text _ _ _ _ (record { short = c.requires.0.0; small = c.requires.0.1 }) c.requires.1 _ _ w.ensures.answer w.ensures.buffer)
    c.separate.ensures
