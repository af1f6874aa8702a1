-- `suffixes::write_suffix` meets its contract: '*' and the digits that `write_digits` writes are the text, one after the other.
use Rattle.std.specs.Prelude.{Err, Ok}
use mathlib.Core.Path.{◌≡◌, sym, ap, ◌∙◌}
use mathlib.Core.Bool.{true, false}
use mathlib.Core.List.{List}
use Prim.Native.Nat.{ℕ, ◌+◌, ◌≤◌}
use native.Mathlib.Numerals.{add-one}
use native.Mathlib.Omega.{arith}
use lib.ListN.{length, set, length-set}
use lib.Seq.{sets}
use borrow.Author.Tests.{not-true, not-false}
use Rattle.numerals.specs.Limits.{most_bits}
use Rattle.numerals.specs.Refusals.{no7}
use Rattle.numerals.specs.Digits.{lowest}
use Rattle.numerals.specs.Suffix.{is_suffix, suffix_text, put_suffix, put_suffix_end}
use Rattle.numerals.proofs.SuffixTexts.{length-suffix}
use Rattle.numerals.proofs.Writing.{written, short}
use Rattle.numerals.proofs.suffixes.write_suffix.Goals as goal
use Rattle.numerals.proofs.suffixes.write_suffix.Goals.{Else-not-is_suffix}

pub returns-then-not-is_suffix : goal.returns-then-not-is_suffix
unfolding put_suffix put_suffix_end
returns-then-not-is_suffix c =
    let bad : is_suffix most_bits c.args.len c.args.value ≡ false =
    sym c.is_suffix.ensures ∙ not-true c.is_suffix.result c.if-not-is_suffix.true-raw in
    record {
      answer = rw bad;
      buffer = rw bad;
    }

passed : (c : Else-not-is_suffix) → let a = c.args in is_suffix most_bits a.len a.value ≡ true
passed c = sym c.is_suffix.ensures ∙ not-false c.is_suffix.result c.if-not-is_suffix.false-raw

-- no room: nothing is written
too_long :
    (out : List ℕ) (at l v : ℕ) → is_suffix most_bits l v ≡ true → length out ≤ at + l
    → (Err no7 ≡ put_suffix_end out at l v) × (out ≡ put_suffix out at l v)
unfolding put_suffix put_suffix_end
too_long out at l v e h =
    let s = short out at (suffix_text l v) (omega (arith, length-suffix l v)) in
    (rw e s.0, rw e s.1)

pub returns-then-room-at : goal.returns-then-room-at
returns-then-room-at c =
    record {
      answer = (too_long _ _ _ _ (passed (goal.at.returns-then-room-at c).Else-not-is_suffix) (omega arith)).0;
      buffer = (too_long _ _ _ _ (passed (goal.at.returns-then-room-at c).Else-not-is_suffix) (omega arith)).1;
    }

pub returns-then-room-at-2 : goal.returns-then-room-at-2
returns-then-room-at-2 c =
    record {
      answer = (too_long _ _ _ _ (passed (goal.at.returns-then-room-at-2 c).Else-not-is_suffix) (omega arith)).0;
      buffer = (too_long _ _ _ _ (passed (goal.at.returns-then-room-at-2 c).Else-not-is_suffix) (omega arith)).1;
    }

pub write_digits-requires : goal.write_digits-requires
write_digits-requires c = simp length-set (omega arith)

pub returns : goal.returns
unfolding suffix_text put_suffix put_suffix_end
returns c =
    let a = c.args in
    let out = a.out.now in
    let text = suffix_text a.len a.value in
    let long : a.at + 1 + a.len ≡ a.at + length text = omega (arith, length-suffix a.len a.value) in
    let stored = written out a.at text (omega arith) in
    record {
      answer = rw (passed (goal.at.returns c).Else-not-is_suffix) (ap Ok long ∙ stored.0);
      buffer = rw (passed (goal.at.returns c).Else-not-is_suffix)
          (c.write_digits.ensures
          ∙ ap (λ (i : ℕ). sets (set out a.at 42) i (lowest 2 a.len a.value)) (add-one a.at)
          ∙ stored.1);
    }
