-- `printing::put_head` meets its contract: the word, and the three numbers one after the other.
use Prim.Native.Nat.{ℕ, ◌+◌, ◌≤◌}
use mathlib.Core.Path.{◌≡◌, refl, sym}
use mathlib.Core.List.{List, ◌∷◌, ◌++◌, append_assoc, []}
use native.Mathlib.Omega.{arith}
use lib.ListN.{length, drop, length-take, length-append}
use Rattle.std.proofs.lemmas.List.Edits.{sets-eq}
use Rattle.numerals.specs.Decimal.{width, decimal}
use Rattle.numerals.proofs.Decimal.{length-decimal}
use Rattle.sheets.specs.Inner.Writing.{Wrote}
use Rattle.sheets.specs.RuleSheet.{head_text}
use Rattle.sheets.proofs.TableTexts.{length-head}
use Rattle.sheets.proofs.Writes.{chain, same_length}
use Rattle.sheets.proofs.printing.put_head.Goals as goal
use Rattle.sheets.proofs.printing.put_head.Goals.{Start, After-copy_from_slice}

-- the word and a space
abbrev word : List ℕ
word = 84 ∷ 65 ∷ 66 ∷ 76 ∷ 69 ∷ 32 ∷ []

-- the text fits
room : (c : Start) → 9 ≤ length c.args.out.now
room c = let a = c.args in omega (arith, c.requires, length-head a.k a.n a.total)

worded :
    (c : After-copy_from_slice)
    → let a = c.args in
    Wrote a.out.now (c.copy_from_slice.new.self ++ drop 6 a.out.now) 0 6 word
worded c =
    let a = c.args in
    record {
      ends = refl;
      holds = rw c.copy_from_slice.ensures.after (sym (sets-eq word a.out.now 0 (omega (arith, room (goal.at.After-copy_from_slice c).Start))));
    }

-- line 1 as it is written
parts :
    (k n total : ℕ)
    → ((word ++ (decimal k ++ 32 ∷ [])) ++ (decimal n ++ 32 ∷ [])) ++ (decimal total ++ 10 ∷ []) ≡ head_text k n total
unfolding head_text
parts k n total = simp append_assoc

-- how long the text is behind a number
module _ (n s at next : ℕ) (a b : List ℕ) (w : Wrote a b at next (decimal n ++ s ∷ [])) where
  behind : next ≡ at + width n + 1
  behind = omega (arith, w.ends, length-append (decimal n) (s ∷ []), length-decimal n)

pub slice_bounds-copy_from_slice-end : goal.slice_bounds-copy_from_slice-end
slice_bounds-copy_from_slice-end c = omega (arith, room (goal.at.slice_bounds-copy_from_slice-end c).Start)

pub slice_bounds-copy_from_slice-end-2 : goal.slice_bounds-copy_from_slice-end-2
slice_bounds-copy_from_slice-end-2 c = omega (arith, room (goal.at.slice_bounds-copy_from_slice-end-2 c).Start, length-take 6 c.args.out.now)

pub copy_from_slice-requires : goal.copy_from_slice-requires
copy_from_slice-requires c = omega (arith, room (goal.at.copy_from_slice-requires c).Start, length-take 6 c.args.out.now)

pub put_number-a-requires : goal.put_number-a-requires
put_number-a-requires c =
    let a = c.args in
    omega (
      arith,
      c.requires,
      length-head a.k a.n a.total,
      length-decimal a.k,
      same_length (worded (goal.at.put_number-a-requires c).After-copy_from_slice),
    )

pub put_number-b-requires : goal.put_number-b-requires
put_number-b-requires c =
    let a = c.args in
    let w = c.put_number-a.ensures in
    omega (
      arith,
      c.requires,
      length-head a.k a.n a.total,
      length-decimal a.n,
      behind _ _ _ _ _ _ w,
      same_length (chain (worded (goal.at.put_number-b-requires c).After-copy_from_slice) w),
    )

pub put_number-requires : goal.put_number-requires
put_number-requires c =
    let a = c.args in
    let v = c.put_number-a.ensures in
    let w = c.put_number-b.ensures in
    omega (
      arith,
      c.requires,
      length-head a.k a.n a.total,
      length-decimal a.total,
      behind _ _ _ _ _ _ v,
      behind _ _ _ _ _ _ w,
      same_length (chain (chain (worded (goal.at.put_number-requires c).After-copy_from_slice) v) w),
    )

pub returns : goal.returns
returns c =
    let a = c.args in
    let w = chain (worded (goal.at.returns c).After-copy_from_slice) c.put_number-a.ensures in
    rw (← parts a.k a.n a.total)
    (chain (chain w c.put_number-b.ensures) c.put_number.ensures)
