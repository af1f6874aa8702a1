-- `spreading::cover` meets its contract: the places of the rule's run are one part of the listing.
use Prim.Native.Nat.{ℕ, ◌+◌, ◌-◌, ◌*◌, ◌/◌, ◌%◌, ◌^◌, ◌≤◌, ◌<◌}
use mathlib.Core.List.{List}
use mathlib.Core.Path.{◌≡◌, ap, ◌∙◌}
use native.Mathlib.Decide.{dec_lt}
use native.Mathlib.Omega.{arith}
use lib.ListN.{length, get_or, replicate}
use lib.Pow.{pow_pos}
use borrow.Rule.Slice.PartMut.{put_mid}
use Rattle.std.proofs.Common.{rules}
use Rattle.std.proofs.lemmas.Grind.{common_steps}
use Rattle.numerals.specs.Limits.{most_bits, most_suffixes}
use Rattle.numerals.specs.Suffix.{place}
use Rattle.numerals.proofs.Place.{place-lt, place-first}
use Rattle.numerals.proofs.Powers.{pow-few, shifted}
use Rattle.expansion.specs.Inner.Holders.{Given}
use Rattle.expansion.specs.declared.rule.Rule.{Rule}
use Rattle.expansion.proofs.FirstMatch.{is-rule}
use Rattle.expansion.proofs.Nodes.{inside-node}
use Rattle.stages.proofs.SpreadLines.{covered-end}
use Rattle.stages.proofs.spreading.cover.Goals as goal
use Rattle.stages.proofs.spreading.cover.Goals.{Start}

-- the run of the rule
module _ (s : Start) where
  abbrev k : ℕ
  k = s.args.k

  abbrev len : ℕ
  len = s.args.len

  abbrev value : ℕ
  value = s.args.value

  abbrev size : ℕ
  size = 2 ^ (k - len)

  short : len ≤ most_bits
  short = omega (arith, s.requires.k_le_most_bits)

  few : value < most_suffixes
  few = omega (arith, s.requires.k_le_most_bits, pow-few len short)

  size_is : (1 * size) % 2 ^ 64 ≡ size
  size_is = shifted (k - len) (omega (arith, s.requires.k_le_most_bits))

  at-is : get_or s.args.places.now value 0 / 2 ^ (most_bits - len) * ((1 * size) % 2 ^ 64) ≡ place len value * size
  at-is =
      ap (λ (z : ℕ). get_or s.args.places.now value 0 / 2 ^ (most_bits - len) * z) size_is
      ∙ ap (λ (x : ℕ). x * size)
      (ap (λ (x : ℕ). x / 2 ^ (most_bits - len)) (s.requires.places.at value few) ∙ place-first len most_bits value short s.requires.k_le_most_bits.1.1.0)

  inside : place len value * size + size ≤ most_suffixes
  inside =
      omega (
        arith,
        inside-node k len (place len value) (size - 1) s.requires.k_le_most_bits.1.0 (place-lt len value) (omega (arith, pow_pos (k - len))),
        pow_pos (k - len),
        pow-few k s.requires.k_le_most_bits.0,
      )

pub bounds-places-value : goal.bounds-places-value
bounds-places-value c = omega (arith, few (goal.at.bounds-places-value c).Start, c.requires.places.long)

pub slice_bounds-fill-end : goal.slice_bounds-fill-end
slice_bounds-fill-end c =
    let s = (goal.at.slice_bounds-fill-end c).Start in
    omega (arith, size_is s, at-is s, inside s, c.told-holder)

-- a part that was filled
given-filled : (at size b : ℕ) (xs ys : List ℕ) → at + size ≤ length xs → ys ≡ replicate size b → Given at size b xs (put_mid at size xs ys)
given-filled at size b xs ys h e =
    record { long = grind (arith, common_steps); taken = grind (arith, common_steps); other = λ p o. other p o (dec_lt p at) }
  where
    other : (p : ℕ) → (at ≤ p → at + size ≤ p) → Dec (p < at) → get_or (put_mid at size xs ys) p 0 ≡ get_or xs p 0
    other p o (yes l) = grind (arith, common_steps)
    other p o (no d) = let m : at + size ≤ p = o (omega arith) in grind (arith, common_steps)

-- at the place and the size as the code has them
filled : (at size b i n : ℕ) (xs ys : List ℕ) → i ≡ at → n ≡ size → at + size ≤ length xs → ys ≡ replicate n b
    → Given at size b xs (put_mid i n xs ys)
filled at size b i n xs ys d e h f = rw (d, e) (given-filled at size b xs ys h (rw e at f))

pub returns : goal.returns
returns c =
    let s = (goal.at.returns c).Start in
    let rule : Rule = record { len = len s; value = value s; backend = c.args.backend } in
    covered-end (k s) rule c.args.holder.now _ (is-rule (k s) rule c.requires.k_le_most_bits.1.0 c.requires.k_le_most_bits.1.1.0)
    (filled _ _ _ _ _ _ _ (at-is s) (omega (arith, size_is s)) (omega (arith, inside s, c.told-holder)) (search rules))
