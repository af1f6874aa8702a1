-- The search of a move, over the holders kept: the node found is the lowest whose suffix the giver holds wholly; the new rule is for that suffix, and
-- the holders go on with it.
use Prim.Native.Nat.{ℕ, ◌+◌, ◌-◌, ◌*◌, ◌/◌, ◌^◌, ◌≤◌, ◌<◌}
use mathlib.Core.Bool.{true, false}
use mathlib.Core.List.{List, ◌∷◌}
use mathlib.Core.Path.{◌≡◌, ap, ◌∙◌, subst}
use native.Mathlib.Decide.{dec_lt}
use native.Mathlib.Omega.{arith}
use lib.ListN.{length, get_or}
use Rattle.numerals.specs.Suffix.{place}
use Rattle.expansion.specs.Imbalance.{giver, receiver}
use Rattle.expansion.specs.Steps.{is_no_gain, is_whole, term, term_length, lowest_place, new_rule, Frame}
use Rattle.expansion.specs.Inner.Sound.{Sound}
use Rattle.expansion.specs.Inner.Holders.{held_by, lowest_held, Holds, Given, lowered}
use Rattle.expansion.specs.declared.rule.Rule.{Rule}
use Rattle.numerals.proofs.Searches.{clash, first-is}
use Rattle.expansion.proofs.Balance.{giver-lt, receiver-lt}
use Rattle.expansion.proofs.Moves.{Good, giver_label, covered, place_found, new-whole, apart}
use Rattle.expansion.proofs.Holdings.{lowest-is, held_whole, low-not, holds-given}

module _ (F : Frame) (S : Sound F) (rs : List Rule) (G : Good F rs) (gain : is_no_gain F rs ≡ false)
    (holder low : List ℕ) (H : Holds F.targets rs holder low) where
  size : 2 ^ (F.targets.k - term_length F rs) ≡ 2 ^ term F rs
  size = ap (λ (i : ℕ). 2 ^ i) (covered F S rs)

  short : term_length F rs ≤ F.targets.k
  unfolding term_length
  short = omega arith

  none_below : (j : ℕ) → j < lowest_place F rs → is_whole F.targets.k rs (term_length F rs) (place (term_length F rs) j) (giver_label F rs) ≡ false
  unfolding lowest_place
  none_below =
      (first-is (2 ^ term_length F rs) (λ p. is_whole F.targets.k rs (term_length F rs) (place (term_length F rs) p) (giver_label F rs))).below

  held : (j : ℕ) → j < 2 ^ term_length F rs
      → held_by holder (2 ^ term F rs) (giver F.targets rs) j ≡ is_whole F.targets.k rs (term_length F rs) (place (term_length F rs) j) (giver_label F rs)
  held j m = rw size at (held_whole F.targets S.distinct (term_length F rs) short rs holder low H (giver F.targets rs) j (giver-lt F S rs) m)

  lowest-held : held_by holder (2 ^ term F rs) (giver F.targets rs) (lowest_place F rs) ≡ true
  unfolding new_rule
  lowest-held = held (lowest_place F rs) (place_found F S rs G gain) ∙ new-whole F S rs G gain

  -- the walk may start at the node of the giver's low
  abbrev from : ℕ
  from = get_or low (giver F.targets rs) 0 / 2 ^ term F rs

  from_le : from ≤ lowest_place F rs
  from_le = go (dec_lt (lowest_place F rs) from)
    where
      go : Dec (lowest_place F rs < from) → from ≤ lowest_place F rs
      go (yes m) =
          absurd
          (clash (held_by holder (2 ^ term F rs) (giver F.targets rs) (lowest_place F rs)) lowest-held
          (subst (λ (n : ℕ). lowest_place F rs < get_or low (giver F.targets rs) 0 / n
          → held_by holder n (giver F.targets rs) (lowest_place F rs) ≡ false) size
          (low-not F.targets S.distinct (term_length F rs) short rs holder low H (giver F.targets rs) (lowest_place F rs) (place_found F S rs G gain))
          m))
      go (no m) = omega arith

  pub found-lowest : lowest_place F rs ≡ lowest_held holder (2 ^ term F rs) (giver F.targets rs) from (2 ^ term_length F rs)
  found-lowest =
      lowest-is holder (2 ^ term F rs) (giver F.targets rs) from (2 ^ term_length F rs) (lowest_place F rs) from_le
      (omega (arith, place_found F S rs G gain))
      (λ j n m. held j (omega (arith, place_found F S rs G gain)) ∙ none_below j m)
      (λ n. lowest-held)

  pub found-holds : giver F.targets rs < length low → receiver F.targets rs < length low → (holder' low' : List ℕ)
      → Given (lowest_place F rs * 2 ^ term F rs) (2 ^ term F rs) (receiver F.targets rs) holder holder'
      → low' ≡ lowered low (giver F.targets rs) (receiver F.targets rs) (lowest_place F rs * 2 ^ term F rs)
      (lowest_place F rs * 2 ^ term F rs + 2 ^ term F rs)
      → Holds F.targets (new_rule F rs ∷ rs) holder' low'
  unfolding new_rule
  found-holds g r holder' low' =
      subst (λ (n : ℕ). Given (lowest_place F rs * n) n (receiver F.targets rs) holder holder'
      → low' ≡ lowered low (giver F.targets rs) (receiver F.targets rs) (lowest_place F rs * n) (lowest_place F rs * n + n)
      → Holds F.targets (new_rule F rs ∷ rs) holder' low') size
      (holds-given F.targets S.distinct (term_length F rs) short rs holder low H (G.short gain) (lowest_place F rs) (place_found F S rs G gain)
      (giver F.targets rs) (receiver F.targets rs)
      (apart F S rs gain) (receiver-lt F S rs) none_below g r holder' low')
