-- `ledger::changed`: neither the parts nor the errors are large.
use Prim.Native.Nat.{ℕ, ◌*◌, ◌^◌, ◌≤◌, ◌<◌}
use mathlib.Core.Path.{◌≡◌, ap}
use native.Mathlib.Omega.{arith}
use lib.IntN.{ℤ, pos, ◌+ℤ◌, ◌-ℤ◌}
use lib.Signed.{mag}
use mir.Syntax.{w64}
use mir.Val.{to_z, of_z}
use Rattle.numerals.specs.Limits.{most_suffixes, unit}
use Rattle.expansion.specs.Inner.Ledger.{changed_by}
use Rattle.expansion.proofs.Signed.{back, small-read, few-less, few-more, parts-read}
use Rattle.expansion.proofs.ledger.changed.Goals as goal
use Rattle.expansion.proofs.ledger.changed.Goals.{Start}

-- the error after the loss, and after the gain
module _ (s : Start) where
  abbrev less : ℤ
  less = s.args.b.error -ℤ pos (s.args.lost * unit)

  abbrev more : ℤ
  more = less +ℤ pos (s.args.gained * unit)

  few-lost : s.args.lost ≤ most_suffixes
  few-lost = omega (arith, s.requires.held, s.requires.bounded)

  less-few : mag less < 2 ^ 51
  less-few = few-less s.args.b.error s.args.lost s.requires.small few-lost

  more-few : mag more < 2 ^ 63
  more-few = few-more less s.args.gained less-few s.requires.few

  less-is : to_z w64 (of_z w64 s.args.b.error) -ℤ to_z w64 (s.args.lost * unit) ≡ less
  less-is = rw (small-read s.args.b.error s.requires.small, parts-read s.args.lost few-lost)

  more-is : to_z w64 (of_z w64 less) +ℤ to_z w64 (s.args.gained * unit) ≡ more
  more-is = rw (back less (omega (arith, less-few)), parts-read s.args.gained s.requires.few)

pub overflow_sub-result-2 : goal.overflow_sub-result-2
unfolding unit
overflow_sub-result-2 c = rw (less-is (goal.at.overflow_sub-result-2 c).Start) (record {
  sfits = omega
      (arith, less-few (goal.at.overflow_sub-result-2 c).Start);
})

pub overflow_add-result-2 : goal.overflow_add-result-2
unfolding unit
overflow_add-result-2 c = rw (less-is (goal.at.overflow_add-result-2 c).Start, more-is (goal.at.overflow_add-result-2 c).Start)
    (record { sfits = more-few (goal.at.overflow_add-result-2 c).Start })

-- the share by arithmetic, so that a wrong one is refused by its number
pub returns : goal.returns
unfolding unit changed_by
returns c =
    rw (less-is (goal.at.returns c).Start, more-is (goal.at.returns c).Start, back (more (goal.at.returns c).Start) (more-few (goal.at.returns c).Start))
    (ap (λ (share : ℕ). record { weight = c.args.b.weight; share = share; error = more (goal.at.returns c).Start }) (omega (arith, c.requires.held)))
