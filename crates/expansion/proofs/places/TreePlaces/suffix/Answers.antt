-- `places::TreePlaces::suffix` meets its contract: the suffix is read from the listing of the twelve-bit ones.
use Prim.Native.Nat.{ℕ, ◌-◌, ◌/◌, ◌^◌, ◌<◌}
use mathlib.Core.Path.{ap, sym, ◌∙◌}
use native.Mathlib.Nat.{mod-eq_of_lt}
use native.Mathlib.Omega.{arith}
use Rattle.numerals.specs.Limits.{most_bits, most_suffixes}
use Rattle.numerals.specs.Suffix.{place}
use Rattle.numerals.proofs.Place.{place_read}
use Rattle.numerals.proofs.Powers.{pow-few}
use Rattle.expansion.proofs.places.TreePlaces.suffix.Goals as goal
use Rattle.expansion.proofs.places.TreePlaces.suffix.Goals.{Start}

few : (s : Start) → s.args.at < most_suffixes
few s = omega (arith, pow-few s.args.k s.requires.0)

pub bounds-self-at : goal.bounds-self-at
bounds-self-at c = omega (arith, few (goal.at.bounds-self-at c).Start)

pub returns : goal.returns
returns c =
    let a = c.args in
    ap (λ (x : ℕ). x / 2 ^ (most_bits - a.k))
    (a.self.now.listed.at a.at (few (goal.at.returns c).Start) ∙ ap (place most_bits) (sym (mod-eq_of_lt c.requires.1)))
    ∙ place_read a.k most_bits a.at c.requires.0
