-- `known::include` meets its contract: the id is at its place, or is put there.
use Prim.Native.Nat.{ℕ}
use mathlib.Core.Path.{◌≡◌, ap, sym, ◌∙◌}
use native.Mathlib.Omega.{arith}
use lib.Dec.{eqb}
use lib.ListN.{take, get_or, length-take}
use Rattle.expansion.specs.Inner.Known.{is_there, insert_at}
use Rattle.expansion.proofs.KnownIds.{place-le}
use Rattle.expansion.proofs.KnownPlaces.{included-there, included-new}
use Rattle.expansion.proofs.known.include.Goals as goal
use Rattle.expansion.proofs.known.include.Goals.{After-is_at}

-- the id is at its place, or isn't
there : (c : After-is_at)
    → let a = c.args in is_there a.id (take a.count a.ids.now) ≡ c.is_at.result
there c =
    let a = c.args in
    ap (λ (at : ℕ). eqb (get_or (take a.count a.ids.now) at 0) a.id) (sym c.place_of-at.ensures) ∙ sym c.is_at.ensures

pub returns-then-is_at : goal.returns-then-is_at
returns-then-is_at c =
    let a = c.args in
    included-there a.id a.count a.ids.now a.weights.now c.requires.0 (there (goal.at.returns-then-is_at c).After-is_at ∙ c.if-is_at.true)

pub insert-requires : goal.insert-requires
insert-requires c =
    let a = c.args in (
      omega (arith, c.place_of-at.ensures, place-le a.id (take a.count a.ids.now), length-take a.count a.ids.now),
      c.requires.1,
    )

pub returns : goal.returns
returns c =
    let a = c.args in
    let xs = take a.count a.ids.now in
    let at = c.place_of-at.ensures in
    included-new a.id a.count a.ids.now a.weights.now c.requires.0 c.insert.new.ids c.insert.new.weights
    (there (goal.at.returns c).After-is_at ∙ c.if-is_at.false)
    (c.insert.ensures.ids ∙ ap (λ (x : ℕ). insert_at x a.id xs) at)
    (c.insert.ensures.weights ∙ ap (λ (x : ℕ). insert_at {A = ℕ} x 0 (take a.count a.weights.now)) at)
