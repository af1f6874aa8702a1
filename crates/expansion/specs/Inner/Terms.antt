-- The term of a move, and what comes next by the errors that the ledger keeps.
use Rattle.std.specs.Prelude.{ℕ, ◌*◌, ◌^◌, ◌≡◌, true, false, leb, eqb, pos}
use Rattle.numerals.specs.Limits.{unit}
use Rattle.numerals.specs.Pick.{pick, both}
use Rattle.numerals.specs.Sums.{lastmax}
use Rattle.expansion.specs.Steps.{reduction}
use Rattle.expansion.specs.Inner.Ledger.{over, largest_of}
use Rattle.expansion.specs.declared.rule.Ended.TheVariants.{Within, NoGain}
use Rattle.expansion.specs.declared.ledger.Ledger.{Ledger}
use Rattle.expansion.specs.declared.ledger.Extreme.{Extreme}
use Rattle.expansion.specs.declared.term.Term.{Term}
use Rattle.std.specs.declared.ops.ControlFlow.{ControlFlow}
use Rattle.expansion.specs.declared.rule.Ended.{Ended}
use Rattle.expansion.specs.declared.rule.Move.{Move}
use Rattle.std.specs.declared.ops.ControlFlow.TheVariants.{Break, Continue}

-- the term of the greatest reduction for the largest shortfall u and the largest excess o
pub record Best (u o cap : ℕ) (r : Term) : Type 0 where
  pub index : r.index ≡ lastmax (λ i. reduction u o (2 ^ i * unit)) cap
  pub gain : r.reduction ≡ pos (reduction u o (2 ^ r.index * unit))

-- steps 2 to 4 for the largest excess and the largest shortfall
unfoldable pub next_for : Extreme → Extreme → ℕ → ℕ → ℕ → ControlFlow Ended Move
next_for give take k tolerance cap =
    let o = over give.size in
    let u = over take.size in
    let i = lastmax (λ j. reduction u o (2 ^ j * unit)) cap in
    pick (both (leb o (tolerance * 2 ^ k)) (leb u (tolerance * 2 ^ k))) (Break Within)
    (pick (eqb (reduction u o (2 ^ i * unit)) 0) (Break NoGain)
    (Continue (record { giver = give.backend; receiver = take.backend; index = i })))

-- steps 2 to 4 on the errors kept
unfoldable pub next_of : Ledger → ℕ → ℕ → ℕ → ℕ → ControlFlow Ended Move
next_of L n k tolerance cap = next_for (largest_of L n false) (largest_of L n true) k tolerance cap
