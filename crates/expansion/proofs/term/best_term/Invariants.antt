-- `term::best_term`: of the terms passed, from the largest down, the index is the last place of the greatest gain.
use Prim.Native.Nat.{ℕ, ◌*◌, ◌^◌}
use mathlib.Core.Path.{◌≡◌}
use lib.IntN.{ℤ, pos}
use Rattle.numerals.specs.Limits.{unit}
use Rattle.expansion.specs.Steps.{reduction}
use Rattle.expansion.specs.Inner.Ledger.{over}
use Rattle.numerals.proofs.Searches.{Led}
use Rattle.expansion.proofs.term.best_term.Given as goal

-- the reduction of each term, of the two errors
abbrev pub gain : ℤ → ℤ → ℕ → ℕ
gain u o j = reduction (over u) (over o) (2 ^ j * unit)

abbrev pub invariant-loop-i : goal.invariant-loop-i
invariant-loop-i l = Led (gain l.u l.o) l.cap l.i l.index (over l.best) × (l.best ≡ pos (over l.best))
