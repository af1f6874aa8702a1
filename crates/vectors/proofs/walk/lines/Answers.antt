use mathlib.Core.Path.{ap}
use mathlib.Core.List.{List}
use Prim.Native.Nat.{ℕ}
use native.Mathlib.Omega.{arith}
use lib.ListN.{length}
use lib.Seq.{slice, take-length}
use Rattle.numerals.specs.Text.{split}
use Rattle.numerals.proofs.Fields.{split-some}
use Rattle.vectors.specs.Parts.{lines}
use Rattle.vectors.proofs.walk.lines.Goals as goal

pub overflow_sub-result : goal.overflow_sub-result
overflow_sub-result c =
    let s = c.args.s.now in
    omega (arith, split-some 10 (slice 0 (length s) s))

pub returns : goal.returns
unfolding lines
returns c = omega (arith, ap (λ (l : List ℕ). length (split 10 l)) (take-length c.args.s.now))
