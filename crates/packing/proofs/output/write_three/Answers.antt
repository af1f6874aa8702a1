-- `output::write_three` meets its contract.
-- Assumes nothing.
use Prim.Native.Nat.{ℕ, suc, ◌+◌}
use mathlib.Core.Path.{◌≡◌}
use mathlib.Core.List.{List, [], ◌∷◌}
use native.Mathlib.Omega.{arith}
use lib.ListN.{set, length-set}
use lib.Seq.{sets}
use Rattle.packing.proofs.output.write_three.Goals as goal

pub bounds-out-at-2 : goal.bounds-out-at-2
bounds-out-at-2 c = simp length-set (omega arith)

pub bounds-out-at-3 : goal.bounds-out-at-3
bounds-out-at-3 c = simp length-set (omega arith)

stores : (out : List ℕ) (at a b c : ℕ) → set (set (set out at a) (at + 1) b) (at + 2) c ≡ sets out at (a ∷ b ∷ c ∷ [])
stores out at a b c =
    let one : at + 1 ≡ suc at = omega arith in
    let two : at + 2 ≡ suc (suc at) = omega arith in
    rw (one, two)

pub returns : goal.returns
returns c = stores c.args.out.now c.args.at c.args.a c.args.b c.args.c
