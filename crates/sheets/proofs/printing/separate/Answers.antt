-- `printing::separate` meets its contract: one byte, where the text ends.
use Rattle.std.specs.Prelude.{ℕ, Result, Ok, Err, IsOk}
use Rattle.numerals.specs.declared.refusal.Refusal.{Refusal}
use mathlib.Core.Path.{refl}
use native.Mathlib.Omega.{arith}
use Rattle.sheets.specs.Inner.Writing.{Before}
use Rattle.sheets.proofs.Writes.{byte}
use Rattle.sheets.proofs.printing.separate.Goals as goal

there : (w : Result ℕ Refusal) (n : ℕ) → Before w n → IsOk w
there (Ok e) n h = refl
there (Err why) n h = absurd h

pub unwrap-end-requires : goal.unwrap-end-requires
unwrap-end-requires c = there _ _ c.requires

pub bounds-out-end : goal.bounds-out-end
bounds-out-end c = rw c.unwrap-end.ensures at c.requires

pub overflow_add-result : goal.overflow_add-result
overflow_add-result c = omega (arith, bounds-out-end c)

pub returns : goal.returns
returns c =
    let a = c.args in
    rw c.unwrap-end.ensures (byte a.out.now c.unwrap-end.result a.separator)
