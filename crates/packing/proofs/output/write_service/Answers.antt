-- `output::write_service` meets its contract. The loop's invariant: once the lines that are left are written too, the table is what it is to be.
-- Assumes nothing.
use Prim.Native.Nat.{ℕ, ◌+◌, ◌-◌, ◌*◌}
use mathlib.Core.Path.{◌≡◌, refl, sym, ap₂, ◌∙◌}
use native.Mathlib.Numerals.{unary_clauses}
use native.Mathlib.Omega.{arith}
use lib.ListN.{length-set}
use lib.Seq.{sets}
use Rattle.packing.specs.Inner.Stored.{stored_cells}
use Rattle.packing.proofs.Stores.{line-more, none_left}
use Rattle.packing.proofs.output.write_service.Goals as goal

pub loop-line-init : goal.loop-line-init
loop-line-init c = simp unary_clauses refl

pub write_three-requires : goal.write_three-requires
write_three-requires c = simp length-set (omega arith)

pub loop-line-preserved : goal.loop-line-preserved
loop-line-preserved c =
    let a = c.args in
    let l = c.loop-line in
    let w = c.write_three in
    let next : a.at + 4 * l.line + 4 ≡ a.at + 4 * (l.line + 1) = omega arith in
    let less : a.lines - l.line - 1 ≡ a.lines - (l.line + 1) = omega arith in
    l.invariant
    ∙ line-more a.priced.now.lens.now a.priced.now.values.now a.priced.now.backends.now l.table w.new.out (a.at + 4 * l.line) a.s (a.lines - l.line) _
    (omega arith) (omega arith) w.ensures
    ∙ ap₂ (λ (i c : ℕ). sets w.new.out i (stored_cells a.priced.now.lens.now a.priced.now.values.now a.priced.now.backends.now a.s c)) next less

pub returns : goal.returns
returns c =
    let a = c.args in
    let l = c.loop-line in
    sym (l.invariant ∙ none_left a.priced.now.lens.now a.priced.now.values.now a.priced.now.backends.now l.table _ a.s (a.lines - l.line) (omega arith))
