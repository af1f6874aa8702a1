-- `spreading::spread` meets its contract: a line covers those behind it.
use Prim.Native.Nat.{◌-◌}
use mathlib.Core.Path.{sym, subst}
use native.Mathlib.Omega.{arith}
use Rattle.sheets.specs.Inner.TableNumbers.{line_at}
use Rattle.sheets.proofs.TableChecks.{formed}
use Rattle.stages.specs.Inner.Spread.{Spread}
use Rattle.stages.proofs.SpreadLines.{own_from, spread-start, spread-own, spread-other}
use Rattle.stages.proofs.spreading.spread.Goals as goal

pub loop-i-init : goal.loop-i-init
loop-i-init c =
    let a = c.args in
    subst (Spread a.k (own_from a.table.now a.n a.service a.n)) (sym c.requires.holder_value)
    (spread-start a.k a.table.now a.n a.service c.requires.k_le_most_bits.1.0.room c.requires.k_le_most_bits.0)

-- the line is a rule line
pub cover-requires-clause-k_le_most_bits : goal.cover-requires-clause-k_le_most_bits
cover-requires-clause-k_le_most_bits c =
    let f = formed c.args.k (line_at c.args.table.now (c.loop-i.i - 1)) (c.requires.k_le_most_bits.1.0.each (c.loop-i.i - 1) (omega arith)) in
    (c.requires.k_le_most_bits.0, (f.short, (f.bits, omega (arith, f.backend))))

pub loop-i-preserved-then-table-c : goal.loop-i-preserved-then-table-c
loop-i-preserved-then-table-c c =
    let a = c.args in
    let l = c.loop-i in
    spread-own a.k a.table.now a.n a.service c.requires.k_le_most_bits.1.0.room l.i (omega arith) (omega arith) l.holder _ l.invariant
    c.if-table-c.true c.cover.ensures

pub loop-i-preserved : goal.loop-i-preserved
loop-i-preserved c =
    let a = c.args in
    let l = c.loop-i in
    spread-other a.k a.table.now a.n a.service c.requires.k_le_most_bits.1.0.room l.i (omega arith) (omega arith) l.holder l.invariant c.if-table-c.false
