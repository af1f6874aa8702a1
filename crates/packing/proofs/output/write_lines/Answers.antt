-- `output::write_lines` meets its contract. The loop's invariant: the cells of the services passed are written.
-- Assumes nothing.
use Prim.Native.Nat.{ℕ, ◌+◌, ◌*◌, ◌≤◌, ◌<◌}
use mathlib.Core.Path.{◌≡◌, refl, ap, ◌∙◌}
use native.Mathlib.Numerals.{add-one}
use native.Mathlib.Omega.{arith}
use lib.ListN.{length}
use lib.Seq.{sets}
use Rattle.numerals.specs.Limits.{most_services, most_rules}
use Rattle.numerals.specs.Sums.{sum_to}
use Rattle.packing.specs.Inner.Stored.{stored_lines, stored_cells, stored_table}
use Rattle.packing.proofs.Stores.{sum-before, table_more}
use Rattle.packing.proofs.output.write_lines.Goals as goal
use Rattle.packing.proofs.output.write_lines.Goals.{After-min-lines}

pub loop-s-init : goal.loop-s-init
unfolding stored_table sum_to
loop-s-init c = (refl, refl)

-- the lines of the service are few, and their cells fit
low : (c : After-min-lines) → c.min-lines.result ≤ most_rules
low c =
    omega (
      arith,
      c.min-lines.ensures,
      (c.args.priced.now.payable.each c.loop-s.s c.loop-s-test.true).most,
    )

fits :
    (c : After-min-lines)
    → c.loop-s.at + 4 * c.min-lines.result
    ≤ length c.args.table.now
fits c =
    omega (
      arith,
      c.min-lines.ensures,
      sum-before c.loop-s.s (length c.args.priced.now.volumes.now) (stored_lines c.args.grants.now c.args.priced.now.counts.now)
          c.loop-s-test.true,
      c.requires,
    )

pub write_service-requires : goal.write_service-requires
write_service-requires c =
    let few : c.loop-s.s < most_services = omega (arith, c.args.priced.now.payable.few) in (
      omega (arith, fits (goal.at.write_service-requires c).After-min-lines),
      few,
      low (goal.at.write_service-requires c).After-min-lines,
    )

pub overflow_mul-at : goal.overflow_mul-at
overflow_mul-at c = omega (arith, low (goal.at.overflow_mul-at c).After-min-lines)

pub overflow_add-at : goal.overflow_add-at
overflow_add-at c = omega (arith, fits (goal.at.overflow_add-at c).After-min-lines)

pub loop-s-preserved : goal.loop-s-preserved
unfolding sum_to
loop-s-preserved c =
    let a = c.args in
    let p = a.priced.now in
    let l = c.loop-s in
    let w = c.write_service in (
      rw add-one (omega (arith, c.min-lines.ensures)),
      table_more p.lens.now p.values.now p.backends.now a.table.now l.table w.new.table (stored_lines a.grants.now p.counts.now)
          l.s l.at l.invariant.1 l.invariant.0
          (w.ensures ∙ ap (λ (c : ℕ). sets l.table l.at (stored_cells p.lens.now p.values.now p.backends.now l.s c))
          c.min-lines.ensures),
    )

pub returns : goal.returns
returns c =
    let a = c.args in
    let p = a.priced.now in
    let l = c.loop-s in
    let all : l.s ≡ length p.volumes.now = omega arith in
    l.invariant.1
    ∙ ap (λ (n : ℕ). sets a.table.now 0 (stored_table (stored_lines a.grants.now p.counts.now) p.lens.now p.values.now p.backends.now n)) all
