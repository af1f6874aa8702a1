-- `output::write_out` meets its contract: both tests of room come before anything is written.
use Rattle.std.specs.Prelude.{Err, Ok}
use Prim.Native.Nat.{ℕ, ◌*◌, ◌≤◌, ◌<◌}
use mathlib.Core.Path.{◌≡◌, refl}
use native.Mathlib.Omega.{arith}
use borrow.Author.Tests.{le-leb, lt-leb}
use Rattle.numerals.specs.declared.refusal.Refusal.TheVariants.{ShortLoan}
use Rattle.packing.specs.Answer.{about, figures_buffer, table_buffer, written}
use Rattle.packing.specs.declared.answer.Packed.{Packed}
use Rattle.packing.proofs.output.write_out.Goals as goal

-- the answer by the two tests of room
module _ (p : Packed) (n figures_room table_room : ℕ) where
  figures-short : figures_room < 3 * n → Err (about figures_buffer ShortLoan) ≡ written p n figures_room table_room
  unfolding written
  figures-short h = simp (lt-leb (3 * n) figures_room h)

  table-short : 3 * n ≤ figures_room → table_room < 4 * p.rules → Err (about table_buffer ShortLoan) ≡ written p n figures_room table_room
  unfolding written
  table-short l h = simp (le-leb (3 * n) figures_room l, lt-leb (4 * p.rules) table_room h)

  none-short : 3 * n ≤ figures_room → 4 * p.rules ≤ table_room → Ok p ≡ written p n figures_room table_room
  unfolding written
  none-short l h = simp (le-leb (3 * n) figures_room l, le-leb (4 * p.rules) table_room h)

pub returns-then-figures-priced : goal.returns-then-figures-priced
returns-then-figures-priced c =
    record {
      answer = figures-short _ _ _ _ (omega arith);
      figures = refl;
      table = refl;
    }

pub overflow_mul-rules : goal.overflow_mul-rules
overflow_mul-rules c = omega (arith, c.all_lines-rules.ensures.few)

pub returns-then-table-rules : goal.returns-then-table-rules
returns-then-table-rules c =
    record {
      answer = table-short _ _ _ _ (omega arith) (omega (arith, c.all_lines-rules.ensures.sum));
      figures = refl;
      table = refl;
    }

pub returns : goal.returns
returns c =
    record {
      answer =
          rw (c.all_lines-rules.ensures.sum, c.total_cost-total.ensures)
          (none-short _ _ _ _ (omega arith) (omega (arith, c.all_lines-rules.ensures.sum)));
      figures = c.write_figures.ensures;
      table = c.write_lines.ensures;
    }
