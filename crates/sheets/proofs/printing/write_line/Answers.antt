-- `printing::write_line` meets its contract: the numbers in their limits, then the room, then the line.
use Rattle.std.specs.Prelude.{Err, Ok}
use Prim.Native.Nat.{ℕ, ◌+◌, ◌≤◌, ◌<◌}
use mathlib.Core.Path.{◌≡◌, sym, ap, ◌∙◌}
use mathlib.Core.Bool.{true, false}
use mathlib.Core.List.{List}
use native.Mathlib.Omega.{arith}
use lib.ListN.{length}
use Rattle.numerals.specs.Limits.{most_bits}
use Rattle.numerals.specs.Refusals.{no7}
use Rattle.numerals.proofs.Writing.{written, short}
use Rattle.packing.specs.Count.{Line}
use Rattle.sheets.specs.RuleSheet.{line_text, is_line, put_line, put_line_end}
use Rattle.sheets.specs.Inner.TableNumbers.{line}
use Rattle.sheets.specs.Inner.Writing.{line_width}
use Rattle.sheets.proofs.TableChecks.{formed}
use Rattle.sheets.proofs.TableTexts.{line-short, length-line}
use Rattle.sheets.proofs.printing.write_line.Goals as goal
use Rattle.sheets.proofs.printing.write_line.Goals.{Else-not-is_line}

pub returns-then-not-is_line : goal.returns-then-not-is_line
unfolding put_line put_line_end
returns-then-not-is_line c =
    let a = c.args in
    let bad : is_line most_bits (line a.service a.len a.value a.backend) ≡ false =
    sym c.is_line.ensures ∙ c.if-not-is_line.true in
    record {
      answer = rw bad;
      buffer = rw bad;
    }

-- the numbers are in their limits
passed : (c : Else-not-is_line) → let a = c.args in is_line most_bits (line a.service a.len a.value a.backend) ≡ true
passed c = sym c.is_line.ensures ∙ c.if-not-is_line.false

-- no room: nothing is written
too_long :
    (out : List ℕ) (at : ℕ) (l : Line) → is_line most_bits l ≡ true → length out < at + line_width l.service l.rule.len l.rule.backend
    → (Err no7 ≡ put_line_end out at l) × (out ≡ put_line out at l)
unfolding put_line put_line_end
too_long out at l e h =
    let s = short out at (line_text l) (omega (arith, length-line l)) in
    (rw e s.0, rw e s.1)

-- a line in its limits is short
few : (l : Line) → is_line most_bits l ≡ true → line_width l.service l.rule.len l.rule.backend ≤ 22
few l e =
    let f = formed most_bits l e in
    line-short l.service l.rule.len l.rule.backend f.service f.short f.backend

pub returns-then-out-at : goal.returns-then-out-at
returns-then-out-at c =
    let a = c.args in
    record {
      answer = (too_long _ a.at (line a.service a.len a.value a.backend) (passed (goal.at.returns-then-out-at c).Else-not-is_line) (omega arith)).0;
      buffer = (too_long _ a.at (line a.service a.len a.value a.backend) (passed (goal.at.returns-then-out-at c).Else-not-is_line) (omega arith)).1;
    }

pub returns-then-out-at-2 : goal.returns-then-out-at-2
returns-then-out-at-2 c =
    let a = c.args in
    let l = line a.service a.len a.value a.backend in
    record {
      answer = (too_long _ a.at l (passed (goal.at.returns-then-out-at-2 c).Else-not-is_line)
          (omega (arith, few l (passed (goal.at.returns-then-out-at-2 c).Else-not-is_line), c.line_width.ensures))).0;
      buffer = (too_long _ a.at l (passed (goal.at.returns-then-out-at-2 c).Else-not-is_line)
          (omega (arith, few l (passed (goal.at.returns-then-out-at-2 c).Else-not-is_line), c.line_width.ensures))).1;
    }

pub put_line-requires : goal.put_line-requires
put_line-requires c =
    let a = c.args in
    let l = line a.service a.len a.value a.backend in
    (passed (goal.at.put_line-requires c).Else-not-is_line, omega (arith, few l (passed (goal.at.put_line-requires c).Else-not-is_line), c.line_width.ensures))

pub returns : goal.returns
unfolding put_line put_line_end
returns c =
    let a = c.args in
    let l = line a.service a.len a.value a.backend in
    let w = c.put_line.ensures in
    let width = c.line_width.ensures in
    let stored = written a.out.now a.at (line_text l) (omega (arith, length-line l, few l (passed (goal.at.returns c).Else-not-is_line), width)) in
    record {
      answer = rw (passed (goal.at.returns c).Else-not-is_line) (ap Ok w.ends ∙ stored.0);
      buffer = rw (passed (goal.at.returns c).Else-not-is_line) (w.holds ∙ stored.1);
    }
