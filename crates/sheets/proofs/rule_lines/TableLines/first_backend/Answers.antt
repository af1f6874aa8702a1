-- `TableLines::first_backend` meets its contract. The invariant: the first match of all lines is that of the lines from i on.
use Prim.Native.Nat.{ℕ, ◌+◌, ◌*◌, ◌%◌, ◌^◌, ◌≤◌, ◌<◌}
use mathlib.Core.Path.{◌≡◌, sym, ap, ◌∙◌}
use mathlib.Core.List.{List, ◌∷◌}
use native.Mathlib.Omega.{arith}
use lib.Pow.{pow_pos}
use lib.Seq.{slice}
use Rattle.numerals.proofs.Powers.{shifted}
use Rattle.numerals.specs.Limits.{most_bits}
use Rattle.expansion.specs.FirstMatch.{first_match}
use Rattle.packing.specs.Count.{Line, own_rules}
use Rattle.sheets.specs.Calls.{lines_from}
use Rattle.sheets.specs.Inner.TableNumbers.{line, lines_in}
use Rattle.sheets.proofs.TableNumbers.{rows_more, rows_none}
use Rattle.sheets.proofs.TableChecks.{formed}
use Rattle.sheets.proofs.FirstMatch.{of-here, of_other, of-miss, of_none}
use Rattle.sheets.proofs.rule_lines.TableLines.first_backend.Goals as goal
use Rattle.sheets.proofs.rule_lines.TableLines.first_backend.Goals.{After-line-line, then-line-service+else-address-all, else-line-service}

-- the line in front of those after it
turn :
    (c : After-line-line)
    → let t = c.args.self.now in
    let s = c.args.service in
    let l = c.line-line.result in
    first_match (own_rules s (lines_in t.cells.now t.n)) c.args.address
    ≡ first_match (own_rules s (line l.service l.len l.value l.backend ∷ lines_from (slice (4 * (c.loop-i.i + 1)) (4 * t.n) t.cells.now))) c.args.address
turn c =
    let t = c.args.self.now in
    let rest = lines_from (slice (4 * (c.loop-i.i + 1)) (4 * t.n) t.cells.now) in
    c.loop-i.invariant
    ∙ ap (λ (ls : List Line). first_match (own_rules c.args.service ls) c.args.address)
    (rows_more t.cells.now t.n t.ruled.room c.loop-i.i (omega arith) ∙ ap (λ (l : Line). l ∷ rest) (sym c.line-line.ensures.same))

-- a line's suffix is short
short : (c : After-line-line) → c.line-line.result.len ≤ most_bits
short c = (formed most_bits _ c.line-line.ensures.formed).short

-- a suffix of so few bits has a power of two
below : {l : ℕ} → l ≤ most_bits → l < 64
below {l} h = omega arith

divisor : (l : ℕ) → l ≤ most_bits → 0 < 1 * 2 ^ l % 2 ^ 64
divisor l h = rw (shifted l h) (pow_pos l)

pub overflow_shl-all : goal.overflow_shl-all
overflow_shl-all c = below (short (goal.at.overflow_shl-all c).After-line-line)

pub nonzero_rem-address : goal.nonzero_rem-address
nonzero_rem-address c = divisor _ (short (goal.at.nonzero_rem-address c).After-line-line)

pub returns-then-address-all : goal.returns-then-address-all
returns-then-address-all c =
    let at = (goal.at.returns-then-address-all c).After-line-line in
    sym (turn at ∙ of-here _ _ _ _ c.if-line-service.true (rw (shifted _ (short at)) at c.if-address-all.true))

pub loop-i-preserved : goal.loop-i-preserved
loop-i-preserved c =
    let at = (goal.at.loop-i-preserved c).After-line-line in
    elim c.if-line-service.branch [
      | then-line-service+else-address-all w ↦ turn at ∙ of-miss _ _ _ _ (rw (shifted _ (short at)) at w.if-address-all.false)
      | else-line-service w ↦ turn at ∙ of_other _ _ _ _ w.if-line-service.false
    ]

pub returns : goal.returns
returns c =
    let t = c.args.self.now in
    sym
    (c.loop-i.invariant
    ∙ ap (λ (ls : List Line). first_match (own_rules c.args.service ls) c.args.address) (rows_none t.cells.now t.n t.ruled.room c.loop-i.i (omega arith))
    ∙ of_none c.args.service c.args.address)
