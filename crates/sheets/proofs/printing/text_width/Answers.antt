-- `printing::text_width` meets its contract: the width so far and that of the numbers left make the width of the whole text, as far as it is counted.
use Prim.Native.Nat.{ℕ, ◌+◌, ◌*◌, ◌/◌, ◌<◌}
use mathlib.Core.Path.{◌≡◌, ap, ◌∙◌}
use native.Mathlib.Nat.{le_refl}
use native.Mathlib.Omega.{arith}
use lib.ListN.{length, get_or}
use lib.Seq.{slice, take_all}
use Rattle.numerals.specs.Decimal.{width}
use Rattle.numerals.proofs.Decimal.{width-least}
use Rattle.packing.specs.Count.{Line}
use Rattle.sheets.specs.Inner.Writing.{counted, line_width}
use Rattle.sheets.proofs.NumbersText.{handed_width, length-handed, handed-more, handed-none, handed-last}
use Rattle.sheets.proofs.printing.text_width.Goals as goal

-- counting part by part counts the whole
more-counted : (w x r : ℕ) → counted (counted (w + counted x) + r) ≡ counted (w + (x + r))
more-counted w x r = omega arith

pub overflow_add-width : goal.overflow_add-width
overflow_add-width c =
    let a = c.args in
    omega (arith, width-least 19 a.k (omega arith))

pub overflow_add-width-2 : goal.overflow_add-width-2
overflow_add-width-2 c =
    let a = c.args in
    omega (arith, width-least 19 a.k (omega arith), width-least 19 c.div_ceil.result (omega arith))

pub overflow_add-width-3 : goal.overflow_add-width-3
overflow_add-width-3 c =
    let a = c.args in
    let n = c.div_ceil.result in
    omega (arith, width-least 19 a.k (omega arith), width-least 19 n (omega arith), width-least 19 a.total (omega arith))

pub loop-i-init : goal.loop-i-init
loop-i-init c =
    let a = c.args in
    let cs = a.cells.now in
    let n = c.div_ceil.result in
    let count : n ≡ (length cs + 3) / 4 = omega (arith, c.div_ceil.ensures) in
    let all : slice 0 (length cs) cs ≡ cs = take_all (length cs) cs (le_refl (length cs)) in (
      omega (arith, width-least 19 a.k (omega arith), width-least 19 n (omega arith), width-least 19 a.total (omega arith)),
      ap counted (omega (arith, length-handed a.k a.total cs, ap width count, ap handed_width all)),
    )

pub loop-i-preserved : goal.loop-i-preserved
loop-i-preserved c =
    let l = c.loop-i in
    let t = c.args.cells.now in
    let i = l.i in
    let w = line_width (get_or t (4 * i) 0) (get_or t (4 * i + 1) 0) (get_or t (4 * i + 3) 0) in
    let rest = handed_width (slice (4 * (i + 1)) (length t) t) in
    let one : c.line_width.result ≡ counted w =
    c.line_width.ensures ∙ ap (λ (x : Line). counted (line_width x.service x.rule.len x.rule.backend)) c.at.ensures in
    let width : c.add_width-width.result ≡ counted (l.width + counted w) =
    c.add_width-width.ensures ∙ ap (λ (x : ℕ). counted (l.width + x)) one in
    let more = handed-more t (length t) (le_refl (length t)) i (omega (arith, c.loop-i-test.true)) in (
      omega arith,
      ap (λ (x : ℕ). counted (x + rest)) width
          ∙ more-counted l.width w rest
          ∙ ap (λ (x : ℕ). counted (l.width + x)) (omega (arith, more))
          ∙ l.invariant.1,
    )

pub returns-then-cells-eq0 : goal.returns-then-cells-eq0
returns-then-cells-eq0 c =
    let l = c.loop-i in
    let t = c.args.cells.now in
    let end : length t ≡ 4 * l.i = omega (arith, c.loop-i-test.false, l.invariant.0, c.if-cells-eq0.true) in
    omega (arith, handed-none t (length t) (le_refl (length t)) l.i end, l.invariant.0, l.invariant.1)

pub overflow_add-decimal_width : goal.overflow_add-decimal_width
overflow_add-decimal_width c =
    let t = c.args.cells.now in
    let i = length t / 4 in
    omega (arith, width-least 19 (get_or t (4 * i) 0) (omega (arith, c.type_inv.cells (4 * i))))

pub returns : goal.returns
returns c =
    let t = c.args.cells.now in
    let l = c.loop-i in
    let all : l.i ≡ length t / 4 = omega arith in
    let some : 4 * (length t / 4) < length t = omega (arith, c.if-cells-eq0.false) in
    omega (
      arith,
      handed-last t (length t) (le_refl (length t)) (length t / 4) some (omega arith),
      c.add_width.ensures,
      c.decimal_width-4.ensures,
      rw all at l.invariant.1,
    )
