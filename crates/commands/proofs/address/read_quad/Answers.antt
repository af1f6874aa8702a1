-- `address::read_quad` meets its contract. The invariant: v is what the bytes before `at` are, and the others stand from there on.
use Prim.Native.Nat.{◌+◌, ◌*◌}
use mathlib.Core.Path.{sym, ap, ◌∙◌}
use native.Mathlib.Omega.{arith}
use lib.ListN.{length}
use lib.Seq.{take-length}
use Rattle.numerals.specs.Text.{split}
use Rattle.numerals.proofs.Fields.{cut-le}
use Rattle.commands.specs.Address.{byte}
use Rattle.commands.proofs.Quads.{quad-other, ReadTo, read_below, read_none, read_all, read-bad, read_next}
use Rattle.commands.proofs.address.read_quad.Goals as goal
use Rattle.commands.proofs.address.read_quad.Goals.{In_ok-b}

pub returns-then-count_fields-ne4 : goal.returns-then-count_fields-ne4
returns-then-count_fields-ne4 c =
    let s = c.args.s.now in
    sym (quad-other (split 46 s) (λ e. c.if-count_fields-ne4.true (c.count_fields.ensures ∙ ap (λ l. length (split 46 l)) (take-length s) ∙ e)))

pub loop-at-init : goal.loop-at-init
loop-at-init c = read_none c.args.s.now (sym c.count_fields.ensures ∙ c.if-count_fields-ne4.false)

pub returns-in_err-b : goal.returns-in_err-b
unfolding byte
returns-in_err-b c =
    c.from_residual.ensures
    ∙ sym (read-bad c.loop-at.invariant (omega arith) c.find-dot.result c.find-dot.ensures (sym c.read_number.ensures ∙ c.in_err-b.was))

-- one byte more
next :
    (c : In_ok-b)
    → ReadTo c.args.s.now (c.loop-at.v * 256 + c.in_ok-b.b)
    (c.find-dot.result + 1)
unfolding byte
next c =
    read_next c.loop-at.invariant (omega arith) c.find-dot.result c.find-dot.ensures c.in_ok-b.b
    (sym c.read_number.ensures ∙ c.in_ok-b.was)

pub overflow_mul-v : goal.overflow_mul-v
overflow_mul-v c = omega (arith, read_below (next c))

pub overflow_add-v : goal.overflow_add-v
overflow_add-v c = omega (arith, read_below (next c))

pub overflow_add-at : goal.overflow_add-at
overflow_add-at c =
    let s = c.args.s.now in
    omega (arith, cut-le 46 c.loop-at.at (length s) c.find-dot.result s (omega arith) c.find-dot.ensures (omega arith))

pub loop-at-preserved : goal.loop-at-preserved
loop-at-preserved c = next c

pub returns : goal.returns
returns c = sym (read_all c.loop-at.invariant (omega arith))
