-- `shares::tally` meets its contract. The invariant: the suffixes below s are counted.
use Prim.Native.Nat.{◌^◌}
use mathlib.Core.Path.{◌≡◌, refl, ap, ◌∙◌}
use mathlib.Core.List.{List}
use native.Mathlib.Omega.{arith}
use Rattle.numerals.proofs.Sums.{count-le}
use Rattle.numerals.proofs.Powers.{shifted}
use Rattle.numerals.specs.Sums.{sum_to, count_to}
use Rattle.expansion.specs.FirstMatch.{gives, share}
use Rattle.expansion.specs.declared.rule.Rule.{Rule}
use Rattle.packing.specs.Count.{own_rules}
use Rattle.sheets.specs.Inner.HeldTable.{lines_of}
use Rattle.sheets.proofs.Sharing.{given_to, given-more, other-more}
use Rattle.sheets.proofs.shares.tally.Goals as goal
use Rattle.sheets.proofs.shares.tally.Goals.{then-first_backend-backend, else-first_backend-backend}

pub overflow_shl-all : goal.overflow_shl-all
overflow_shl-all c = omega (arith, c.args.table.now.few_bits)

pub loop-s-init : goal.loop-s-init
unfolding count_to sum_to
loop-s-init c = refl

pub overflow_add-held : goal.overflow_add-held
overflow_add-held c =
    let a = c.args in
    let l = c.loop-s in
    omega (arith, l.invariant, count-le l.s (λ v. gives (own_rules a.service (lines_of c.from_service-lines.result)) v a.backend))

pub loop-s-preserved : goal.loop-s-preserved
loop-s-preserved c =
    let l = c.loop-s in
    let b = c.args.backend in
    let first = c.first_backend.ensures in
    elim c.if-first_backend-backend.branch [
      | then-first_backend-backend w ↦ omega (arith, l.invariant, w.held-is, given-more _ b l.s _ first w.if-first_backend-backend.true)
      | else-first_backend-backend w ↦ omega (arith, l.invariant, w.held-is, other-more _ b l.s _ first w.if-first_backend-backend.false)
    ]

pub returns : goal.returns
unfolding share
returns c =
    let l = c.loop-s in
    let t = c.args.table.now in
    let b = c.args.backend in
    let end : l.s ≡ 2 ^ t.k = omega (arith, shifted t.k t.few_bits) in
    l.invariant
    ∙ ap (given_to (own_rules c.args.service (lines_of c.from_service-lines.result)) b) end
    ∙ ap (λ (rs : List Rule). given_to rs b (2 ^ t.k)) c.from_service-lines.ensures
