-- `check::check_all` meets its contract: each of its checks is one of the definition's, in the same order.
use mathlib.Core.Path.{sym, ◌∙◌}
use borrow.Author.Tests.{le-leb, lt-leb}
use Rattle.numerals.proofs.Exits.{handed_on}
use Rattle.packing.specs.Answer.{check_all}
use Rattle.packing.proofs.check.check_all.Goals as goal

pub returns-in_err-check_head : goal.returns-in_err-check_head
unfolding check_all
returns-in_err-check_head c = handed_on _ _ c.from_residual.ensures ∙ sym (simp (sym c.check_head.ensures ∙ c.in_err-check_head.was))

pub returns-in_err-check_services : goal.returns-in_err-check_services
unfolding check_all
returns-in_err-check_services c =
    handed_on _ _ c.from_residual-in_err-check_services.ensures
    ∙ sym (simp (
      sym c.check_head.ensures ∙ c.in_ok-check_head.was,
      sym c.check_services.ensures ∙ c.in_err-check_services.was,
    ))

pub returns-then-capacity-volumes : goal.returns-then-capacity-volumes
unfolding check_all
returns-then-capacity-volumes c =
    simp (
      sym c.check_head.ensures ∙ c.in_ok-check_head.was,
      sym c.check_services.ensures ∙ c.in_ok-check_services.was,
      lt-leb _ _ c.if-capacity-volumes.true,
    )

pub returns : goal.returns
unfolding check_all
returns c =
    simp (
      sym c.check_head.ensures ∙ c.in_ok-check_head.was,
      sym c.check_services.ensures ∙ c.in_ok-check_services.was,
      le-leb _ _ c.if-capacity-volumes.false,
    )
