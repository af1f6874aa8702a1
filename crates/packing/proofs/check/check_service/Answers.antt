-- `check::check_service` meets its contract: each of its tests is one of the definition's, in the same order.
use mathlib.Core.Path.{sym, ◌∙◌}
use native.Mathlib.Omega.{arith}
use lib.Seq.{length-take-le}
use borrow.Author.Tests.{lt-ltb, le-ltb, le-leb, lt-leb}
use Rattle.packing.specs.Answer.{check_service}
use Rattle.packing.proofs.check.check_service.Goals as goal

pub returns-then-size-lt1 : goal.returns-then-size-lt1
unfolding check_service
returns-then-size-lt1 c = simp (le-ltb 0 c.args.size (omega arith))

pub returns-then-size-gt-MOST_BACKENDS : goal.returns-then-size-gt-MOST_BACKENDS
unfolding check_service
returns-then-size-gt-MOST_BACKENDS c = simp (lt-ltb 0 c.args.size (omega arith), lt-leb _ _ c.if-size-gt-MOST_BACKENDS.true)

pub returns-then-ids-size : goal.returns-then-ids-size
unfolding check_service
returns-then-ids-size c =
    simp (lt-ltb 0 c.args.size (omega arith), le-leb _ _ c.if-size-gt-MOST_BACKENDS.false, lt-leb _ _ c.if-ids-size.true)

pub returns-then-weights-size : goal.returns-then-weights-size
unfolding check_service
returns-then-weights-size c =
    simp (
      lt-ltb 0 c.args.size (omega arith),
      le-leb _ _ c.if-size-gt-MOST_BACKENDS.false,
      le-leb _ _ c.if-ids-size.false,
      lt-leb _ _ c.if-weights-size.true,
    )

pub returns-then-volume-gt-MOST_VOLUME : goal.returns-then-volume-gt-MOST_VOLUME
unfolding check_service
returns-then-volume-gt-MOST_VOLUME c =
    simp (
      lt-ltb 0 c.args.size (omega arith),
      le-leb _ _ c.if-size-gt-MOST_BACKENDS.false,
      le-leb _ _ c.if-ids-size.false,
      le-leb _ _ c.if-weights-size.false,
      lt-leb _ _ c.if-volume-gt-MOST_VOLUME.true,
    )

pub slice_bounds-check_weights-end : goal.slice_bounds-check_weights-end
slice_bounds-check_weights-end c = sym (length-take-le _ _ c.if-ids-size.false)

pub slice_bounds-check_weights-end-2 : goal.slice_bounds-check_weights-end-2
slice_bounds-check_weights-end-2 c = sym (length-take-le _ _ c.if-weights-size.false)

pub returns : goal.returns
unfolding check_service
returns c =
    c.check_weights.ensures
    ∙ simp (
      lt-ltb 0 c.args.size (omega arith),
      le-leb _ _ c.if-size-gt-MOST_BACKENDS.false,
      le-leb _ _ c.if-ids-size.false,
      le-leb _ _ c.if-weights-size.false,
      le-leb _ _ c.if-volume-gt-MOST_VOLUME.false,
    )
