-- `check::check_services` meets its contract. The loop's invariant: the services before s passed, and the ids and weights of service s begin at `at`.
use Prim.Native.Nat.{ℕ, ◌+◌, ◌-◌, ◌≤◌, min}
use mathlib.Core.List.{List}
use mathlib.Core.Path.{◌≡◌, refl, sym, ap₂, ◌∙◌}
use native.Mathlib.Omega.{arith}
use lib.Dec.{ltb, eqb}
use lib.ListN.{length, length-drop, get_or, take, drop}
use lib.Seq.{take_all}
use borrow.Author.Tests.{lt-ltb, le-ltb, eq-eqb, ne_eqb}
use Rattle.expansion.specs.Answer.{and_then, or_else}
use Rattle.numerals.specs.declared.refusal.Refusal.TheVariants.{Malformed, NoService}
use Rattle.numerals.proofs.Exits.{handed_on}
use Rattle.packing.specs.Answer.{check_service, check_services}
use Rattle.packing.proofs.Checks.{services-many, services-no-volume, services-no-size, services-failed, services-passed, services-end, service-passed}
use Rattle.packing.proofs.check.check_services.Goals as goal
use Rattle.packing.proofs.check.check_services.Goals.{After-check_service, After-loop-s, In_ok-check_service}

pub loop-s-init : goal.loop-s-init
loop-s-init c = (omega arith, omega arith, omega arith, refl)

pub returns-then-s-ge-MOST_SERVICES : goal.returns-then-s-ge-MOST_SERVICES
returns-then-s-ge-MOST_SERVICES c =
    let l = c.loop-s in
    sym (services-many _ _ _ _ l.s l.at l.invariant.3 (omega arith) c.if-s-ge-MOST_SERVICES.true)

pub returns-then-volumes-s : goal.returns-then-volumes-s
returns-then-volumes-s c =
    let l = c.loop-s in
    sym (services-no-volume _ _ _ _ l.s l.at l.invariant.3 c.if-s-ge-MOST_SERVICES.false c.if-volumes-s.true (omega arith))

pub returns-then-sizes-s : goal.returns-then-sizes-s
returns-then-sizes-s c =
    let l = c.loop-s in
    sym (services-no-size _ _ _ _ l.s l.at l.invariant.3 c.if-s-ge-MOST_SERVICES.false c.if-volumes-s.false c.if-sizes-s.true)

-- what is left of a row
rest : (at : ℕ) (row : List ℕ) → take (length row - at) (drop at row) ≡ drop at row
rest at row = take_all (length row - at) (drop at row) (omega (arith, length-drop at row))

-- what one service's check found
one :
    (c : After-check_service)
    → let a = c.args in
    let l = c.loop-s in
    c.check_service.result
    ≡ check_service (get_or a.volumes.now l.s 0) (get_or a.sizes.now l.s 0) (drop l.at a.ids.now) (drop l.at a.weights.now)
one c =
    let a = c.args in
    let l = c.loop-s in
    c.check_service.ensures
    ∙ ap₂ (check_service (get_or a.volumes.now l.s 0) (get_or a.sizes.now l.s 0)) (rest l.at a.ids.now) (rest l.at a.weights.now)

pub returns-in_err-check_service : goal.returns-in_err-check_service
returns-in_err-check_service c =
    let l = c.loop-s in
    handed_on _ _ c.from_residual.ensures
    ∙ sym
    (services-failed _ _ _ _ l.s l.at l.invariant.3 c.if-s-ge-MOST_SERVICES.false
    c.if-volumes-s.false c.if-sizes-s.false _
    (sym (one (goal.at.returns-in_err-check_service c).After-check_service) ∙ c.in_err-check_service.was))

-- the ids and weights of a service that passed stand in their rows
inside :
    (c : In_ok-check_service)
    → let a = c.args in
    let l = c.loop-s in
    l.at + get_or a.sizes.now l.s 0 ≤ min (length a.ids.now) (length a.weights.now)
inside c =
    let a = c.args in
    let l = c.loop-s in
    omega (
      arith,
      l.invariant.2,
      length-drop l.at a.ids.now,
      length-drop l.at a.weights.now,
      (service-passed (get_or a.volumes.now l.s 0) (get_or a.sizes.now l.s 0) (drop l.at a.ids.now) (drop l.at a.weights.now)
          (sym (one (goal.at.In_ok-check_service c).After-check_service) ∙ c.in_ok-check_service.was)).0,
    )

pub overflow_add-at : goal.overflow_add-at
overflow_add-at c = omega (arith, inside c)

pub loop-s-preserved : goal.loop-s-preserved
loop-s-preserved c =
    let l = c.loop-s in (
      omega arith,
      omega arith,
      inside c,
      services-passed _ _ _ _ l.s l.at l.invariant.3 c.if-s-ge-MOST_SERVICES.false
          c.if-volumes-s.false c.if-sizes-s.false
          (sym (one (goal.at.loop-s-preserved c).After-check_service) ∙ c.in_ok-check_service.was),
    )

-- at the loop's end every service passed
ended :
    (c : After-loop-s)
    → let a = c.args in
    let at = c.loop-s.at in
    check_services a.volumes.now a.sizes.now a.ids.now a.weights.now
    ≡ and_then
    (and_then (or_else (eqb (length a.ids.now - at) 0) Malformed) (or_else (eqb (length a.weights.now - at) 0) Malformed))
    (or_else (ltb 0 (length a.volumes.now)) NoService)
ended c =
    let l = c.loop-s in
    services-end _ _ _ _ l.s l.at l.invariant.3 (omega arith) (omega arith)

pub returns-then-at-ids : goal.returns-then-at-ids
returns-then-at-ids c =
    let a = c.args in
    sym (ended (goal.at.returns-then-at-ids c).After-loop-s ∙ simp (ne_eqb (length a.ids.now - c.loop-s.at) 0 (λ e. omega arith)))

pub returns-then-at-weights : goal.returns-then-at-weights
returns-then-at-weights c =
    let a = c.args in
    let at = c.loop-s.at in
    sym (ended (goal.at.returns-then-at-weights c).After-loop-s
    ∙ simp (eq-eqb (length a.ids.now - at) 0 (omega arith), ne_eqb (length a.weights.now - at) 0 (λ e. omega arith)))

pub returns-then-lines-lt1 : goal.returns-then-lines-lt1
returns-then-lines-lt1 c =
    let a = c.args in
    let at = c.loop-s.at in
    sym (ended (goal.at.returns-then-lines-lt1 c).After-loop-s
    ∙ simp (
      eq-eqb (length a.ids.now - at) 0 (omega arith),
      eq-eqb (length a.weights.now - at) 0 (omega arith),
      le-ltb 0 (length a.volumes.now) (omega arith),
    ))

pub returns : goal.returns
returns c =
    let a = c.args in
    let at = c.loop-s.at in
    sym (ended (goal.at.returns c).After-loop-s
    ∙ simp (
      eq-eqb (length a.ids.now - at) 0 (omega arith),
      eq-eqb (length a.weights.now - at) 0 (omega arith),
      lt-ltb 0 (length a.volumes.now) (omega arith),
    ))
