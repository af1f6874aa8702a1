-- `staging::cut` meets its contract, by what `stages::stage_places` answers and leaves in the numbers lent to it.
use Prim.Native.Nat.{ℕ}
use mathlib.Core.Path.{◌≡◌, sym, ap, ◌∙◌}
use lib.ListN.{length-replicate}
use Rattle.numerals.specs.Limits.{most_suffixes}
use Rattle.stages.specs.Calls.{places_answer}
use Rattle.commands.proofs.StageRows.{cut-places, cut-text, not-cut}
use Rattle.commands.proofs.staging.cut.Goals as goal
use Rattle.commands.proofs.staging.cut.Goals.{After-stage_places}

-- what was answered, at the length of the numbers
answered :
    (c : After-stage_places) → let a = c.args in
    c.stage_places.result ≡ places_answer a.old.now a.new.now a.service a.limit a.capacity most_suffixes
answered c =
    let a = c.args in
    c.stage_places.ensures.answer
    ∙ ap (places_answer a.old.now a.new.now a.service a.limit a.capacity) (length-replicate {A = ℕ} most_suffixes 0)

pub put_places-requires : goal.put_places-requires
put_places-requires c =
    let is = c.in-Ok.is in (
      cut-places c.args.old.now c.args.new.now c.args.service c.args.limit c.args.capacity _
          (sym (answered (goal.at.put_places-requires c).After-stage_places) ∙ is) _ _
          (length-replicate {A = ℕ} most_suffixes 0) (rw is at c.stage_places.ensures.buffer),
      c.requires,
    )

pub returns-in-Ok : goal.returns-in-Ok
returns-in-Ok c =
    let is = c.in-Ok.is in
    let text =
    cut-text c.args.old.now c.args.new.now c.args.service c.args.limit c.args.capacity _
    (sym (answered (goal.at.returns-in-Ok c).After-stage_places) ∙ is) _ _
    (length-replicate {A = ℕ} most_suffixes 0) (rw is at c.stage_places.ensures.buffer)
    in
    rw (← text) c.put_places.ensures

pub returns-in-Err : goal.returns-in-Err
returns-in-Err c =
    let text =
    not-cut c.args.old.now c.args.new.now c.args.service c.args.limit c.args.capacity _
    (sym (answered (goal.at.returns-in-Err c).After-stage_places) ∙ c.in-Err.is)
    in
    rw (← text) c.put_refused_of.ensures
