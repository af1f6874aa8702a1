-- `staging::list` meets its contract: the lines as `stages::stage_lines` writes them, or the refusal that it answers.
use mathlib.Core.Path.{◌≡◌, sym, ap, ◌∙◌}
use native.Mathlib.Omega.{arith}
use Rattle.numerals.specs.Limits.{text_limit}
use Rattle.stages.specs.Calls.{lines_answer}
use Rattle.commands.proofs.StageRows.{listed, not_listed, left}
use Rattle.commands.proofs.staging.list.Goals as goal
use Rattle.commands.proofs.staging.list.Goals.{After-stage_lines}

pub put_refused_of-requires : goal.put_refused_of-requires
unfolding text_limit
put_refused_of-requires c =
    omega (arith, c.requires, c.stage_lines.auto.out)

-- what was answered, at the buffer's length
answered :
    (c : After-stage_lines) → let a = c.args in
    c.stage_lines.result ≡ lines_answer a.old.now a.new.now a.service a.limit a.capacity a.number text_limit
answered c =
    let a = c.args in
    c.stage_lines.ensures.answer ∙ ap (lines_answer a.old.now a.new.now a.service a.limit a.capacity a.number) c.requires

pub returns-in-Ok : goal.returns-in-Ok
returns-in-Ok c =
    let a = c.args in
    let is = c.in-Ok.is in
    listed a.old.now a.new.now a.service a.limit a.capacity a.number _ (sym (answered (goal.at.returns-in-Ok c).After-stage_lines) ∙ is) _ _
    (rw is at c.stage_lines.ensures.buffer)

pub returns-in-Err : goal.returns-in-Err
returns-in-Err c =
    let a = c.args in
    let is = c.in-Err.is in
    let text = not_listed a.old.now a.new.now a.service a.limit a.capacity a.number _ (sym (answered (goal.at.returns-in-Err c).After-stage_lines)
    ∙ is) in
    rw (← text) (left (rw is at c.stage_lines.ensures.buffer) c.put_refused_of.ensures)
