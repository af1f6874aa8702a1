-- `staging::stages` meets its contract: the words are tested from the left, and all before a sheet is read.
use Rattle.commands.proofs.Texts.{said, not-said}
use Rattle.commands.proofs.StageWords.{no-service, no-limit, no-capacity, says}
use Rattle.commands.proofs.staging.stages.Goals as goal

pub returns-in_err-n : goal.returns-in_err-n
returns-in_err-n c =
    let w = c.in_err-n.ensures in
    let p = not-said c.args.out.now 3 c.from_residual.ensures w.1 _ (no-service _ _ _ _ _ w.0) in
    record { answer = p.0; buffer = p.1 }

pub returns-in_err-l : goal.returns-in_err-l
returns-in_err-l c =
    let w = c.in_err-l.ensures in
    let p = not-said c.args.out.now 4 c.from_residual-in_err-l.ensures w.1 _ (no-limit _ _ _ _ _ _ c.in_ok-n.ensures w.0) in
    record { answer = p.0; buffer = p.1 }

pub returns-in_err-c : goal.returns-in_err-c
returns-in_err-c c =
    let w = c.in_err-c.ensures in
    let p = not-said c.args.out.now 5 c.from_residual-in_err-c.ensures w.1 _ (no-capacity _ _ _ _ _ _ c.in_ok-n.ensures _ c.in_ok-l.ensures w.0) in
    record { answer = p.0; buffer = p.1 }

pub returns : goal.returns
returns c =
    let p = said c.cut.ensures _ (says _ _ _ _ _ _ c.in_ok-n.ensures _ c.in_ok-l.ensures _ c.in_ok-c.ensures) in
    record { answer = p.0; buffer = p.1 }
