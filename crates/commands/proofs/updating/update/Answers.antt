-- `updating::update` meets its contract: the service's word is tested before a sheet is read.
use Rattle.commands.proofs.Texts.{said, not-said}
use Rattle.commands.proofs.Updates.{no-service, says}
use Rattle.commands.proofs.updating.update.Goals as goal

pub returns-in_err-n : goal.returns-in_err-n
returns-in_err-n c =
    let w = c.in_err-n.ensures in
    let p = not-said c.args.out.now 3 c.from_residual.ensures w.1 _ (no-service _ _ _ w.0) in
    record { answer = p.0; buffer = p.1 }

pub returns : goal.returns
returns c =
    let p = said c.renew.ensures _ (says _ _ _ _ c.in_ok-n.ensures) in
    record { answer = p.0; buffer = p.1 }
