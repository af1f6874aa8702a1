-- `looking::lookup` meets its contract: the service's word is tested before the address's, and both before the table is read.
use mathlib.Core.Path.{sym, ◌∙◌}
use Rattle.numerals.proofs.Exits.{had, had_none}
use Rattle.commands.proofs.Texts.{said, not-said}
use Rattle.commands.proofs.Lookups.{no-service, no_address, says}
use Rattle.commands.proofs.looking.lookup.Goals as goal

pub returns-in_err-n : goal.returns-in_err-n
returns-in_err-n c =
    let w = c.in_err-n.ensures in
    let p = not-said c.args.out.now 2 c.from_residual.ensures w.1 _ (no-service _ _ _ w.0) in
    record { answer = p.0; buffer = p.1 }

pub returns-in_err-a : goal.returns-in_err-a
returns-in_err-a c =
    let w = had_none _ _ c.ok_or.ensures.value c.in_err-a.was in
    let p = not-said c.args.out.now 3 c.from_residual-in_err-a.ensures w.1 _ (no_address _ _ _ _ c.in_ok-n.ensures (sym c.read_address.ensures ∙ w.0)) in
    record { answer = p.0; buffer = p.1 }

pub returns : goal.returns
returns c =
    let p = said c.look.ensures _ (says _ _ _ _ _ c.in_ok-n.ensures (sym c.read_address.ensures ∙ had _ _ c.ok_or.ensures.value c.in_ok-a.was)) in
    record { answer = p.0; buffer = p.1 }
