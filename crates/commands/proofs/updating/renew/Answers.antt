-- `updating::renew` meets its contract, by what `update::update_sheets` answers and leaves in the numbers lent to it.
use mathlib.Core.Path.{refl, sym, ◌∙◌}
use Rattle.commands.proofs.Updates.{made-rules, made-text, refused-text}
use Rattle.commands.proofs.updating.renew.Goals as goal

pub put_updated-requires : goal.put_updated-requires
put_updated-requires c =
    let is = c.in-Ok.is in
    let e = c.update_sheets.ensures in
    (made-rules c.args.old.now c.args.sheet.now c.args.service _ (sym e.answer ∙ is) _ _ refl (rw is at e.rules), c.requires)

pub returns-in-Ok : goal.returns-in-Ok
returns-in-Ok c =
    let is = c.in-Ok.is in
    let e = c.update_sheets.ensures in
    let text = made-text c.args.old.now c.args.sheet.now c.args.service _ (sym e.answer ∙ is) _ _ refl (rw is at e.rules) in
    rw (← text) c.put_updated.ensures

pub returns-in-Err : goal.returns-in-Err
returns-in-Err c =
    let e = c.update_sheets.ensures in
    let text = refused-text c.args.old.now c.args.sheet.now c.args.service _ (sym e.answer ∙ c.in-Err.is) in
    rw (← text) c.put_refused_of.ensures
