-- `splitting::split` meets its contract: the rule sheet as `sheets::split_sheet` writes it, or the refusal that it answers.
use mathlib.Core.Path.{◌≡◌, sym, ap, ◌∙◌}
use lib.ListN.{length}
use lib.Seq.{sets}
use borrow.Author.Rules.{rules}
use Rattle.numerals.specs.Limits.{text_limit}
use Rattle.sheets.specs.PercentageSheet.{read_sheet}
use Rattle.sheets.specs.Calls.{print_read, sheet_text}
use Rattle.commands.proofs.Texts.{whole}
use Rattle.commands.proofs.Sheets.{ended, not-printed, printed-four}
use Rattle.commands.proofs.splitting.split.Goals as goal
use Rattle.commands.proofs.splitting.split.Goals.{After-split_sheet}

-- what was answered, at the buffer's length
answered :
    (c : After-split_sheet)
    → c.split_sheet.result ≡ print_read (read_sheet c.args.sheet.now) sheet_text text_limit
unfolding text_limit
answered c =
    let a = c.args in
    let long : length a.out.now ≡ text_limit = search rules in
    c.split_sheet.ensures.answer ∙ ap (print_read (read_sheet a.sheet.now) sheet_text) long

pub returns-in-Ok : goal.returns-in-Ok
returns-in-Ok c =
    let is = c.in-Ok.is in
    let e = c.split_sheet.ensures in
    let end = ended _ _ (sym is ∙ answered (goal.at.returns-in-Ok c).After-split_sheet) in
    let written = (rw is at e.buffer) ∙ ap (sets _ 0) end.1 in
    record {
      answer = end.0;
      buffer = written;
      demand = (λ S h. rw is at e.demand);
      four_places = printed-four _ end.0 written;
    }

pub returns-in-Err : goal.returns-in-Err
returns-in-Err c =
    let is = c.in-Err.is in
    let e = c.split_sheet.ensures in
    let not = not-printed _ _ (sym is ∙ answered (goal.at.returns-in-Err c).After-split_sheet) in
    let w = whole c.put_refused.ensures in
    record {
      answer = rw not.0 w.0;
      buffer = rw not.0 (w.1 ∙ rw (rw is at e.buffer));
      demand = (λ S h. absurd (not.1 S h));
      four_places = printed-four _ (rw not.0 w.0) (rw not.0 (w.1 ∙ rw (rw is at e.buffer)));
    }
