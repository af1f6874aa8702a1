-- `resuming::resume` meets its contract: each of its answers is a case of the definition's.
use Rattle.std.specs.Prelude.{Some, Ok, Err}
use mathlib.Core.Path.{◌≡◌, ap, sym, ◌∙◌}
use native.Mathlib.Omega.{arith}
use lib.ListN.{length}
use lib.Seq.{sets}
use Rattle.numerals.proofs.Exits.{handed_on, had, had_none}
use Rattle.expansion.specs.OldList.{rules_from}
use Rattle.expansion.specs.Known.{targets_known}
use Rattle.expansion.specs.Inner.Resume.{Found}
use Rattle.expansion.specs.Resume.{check_old}
use Rattle.expansion.proofs.ResumeAnswers.{resume-refused, resume-stuck, resume-short, resume-made, numbers-are}
use Rattle.expansion.proofs.resuming.resume.Goals as goal
use Rattle.expansion.proofs.resuming.resume.Goals.{In_ok-best, In_ok-check_old}

pub returns-in_err-check_old : goal.returns-in_err-check_old
returns-in_err-check_old c =
    let a = c.args in
    let e = handed_on _ _ c.from_residual.ensures in
    record {
      answer = e
          ∙ sym
          (resume-refused a.k a.tolerance a.ids.now a.weights.now a.old.now (length a.rules.now) _
          (sym c.check_old.ensures ∙ c.in_err-check_old.was));
      rules = rw e;
    }

passed : (c : In_ok-check_old) → let a = c.args in check_old a.k a.tolerance a.old.now a.ids.now a.weights.now ≡ Ok tt
passed c = sym c.check_old.ensures ∙ c.in_ok-check_old.was

pub returns-in_err-best : goal.returns-in_err-best
returns-in_err-best c =
    let a = c.args in
    let n = had_none _ _ c.ok_or.ensures.value c.in_err-best.was in
    let e = handed_on _ _ c.from_residual-in_err-best.ensures ∙ ap Err n.1 in
    record {
      answer = e
          ∙ sym
          (resume-stuck a.k a.tolerance a.ids.now a.weights.now a.old.now (length a.rules.now)
          (passed (goal.at.returns-in_err-best c).In_ok-check_old) (rw n.0 at c.find_best.ensures));
      rules = rw e;
    }

-- the attempt that was found
found :
    (c : In_ok-best)
    → let a = c.args in
    let R = rules_from a.old.now in
    Found (targets_known a.k R a.ids.now a.weights.now) a.tolerance R (Some c.in_ok-best.best)
found c = rw (had _ _ c.ok_or.ensures.value c.in_ok-best.was) at c.find_best.ensures

pub returns-then-rules-n-clause-answer : goal.returns-then-rules-n-clause-answer
returns-then-rules-n-clause-answer c =
    let a = c.args in
    let at = goal.at.returns-then-rules-n-clause-answer c in
    sym
    (resume-short a.k a.tolerance a.ids.now a.weights.now a.old.now (length a.rules.now)
    (passed at.In_ok-check_old) c.in_ok-best.best (found at.In_ok-best) (omega arith))

pub returns-clause-answer : goal.returns-clause-answer
returns-clause-answer c =
    let a = c.args in
    let at = goal.at.returns-clause-answer c in
    sym
    (resume-made a.k a.tolerance a.ids.now a.weights.now a.old.now (length a.rules.now) (passed at.In_ok-check_old)
    c.in_ok-best.best (found at.In_ok-best) (omega arith))

pub returns-clause-rules : goal.returns-clause-rules
returns-clause-rules c =
    let a = c.args in
    let at = goal.at.returns-clause-rules c in
    c.store_rules.ensures
    ∙ ap (sets a.rules.now 0)
    (numbers-are a.k a.tolerance a.ids.now a.weights.now a.old.now (length a.rules.now) (passed at.In_ok-check_old)
    c.in_ok-best.best (found at.In_ok-best))
