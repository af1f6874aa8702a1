-- `calls::gauge_record` meets its contract: the share that was counted, as exact floats.
use Rattle.std.specs.Prelude.{Ok, Err}
use mathlib.Core.Path.{sym, ap, ◌∙◌}
use Rattle.numerals.proofs.Exits.{handed_on}
use Rattle.gauges.proofs.Answers.{Counted, counted, record-refused, record-out, record-made, few_bits, few-held, record-exact}
use Rattle.gauges.proofs.calls.gauge_record.Goals as goal
use Rattle.gauges.proofs.calls.gauge_record.Goals.{In_ok-held}

-- the share was counted
has :
    (c : In_ok-held)
    → let a = c.args in
    Counted a.text.now a.service a.volume a.backend c.in_ok-held.held
has c = counted _ _ _ _ _ (sym c.in_ok-held.was ∙ c.count_share.ensures)

pub returns-then-volume-gt-MOST_VOLUME : goal.returns-then-volume-gt-MOST_VOLUME
returns-then-volume-gt-MOST_VOLUME c =
    let is = ap Err c.into.ensures ∙ sym (record-out _ _ _ _ _ (has (goal.at.returns-then-volume-gt-MOST_VOLUME c).In_ok-held) c.if-volume-gt-MOST_VOLUME.true) in
    record {
      answer = is;
      exact = λ t read. record-exact _ _ _ _ t read _ is;
    }

pub gauges_of-requires : goal.gauges_of-requires
gauges_of-requires c =
    let h = has (goal.at.gauges_of-requires c).In_ok-held in
    (few_bits _ _ _ _ _ h, few-held _ _ _ _ _ h, c.if-volume-gt-MOST_VOLUME.false)

pub returns-in_err-held : goal.returns-in_err-held
returns-in_err-held c =
    let is = handed_on _ _ c.from_residual.ensures ∙ sym (record-refused _ _ _ _ _ (sym c.in_err-held.was ∙ c.count_share.ensures)) in
    record {
      answer = is;
      exact = λ t read. record-exact _ _ _ _ t read _ is;
    }

pub returns : goal.returns
returns c =
    let is = ap Ok c.gauges_of.ensures ∙ sym (record-made _ _ _ _ _ (has (goal.at.returns c).In_ok-held)
    c.if-volume-gt-MOST_VOLUME.false) in
    record {
      answer = is;
      exact = λ t read. record-exact _ _ _ _ t read _ is;
    }
