-- `calls::stage_lines` meets its contract: both sheets read, and what is handed out of the change that they are.
use mathlib.Core.Path.{refl, sym, ◌∙◌}
use mathlib.Core.List.{List}
use Prim.Native.Nat.{ℕ}
use lib.ListN.{length}
use Rattle.numerals.proofs.Exits.{handed_on}
use Rattle.stages.specs.Inner.Both.{BothRead}
use Rattle.stages.proofs.BothCalls.{few_bits, served-first, served-second, not-value}
use Rattle.stages.proofs.BothCalls.{lines-answer, lines-buffer, lines-promised, lines-refused}
use Rattle.stages.proofs.calls.stage_lines.Goals as goal
use Rattle.stages.proofs.calls.stage_lines.Goals.{In_ok-k}

-- both sheets were read
module _ (d : In_ok-k) where
  abbrev k : ℕ
  k = d.in_ok-k.k

  abbrev first : List ℕ
  first = d.read_both.new.before

  abbrev second : List ℕ
  second = d.read_both.new.after

  R : BothRead d.args.old.now d.args.new.now d.args.service k first second
  R = rw d.in_ok-k.was at d.read_both.ensures

pub invariant_of-change : goal.invariant_of-change
invariant_of-change c =
    let d = (goal.at.invariant_of-change c).In_ok-k in
    let a = c.args in
    record { few_bits = few_bits a.old.now a.new.now a.service (k d) (first d) (second d) (R d) }

pub hand_stage-requires : goal.hand_stage-requires
hand_stage-requires c =
    let d = (goal.at.hand_stage-requires c).In_ok-k in
    let a = c.args in
    let before = served-first a.old.now a.new.now a.service (k d) (first d) (second d) (R d) in
    let after = served-second a.old.now a.new.now a.service (k d) (first d) (second d) (R d) in
    (before, after)

pub returns-in_err-k : goal.returns-in_err-k
returns-in_err-k c =
    let a = c.args in
    let e = handed_on _ _ c.from_residual.ensures in
    let no = rw c.in_err-k.was at c.read_both.ensures in
    record {
      answer = e ∙ sym (lines-refused a.old.now a.new.now a.service c.in_err-k.field-0.0 no a.limit a.capacity a.number (length a.out.now));
      buffer = rw e;
      promise = λ m i. not-value (sym e ∙ i);
    }

pub returns : goal.returns
returns c =
    let d = (goal.at.returns c).In_ok-k in
    let a = c.args in
    let room = length a.out.now in
    let h = c.hand_stage in
    let e = h.ensures in
    record {
      answer = e.answer ∙ lines-answer a.old.now a.new.now a.service (k d) (first d) (second d) (R d) a.limit a.capacity a.number room;
      buffer = e.buffer
          ∙ lines-buffer a.old.now a.new.now a.service (k d) (first d) (second d) (R d) a.limit a.capacity a.number room h.result a.out.now e.answer;
      promise = lines-promised a.old.now a.new.now a.service (k d) (first d) (second d) (R d) a.limit a.capacity a.number room h.result
          a.out.now _ e.answer refl e.buffer;
    }
