-- `calls::stage_places` meets its contract: both sheets read, and what is handed out of the change that they are.
use mathlib.Core.Path.{refl, sym, ◌∙◌}
use mathlib.Core.List.{List}
use Prim.Native.Nat.{ℕ}
use lib.ListN.{length}
use Rattle.numerals.proofs.Exits.{handed_on}
use Rattle.stages.specs.Inner.Both.{BothRead}
use Rattle.stages.proofs.BothCalls.{few_bits, not-value}
use Rattle.stages.proofs.BothCalls.{places-answer, places-buffer, places-promised, places-refused}
use Rattle.stages.proofs.calls.stage_places.Goals as goal
use Rattle.stages.proofs.calls.stage_places.Goals.{In_ok-k}

-- both sheets were read
module _ (d : In_ok-k) where
  abbrev k : ℕ
  k = d.in_ok-k.k

  abbrev first : List ℕ
  first = d.read_both.new.before

  abbrev second : List ℕ
  second = d.read_both.new.after

  R : BothRead d.args.old.now d.args.new.now d.args.service k first second
  R = rw d.in_ok-k.was at d.read_both.ensures

pub invariant_of-change : goal.invariant_of-change
invariant_of-change c =
    let d = (goal.at.invariant_of-change c).In_ok-k in
    let a = c.args in
    record { few_bits = few_bits a.old.now a.new.now a.service (k d) (first d) (second d) (R d) }

pub returns-in_err-k : goal.returns-in_err-k
returns-in_err-k c =
    let a = c.args in
    let e = handed_on _ _ c.from_residual.ensures in
    let no = rw c.in_err-k.was at c.read_both.ensures in
    record {
      answer = e ∙ sym (places-refused a.old.now a.new.now a.service c.in_err-k.field-0.0 no a.limit a.capacity (length a.places.now));
      buffer = rw e;
      promise = λ m i. not-value (sym e ∙ i);
    }

pub returns : goal.returns
returns c =
    let d = (goal.at.returns c).In_ok-k in
    let a = c.args in
    let room = length a.places.now in
    let h = c.hand_row in
    let e = h.ensures in
    record {
      answer = e.answer ∙ places-answer a.old.now a.new.now a.service (k d) (first d) (second d) (R d) a.limit a.capacity room;
      buffer = e.buffer
          ∙ places-buffer a.old.now a.new.now a.service (k d) (first d) (second d) (R d) a.limit a.capacity room h.result a.places.now e.answer;
      promise = places-promised a.old.now a.new.now a.service (k d) (first d) (second d) (R d) a.limit a.capacity room h.result
          a.places.now _ e.answer refl e.buffer;
    }
