-- `calls::hand_row` meets its contract: the row that was judged, cut once more into the lent buffer.
use Rattle.std.specs.Prelude.{Ok, Result}
use Prim.Native.Nat.{ℕ}
use mathlib.Core.Path.{◌≡◌, refl, ap, sym, ◌∙◌}
use mathlib.Core.List.{List}
use native.Mathlib.Omega.{arith}
use lib.ListN.{length}
use Rattle.stages.specs.Inner.Nodes.{at}
use Rattle.stages.specs.Inner.Row.{row_of, judged}
use Rattle.stages.specs.Inner.Handed.{handed}
use Rattle.stages.proofs.OneChange.{Judges, judges, print-short, print-fits}
use Rattle.stages.proofs.calls.hand_row.Goals as goal
use Rattle.stages.proofs.calls.hand_row.Goals.{In_ok-n}
use Rattle.numerals.specs.declared.refusal.Refusal.{Refusal}

-- a row was judged to be one
module _ (d : In_ok-n) where
  abbrev n : ℕ
  n = d.in_ok-n.n

  abbrev old : ℕ → ℕ
  old = at d.args.change.old.now

  abbrev new : ℕ → ℕ
  new = at d.args.change.new.now

  abbrev values : List ℕ
  values = row_of d.args.change.k old new d.args.limit

  is : judged d.args.change.k old new d.args.limit d.args.capacity 1 ≡ Ok n
  is = sym d.judge.ensures.answer ∙ d.in_ok-n.was

  J : Judges d.args.change.k old new d.args.limit d.args.capacity 1 n
  J = judges d.args.change.k old new d.args.limit d.args.capacity 1 n is

pub returns-then-places-n : goal.returns-then-places-n
returns-then-places-n c =
    let d = (goal.at.returns-then-places-n c).In_ok-n in
    let room = length c.args.places.now in
    rw c.into.ensures (record {
      answer = sym (ap (λ (j : (Result ℕ Refusal)). handed j (values d) room) (is d)
          ∙ print-short (values d) room (omega (arith, (J d).count, c.if-places-n.true)));
      buffer = refl;
    })

pub cut-requires : goal.cut-requires
cut-requires c =
    let J = J (goal.at.cut-requires c).In_ok-n in
    (J.some, omega (arith, J.count, c.if-places-n.false))

pub returns : goal.returns
returns c =
    let d = (goal.at.returns c).In_ok-n in
    let room = length c.args.places.now in
    record {
      answer = ap Ok (J d).count
          ∙ sym (ap (λ (j : (Result ℕ Refusal)). handed j (values d) room) (is d)
          ∙ print-fits (values d) room (omega (arith, (J d).count, c.if-places-n.false)));
      buffer = c.cut.ensures.row;
    }
