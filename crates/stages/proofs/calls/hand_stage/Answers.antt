-- `calls::hand_stage` meets its contract: the stage of a row that was judged, by its number.
use Rattle.std.specs.Prelude.{Ok, Result}
use Prim.Native.Nat.{ℕ, ◌-◌, ◌^◌, ◌≤◌}
use mathlib.Core.Path.{◌≡◌, ap, sym, ◌∙◌, subst}
use mathlib.Core.List.{List}
use native.Mathlib.Omega.{arith}
use lib.ListN.{length, get_or, take}
use Rattle.numerals.specs.Limits.{most_suffixes, most_capacity}
use Rattle.numerals.proofs.Powers.{pow-few}
use Rattle.sheets.specs.Calls.{print_text, afterwards, is_value}
use Rattle.stages.specs.Inner.Nodes.{at, cut_at, starts_to}
use Rattle.stages.specs.Inner.Row.{row_of, judged, RowIn}
use Rattle.stages.specs.Inner.Changes.{stage_in, judged_in}
use Rattle.stages.specs.Inner.Handed.{handed, text_at}
use Rattle.stages.proofs.Rows.{row-few}
use Rattle.stages.proofs.OneChange.{Judges, judges, sparse-at, starts-count, first-at}
use Rattle.stages.proofs.calls.hand_stage.Goals as goal
use Rattle.stages.proofs.calls.hand_stage.Goals.{In_ok-judge}
use Rattle.stages.specs.declared.change.Change.{Change}
use Rattle.numerals.specs.declared.refusal.Refusal.{Refusal}

-- the number of a stage is that of a place of the row, which has no more than there are suffixes
numbered : (C : Change) (limit capacity number n : ℕ) → judged_in C limit capacity number ≡ Ok n → (1 ≤ number) × (number ≤ most_suffixes)
numbered C limit capacity number n is =
    let old = at C.old.now in
    let new = at C.new.now in
    let J : Judges C.k old new limit capacity number n = judges C.k old new limit capacity number n is in
    (J.first, omega (arith, J.last, row-few C.k old new limit J.some, pow-few C.k C.few_bits))

-- a row was judged to be one
module _ (d : In_ok-judge) where
  abbrev n : ℕ
  n = d.in_ok-judge.field-0

  abbrev old : ℕ → ℕ
  old = at d.args.change.old.now

  abbrev new : ℕ → ℕ
  new = at d.args.change.new.now

  abbrev places : List ℕ
  places = row_of d.args.change.k old new d.args.limit

  abbrev listing : List ℕ
  listing = d.judge.new.row

  is : judged d.args.change.k old new d.args.limit d.args.capacity d.args.number ≡ Ok n
  is = sym d.judge.ensures.answer ∙ d.in_ok-judge.was

  J : Judges d.args.change.k old new d.args.limit d.args.capacity d.args.number n
  J = judges d.args.change.k old new d.args.limit d.args.capacity d.args.number n is

  stands : take n listing ≡ places
  stands = subst (λ (j : (Result ℕ Refusal)). RowIn d.args.change.k old new d.args.limit j listing) d.in_ok-judge.was d.judge.ensures.row

  place_is : get_or listing (d.args.number - 1) 0 ≡ get_or places (d.args.number - 1) 0
  place_is = first-at n listing places (d.args.number - 1) stands (omega (arith, J.first, J.last, J.count))

  sparse : length (starts_to (cut_at (get_or places (d.args.number - 1) 0) old new) d.args.change.k (2 ^ d.args.change.k)) ≤ most_capacity
  sparse =
      let p = get_or places (d.args.number - 1) 0 in
      omega (
        arith,
        starts-count (cut_at p old new) d.args.change.k,
        J.small,
        sparse-at d.args.change.k old new d.args.capacity places J.sparse (d.args.number - 1) (omega (arith, J.first, J.last)),
      )

pub overflow_sub-number : goal.overflow_sub-number
overflow_sub-number c = let a = c.args in omega (arith, numbered a.change a.limit a.capacity a.number _ (sym c.judge.ensures.answer ∙ c.in_ok-judge.was))

pub offset_bounds-row-number : goal.offset_bounds-row-number
offset_bounds-row-number c = let a = c.args in omega (arith, numbered a.change a.limit a.capacity a.number _ (sym c.judge.ensures.answer ∙ c.in_ok-judge.was))

pub bounds-row-number : goal.bounds-row-number
bounds-row-number c = let a = c.args in omega (arith, numbered a.change a.limit a.capacity a.number _ (sym c.judge.ensures.answer ∙ c.in_ok-judge.was))

pub print_stage-requires : goal.print_stage-requires
print_stage-requires c =
    let d = (goal.at.print_stage-requires c).In_ok-judge in
    record {
      of_service = c.requires;
      few_lines = subst (λ (p : ℕ). length (starts_to (stage_in c.args.change p) c.args.change.k (2 ^ c.args.change.k)) ≤ most_capacity) (sym (place_is d))
          (sparse d);
    }

pub returns : goal.returns
returns c =
    let d = (goal.at.returns c).In_ok-judge in
    let a = c.args in
    let e = c.print_stage.ensures in
    let text : ℕ → List ℕ = λ p. text_at a.change.k (old d) (new d) a.service p in
    let p = get_or (places d) (a.number - 1) 0 in
    record {
      answer = e.answer ∙ ap (λ (q : ℕ). print_text (text q) (length a.out.now)) (place_is d)
          ∙ sym (ap (λ (j : (Result ℕ Refusal)). handed j (text p) (length a.out.now)) (is d));
      buffer = e.buffer ∙ ap (λ (q : ℕ). afterwards (is_value c.print_stage.result) a.out.now (text q)) (place_is d);
    }
