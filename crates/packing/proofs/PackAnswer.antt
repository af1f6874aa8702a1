-- What the packing answers, where the lists and the grants are those that the program keeps.
use Rattle.std.specs.Prelude.{Err, Ok, Result, IfOk}
use Prim.Native.Nat.{ℕ, ◌*◌, ◌≤◌, ◌<◌}
use mathlib.Core.Path.{◌≡◌, refl, ap₂}
use mathlib.Core.Bool.{Bool, true, false}
use mathlib.Core.List.{List}
use native.Mathlib.Omega.{arith}
use lib.ListN.{length, get_or}
use lib.Dec.{leb}
use Rattle.numerals.specs.Pick.{pick}
use Rattle.numerals.specs.Sums.{sum_to}
use Rattle.numerals.specs.declared.refusal.Refusal.{Refusal}
use Rattle.numerals.specs.declared.refusal.Refusal.TheVariants.{ShortLoan}
use Rattle.expansion.specs.Steps.{Frame}
use Rattle.expansion.specs.declared.rule.Rule.{Rule}
use Rattle.numerals.proofs.Sums.{sum-ext}
use Rattle.packing.specs.Grants.{Grants, total}
use Rattle.packing.specs.Count.{services, volume}
use Rattle.packing.specs.Table.{frame_of, list_for, table, problem, granted, one_each}
use Rattle.packing.specs.Answer.{services_with, services_of, check_all, lines_made, packed_of, figures_of, cells_of, Demanded, no_buffer, about, figures_buffer}
use Rattle.packing.specs.Answer.{table_buffer, written, answer}
use Rattle.packing.specs.Inner.Lists.{Listed, Granted}
use Rattle.packing.specs.Inner.Stored.{stored_total, stored_lines, stored_figures, stored_table, held, AllPayable, Started, Allotted}
use Rattle.packing.specs.declared.answer.Packed.{Packed}
use Rattle.packing.proofs.Demand.{one-fits, demand}
use Rattle.packing.proofs.Checks.{Accepted, balanced, volume-le}
use Rattle.packing.proofs.StoredCosts.{granted-kept, total_kept, all-payable, all-started, stair-low, stair-down}
use Rattle.packing.proofs.Written.{table_kept, lines-kept, figures-kept}
use Rattle.packing.specs.declared.answer.NotPacked.{NotPacked}

-- what holds of the table holds of an answer that it was made
module _ (claim : Packed → Type 0) (p : Packed) where
  chosen : (t u : Bool) → claim p → IfOk (pick t (pick u (Ok p) (Err (about table_buffer ShortLoan))) (Err (about figures_buffer ShortLoan))) claim
  chosen true true d = d
  chosen true false d = tt
  chosen false u d = tt

  pub claimed : (n figures_room table_room : ℕ) (r : Result Packed NotPacked) → r ≡ written p n figures_room table_room → claim p → IfOk r claim
  unfolding written
  claimed n figures_room table_room r e d = rw e (chosen (leb (3 * n) figures_room) (leb (4 * p.rules) table_room) d)

-- the answer by what the checks found
module _ (k tolerance capacity : ℕ) (volumes sizes ids ws : List ℕ) (figures_room table_room : ℕ) where
  pub answer-refused :
      (why : Refusal) → check_all k tolerance capacity volumes sizes ids ws ≡ Err why
      → answer k tolerance capacity volumes sizes ids ws figures_room table_room ≡ Err (about no_buffer why)
  unfolding answer
  answer-refused why e = rw e

  pub answer-passed :
      check_all k tolerance capacity volumes sizes ids ws ≡ Ok tt → (p : Packed)
      → p ≡ packed_of (services_of k volumes sizes ids ws) tolerance capacity
      → written p (length volumes) figures_room table_room
      ≡ answer k tolerance capacity volumes sizes ids ws figures_room table_room
  unfolding answer services services_with
  answer-passed passed p e = rw (passed, e)

-- the lists and the grants kept come to this
pub record Outcome (k tolerance capacity : ℕ) (volumes sizes ids ws lens values backends stairs counts ends grants : List ℕ) : Type 0 where
  pub figures : stored_figures grants counts ends (length volumes) ≡ figures_of k tolerance capacity volumes sizes ids ws
  pub table :
      stored_table (stored_lines grants counts) lens values backends (length volumes)
      ≡ cells_of k tolerance capacity volumes sizes ids ws
  pub made :
      ◌≡◌ {A = Packed}
      (record { rules = sum_to (length volumes) (stored_lines grants counts); total = stored_total volumes stairs counts grants })
      (packed_of (services_of k volumes sizes ids ws) tolerance capacity)
  pub demand : Demanded k tolerance capacity volumes sizes ids ws (stored_total volumes stairs counts grants)

module _ (k tolerance capacity : ℕ) (volumes sizes ids ws lens values backends stairs counts ends : List ℕ)
    (A : Accepted k tolerance capacity volumes sizes ids ws)
    (L : let S = services_of k volumes sizes ids ws in
    Listed (services S) (frame_of S tolerance) (list_for S tolerance) lens values backends stairs counts ends) where
  pub payable : AllPayable volumes stairs counts
  unfolding services_with services volume
  payable =
      let S = services_of k volumes sizes ids ws in
      all-payable volumes (frame_of S tolerance) (list_for S tolerance) stairs counts L.stepped
      (stair-low S tolerance (balanced A) refl A.few_bits) (omega (arith, A.few, A.same)) (volume-le A)

  -- grants of one rule each
  pub started :
      (grants : List ℕ) → ((s : ℕ) → s < length volumes → get_or grants s 0 ≡ 1) → Started volumes stairs counts grants
  unfolding services_with services
  started grants ones =
      let S = services_of k volumes sizes ids ws in
      all-started volumes (frame_of S tolerance) (list_for S tolerance) stairs counts L.stepped grants
      (λ s x l from. stair-down S tolerance (balanced A) s x l (omega (arith, ones s l)))

  -- they fit
  pub ones-fit :
      (grants : List ℕ) → ((s : ℕ) → s < length volumes → get_or grants s 0 ≡ 1)
      → sum_to (length volumes) (held grants) ≤ capacity
  unfolding services_with services
  ones-fit grants ones =
      omega (
        arith,
        sum-ext (length volumes) (held grants) one_each ones,
        one-fits (services_of k volumes sizes ids ws) capacity (omega (arith, A.room, A.same)),
      )

  pub outcome :
      (from grants : List ℕ) (r : ℕ) → ((s : ℕ) → s < length volumes → get_or from s 0 ≡ 1)
      → Allotted (held from) capacity volumes stairs counts grants r
      → Outcome k tolerance capacity volumes sizes ids ws lens values backends stairs counts ends grants
  unfolding services_with services volume problem granted table packed_of lines_made
  outcome from grants r ones G =
      let S = services_of k volumes sizes ids ws in
      let room : sum_to (length volumes) one_each ≤ capacity = one-fits S capacity (omega (arith, A.room, A.same)) in
      let some : 0 < length volumes = omega (arith, A.some, A.same) in
      let frames : ℕ → Frame = frame_of S tolerance in
      let lists : ℕ → List Rule = list_for S tolerance in
      let g : Grants = granted S tolerance one_each capacity in
      let kept : Granted (length volumes) g grants =
      granted-kept volumes frames lists stairs counts L.stepped one_each capacity grants from ones some r G in
      let lines : sum_to (length volumes) (stored_lines grants counts) ≡ length (lines_made S tolerance capacity) =
      lines-kept (length volumes) frames lists lens values backends stairs counts ends L g grants kept in
      let whole : stored_total volumes stairs counts grants ≡ total (problem S tolerance one_each capacity) g =
      total_kept volumes frames lists stairs counts L.stepped one_each capacity grants g kept in
      record {
        figures = figures-kept S tolerance lens values backends stairs counts ends L capacity grants kept;
        table = table_kept (length volumes) frames lists lens values backends stairs counts ends L g grants kept;
        made = ap₂ (λ (r t : ℕ). record { rules = r; total = t }) lines whole;
        demand = rw whole (demand S tolerance (balanced A) one_each capacity (λ s l. omega arith) room);
      }
