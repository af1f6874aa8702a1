-- The numbers of a percentage sheet that was read pass the checks of the packing, which then packs the sheet's own services.
use Rattle.std.specs.Prelude.{Err, Ok, Result}
use Prim.Native.Nat.{ℕ, suc, ◌+◌, ◌*◌, ◌<◌, ◌≤◌}
use mathlib.Core.Path.{◌≡◌, refl, ◌∙◌}
use mathlib.Core.Bool.{Bool, true, false}
use mathlib.Core.List.{List, [], ◌∷◌, ◌++◌}
use native.Mathlib.Omega.{arith}
use lib.Dec.{leb}
use lib.ListN.{length, get_or, take, drop, length-append}
use lib.Seq.{take-append_seam, drop-append_seam}
use borrow.Author.Tests.{lt-ltb, le-leb}
use Rattle.numerals.specs.Pick.{pick}
use Rattle.numerals.specs.Limits.{most_bits, most_backends, most_services, most_capacity, most_volume, unit}
use Rattle.numerals.specs.declared.refusal.Refusal.TheVariants.{ShortLoan}
use Rattle.numerals.specs.Buffer.{filled}
use Rattle.packing.specs.Count.{services}
use Rattle.packing.specs.Answer.{chunks, services_of, check_service, check_from, check_services, check_head, check_all, lines_made, packed_of, figures_made}
use Rattle.packing.specs.Answer.{about as about_buffer, cells, figures_buffer, table_buffer, written, answer, is_made, services_with}
use Rattle.packing.specs.declared.answer.Packed.{Packed}
use Rattle.sheets.specs.PercentageSheet.{Sheet, read_sheet}
use Rattle.sheets.specs.Calls.{about, services_in, table_for, plan_of, plan_answer, values_of, afterwards, is_plan, figures_for, cells_for}
use Rattle.sheets.specs.Inner.SheetReader.{sizes_of, row_of, SheetHeld}
use Rattle.sheets.specs.declared.percentage_sheet.Head.{Head}
use Rattle.sheets.proofs.TableChecks.{is_within_lem}
use Rattle.sheets.proofs.SheetLimits.{Row, Limits, row-passes, limits}
use Rattle.sheets.proofs.Chunks.{chunks-row}
use Rattle.packing.specs.declared.answer.NotPacked.{NotPacked}
use Rattle.sheets.specs.declared.answer.Plan.{Plan}
use Rattle.sheets.specs.declared.answer.Refused.{Refused}

pub same-services :
    (S : Sheet) → sizes_of S.ids ≡ sizes_of S.weights
    → services_of S.k S.volumes (sizes_of S.weights) (row_of S.ids) (row_of S.weights) ≡ services_in S
unfolding services_in
same-services S paired =
    let ids : chunks (sizes_of S.weights) (row_of S.ids) ≡ S.ids = rw (← paired) (chunks-row S.ids) in
    rw (ids, chunks-row S.weights)

-- one service, and the services from s on
service-passes :
    (v : ℕ) (ids more ws rest : List ℕ) → v ≤ most_volume → Row ids ws → check_service v (length ws) (ids ++ more) (ws ++ rest) ≡ Ok tt
unfolding check_service
service-passes v ids more ws rest h r =
    let own : take (length ws) (ids ++ more) ≡ ids = rw (← r.paired) (take-append_seam ids more) in
    simp (
      lt-ltb 0 (length ws) r.some,
      le-leb (length ws) most_backends r.few,
      le-leb (length ws) (length (ids ++ more)) (omega (arith, length-append ids more, r.paired)),
      le-leb (length ws) (length (ws ++ rest)) (omega (arith, length-append ws rest)),
      le-leb v most_volume h,
      own,
      take-append_seam ws rest,
      row-passes r,
    )

from-passes :
    (s : ℕ) (volumes : List ℕ) (iss wss : List (List ℕ)) → length volumes ≡ length wss → length iss ≡ length wss → s + length wss ≤ most_services
    → ((i : ℕ) → i < length wss → get_or volumes i 0 ≤ most_volume)
    → ((i : ℕ) → i < length wss → Row (get_or iss i []) (get_or wss i []))
    → check_from s volumes (sizes_of wss) (row_of iss) (row_of wss) ≡ Ok tt
unfolding check_from sizes_of row_of
from-passes s [] [] [] same named few small rows = refl
from-passes s [] [] (ws ∷ wss) same named few small rows = absurd (omega arith)
from-passes s [] (ids ∷ iss) [] same named few small rows = absurd (omega arith)
from-passes s [] (ids ∷ iss) (ws ∷ wss) same named few small rows = absurd (omega arith)
from-passes s (v ∷ volumes) iss [] same named few small rows = absurd (omega arith)
from-passes s (v ∷ volumes) [] (ws ∷ wss) same named few small rows = absurd (omega arith)
from-passes s (v ∷ volumes) (ids ∷ iss) (ws ∷ wss) same named few small rows =
    let r : Row ids ws = rows 0 (omega arith) in
    let rest : drop (length ws) (ids ++ row_of iss) ≡ row_of iss = rw (← r.paired) (drop-append_seam ids (row_of iss)) in
    simp (
      lt-ltb s most_services (omega arith),
      service-passes v ids (row_of iss) ws (row_of wss) (small 0 (omega arith)) r,
      rest,
      drop-append_seam ws (row_of wss),
      from-passes (suc s) volumes iss wss (omega arith) (omega arith) (omega arith) (λ i l. small (suc i) (omega arith))
          (λ i l. rows (suc i) (omega arith)),
    )

pub all_pass :
    (S : Sheet) → Limits S
    → check_all S.k S.tolerance S.capacity S.volumes (sizes_of S.weights) (row_of S.ids) (row_of S.weights) ≡ Ok tt
unfolding check_all check_head check_services
all_pass S l =
    simp (
      is_within_lem 1 most_bits S.k l.bits l.few_bits,
      le-leb S.tolerance unit l.tolerant,
      is_within_lem 1 most_capacity S.capacity (omega (arith, l.some, l.room)) l.small,
      from-passes 0 S.volumes S.ids S.weights (omega (arith, l.rows)) (omega (arith, l.rows, l.named)) (omega (arith, l.rows, l.few))
          (λ i h. l.volume i (omega (arith, l.rows))) (λ i h. l.row i (omega (arith, l.rows))),
      lt-ltb 0 (length S.volumes) (omega (arith, l.some)),
      le-leb (length S.volumes) S.capacity l.room,
    )

-- the packing's answer, as the one call answers it
abbrev pub plan_from : ℕ → ℕ → Result Packed NotPacked → Result Plan Refused
plan_from k n (Ok p) = Ok (record { k = k; services = n; rules = p.rules; total = p.total })
plan_from k n (Err r) = Err (about r.buffer r.why 0)

-- a choice by two tests, carried through to the one call's answer
plan-picks :
    (k n : ℕ) (t u : Bool) (p : Packed)
    → plan_from k n (pick t (pick u (Ok p) (Err (about_buffer table_buffer ShortLoan))) (Err (about_buffer figures_buffer ShortLoan)))
    ≡ pick t
    (pick u (Ok (record { k = k; services = n; rules = p.rules; total = p.total }))
    (Err (about table_buffer ShortLoan 0)))
    (Err (about figures_buffer ShortLoan 0))
plan-picks k n true true p = refl
plan-picks k n true false p = refl
plan-picks k n false u p = refl

pub plan-answer :
    (S : Sheet) → Limits S → sizes_of S.ids ≡ sizes_of S.weights → (a b : ℕ)
    → plan_from S.k (length S.volumes)
    (answer S.k S.tolerance S.capacity S.volumes (sizes_of S.weights) (row_of S.ids) (row_of S.weights) a b)
    ≡ plan_of S a b
unfolding answer written plan_of packed_of table_for services services_in services_with
plan-answer S limits paired a b = rw (all_pass S limits, same-services S paired)
    (plan-picks S.k (length S.volumes) (leb (3 * length S.volumes) a) (leb (4 * length (lines_made (services_in S) S.tolerance S.capacity)) b)
    (packed_of (services_in S) S.tolerance S.capacity))

fill-same : (k n : ℕ) (p : (Result Packed NotPacked)) (out vs : List ℕ) → filled (is_made p) out 0 vs ≡ afterwards (is_plan (plan_from k n p)) out vs
fill-same k n (Ok p) out vs = refl
fill-same k n (Err r) out vs = refl

-- the numbers that the memory holds, packed: the answer and the buffers of the one call
module _ (text : List ℕ) {vs zs is ws : List ℕ} {head : Head} {n row : ℕ} (held : SheetHeld (read_sheet text) vs zs is ws head n row) where
  held-services : services_of head.k (take n vs) (take n zs) (take row is) (take row ws) ≡ services_in held.sheet
  held-services = cc (same-services held.sheet held.holds.paired)

  pub held-figures :
      figures_made (services_of head.k (take n vs) (take n zs) (take row is) (take row ws)) head.tolerance head.capacity
      ≡ figures_for held.sheet
  unfolding figures_for
  held-figures = cc held-services

  pub held-cells :
      cells (lines_made (services_of head.k (take n vs) (take n zs) (take row is) (take row ws)) head.tolerance head.capacity)
      ≡ cells_for held.sheet
  unfolding cells_for table_for
  held-cells = cc held-services

  module _ (p : (Result Packed NotPacked)) where
    pub plan-made :
        (a b : ℕ) → p ≡ answer head.k head.tolerance head.capacity (take n vs) (take n zs) (take row is) (take row ws) a b
        → plan_from head.k n p ≡ plan_answer text a b
    unfolding plan_answer
    plan-made a b is-answer =
        let same : plan_from head.k n p ≡ plan_of held.sheet a b =
        cc (plan-answer held.sheet (limits text held.sheet held.read) held.holds.paired a b) in
        rw held.read same

    pub plan-buffer :
        (f : Sheet → List ℕ) (made out out' : List ℕ) → made ≡ f held.sheet → out' ≡ filled (is_made p) out 0 made
        → out' ≡ afterwards (is_plan (plan_from head.k n p)) out (values_of (read_sheet text) f)
    plan-buffer f made out out' same filled-so = rw (held.read, ← same) (filled-so ∙ fill-same head.k n p out made)
