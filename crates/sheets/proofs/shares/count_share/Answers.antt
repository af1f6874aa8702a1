-- `shares::count_share` meets its contract: the share by the table that was read.
use Rattle.std.specs.Prelude.{Err, Ok}
use Prim.Native.Nat.{ℕ, ◌<◌}
use mathlib.Core.Path.{◌≡◌, sym, ap, ◌∙◌}
use mathlib.Core.Bool.{true, false}
use native.Mathlib.Omega.{arith}
use Rattle.numerals.specs.Limits.{most_id}
use Rattle.expansion.specs.Answer.{in_limits}
use Rattle.numerals.proofs.Exits.{handed_on}
use Rattle.sheets.specs.Shares.{share_answer}
use Rattle.sheets.proofs.HeldTables.{TableHeld, table-held, refused-answer, few-bits, few_held, found-there}
use Rattle.sheets.proofs.Sharing.{share-none, share-out, share-made}
use Rattle.sheets.proofs.shares.count_share.Goals as goal
use Rattle.sheets.proofs.shares.count_share.Goals.{Else-first_backend-eq0, Else-not-contains, Then-not-contains, In_ok-head}
use Rattle.std.proofs.lemmas.Grind.{common_steps}

-- the sheet was read
has :
    (c : In_ok-head)
    → TableHeld c.args.text.now c.in_ok-head.head
    c.read_sheet_lines.new.table
has c =
    let read = c.read_sheet_lines in
    table-held _ _ _ (omega arith) (sym c.in_ok-head.was ∙ read.ensures.answer) read.ensures.buffer

pub invariant_of-table : goal.invariant_of-table
invariant_of-table c = record { ruled = (has (goal.at.invariant_of-table c).In_ok-head).ruled }

pub invariant_of-table-2 : goal.invariant_of-table-2
invariant_of-table-2 c =
    let h = has (goal.at.invariant_of-table-2 c).In_ok-head in
    record { few_bits = few-bits _ _ _ h; few = few_held _ _ _ h; found = found-there _ _ _ h }

pub returns-then-first_backend-eq0 : goal.returns-then-first_backend-eq0
returns-then-first_backend-eq0 c =
    rw c.refused_at.ensures (sym (share-none _ _ _ (has (goal.at.returns-then-first_backend-eq0 c).In_ok-head) _ _ _ c.first_backend.ensures
    c.if-first_backend-eq0.true))

-- the service is there
some : (c : Else-first_backend-eq0) → 0 < c.first_backend.result
some c = omega (arith, c.if-first_backend-eq0.false)

inside : (c : Else-not-contains) → in_limits 1 most_id c.args.backend ≡ true
unfolding in_limits
inside c = grind (arith, common_steps)

outside : (c : Then-not-contains) → in_limits 1 most_id c.args.backend ≡ false
unfolding in_limits
outside c = grind (arith, common_steps)

pub returns-then-not-contains : goal.returns-then-not-contains
returns-then-not-contains c =
    let no = (goal.at.returns-then-not-contains c).Then-not-contains in
    rw c.refused_at-then-not-contains.ensures (sym (share-out _ _ _ (has (goal.at.returns-then-not-contains c).In_ok-head) _ _ _ c.first_backend.ensures
    (some (goal.at.returns-then-not-contains c).Else-first_backend-eq0) (outside no)))

pub returns-in_err-head : goal.returns-in_err-head
unfolding share_answer
returns-in_err-head c =
    let read = c.read_sheet_lines in
    handed_on _ _ c.from_residual.ensures ∙ refused-answer Err _ _ _ (sym c.in_err-head.was ∙ read.ensures.answer)

pub returns : goal.returns
returns c =
    let k = c.in_ok-head.head.k in
    ap (λ (n : ℕ). Ok (record { k = k; share = n })) c.tally.ensures
    ∙ sym (share-made _ _ _ (has (goal.at.returns c).In_ok-head) _ _ _ c.first_backend.ensures
    (some (goal.at.returns c).Else-first_backend-eq0) (inside (goal.at.returns c).Else-not-contains))
