-- What a call answers, by its cases: refused by a check, too little room, or the list that the program made.
use Rattle.std.specs.Prelude.{Err, Ok}
use Prim.Native.Nat.{ℕ, zero, suc, ◌+◌, ◌-◌, ◌≤◌, ◌<◌}
use mathlib.Core.Bool.{true, false}
use mathlib.Core.List.{List, [], ◌∷◌, ◌++◌, reverse, map}
use mathlib.Core.Path.{◌≡◌, refl, ap, ap₂, sym, ◌∙◌}
use native.Mathlib.Omega.{arith}
use lib.Dec.{leb}
use lib.ListN.{length, get_or, take}
use lib.Seq.{take-suc}
use borrow.Author.Tests.{leb-false, le-leb, lt-leb}
use Rattle.expansion.specs.Steps.{Frame, first_rule, frame, stair, stairs_to}
use Rattle.expansion.specs.Answer.{check_call, frame_made, list_made, stairs_made, record_made, answer}
use Rattle.expansion.specs.Inner.Lists.{newest_first}
use Rattle.expansion.specs.Inner.Run.{Made}
use Rattle.expansion.specs.declared.rule.Rule.{Rule}
use Rattle.numerals.specs.declared.refusal.Refusal.{Refusal}
use Rattle.numerals.specs.declared.refusal.Refusal.TheVariants.{ShortLoan}
use Rattle.expansion.specs.declared.run.Run.{Run}
use Rattle.expansion.proofs.Listing.{length-newest, column-newest}

pub answer-refused : (k tolerance budget : ℕ) (ids ws : List ℕ) (at room : ℕ) (why : Refusal) → check_call k tolerance budget ids ws ≡ Err why
    → answer k tolerance budget ids ws at room ≡ Err why
unfolding answer
answer-refused k tolerance budget ids ws at room why e = rw e

-- the first stairs of a listing
stairs-taken : (F : Frame) (rs : List Rule) (xs : List ℕ) (c : ℕ) → c ≤ length xs
    → ((i : ℕ) → i < c → get_or xs i 0 ≡ stair F (suc i) rs) → take c xs ≡ stairs_to F rs c
unfolding stairs_to
stairs-taken F rs xs zero l h = refl
stairs-taken F rs xs (suc c) l h =
    take-suc xs c 0 l
    ∙ ap₂ (λ (ys : List ℕ) (y : ℕ). ys ++ y ∷ []) (stairs-taken F rs xs c (omega arith) (λ i m. h i (omega arith))) (h c (omega arith))

-- the list that was made, as the answer has it
module _ (k tolerance budget : ℕ) (ids ws : List ℕ) (r : Run) (M : Made (frame_made k tolerance ids ws) budget r) where
  made-rules : newest_first r.list.rules r.list.count ≡ list_made k tolerance budget ids ws
  unfolding list_made
  made-rules = M.rules

  made-stair : (c : ℕ) → c < r.list.count → get_or r.list.stairs c 0 ≡ stair (frame_made k tolerance ids ws) (suc c) (list_made k tolerance budget ids ws)
  unfolding list_made frame_made frame first_rule
  made-stair c l =
      let same : c ≡ suc c - 1 = omega arith in
      ap (λ (i : ℕ). get_or r.list.stairs i 0) same ∙ M.stairs (suc c) (omega arith) (omega arith)

  pub made-count : r.list.count ≡ length (list_made k tolerance budget ids ws)
  made-count = sym (length-newest r.list.rules r.list.count) ∙ ap length made-rules

  pub made-record : record_made k tolerance budget ids ws ≡ record { ended = r.ended; rules = r.list.count }
  unfolding record_made list_made
  made-record = rw (made-count, M.ended)

  pub made-column : (f : Rule → ℕ) → r.list.count ≤ length r.list.rules
      → map f (take r.list.count r.list.rules) ≡ map f (reverse (list_made k tolerance budget ids ws))
  made-column f l =
      column-newest f r.list.rules r.list.count l ∙ ap (λ (rs : List Rule). map f (reverse rs)) made-rules

  pub made-stairs : r.list.count ≤ length r.list.stairs
      → take r.list.count r.list.stairs ≡ stairs_made k tolerance budget ids ws
  unfolding stairs_made
  made-stairs l =
      stairs-taken (frame_made k tolerance ids ws) (list_made k tolerance budget ids ws) r.list.stairs r.list.count l made-stair
      ∙ ap (stairs_to (frame_made k tolerance ids ws) (list_made k tolerance budget ids ws)) made-count

  -- too little room, or enough
  pub answer-short : (at room : ℕ) → check_call k tolerance budget ids ws ≡ Ok tt → leb (at + r.list.count) room ≡ false
      → answer k tolerance budget ids ws at room ≡ Err ShortLoan
  unfolding answer
  answer-short at room e short =
      let none : leb (at + length (list_made k tolerance budget ids ws)) room ≡ false =
      lt-leb (at + length (list_made k tolerance budget ids ws)) room
      (omega (arith, made-count, leb-false (at + r.list.count) room short)) in
      rw (e, none)

  pub answer-made : (at room : ℕ) → check_call k tolerance budget ids ws ≡ Ok tt → at + r.list.count ≤ room
      → answer k tolerance budget ids ws at room ≡ Ok (record { ended = r.ended; rules = r.list.count })
  unfolding answer
  answer-made at room e l =
      let some : leb (at + length (list_made k tolerance budget ids ws)) room ≡ true =
      le-leb (at + length (list_made k tolerance budget ids ws)) room (omega (arith, made-count)) in
      rw (e, some) (ap Ok made-record)
