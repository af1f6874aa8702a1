-- `Change::judge` meets its contract: each return by the tests that led to it.
use Rattle.std.specs.Prelude.{Ok}
use Prim.Native.Nat.{ℕ, ◌^◌, ◌≤◌, ◌<◌}
use mathlib.Core.Path.{◌≡◌, sym, ap, ap₂, subst, ◌∙◌}
use mathlib.Core.Bool.{true, false}
use mathlib.Core.List.{List}
use native.Mathlib.Omega.{arith}
use lib.ListN.{length, take, get_or}
use lib.Seq.{length-sets, get_or-take}
use Rattle.std.proofs.Common.{rules}
use Rattle.numerals.specs.Limits.{most_suffixes, most_capacity}
use Rattle.numerals.proofs.Choice.{by_less}
use Rattle.numerals.proofs.Powers.{pow-few}
use Rattle.expansion.specs.Answer.{in_limits}
use Rattle.sheets.proofs.OneCall.{take-sets}
use Rattle.sheets.proofs.TableChecks.{is_within_lem, below-least, above_most}
use Rattle.stages.specs.Inner.Nodes.{at}
use Rattle.stages.specs.Inner.Row.{row_of, crowded_at}
use Rattle.stages.proofs.Rows.{row-few, row-places}
use Rattle.stages.proofs.CutRow.{judged-limit, judged-capacity, judged-number, judged-crowded, judged-row}
use Rattle.stages.proofs.change.Change.judge.Goals as goal
use Rattle.stages.proofs.change.Change.judge.Goals.{After-cut-n, After-is_crowded, Else-not-contains, Else-not-contains-2, Else-not-contains-3, Start}

-- both tables, and the row of them
module _ (s : Start) where
  abbrev old : ℕ → ℕ
  old = at s.args.self.old.now

  abbrev new : ℕ → ℕ
  new = at s.args.self.new.now

  abbrev places : List ℕ
  places = row_of s.args.self.k old new s.args.limit

-- the test of limits, failed and passed
outside : (least most x : ℕ) → ((least ≤ x) × (x ≤ most) → ⊥) → in_limits least most x ≡ false
outside least most x h = by_less x least (below-least least most x) (λ l. by_less most x (above_most least most x) (λ m. absurd (h (l, m))))

limited : (c : Else-not-contains) → (1 ≤ c.args.limit) × (c.args.limit ≤ most_suffixes)
limited c = search rules

in-limits : (c : Else-not-contains) → in_limits 1 most_suffixes c.args.limit ≡ true
in-limits c = is_within_lem 1 most_suffixes c.args.limit (limited c).0 (limited c).1

held : (c : Else-not-contains-2) → in_limits 1 most_capacity c.args.capacity ≡ true
held c =
    let h : (1 ≤ c.args.capacity) × (c.args.capacity ≤ most_capacity) = search rules in
    is_within_lem 1 most_capacity c.args.capacity h.0 h.1

pub returns-then-not-contains-clause-answer : goal.returns-then-not-contains-clause-answer
returns-then-not-contains-clause-answer c =
    let s = (goal.at.returns-then-not-contains-clause-answer c).Start in
    let a = c.args in
    sym (judged-limit a.self.k (old s) (new s) a.limit a.capacity a.number (outside 1 most_suffixes a.limit (search rules)))

pub returns-then-not-contains-2-clause-answer : goal.returns-then-not-contains-2-clause-answer
returns-then-not-contains-2-clause-answer c =
    let s = (goal.at.returns-then-not-contains-2-clause-answer c).Start in
    let a = c.args in
    let l = in-limits (goal.at.returns-then-not-contains-2-clause-answer c).Else-not-contains in
    sym (judged-capacity a.self.k (old s) (new s) a.limit a.capacity a.number l (outside 1 most_capacity a.capacity (search rules)))

-- the listing has room for the row
room : (c : Else-not-contains) → (1 ≤ c.args.limit) × (length (places (goal.at.Else-not-contains c).Start) ≤ length c.args.row.now)
room c =
    let s = (goal.at.Else-not-contains c).Start in
    let a = c.args in
    let some = (limited c).0 in
    (some, omega (arith, row-few a.self.k (old s) (new s) a.limit some, pow-few a.self.k a.self.few_bits, c.told-row))

pub cut-n-requires : goal.cut-n-requires
cut-n-requires c = room (goal.at.cut-n-requires c).Else-not-contains

-- the row stands in the listing
stands : (w : After-cut-n) → take w.cut-n.result w.cut-n.new.row ≡ places (goal.at.After-cut-n w).Start
stands w =
    ap₂ (λ (n : ℕ) (l : List ℕ). take n l) w.cut-n.ensures.long w.cut-n.ensures.row
    ∙ take-sets w.args.row.now (places (goal.at.After-cut-n w).Start) (room (goal.at.After-cut-n w).Else-not-contains).1

pub returns-then-not-contains-3-clause-answer : goal.returns-then-not-contains-3-clause-answer
returns-then-not-contains-3-clause-answer c =
    let s = (goal.at.returns-then-not-contains-3-clause-answer c).Start in
    let a = s.args in
    let long : c.cut-n.result ≡ length (places s) = c.cut-n.ensures.long in
    let out : in_limits 1 c.cut-n.result a.number ≡ false = outside 1 c.cut-n.result a.number (search rules) in
    sym
    (judged-number a.self.k (old s) (new s) a.limit a.capacity a.number (in-limits (goal.at.returns-then-not-contains-3-clause-answer c).Else-not-contains)
    (held (goal.at.returns-then-not-contains-3-clause-answer c).Else-not-contains-2) (rw long at out))

numbered : (c : Else-not-contains-3)
    → let s = (goal.at.Else-not-contains-3 c).Start in in_limits 1 (length (places s)) s.args.number ≡ true
numbered c =
    let s = (goal.at.Else-not-contains-3 c).Start in
    let h : (1 ≤ s.args.number) × (s.args.number ≤ c.cut-n.result) = search rules in
    is_within_lem 1 (length (places s)) s.args.number h.0 (omega (arith, h.1, c.cut-n.ensures.long))

pub is_crowded-requires : goal.is_crowded-requires
is_crowded-requires c =
    let s = (goal.at.is_crowded-requires c).Start in
    let a = s.args in
    let long = c.cut-n.ensures.long in
    let fits = room (goal.at.is_crowded-requires c).Else-not-contains in
    let kept : length c.cut-n.new.row ≡ most_suffixes = ap length c.cut-n.ensures.row ∙ length-sets a.row.now 0 (places s) ∙ s.told-row in (
      omega (arith, long, kept, fits.1),
      λ i l.
          subst (λ (x : ℕ). (0 < x) × (x ≤ 2 ^ a.self.k))
          (ap (λ (r : List ℕ). get_or r i 0) (sym (stands (goal.at.is_crowded-requires c).After-cut-n))
          ∙ get_or-take c.cut-n.result c.cut-n.new.row i 0 l)
          (row-places a.self.k (old s) (new s) a.limit fits.0 i (omega (arith, long))),
    )

-- the answer is about the row
crowded-is : (c : After-is_crowded)
    → let s = (goal.at.After-is_crowded c).Start in
    c.is_crowded.result ≡ crowded_at s.args.self.k (old s) (new s) s.args.capacity (places s)
crowded-is c =
    let s = (goal.at.After-is_crowded c).Start in
    c.is_crowded.ensures ∙ ap (crowded_at s.args.self.k (old s) (new s) s.args.capacity) (stands (goal.at.After-is_crowded c).After-cut-n)

pub returns-then-is_crowded-clause-answer : goal.returns-then-is_crowded-clause-answer
returns-then-is_crowded-clause-answer c =
    let s = (goal.at.returns-then-is_crowded-clause-answer c).Start in
    let a = s.args in
    let n = numbered (goal.at.returns-then-is_crowded-clause-answer c).Else-not-contains-3 in
    let crowded = sym (crowded-is (goal.at.returns-then-is_crowded-clause-answer c).After-is_crowded) ∙ c.if-is_crowded.true in
    sym
    (judged-crowded a.self.k (old s) (new s) a.limit a.capacity a.number (in-limits (goal.at.returns-then-is_crowded-clause-answer c).Else-not-contains)
    (held (goal.at.returns-then-is_crowded-clause-answer c).Else-not-contains-2) n crowded)

pub returns : goal.returns
returns c =
    let s = (goal.at.returns c).Start in
    let a = s.args in
    let n = numbered (goal.at.returns c).Else-not-contains-3 in
    let roomy = sym (crowded-is (goal.at.returns c).After-is_crowded) ∙ c.if-is_crowded.false in
    record {
      answer = ap Ok c.cut-n.ensures.long
          ∙ sym (judged-row a.self.k (old s) (new s) a.limit a.capacity a.number (in-limits (goal.at.returns c).Else-not-contains)
          (held (goal.at.returns c).Else-not-contains-2) n roomy);
      row = stands (goal.at.returns c).After-cut-n;
    }
