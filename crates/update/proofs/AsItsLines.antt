-- A list of rules in numbers is refused with the number with which its lines would be, as lines of one service behind no others.
use Rattle.std.specs.Prelude.{Err, Ok, Result}
use Prim.Native.Nat.{ℕ, suc, ◌≤◌, ◌<◌}
use mathlib.Core.Bool.{Bool, true, false, true≢false}
use mathlib.Core.List.{List, [], ◌∷◌}
use mathlib.Core.Path.{◌≡◌, refl, ap, sym, ◌∙◌}
use native.Mathlib.Omega.{arith}
use lib.Dec.{leb, ltb, eqb}
use lib.ListN.{length}
use borrow.Author.Tests.{eq-eqb, lt-ltb, le-leb}
use Rattle.numerals.specs.Pick.{both}
use Rattle.numerals.specs.Limits.{most_services, most_rules}
use Rattle.numerals.specs.Refusals.{no2, no4, no9}
use Rattle.numerals.proofs.Searches.{true-both}
use Rattle.expansion.specs.Answer.{and_then, or_else}
use Rattle.expansion.specs.OldList.{rules_from, is_proper, check_rules, check_list}
use Rattle.expansion.specs.declared.rule.Rule.{Rule}
use Rattle.packing.specs.Count.{Line, own_rules}
use Rattle.sheets.specs.Reading.{Reading, got, refused, then, unless}
use Rattle.sheets.specs.RuleSheet.{count_of, in_order, placed, closed, is_line, check_lines, check_end}
use Rattle.sheets.proofs.Following.{count_same}
use Rattle.sheets.proofs.TableChecks.{is_within_lem, formed}
use Rattle.numerals.specs.declared.refusal.Refusal.{Refusal}

-- the answer of a check as that of a reading
abbrev pub reading : Result (Unit {0}) Refusal → Reading (Unit {0})
reading (Ok tt) = got tt
reading (Err why) = refused why 0

-- each rule as a line of service s
unfoldable pub lines_as : ℕ → List Rule → List Line
lines_as s [] = []
lines_as s (r ∷ rs) = record { service = s; rule = r } ∷ lines_as s rs

-- 1 where too few numbers for a rule are left over
unfoldable pub left_over : List ℕ → ℕ
left_over [] = 0
left_over (l ∷ []) = 1
left_over (l ∷ v ∷ []) = 1
left_over (l ∷ v ∷ b ∷ cs) = left_over cs

-- the numbers as lines of service s behind others, the last of those first
unfoldable as_lines : ℕ → ℕ → List Line → List ℕ → Reading (Unit {0})
as_lines k s before cs = then (check_lines k before (lines_as s (rules_from cs))) (check_end (left_over cs) tt)

-- no lines are lines of s
count_none : (s : ℕ) → count_of s [] ≡ 0
unfolding count_of own_rules
count_none s = refl

-- the three tests of a line and of a rule; the order is looked at only where the form passed
tests :
    (form few sorted order : Bool) (ls : Reading (List Line)) (end : List Line → Reading (Unit {0})) (rest : (Result (Unit {0}) Refusal))
    → (form ≡ true → sorted ≡ order) → then ls end ≡ reading rest
    → then (unless form no2 0 (unless few no4 0 (unless sorted no9 0 ls))) end
    ≡ reading (and_then (or_else form no2) (and_then (or_else few no4) (and_then (or_else order no9) rest)))
unfolding then unless
tests false few sorted order ls end rest h e = refl
tests true false sorted order ls end rest h e = refl
tests true true true true ls end rest h e = e
tests true true false false ls end rest h e = refl
tests true true true false ls end rest h e = absurd (true≢false (h refl))
tests true true false true ls end rest h e = absurd (true≢false (sym (h refl)))

module _ (k s : ℕ) (low : 1 ≤ s) (high : s ≤ most_services) where
  -- a line of s has the form of its rule
  form-same : (r : Rule) → is_line k (record { service = s; rule = r }) ≡ is_proper k r
  unfolding is_line is_proper
  form-same r = rw (is_within_lem 1 most_services s low high)

  -- one rule more
  one_more :
      (n last : ℕ) (before : List Line) (l v b : ℕ) (cs : List ℕ) → count_of s before ≡ n
      → (is_proper k (record { len = l; value = v; backend = b }) ≡ true
      → in_order before (record { service = s; rule = record { len = l; value = v; backend = b } }) ≡ both (ltb 0 last) (leb l last))
      → as_lines k s (record { service = s; rule = record { len = l; value = v; backend = b } } ∷ before) cs ≡ reading (check_rules k (suc n) l cs)
      → as_lines k s before (l ∷ v ∷ b ∷ cs) ≡ reading (check_rules k n last (l ∷ v ∷ b ∷ cs))
  unfolding as_lines rules_from lines_as left_over check_lines placed check_rules
  one_more n last before l v b cs count h e =
      let r : Rule = record { len = l; value = v; backend = b } in
      let line : Line = record { service = s; rule = r } in
      rw (form-same r, count)
      (tests (is_proper k r) (ltb n most_rules) (in_order before line) (both (ltb 0 last) (leb l last))
      (check_lines k (line ∷ before) (lines_as s (rules_from cs))) (check_end (left_over cs) tt) (check_rules k (suc n) l cs) h e)

  -- too few numbers for a rule
  short-one : (n last : ℕ) (before : List Line) (l : ℕ) → as_lines k s before (l ∷ []) ≡ reading (check_rules k n last (l ∷ []))
  unfolding as_lines rules_from lines_as left_over check_lines check_end check_rules then unless
  short-one n last before l = refl

  short-two : (n last : ℕ) (before : List Line) (l v : ℕ) → as_lines k s before (l ∷ v ∷ []) ≡ reading (check_rules k n last (l ∷ v ∷ []))
  unfolding as_lines rules_from lines_as left_over check_lines check_end check_rules then unless
  short-two n last before l v = refl

  -- the end behind a line: it has to be a `*`
  at-end : (n : ℕ) (p : Line) (ps : List Line) → as_lines k s (p ∷ ps) [] ≡ reading (check_rules k n p.rule.len [])
  unfolding as_lines rules_from lines_as left_over check_lines check_end closed check_rules then unless
  at-end n p ps = go (eqb p.rule.len 0)
    where
      go : (t : Bool) → unless t no9 0 (got tt) ≡ reading (or_else t no9)
      go true = refl
      go false = refl

  -- behind a line of s
  order_same :
      (r q : Rule) (ps : List Line)
      → in_order (record { service = s; rule = r } ∷ ps) (record { service = s; rule = q }) ≡ both (ltb 0 r.len) (leb q.len r.len)
  unfolding in_order
  order_same r q ps = rw (eq-eqb s s refl)

  behind :
      (n : ℕ) (r : Rule) (ps : List Line) (cs : List ℕ) → count_of s (record { service = s; rule = r } ∷ ps) ≡ n
      → as_lines k s (record { service = s; rule = r } ∷ ps) cs ≡ reading (check_rules k n r.len cs)
  behind n r ps [] count = at-end n (record { service = s; rule = r }) ps
  behind n r ps (l ∷ []) count = short-one n r.len _ l
  behind n r ps (l ∷ v ∷ []) count = short-two n r.len _ l v
  behind n r ps (l ∷ v ∷ b ∷ cs) count =
      let q : Rule = record { len = l; value = v; backend = b } in
      let p : Line = record { service = s; rule = r } in
      let line : Line = record { service = s; rule = q } in
      one_more n r.len (p ∷ ps) l v b cs count (λ h. order_same r q ps)
      (behind (suc n) q (p ∷ ps) cs (count_same line (p ∷ ps) ∙ ap suc count))

  -- the first rule of all may have k bits, as its form has it
  order-first : (q : Rule) → 1 ≤ k → is_proper k q ≡ true → in_order [] (record { service = s; rule = q }) ≡ both (ltb 0 k) (leb q.len k)
  unfolding in_order
  order-first q some h =
      let line : Line = record { service = s; rule = q } in
      sym (true-both (ltb 0 k) (leb q.len k) (lt-ltb 0 k some) (le-leb q.len k (formed k line (form-same q ∙ h)).short))

  from-none : 1 ≤ k → (cs : List ℕ) → 0 < length cs → as_lines k s [] cs ≡ reading (check_rules k 0 k cs)
  from-none some [] h = absurd (omega arith)
  from-none some (l ∷ []) h = short-one 0 k [] l
  from-none some (l ∷ v ∷ []) h = short-two 0 k [] l v
  from-none some (l ∷ v ∷ b ∷ cs) h =
      let q : Rule = record { len = l; value = v; backend = b } in
      let line : Line = record { service = s; rule = q } in
      one_more 0 k [] l v b cs (count_none s) (order-first q some)
      (behind 1 q [] cs (count_same line [] ∙ ap suc (count_none s)))

pub as-its-lines :
    (k s : ℕ) → 1 ≤ k → 1 ≤ s → s ≤ most_services → (cs : List ℕ) → 0 < length cs
    → then (check_lines k [] (lines_as s (rules_from cs))) (check_end (left_over cs) tt) ≡ reading (check_list k cs)
unfolding as_lines check_list
as-its-lines k s some low high cs h = rw (lt-ltb 0 (length cs) h) (from-none k s low high some cs h)
