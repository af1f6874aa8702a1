-- The lines of a table in the order of the rule sheet. A ladder is a list of rules that doesn't lengthen and ends in its only `*`; the ladders of one
-- service after the other make lines in order.
use Prim.Native.Nat.{ℕ, zero, suc, ◌+◌, ◌≤◌, ◌<◌}
use mathlib.Core.Path.{◌≡◌, refl, ◌∙◌}
use mathlib.Core.Bool.{true}
use mathlib.Core.List.{List, [], ◌∷◌, ◌++◌, reverse, reverse_aux, reverse_aux-append}
use native.Mathlib.Nat.{le_refl}
use native.Mathlib.Omega.{arith}
use lib.ListN.{length}
use borrow.Author.Tests.{eq-eqb, ne_eqb, lt-ltb, le-leb}
use Rattle.numerals.specs.Limits.{most_id, most_services, most_rules}
use Rattle.expansion.specs.FirstMatch.{is_rule}
use Rattle.expansion.specs.Inner.Sound.{AllFormed, Lengths, Falling, NoStar}
use Rattle.expansion.specs.Steps.{oldest}
use Rattle.expansion.specs.declared.rule.Rule.{Rule}
use Rattle.packing.specs.Count.{Line, own_rules}
use Rattle.packing.specs.Grants.{Grants}
use Rattle.packing.specs.Table.{lines_of, table_of}
use Rattle.sheets.specs.RuleSheet.{count_of, in_order, closed, is_line}
use Rattle.sheets.proofs.Following.{count_same, count-other}
use Rattle.sheets.proofs.TableChecks.{is_within_lem, InOrder}

abbrev pub Ladder : List Rule → Type 0
Ladder [] = ⊥
Ladder (r ∷ []) = r.len ≡ 0
Ladder (r ∷ q ∷ rs) = (0 < r.len) × (q.len ≤ r.len) × Ladder (q ∷ rs)

-- a falling list with its only `*` at its end is one
pub ladder : (front : List Rule) (star : Rule) → star.len ≡ 0 → NoStar front → Falling (front ++ star ∷ []) → Ladder (front ++ star ∷ [])
unfolding NoStar Falling Lengths
ladder [] star e n f = e
ladder (r ∷ []) star e n f = (n.0, f.0.0, e)
ladder (r ∷ q ∷ front) star e n f = (n.0, f.0.0, ladder (q ∷ front) star e n.1 f.1)

pub ladder-some : (rs : List Rule) → Ladder rs → 1 ≤ length rs
ladder-some [] h = absurd h
ladder-some (r ∷ rs) h = omega arith

abbrev line_of : ℕ → Rule → Line
line_of s r = record { service = s; rule = r }

-- behind these lines, whose last is a `*`, lines of the services from s on may begin
pub record Admits (s : ℕ) (before : List Line) : Type 0 where
  pub none : (t : ℕ) → s ≤ t → count_of t before ≡ 0
  pub next : (t : ℕ) → s ≤ t → (r : Rule) → in_order before (line_of t r) ≡ true
  pub shut : closed before ≡ true

admits-first : (s : ℕ) → Admits s []
unfolding count_of own_rules in_order closed
admits-first s = record { none = λ t h. refl; next = λ t h r. refl; shut = refl }

-- each rule is well-formed, and its label is an id
pub record Labelled (k : ℕ) (r : Rule) : Type 0 where
  pub rule : is_rule k r ≡ true
  pub some : 1 ≤ r.backend
  pub few : r.backend ≤ most_id

unfoldable pub AllLabelled : ℕ → List Rule → Type 0
AllLabelled k [] = Unit {0}
AllLabelled k (r ∷ rs) = Labelled k r × AllLabelled k rs

-- rules of the first n backends are so, where their labels are
pub all-labelled :
    (k : ℕ) (labelled : ℕ → ℕ) (n : ℕ) (rs : List Rule) → ((b : ℕ) → b < n → (1 ≤ labelled b) × (labelled b ≤ most_id))
    → AllFormed k labelled n rs → AllLabelled k rs
unfolding AllFormed AllLabelled
all-labelled k labelled n [] h a = tt
all-labelled k labelled n (r ∷ rs) h a =
    let f = a.0 in
    let l = h f.known.0 f.known.1 in (
      record { rule = f.rule; some = omega (arith, l.0, f.known.2); few = omega (arith, l.1, f.known.2) },
      all-labelled k labelled n rs h a.1,
    )

module _ (k s : ℕ) (numbered : 1 ≤ s) (known : s ≤ most_services) where
  labelled-line : (r : Rule) → Labelled k r → is_line k (line_of s r) ≡ true
  unfolding is_line
  labelled-line r f =
      rw (is_within_lem 1 most_services s numbered known, f.rule, is_within_lem 1 most_id r.backend f.some f.few)

  -- a ladder's lines, where its first may follow
  ladder-lines :
      (before : List Line) (r : Rule) (rs : List Rule) → Ladder (r ∷ rs) → AllLabelled k (r ∷ rs)
      → count_of s before + length (r ∷ rs) ≤ most_rules → in_order before (line_of s r) ≡ true → InOrder k before (lines_of s (r ∷ rs))
  unfolding AllLabelled InOrder lines_of in_order
  ladder-lines before r [] h f few first =
      (record { form = labelled-line r f.0; few = lt-ltb (count_of s before) most_rules (omega arith); sorted = first }, tt)
  ladder-lines before r (q ∷ rs) h f few first = (
    record { form = labelled-line r f.0; few = lt-ltb (count_of s before) most_rules (omega arith); sorted = first },
    ladder-lines (line_of s r ∷ before) q rs h.2 f.1 (omega (arith, count_same (line_of s r) before))
        (rw (eq-eqb s s refl, lt-ltb 0 r.len h.0, le-leb q.len r.len h.1)),
  )

-- and behind a ladder's lines the next service may begin
ladder-admits :
    (s : ℕ) (before : List Line) (rs : List Rule) → Ladder rs → ((t : ℕ) → s < t → count_of t before ≡ 0)
    → Admits (suc s) (reverse_aux (lines_of s rs) before)
unfolding lines_of in_order closed
ladder-admits s before [] h none = absurd h
ladder-admits s before (r ∷ []) h none =
    record {
      none = λ t l. count-other t (line_of s r) before (λ e. omega arith) ∙ none t l;
      next = λ t l q. rw (ne_eqb s t (λ e. omega arith), lt-ltb s t l, eq-eqb r.len 0 h);
      shut = eq-eqb r.len 0 h;
    }
ladder-admits s before (r ∷ q ∷ rs) h none =
    ladder-admits s (line_of s r ∷ before) (q ∷ rs) h.2 (λ t l. count-other t (line_of s r) before (λ e. omega arith) ∙ none t l)

in-order-append :
    (k : ℕ) (before xs ys : List Line) → InOrder k before xs → InOrder k (reverse_aux xs before) ys → InOrder k before (xs ++ ys)
unfolding InOrder
in-order-append k before [] ys h g = g
in-order-append k before (x ∷ xs) ys h g = (h.0, in-order-append k (x ∷ before) xs ys h.1 g)

-- what is granted of a list
pub record Granted (k : ℕ) (rs : List Rule) : Type 0 where
  pub steps : Ladder rs
  pub labelled : AllLabelled k rs
  pub few : length rs ≤ most_rules

granted-lines :
    (k s : ℕ) → 1 ≤ s → s ≤ most_services → (before : List Line) (rs : List Rule) → Granted k rs → Admits s before → InOrder k before (lines_of s rs)
granted-lines k s one l before [] G R = absurd G.steps
granted-lines k s one l before (r ∷ rs) G R =
    ladder-lines k s one l before r rs G.steps G.labelled (omega (arith, R.none s (le_refl s), G.few)) (R.next s (le_refl s) r)

-- the table of ladders: that of service s has the number s + 1
pub table-sorted :
    (k n : ℕ) (lists : ℕ → List Rule) (g : Grants) → n ≤ most_services → ((s : ℕ) → s < n → Granted k (oldest (g s) (lists s)))
    → InOrder k [] (table_of n lists g) × Admits (suc n) (reverse (table_of n lists g))
unfolding table_of InOrder
table-sorted k zero lists g few all = (tt, admits-first 1)
table-sorted k (suc n) lists g few all =
    let before = table_of n lists g in
    let rs = oldest (g n) (lists n) in
    let ih = table-sorted k n lists g (omega arith) (λ s l. all s (omega arith)) in
    let G = all n (omega arith) in (
      in-order-append k [] before (lines_of (suc n) rs) ih.0 (granted-lines k (suc n) (omega arith) few (reverse before) rs G ih.1),
      rw (reverse_aux-append before (lines_of (suc n) rs) [])
          (ladder-admits (suc n) (reverse before) rs G.steps (λ t l. ih.1.none t (omega arith))),
    )
