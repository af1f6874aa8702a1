-- The first matching line of a service: it is found line by line, and a service of a proper table has one for every suffix, since its last line is a `*`.
use Rattle.std.specs.Prelude.{Err, Ok}
use Prim.Native.Nat.{ℕ, ◌%◌, ◌^◌, ◌≤◌, ◌<◌}
use mathlib.Core.Path.{◌≡◌, refl, sym, ap}
use mathlib.Core.Bool.{Bool, true, false}
use mathlib.Core.List.{List, [], ◌∷◌, reverse_aux}
use native.Mathlib.Nat.{pow-zero, mod-one}
use native.Mathlib.Omega.{arith}
use lib.Dec.{ltb, eqb}
use lib.ListN.{length}
use borrow.Author.Tests.{eqb-true, eqb-false, eq-eqb, ne_eqb, lt-ltb, le-ltb}
use Rattle.numerals.specs.Pick.{pick}
use Rattle.numerals.specs.Limits.{most_id}
use Rattle.numerals.proofs.Choice.{both_right, by_less}
use Rattle.numerals.specs.declared.refusal.Refusal.TheVariants.{UnknownService}
use Rattle.expansion.specs.FirstMatch.{matches, first_match}
use Rattle.expansion.specs.declared.rule.Rule.{Rule}
use Rattle.packing.specs.Count.{Line, own_rules}
use Rattle.sheets.specs.RuleSheet.{Table, count_of, in_order, closed}
use Rattle.sheets.specs.Calls.{refused_at, has_service, lookup_in}
use Rattle.sheets.specs.Inner.TableReader.{Found}
use Rattle.sheets.proofs.TableChecks.{Formed, formed, InOrder, Proper}
use Rattle.sheets.proofs.Following.{count_same, count-other, by-service}

-- the rules of a service, with one line more
module _ (n : ℕ) (l : Line) (ls : List Line) where
  pub own-here : l.service ≡ n → own_rules n (l ∷ ls) ≡ l.rule ∷ own_rules n ls
  unfolding own_rules
  own-here e = rw (eq-eqb l.service n e)

  pub own-other : (l.service ≡ n → ⊥) → own_rules n (l ∷ ls) ≡ own_rules n ls
  unfolding own_rules
  own-other d = rw (ne_eqb l.service n d)

-- the first match from a line on: it is that line's, or a later one's
module _ (l : Line) (ls : List Line) (n v : ℕ) where
  pub of-here : l.service ≡ n → v % 2 ^ l.rule.len ≡ l.rule.value → first_match (own_rules n (l ∷ ls)) v ≡ l.rule.backend
  unfolding first_match matches
  of-here e f = rw (own-here n l ls e, eq-eqb (v % 2 ^ l.rule.len) l.rule.value f)

  pub of_other : (l.service ≡ n → ⊥) → first_match (own_rules n (l ∷ ls)) v ≡ first_match (own_rules n ls) v
  of_other d = ap (λ (rs : List Rule). first_match rs v) (own-other n l ls d)

  pub of-miss : (v % 2 ^ l.rule.len ≡ l.rule.value → ⊥) → first_match (own_rules n (l ∷ ls)) v ≡ first_match (own_rules n ls) v
  unfolding first_match matches
  of-miss d = by-service n l (λ e. rw (own-here n l ls e, ne_eqb (v % 2 ^ l.rule.len) l.rule.value d)) of_other

  -- no label is above the greatest
  of-most : (b : ℕ) → l.rule.backend ≤ b → first_match (own_rules n ls) v ≤ b → first_match (own_rules n (l ∷ ls)) v ≤ b
  unfolding first_match
  of-most b here later = by-service n l (λ e. rw (own-here n l ls e) (go (matches l.rule v))) (λ d. rw (of_other d) later)
    where
      go : (t : Bool) → pick t l.rule.backend (first_match (own_rules n ls) v) ≤ b
      go true = here
      go false = later

pub of_none : (n v : ℕ) → first_match (own_rules n []) v ≡ 0
unfolding own_rules first_match
of_none n v = refl

-- labels of rule lines are ids
pub first-few : (k n v : ℕ) (before ls : List Line) → InOrder k before ls → first_match (own_rules n ls) v ≤ most_id
unfolding InOrder
first-few k n v before [] h = omega (arith, of_none n v)
first-few k n v before (l ∷ ls) h =
    of-most l ls n v most_id (formed k l h.0.form).backend (first-few k n v (l ∷ before) ls h.1)

-- a service without lines has no match
first-none : (n v : ℕ) (ls : List Line) → count_of n ls ≡ 0 → first_match (own_rules n ls) v ≡ 0
unfolding count_of first_match
first-none n v ls h = go (own_rules n ls) h
  where
    go : (rs : List Rule) → length rs ≡ 0 → first_match rs v ≡ 0
    go [] h = refl
    go (r ∷ rs) h = absurd (omega arith)

-- a `*` matches every suffix
star-matches : (k v : ℕ) (l : Line) → Formed k l → l.rule.len ≡ 0 → v % 2 ^ l.rule.len ≡ l.rule.value
star-matches k v l f z =
    let small : l.rule.value < 1 = rw (z, pow-zero) at f.bits in
    rw (z, pow-zero, mod-one) (omega arith)

-- where a service begins, the line before is a `*`
closed-before : (p : Line) (ps : List Line) (l : Line) → in_order (p ∷ ps) l ≡ true → (p.service ≡ l.service → ⊥) → p.rule.len ≡ 0
unfolding in_order
closed-before p ps l h d =
    eqb-true p.rule.len 0 (both_right (ltb p.service l.service) _ (rw (ne_eqb p.service l.service d) at h))

-- so behind a line that is none, another of its service stands
more-own :
    (k : ℕ) (before : List Line) (l : Line) (ls : List Line) → InOrder k (l ∷ before) ls → closed (reverse_aux ls (l ∷ before)) ≡ true
    → (l.rule.len ≡ 0 → ⊥) → 0 < count_of l.service ls
unfolding InOrder closed
more-own k before l [] h e d = absurd (d (eqb-true l.rule.len 0 e))
more-own k before l (m ∷ ls) h e d =
    by-service l.service m
    (λ same. rw (← same) (omega (arith, count_same m ls)))
    (λ other. absurd (d (closed-before l before m h.0.sorted (λ q. other (sym q)))))

count_none : (n : ℕ) → count_of n [] ≡ 0
unfolding count_of own_rules
count_none n = refl

-- a service with lines has a match, whose label is above 0
first_some :
    (k n v : ℕ) (before ls : List Line) → InOrder k before ls → closed (reverse_aux ls before) ≡ true → 0 < count_of n ls
    → 0 < first_match (own_rules n ls) v
unfolding InOrder
first_some k n v before [] h e c = absurd (omega (arith, count_none n))
first_some k n v before (l ∷ ls) h e c = go (first_some k n v (l ∷ before) ls h.1 e)
  where
    f : Formed k l
    f = formed k l h.0.form

    own : l.service ≡ n → (0 < count_of n ls → 0 < first_match (own_rules n ls) v) → (t : Bool) → eqb (v % 2 ^ l.rule.len) l.rule.value ≡ t
        → 0 < first_match (own_rules n (l ∷ ls)) v
    own here later true m = rw (of-here l ls n v here (eqb-true _ _ m)) f.labelled
    own here later false m =
        rw (of-miss l ls n v (eqb-false _ _ m))
        (later (rw (← here) (more-own k before l ls h.1 e (λ z. eqb-false _ _ m (star-matches k v l f z)))))

    go : (0 < count_of n ls → 0 < first_match (own_rules n ls) v) → 0 < first_match (own_rules n (l ∷ ls)) v
    go later =
        by-service n l
        (λ here. own here later (eqb (v % 2 ^ l.rule.len) l.rule.value) refl)
        (λ other. rw (of_other l ls n v other) (later (omega (arith, count-other n l ls other))))

-- a service is there where it has a match
pub has-match : (t : Table) → Proper t → (n v : ℕ) → has_service t n ≡ ltb 0 (first_match (own_rules n t.lines) v)
unfolding has_service
has-match t p n v =
    by_less 0 (count_of n t.lines)
    (λ c. rw (lt-ltb 0 (count_of n t.lines) c, lt-ltb 0 (first_match (own_rules n t.lines) v) (first_some t.k n v [] t.lines p.sorted p.ends c)))
    (λ z. rw (le-ltb 0 (count_of n t.lines) z, first-none n v t.lines (omega arith)))

-- lookup by the first match, and what churn asks
pub by-match :
    (t : Table) → Proper t → (n v : ℕ)
    → lookup_in t n v
    ≡ pick (ltb 0 (first_match (own_rules n t.lines) v)) (Ok (first_match (own_rules n t.lines) v)) (Err (refused_at UnknownService 0))
unfolding lookup_in
by-match t p n v = rw (has-match t p n v)

pub found : (t : Table) → Proper t → (n : ℕ) → Found t.lines n
unfolding has_service
found t p n = has-match t p n 0
