-- The checks of an old list, one test after the other, and what they leave.
use Rattle.std.specs.Prelude.{Result, Err, Ok}
use Prim.Native.Nat.{ℕ, zero, suc, ◌+◌, ◌-◌, ◌*◌, ◌/◌, ◌≤◌, ◌<◌}
use mathlib.Core.Bool.{true, false}
use mathlib.Core.List.{List, [], ◌∷◌, map}
use mathlib.Core.Logic.{inl}
use mathlib.Core.Path.{◌≡◌, refl, ap, sym, ◌∙◌, subst}
use native.Mathlib.Numerals.{add-one}
use native.Mathlib.Omega.{arith}
use lib.Dec.{leb, ltb, eqb}
use lib.ListN.{length, get_or, drop, length-map}
use borrow.Author.Tests.{leb-true, ltb-true, eqb-true, lt-ltb, le-ltb, lt-leb, le-leb}
use Rattle.numerals.specs.Pick.{both}
use Rattle.numerals.specs.Limits.{most_bits, most_rules, most_id, unit}
use Rattle.numerals.specs.declared.refusal.Refusal.{Refusal}
use Rattle.numerals.specs.declared.refusal.Refusal.TheVariants.{Malformed, BadField, TooMany, Order}
use Rattle.expansion.specs.FirstMatch.{is_rule}
use Rattle.expansion.specs.Steps.{oldest}
use Rattle.expansion.specs.Answer.{and_then, or_else, in_limits, check_weights}
use Rattle.expansion.specs.Known.{known_ids, weight_of}
use Rattle.expansion.specs.OldList.{rules_from, is_proper, check_rules, check_list}
use Rattle.expansion.specs.Resume.{check_old}
use Rattle.expansion.specs.Inner.Known.{Above, Ascending, Knowable}
use Rattle.expansion.specs.Inner.Lists.{no_rule}
use Rattle.expansion.specs.Inner.OldList.{rule_at, Proper}
use Rattle.expansion.specs.Inner.Run.{Valid}
use Rattle.expansion.specs.Inner.Sound.{Lengths, Falling}
use Rattle.expansion.specs.declared.rule.Rule.{Rule}
use Rattle.numerals.proofs.Searches.{both_true}
use Rattle.expansion.proofs.FirstMatch.{lengths-mono}
use Rattle.expansion.proofs.Checks.{both-passed, test-passed, limits, Weighed, weights-passed}
use Rattle.expansion.proofs.Ids.{Rises, rises-distinct, rises-named}
use Rattle.expansion.proofs.KnownIds.{known-exactly, known-count, known-above, above-rises, rises-above, sum-known}
use Rattle.expansion.proofs.OldNumbers.{three-more, oldest-length, oldest-at}

-- the rules from rule i on, the tests of this one after the other
module _ (k last : ℕ) (cs : List ℕ) (i : ℕ) (h : i < length cs / 3) where
  tests :
      check_rules k i last (drop (3 * i) cs)
      ≡ and_then (or_else (is_proper k (rule_at cs i)) BadField)
      (and_then (or_else (ltb i most_rules) TooMany)
      (and_then (or_else (both (ltb 0 last) (leb (rule_at cs i).len last)) Order)
      (check_rules k (i + 1) (rule_at cs i).len (drop (3 * (i + 1)) cs))))
  unfolding check_rules
  tests = ap (check_rules k i last) (three-more cs i h) ∙ rw (add-one i)

  pub rule-bad : is_proper k (rule_at cs i) ≡ false → check_rules k i last (drop (3 * i) cs) ≡ Err BadField
  rule-bad e = tests ∙ simp e

  pub rule-many : is_proper k (rule_at cs i) ≡ true → most_rules ≤ i → check_rules k i last (drop (3 * i) cs) ≡ Err TooMany
  rule-many e m = tests ∙ simp (e, le-ltb i most_rules m)

  pub rule-behind : is_proper k (rule_at cs i) ≡ true → i < most_rules → last ≡ 0 → check_rules k i last (drop (3 * i) cs) ≡ Err Order
  rule-behind e m z = tests ∙ simp (e, lt-ltb i most_rules m, le-ltb 0 last (omega arith))

  pub rule-longer :
      is_proper k (rule_at cs i) ≡ true → i < most_rules → 0 < last → last < (rule_at cs i).len → check_rules k i last (drop (3 * i) cs) ≡ Err Order
  rule-longer e m s l = tests ∙ simp (e, lt-ltb i most_rules m, lt-ltb 0 last s, lt-leb (rule_at cs i).len last l)

  pub rule-next :
      is_proper k (rule_at cs i) ≡ true → i < most_rules → 0 < last → (rule_at cs i).len ≤ last
      → check_rules k i last (drop (3 * i) cs) ≡ check_rules k (i + 1) (rule_at cs i).len (drop (3 * (i + 1)) cs)
  rule-next e m s l = tests ∙ simp (e, lt-ltb i most_rules m, lt-ltb 0 last s, le-leb (rule_at cs i).len last l)

-- behind the last rule: numbers left over, or the end
pub rules-broken : (k n last : ℕ) (cs : List ℕ) → 0 < length cs → length cs < 3 → check_rules k n last cs ≡ Err Malformed
unfolding check_rules
rules-broken k n last [] s h = absurd (omega arith)
rules-broken k n last (l ∷ []) s h = refl
rules-broken k n last (l ∷ v ∷ []) s h = refl
rules-broken k n last (l ∷ v ∷ b ∷ cs) s h = absurd (omega arith)

pub rules-over : (k n last : ℕ) (cs : List ℕ) → length cs ≡ 0 → check_rules k n last cs ≡ or_else (eqb last 0) Order
unfolding check_rules
rules-over k n last [] e = refl
rules-over k n last (l ∷ cs) e = absurd (omega arith)

-- the length of the last rule behind one with `last` bits
unfoldable end_len : ℕ → List Rule → ℕ
end_len last [] = last
end_len last (r ∷ rs) = end_len r.len rs

-- it is that of the last rule where there is one
end-last : (last : ℕ) (r : Rule) (rs : List Rule) → end_len last (r ∷ rs) ≡ (get_or (r ∷ rs) (length rs) no_rule).len
unfolding end_len
end-last last r [] = refl
end-last last r (q ∷ rs) = end-last r.len q rs

-- the rules behind n others, the last of which has `last` bits, where they passed
record Passing (k n last : ℕ) (rs : List Rule) : Type 0 where
  few : n + length rs ≤ most_rules
  each : (i : ℕ) → i < length rs → is_proper k (get_or rs i no_rule) ≡ true
  falling : Lengths last rs × Falling rs
  star : end_len last rs ≡ 0

failed : (why : Refusal) → ◌≡◌ {A = Result (Unit {0}) Refusal} (Err why) (Ok tt) → ⊥
failed why e = let z : ◌≡◌ {A = ℕ} 0 1 = cc in omega arith

rules-passed : (k n last : ℕ) (cs : List ℕ) → n ≤ most_rules → check_rules k n last cs ≡ Ok tt → Passing k n last (rules_from cs)
unfolding check_rules rules_from end_len Lengths Falling
rules-passed k n last [] h e =
    record { few = omega arith; each = λ i l. absurd (omega arith); falling = (tt, tt); star = eqb-true last 0 (test-passed (eqb last 0) Order e) }
rules-passed k n last (l ∷ []) h e = absurd (failed Malformed e)
rules-passed k n last (l ∷ v ∷ []) h e = absurd (failed Malformed e)
rules-passed k n last (l ∷ v ∷ b ∷ cs) h e =
    let r : Rule = record { len = l; value = v; backend = b } in
    let rest = check_rules k (suc n) l cs in
    let ordered = and_then (or_else (both (ltb 0 last) (leb l last)) Order) rest in
    let p = both-passed (or_else (is_proper k r) BadField) (and_then (or_else (ltb n most_rules) TooMany) ordered) e in
    let q = both-passed (or_else (ltb n most_rules) TooMany) ordered p.1 in
    let o = both-passed (or_else (both (ltb 0 last) (leb l last)) Order) rest q.1 in
    let more = ltb-true n most_rules (test-passed (ltb n most_rules) TooMany q.0) in
    let P = rules-passed k (suc n) l cs more o.1 in
    let shorter = leb-true l last (both_true (ltb 0 last) (leb l last) (test-passed (both (ltb 0 last) (leb l last)) Order o.0)).1 in
    record {
      few = omega (arith, P.few);
      each = both_ends r (rules_from cs) (test-passed (is_proper k r) BadField p.0) P.each;
      falling = ((shorter, lengths-mono l last (rules_from cs) shorter P.falling.0), P.falling);
      star = P.star;
    }
  where
    both_ends :
        (r : Rule) (rs : List Rule) → is_proper k r ≡ true → ((i : ℕ) → i < length rs → is_proper k (get_or rs i no_rule) ≡ true)
        → (i : ℕ) → i < suc (length rs) → is_proper k (get_or (r ∷ rs) i no_rule) ≡ true
    both_ends r rs a f zero m = a
    both_ends r rs a f (suc i) m = f i (omega arith)

proper : (k : ℕ) (r : Rule) → is_proper k r ≡ true → (is_rule k r ≡ true) × (1 ≤ r.backend)
unfolding is_proper
proper k r e =
    let p = both_true (is_rule k r) (in_limits 1 most_id r.backend) e in
    (p.0, (limits 1 most_id r.backend p.1).0)

rules-proper : (k : ℕ) (ids : List ℕ) (rs : List Rule) → 1 ≤ k → Passing k 0 k rs → Proper k (known_ids rs ids) rs
unfolding end_len
rules-proper k ids [] h P = absurd (omega (arith, P.star))
rules-proper k ids (r ∷ rs) h P =
    let last : length (r ∷ rs) - 1 ≡ length rs = omega arith in
    record {
      some = omega arith;
      few = omega (arith, P.few);
      each = λ i l.
          record {
            rule = (proper k (get_or (r ∷ rs) i no_rule) (P.each i l)).0;
            known = (known-exactly (r ∷ rs) ids (get_or (r ∷ rs) i no_rule).backend).1 (inl (i, l, refl));
          };
      falling = P.falling.1;
      star = ap (λ (i : ℕ). (get_or (r ∷ rs) i no_rule).len) last ∙ sym (end-last k r rs) ∙ P.star;
    }

-- what the checks of an old list and of new weights leave: the backends that are known are as the run wants them, and each rule is for one of them
pub record OldPassed (k tolerance : ℕ) (rs : List Rule) (ids ws : List ℕ) : Type 0 where
  pub knowable : Knowable rs ids ws
  pub valid : Valid k tolerance (known_ids rs ids) (map (weight_of ids ws) (known_ids rs ids))
  pub ascending : Ascending (known_ids rs ids)
  pub proper : Proper k (known_ids rs ids) rs

module _ (k tolerance : ℕ) (rs : List Rule) (ids ws : List ℕ) (bits : in_limits 1 most_bits k ≡ true) (tolerable : tolerance ≤ unit)
    (P : Passing k 0 k rs) (W : Weighed ids ws) where
  abbrev labels : List ℕ
  labels = known_ids rs ids

  named : (i : ℕ) → i < length rs → 1 ≤ (get_or rs i no_rule).backend
  named i l = (proper k (get_or rs i no_rule) (P.each i l)).1

  rising : Above 0 ids
  rising = rises-above ids (subst (Rises ids) (sym W.paired) W.rises)

  above : Above 0 labels
  above = known-above ids rising rs named

  count : length (map (weight_of ids ws) labels) ≡ length labels
  count = length-map labels (weight_of ids ws)

  passed : OldPassed k tolerance rs ids ws
  passed =
      let c = known-count rs ids in
      record {
        knowable =
            record {
              few_rules = omega (arith, P.few);
              few_ids = omega (arith, W.few, W.paired);
              paired = W.paired;
              above = rising;
              named = named;
            };
        valid =
            record {
              some_bits = (limits 1 most_bits k bits).0;
              few_bits = (limits 1 most_bits k bits).1;
              tolerable = tolerable;
              someone = omega (arith, W.someone, W.paired, c.0, count);
              few = omega (arith, P.few, W.few, W.paired, c.1, count);
              balanced = sum-known ids ws rising W.paired rs named ∙ W.balanced;
              labelled = sym count;
              distinct = rw count (rises-distinct labels (length labels) (above-rises labels above));
              named = rw count (rises-named labels (length labels) (above-rises labels above));
            };
        ascending = record { few = omega (arith, P.few, W.few, W.paired, c.1); above = above };
        proper = rules-proper k ids rs (limits 1 most_bits k bits).0 P;
      }

pub old-passed : (k tolerance : ℕ) (cs ids ws : List ℕ) → check_old k tolerance cs ids ws ≡ Ok tt → OldPassed k tolerance (rules_from cs) ids ws
unfolding check_old check_list
old-passed k tolerance cs ids ws e =
    let listed = and_then (check_list k cs) (check_weights ids ws) in
    let p = both-passed (or_else (in_limits 1 most_bits k) BadField) (and_then (or_else (leb tolerance unit) BadField) listed) e in
    let q = both-passed (or_else (leb tolerance unit) BadField) listed p.1 in
    let r = both-passed (check_list k cs) (check_weights ids ws) q.1 in
    let l = both-passed (or_else (ltb 0 (length cs)) BadField) (check_rules k 0 k cs) r.0 in
    passed k tolerance (rules_from cs) ids ws (test-passed (in_limits 1 most_bits k) BadField p.0)
    (leb-true tolerance unit (test-passed (leb tolerance unit) BadField q.0)) (rules-passed k 0 k cs (omega arith) l.1) (weights-passed ids ws r.1)

falling-drop : (n : ℕ) (rs : List Rule) → Falling rs → Falling (drop n rs)
unfolding Falling
falling-drop zero rs h = h
falling-drop (suc n) [] h = h
falling-drop (suc n) (r ∷ rs) h = falling-drop n rs h.1

-- the oldest of proper rules are proper
pub oldest-proper : (k : ℕ) (labels : List ℕ) (r : ℕ) (rs : List Rule) → Proper k labels rs → 1 ≤ r → r ≤ length rs → Proper k labels (oldest r rs)
unfolding oldest
oldest-proper k labels r rs P some few =
    let long = oldest-length r rs few in
    let at : length rs - r + (length (oldest r rs) - 1) ≡ length rs - 1 = omega (arith, long) in
    record {
      some = omega (arith, long);
      few = omega (arith, long, P.few);
      each = λ i l. rw (oldest-at r rs i) (P.each (length rs - r + i) (omega (arith, long)));
      falling = falling-drop (length rs - r) rs P.falling;
      star = rw (oldest-at r rs (length (oldest r rs) - 1), at) P.star;
    }
