-- Rules in numbers, three of each: how many there are, rule by rule, and back from the numbers of rules. The oldest of rules.
use Prim.Native.Nat.{ℕ, zero, suc, ◌+◌, ◌-◌, ◌*◌, ◌/◌, ◌≤◌, ◌<◌}
use mathlib.Core.List.{List, [], ◌∷◌}
use mathlib.Core.Path.{◌≡◌, refl, ap, sym, ◌∙◌}
use native.Mathlib.Numerals.{add-one}
use native.Mathlib.Omega.{arith}
use lib.Dec.{lit<}
use lib.ListN.{length, get_or, set, drop, replicate, length-drop, get_or-replicate}
use lib.Seq.{sets, get_or-drop, drop-cons, drop-drop}
use Rattle.numerals.specs.Limits.{most_rules}
use Rattle.expansion.specs.Steps.{oldest}
use Rattle.expansion.specs.OldList.{rules_from, numbers_of}
use Rattle.expansion.specs.Inner.Lists.{no_rule, newest_first}
use Rattle.expansion.specs.Inner.OldList.{rule_at}
use Rattle.expansion.specs.declared.rule.Rule.{Rule}
use Rattle.expansion.proofs.Listing.{newest-more}

-- as many rules as numbers by three
pub rules-count : (cs : List ℕ) → length (rules_from cs) ≡ length cs / 3
unfolding rules_from
rules-count [] = refl
rules-count (l ∷ []) = refl
rules-count (l ∷ v ∷ []) = refl
rules-count (l ∷ v ∷ b ∷ cs) = omega (arith, rules-count cs)

pub numbers-count : (rs : List Rule) → length (numbers_of rs) ≡ 3 * length rs
unfolding numbers_of
numbers-count [] = refl
numbers-count (r ∷ rs) = omega (arith, numbers-count rs)

pub rules-numbers : (rs : List Rule) → rules_from (numbers_of rs) ≡ rs
unfolding rules_from numbers_of
rules-numbers [] = refl
rules-numbers (r ∷ rs) = ap (λ (qs : List Rule). r ∷ qs) (rules-numbers rs)

-- the numbers of rule i, and those behind it
pub three-more :
    (cs : List ℕ) (i : ℕ) → i < length cs / 3
    → drop (3 * i) cs ≡ get_or cs (3 * i) 0 ∷ get_or cs (3 * i + 1) 0 ∷ get_or cs (3 * i + 2) 0 ∷ drop (3 * (i + 1)) cs
three-more cs i h =
    let one : suc (3 * i) ≡ 3 * i + 1 = omega arith in
    let two : suc (3 * i + 1) ≡ 3 * i + 2 = omega arith in
    let three : suc (3 * i + 2) ≡ 3 * (i + 1) = omega arith in
    drop-cons cs (3 * i) 0 (omega arith)
    ∙ rw (
      one,
      drop-cons cs (3 * i + 1) 0 (omega arith),
      two,
      drop-cons cs (3 * i + 2) 0 (omega arith),
      three,
    )

-- rule i, and those behind it
pub rules-more : (cs : List ℕ) (i : ℕ) → i < length cs / 3 → rules_from (drop (3 * i) cs) ≡ rule_at cs i ∷ rules_from (drop (3 * (i + 1)) cs)
unfolding rules_from
rules-more cs i h = ap rules_from (three-more cs i h)

rules-none : (cs : List ℕ) → length cs < 3 → rules_from cs ≡ []
unfolding rules_from
rules-none [] h = refl
rules-none (l ∷ []) h = refl
rules-none (l ∷ v ∷ []) h = refl
rules-none (l ∷ v ∷ b ∷ cs) h = absurd (omega arith)

-- no rule is left behind the last
pub rules-end : (cs : List ℕ) (i : ℕ) → length cs / 3 ≤ i → rules_from (drop (3 * i) cs) ≡ []
rules-end cs i h = rules-none (drop (3 * i) cs) (omega (arith, length-drop (3 * i) cs))

-- the rules from rule i on
rules-drop : (cs : List ℕ) (i : ℕ) → i ≤ length cs / 3 → drop i (rules_from cs) ≡ rules_from (drop (3 * i) cs)
rules-drop cs zero h = refl
rules-drop cs (suc i) h =
    let one : i + 1 ≡ suc i = omega arith in
    rw (← one)
    (sym (drop-drop 1 i (rules_from cs)) ∙ ap (drop 1) (rules-drop cs i (omega arith) ∙ rules-more cs i (omega arith)))

-- rule i
pub rule-is : (cs : List ℕ) (i : ℕ) → i < length cs / 3 → get_or (rules_from cs) i no_rule ≡ rule_at cs i
rule-is cs i h =
    let here : i + 0 ≡ i = omega arith in
    ap (λ (j : ℕ). get_or (rules_from cs) j no_rule) (sym here)
    ∙ sym (get_or-drop i (rules_from cs) 0 no_rule)
    ∙ ap (λ (rs : List Rule). get_or rs 0 no_rule) (rules-drop cs i (omega arith) ∙ rules-more cs i h)

-- the last c rules in a listing of the oldest first: one, and one more
pub last_one : (cs : List ℕ) (n : ℕ) → n ≡ length cs / 3 → 1 ≤ n
    → newest_first (replicate most_rules (rule_at cs (n - 1))) 1 ≡ rules_from (drop (3 * (n - 1)) cs)
unfolding newest_first
last_one cs n e s =
    ap (λ (r : Rule). r ∷ []) (get_or-replicate most_rules 0 (rule_at cs (n - 1)) no_rule (lit< tt))
    ∙ sym (rules-more cs (n - 1) (omega arith) ∙ ap (λ (rs : List Rule). rule_at cs (n - 1) ∷ rs) (rules-end cs (n - 1 + 1) (omega arith)))

pub last_more :
    (cs : List ℕ) (n c : ℕ) (rs : List Rule) → n ≡ length cs / 3 → c < n → c < length rs → newest_first rs c ≡ rules_from (drop (3 * (n - c)) cs)
    → newest_first (set rs c (rule_at cs (n - 1 - c))) (c + 1) ≡ rules_from (drop (3 * (n - (c + 1))) cs)
last_more cs n c rs e l h f =
    let r = rule_at cs (n - 1 - c) in
    let back : n - 1 - c + 1 ≡ n - c = omega arith in
    let here : n - (c + 1) ≡ n - 1 - c = omega arith in
    rw (add-one c) (newest-more rs c r h)
    ∙ ap (λ (qs : List Rule). r ∷ qs) f
    ∙ sym (rw here (rules-more cs (n - 1 - c) (omega arith) ∙ rw back))

-- stores of the numbers of rules: one rule more
pub sets-rule :
    (rs : List Rule) (m at : ℕ) (out : List ℕ)
    → let r = get_or rs m no_rule in
    sets out at (numbers_of (newest_first rs (suc m)))
    ≡ sets (set (set (set out at r.len) (at + 1) r.value) (at + 2) r.backend) (at + 3) (numbers_of (newest_first rs m))
unfolding newest_first numbers_of
sets-rule rs m at out =
    let one : at + 1 ≡ suc at = omega arith in
    let two : at + 2 ≡ suc (suc at) = omega arith in
    let three : at + 3 ≡ suc (suc (suc at)) = omega arith in
    rw (one, two, three)

-- the c oldest of rules

pub oldest-length : (r : ℕ) (rs : List Rule) → r ≤ length rs → length (oldest r rs) ≡ r
unfolding oldest
oldest-length r rs h = omega (arith, length-drop (length rs - r) rs)

pub oldest-rules : (cs : List ℕ) (n c : ℕ) → n ≡ length cs / 3 → c ≤ n → oldest c (rules_from cs) ≡ rules_from (drop (3 * (n - c)) cs)
unfolding oldest
oldest-rules cs n c e h =
    let long : length (rules_from cs) ≡ n = omega (arith, rules-count cs) in
    ap (λ (m : ℕ). drop (m - c) (rules_from cs)) long ∙ rules-drop cs (n - c) (omega arith)

pub oldest-at : (r : ℕ) (rs : List Rule) (i : ℕ) → get_or (oldest r rs) i no_rule ≡ get_or rs (length rs - r + i) no_rule
unfolding oldest
oldest-at r rs i = get_or-drop (length rs - r) rs i no_rule
