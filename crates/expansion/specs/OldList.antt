-- An old list in numbers (document 02, Req 03): as its rule sheet would have it, the newest rule first, of each the length and the value of its suffix
-- and the id of its backend. It is checked as its sheet would be.
use Rattle.std.specs.Prelude.{ℕ, suc, Bool, List, [], ◌∷◌, leb, ltb, eqb, length, Err, Result}
use Rattle.numerals.specs.Pick.{both}
use Rattle.numerals.specs.Limits.{most_id, most_rules}
use Rattle.numerals.specs.Refusals.{no1, no2, no4, no9}
use Rattle.expansion.specs.FirstMatch.{is_rule}
use Rattle.expansion.specs.Answer.{and_then, or_else, in_limits}
use Rattle.expansion.specs.declared.rule.Rule.{Rule}
use Rattle.numerals.specs.declared.refusal.Refusal.{Refusal}

-- the rules that three numbers each are; what is left over is no rule
unfoldable pub rules_from : List ℕ → List Rule
rules_from [] = []
rules_from (l ∷ []) = []
rules_from (l ∷ v ∷ []) = []
rules_from (l ∷ v ∷ b ∷ cs) = record { len = l; value = v; backend = b } ∷ rules_from cs

-- the numbers of rules
unfoldable pub numbers_of : List Rule → List ℕ
numbers_of [] = []
numbers_of (r ∷ rs) = r.len ∷ r.value ∷ r.backend ∷ numbers_of rs

-- the numbers of a rule are within the limits of a rule line
unfoldable pub is_proper : ℕ → Rule → Bool
is_proper k r = both (is_rule k r) (in_limits 1 most_id r.backend)

-- The rules behind n others, the last of which has `last` bits; the first rule of all may have k. Rule by rule: too few numbers, then a number out of its
-- limits, then a 33rd rule, then the order: nothing stands behind a `*`, and the suffix doesn't lengthen. After the rules: the last has to be a `*`.
unfoldable pub check_rules : ℕ → ℕ → ℕ → List ℕ → Result (Unit {0}) Refusal
check_rules k n last [] = or_else (eqb last 0) no9
check_rules k n last (l ∷ []) = Err no1
check_rules k n last (l ∷ v ∷ []) = Err no1
check_rules k n last (l ∷ v ∷ b ∷ cs) =
    and_then (or_else (is_proper k (record { len = l; value = v; backend = b })) no2)
    (and_then (or_else (ltb n most_rules) no4)
    (and_then (or_else (both (ltb 0 last) (leb l last)) no9)
    (check_rules k (suc n) l cs)))

-- no rule at all is 2: a service has 1 to 32 of them
unfoldable pub check_list : ℕ → List ℕ → Result (Unit {0}) Refusal
check_list k cs = and_then (or_else (ltb 0 (length cs)) no2) (check_rules k 0 k cs)
