-- The count by first match (document 01, under that heading), over rules in their order, the first match first: one definition, whoever counts.
use Rattle.std.specs.Prelude.{ℕ, ◌%◌, ◌^◌, Bool, not, List, [], ◌∷◌, eqb}
use Rattle.numerals.specs.Pick.{pick}
use Rattle.numerals.specs.Suffix.{is_suffix}
use Rattle.numerals.specs.Sums.{count_to}
use Rattle.expansion.specs.declared.rule.Rule.{Rule}

-- the label that no backend has: ids are from 1 on
abbrev pub nobody : ℕ
nobody = 0

-- a well-formed rule of k bits
unfoldable pub is_rule : ℕ → Rule → Bool
is_rule k r = is_suffix k r.len r.value

-- a rule matches s if its bits are the lowest bits of s
unfoldable pub matches : Rule → ℕ → Bool
matches r s = eqb (s % 2 ^ r.len) r.value

-- the label of the backend that the first rule that matches s sends it to; nobody's where none matches
unfoldable pub first_match : List Rule → ℕ → ℕ
first_match [] s = nobody
first_match (r ∷ rs) s = pick (matches r s) r.backend (first_match rs s)

-- s goes to the backend with label b
unfoldable pub gives : List Rule → ℕ → ℕ → Bool
gives rs s b = eqb (first_match rs s) b

-- the share of the backend with label b: the number of k-bit suffixes that it is given
unfoldable pub share : ℕ → List Rule → ℕ → ℕ
share k rs b = count_to (2 ^ k) (λ s. gives rs s b)

-- of the suffixes below `all`, the number of those that two lists give to backends of unlike ids
unfoldable pub differing : ℕ → List Rule → List Rule → ℕ
differing all old new = count_to all (λ s. not (eqb (first_match old s) (first_match new s)))

-- churn (document 01, "Lookup and churn"; by id since document 02, Req 04): of all 2^k suffixes, how many have a backend of another id
unfoldable pub churn : ℕ → List Rule → List Rule → ℕ
churn k old new = differing (2 ^ k) old new
