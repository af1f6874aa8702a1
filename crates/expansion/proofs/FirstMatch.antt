-- The first match: it gives each s to one backend only, and where no rule has more than m bits it depends on the m lowest bits alone.
use Prim.Native.Nat.{ℕ, ◌-◌, ◌%◌, ◌^◌, ◌≤◌, ◌<◌}
use mathlib.Core.Bool.{Bool, true, false}
use mathlib.Core.List.{List, [], ◌∷◌}
use mathlib.Core.Path.{◌≡◌, refl, ap, sym, ◌∙◌}
use native.Mathlib.Nat.{sub-add_cancel}
use native.Mathlib.Omega.{arith}
use lib.Dec.{leb, ltb, eqb}
use lib.Pow.{mod-mod-pow}
use borrow.Author.Tests.{leb-true, ltb-true, eqb-true, le-leb, lt-ltb}
use Rattle.numerals.specs.Pick.{pick}
use Rattle.numerals.specs.Suffix.{is_suffix}
use Rattle.expansion.specs.FirstMatch.{is_rule, matches, first_match, gives}
use Rattle.expansion.specs.Inner.Sound.{Lengths}
use Rattle.expansion.specs.declared.rule.Rule.{Rule}
use Rattle.numerals.proofs.Searches.{both_true, true-both}

-- a well-formed rule
pub rule-short : (k : ℕ) (r : Rule) → is_rule k r ≡ true → r.len ≤ k
unfolding is_rule is_suffix
rule-short k r e = leb-true r.len k (both_true (leb r.len k) (ltb r.value (2 ^ r.len)) e).0

pub rule-bits : (k : ℕ) (r : Rule) → is_rule k r ≡ true → r.value < 2 ^ r.len
unfolding is_rule is_suffix
rule-bits k r e = ltb-true r.value (2 ^ r.len) (both_true (leb r.len k) (ltb r.value (2 ^ r.len)) e).1

pub is-rule : (k : ℕ) (r : Rule) → r.len ≤ k → r.value < 2 ^ r.len → is_rule k r ≡ true
unfolding is_rule is_suffix
is-rule k r l m = true-both (leb r.len k) (ltb r.value (2 ^ r.len)) (le-leb r.len k l) (lt-ltb r.value (2 ^ r.len) m)

pub gives-matched : (r : Rule) (rs : List Rule) (s b : ℕ) → matches r s ≡ true → gives (r ∷ rs) s b ≡ eqb r.backend b
unfolding gives first_match
gives-matched r rs s b e = ap (λ (m : Bool). eqb (pick m r.backend (first_match rs s)) b) e

pub gives-passed : (r : Rule) (rs : List Rule) (s b : ℕ) → matches r s ≡ false → gives (r ∷ rs) s b ≡ gives rs s b
unfolding gives first_match
gives-passed r rs s b e = ap (λ (m : Bool). eqb (pick m r.backend (first_match rs s)) b) e

pub gives_one : (rs : List Rule) (s b c : ℕ) → gives rs s b ≡ true → gives rs s c ≡ true → b ≡ c
unfolding gives
gives_one rs s b c p q = sym (eqb-true (first_match rs s) b p) ∙ eqb-true (first_match rs s) c q

-- the lowest m bits have the same lowest l bits
pub low-low : (s l m : ℕ) → l ≤ m → s % 2 ^ m % 2 ^ l ≡ s % 2 ^ l
low-low s l m h = ap (λ (x : ℕ). s % 2 ^ x % 2 ^ l) (sym (sub-add_cancel h)) ∙ mod-mod-pow s (m - l) l

pub first-low : (m : ℕ) (rs : List Rule) → Lengths m rs → (s : ℕ) → first_match rs (s % 2 ^ m) ≡ first_match rs s
unfolding first_match matches Lengths
first-low m [] h s = refl
first-low m (r ∷ rs) h s = rw (low-low s r.len m h.0, first-low m rs h.1 s)

pub gives-low : (m : ℕ) (rs : List Rule) → Lengths m rs → (s b : ℕ) → gives rs (s % 2 ^ m) b ≡ gives rs s b
unfolding gives
gives-low m rs h s b = ap (λ (x : ℕ). eqb x b) (first-low m rs h s)

-- longer bounds
pub lengths-mono : (m n : ℕ) (rs : List Rule) → m ≤ n → Lengths m rs → Lengths n rs
unfolding Lengths
lengths-mono m n [] l h = tt
lengths-mono m n (r ∷ rs) l h = (omega (arith, h.0), lengths-mono m n rs l h.1)

pub lengths-cons : (m : ℕ) (r : Rule) (rs : List Rule) → r.len ≤ m → Lengths m rs → Lengths m (r ∷ rs)
unfolding Lengths
lengths-cons m r rs l h = (l, h)
