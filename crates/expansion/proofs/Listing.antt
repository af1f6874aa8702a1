-- A listing of rules, the oldest first, and its rules as the definitions have them, the newest first; stores from a listing.
use Prim.Native.Nat.{ℕ, zero, suc, ◌+◌, ◌-◌, ◌≤◌, ◌<◌}
use mathlib.Core.List.{List, [], ◌∷◌, ◌++◌, map, map-append, reverse, reverse-cons}
use mathlib.Core.Path.{◌≡◌, refl, ap, sym, ◌∙◌}
use native.Mathlib.Nat.{zero-add, add-zero, add-suc, suc-add}
use native.Mathlib.Numerals.{add-one}
use native.Mathlib.Omega.{arith}
use lib.ListN.{length, get_or, set, take, drop, length-map}
use lib.Seq.{sets, take-suc, length-take-le, get_or-set_same, get_or-set_other}
use Rattle.expansion.specs.Steps.{oldest}
use Rattle.expansion.specs.Inner.Lists.{no_rule, newest_first}
use Rattle.expansion.specs.declared.rule.Rule.{Rule}

-- the newest first

pub length-newest : (rs : List Rule) (c : ℕ) → length (newest_first rs c) ≡ c
unfolding newest_first
length-newest rs zero = refl
length-newest rs (suc c) = ap suc (length-newest rs c)

-- a rule stored past those counted changes none of them
pub newest-set : (rs : List Rule) (c i : ℕ) (r : Rule) → c ≤ i → newest_first (set rs i r) c ≡ newest_first rs c
unfolding newest_first
newest-set rs zero i r h = refl
newest-set rs (suc c) i r h =
    rw (get_or-set_other rs i c r no_rule (λ e. omega arith), newest-set rs c i r (omega arith))

pub newest-more : (rs : List Rule) (c : ℕ) (r : Rule) → c < length rs → newest_first (set rs c r) (suc c) ≡ r ∷ newest_first rs c
unfolding newest_first
newest-more rs c r h = rw (get_or-set_same rs c r no_rule h, newest-set rs c c r (omega arith))

pub take-newest : (rs : List Rule) (c : ℕ) → c ≤ length rs → take c rs ≡ reverse (newest_first rs c)
unfolding newest_first
take-newest rs zero h = refl
take-newest rs (suc c) h =
    take-suc rs c no_rule h
    ∙ ap (λ (xs : List Rule). xs ++ get_or rs c no_rule ∷ []) (take-newest rs c (omega arith))
    ∙ sym (reverse-cons (get_or rs c no_rule) (newest_first rs c))

-- one column of a listing
pub column-newest : (f : Rule → ℕ) (rs : List Rule) (c : ℕ) → c ≤ length rs → map f (take c rs) ≡ map f (reverse (newest_first rs c))
column-newest f rs c h = ap (map f) (take-newest rs c h)

-- the c oldest of n rules
drop-newest : (rs : List Rule) (c d : ℕ) → drop d (newest_first rs (d + c)) ≡ newest_first rs c
unfolding newest_first
drop-newest rs c zero = ap (newest_first rs) (zero-add c)
drop-newest rs c (suc d) = ap (λ (x : ℕ). drop (suc d) (newest_first rs x)) (suc-add d c) ∙ drop-newest rs c d

pub oldest-newest : (rs : List Rule) (c n : ℕ) → c ≤ n → oldest c (newest_first rs n) ≡ newest_first rs c
unfolding oldest
oldest-newest rs c n h =
    let all : n ≡ n - c + c = omega arith in
    ap (λ (x : ℕ). drop (x - c) (newest_first rs n)) (length-newest rs n)
    ∙ ap (λ (x : ℕ). drop (n - c) (newest_first rs x)) all
    ∙ drop-newest rs c (n - c)

-- stores from a position on

sets_last : (l : List ℕ) (i : ℕ) (vs : List ℕ) (a : ℕ) → sets l i (vs ++ a ∷ []) ≡ set (sets l i vs) (i + length vs) a
sets_last l i [] a = ap (λ (x : ℕ). set l x a) (sym (add-zero i))
sets_last l i (v ∷ vs) a =
    sets_last (set l i v) (suc i) vs a
    ∙ ap (λ (x : ℕ). set (sets (set l i v) (suc i) vs) x a) (suc-add i (length vs) ∙ sym (add-suc i (length vs)))

-- a buffer into which the first i values of a listing were stored, from a position on
pub record Copied {A : Type 0} (f : A → ℕ) (xs : List A) (at i : ℕ) (l out : List ℕ) : Type 0 where
  pub is : out ≡ sets l at (map f (take i xs))

-- one more value
pub copied_more : {A : Type 0} {f : A → ℕ} {xs : List A} {at i : ℕ} {l out : List ℕ} (d : A) → i < length xs → Copied f xs at i l out
    → Copied f xs at (i + 1) l (set out (at + i) (f (get_or xs i d)))
copied_more {A} {f} {xs} {at} {i} {l} {out} d h S =
    let vs = map f (take i xs) in
    let long : length vs ≡ i = length-map (take i xs) f ∙ length-take-le i xs (omega arith) in
    let more : map f (take (i + 1) xs) ≡ vs ++ f (get_or xs i d) ∷ [] =
    rw (add-one, take-suc xs i d h, map-append f (take i xs) (get_or xs i d ∷ [])) in
    let place : at + length vs ≡ at + i = omega arith in
    record {
      is =
          ap (λ (o : List ℕ). set o (at + i) (f (get_or xs i d))) S.is
          ∙ sym (ap (sets l at) more ∙ sets_last l at vs (f (get_or xs i d)) ∙ ap (λ (x : ℕ). set (sets l at vs) x (f (get_or xs i d))) place);
    }
