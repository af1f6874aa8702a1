-- Nodes in the order of tree places: what the suffix of l bits with the place p covers has the places from p × 2^(k-l) on, 2^(k-l) of them.
use Prim.Native.Nat.{ℕ, ◌+◌, ◌-◌, ◌*◌, ◌/◌, ◌%◌, ◌^◌, ◌≤◌, ◌<◌}
use mathlib.Core.Bool.{Bool, true, false}
use mathlib.Core.List.{List}
use mathlib.Core.Path.{◌≡◌, ap, sym, ◌∙◌, subst}
use native.Mathlib.Decide.{dec_lt}
use native.Mathlib.Nat.{mul_comm, suc-mul, mul-le-mul_right, mod-lt, mod-eq_of_lt, div-add-mod', div-lt_iff_lt-mul, add-mul-mod_self_right}
use native.Mathlib.Omega.{arith}
use lib.Arith.{digits_lt, digits_div}
use lib.ListN.{get_or}
use lib.Pow.{pow_pos}
use borrow.Author.Tests.{eq-eqb, ne_eqb}
use Rattle.numerals.specs.Pick.{pick}
use Rattle.numerals.specs.Suffix.{place}
use Rattle.numerals.proofs.Place.{place-lt, place-mod, place_twice, place-involution, place-injective, place-high}
use Rattle.numerals.specs.Sums.{all_to}
use Rattle.expansion.specs.FirstMatch.{is_rule, matches, gives}
use Rattle.expansion.specs.Steps.{is_whole}
use Rattle.expansion.specs.Inner.Holders.{Given}
use Rattle.expansion.specs.declared.rule.Rule.{Rule}
use Rattle.numerals.proofs.Searches.{all_true, true-all}
use Rattle.expansion.proofs.Count.{pow-split}
use Rattle.expansion.proofs.FirstMatch.{rule-short, rule-bits}

-- a test of all that the suffix of l bits with the value v covers
module _ (k l v : ℕ) (h : l ≤ k) (f : ℕ → Bool) where
  pub covered-true : v < 2 ^ l → ((s : ℕ) → s < 2 ^ k → s % 2 ^ l ≡ v → f s ≡ true) → all_to (2 ^ (k - l)) (λ j. f (v + j * 2 ^ l)) ≡ true
  covered-true small p =
      true-all (2 ^ (k - l)) (λ j. f (v + j * 2 ^ l)) (λ j m.
      p (v + j * 2 ^ l)
      (omega (arith, pow-split l k h, digits_lt {c = 2 ^ l} m small))
      (add-mul-mod_self_right v j (2 ^ l) ∙ mod-eq_of_lt small))

  pub covered-at : all_to (2 ^ (k - l)) (λ j. f (v + j * 2 ^ l)) ≡ true → (s : ℕ) → s < 2 ^ k → s % 2 ^ l ≡ v → f s ≡ true
  covered-at w s m e =
      ap f (omega (arith, div-add-mod' s (2 ^ l)))
      ∙ all_true (2 ^ (k - l)) (λ j. f (v + j * 2 ^ l)) w (s / 2 ^ l)
      ((div-lt_iff_lt-mul (pow_pos l)).1 (omega (arith, pow-split l k h)))

module _ (k l : ℕ) (h : l ≤ k) where
  -- all places are those of 2^l nodes
  pub all-nodes : 2 ^ k ≡ 2 ^ l * 2 ^ (k - l)
  all-nodes = pow-split l k h ∙ mul_comm (2 ^ (k - l)) (2 ^ l)

  -- the node of a suffix
  pub node_of : (s : ℕ) → place k s / 2 ^ (k - l) ≡ place l s
  node_of s = let sum : l + (k - l) ≡ k = omega arith in rw sum at (place-high l (k - l) s)

  -- the lowest bits of the suffix at a place
  pub bits_at : (q : ℕ) → q < 2 ^ k → place k q % 2 ^ l ≡ place l (q / 2 ^ (k - l))
  bits_at q m =
      sym (place_twice l (place k q))
      ∙ ap (place l) (sym (node_of (place k q)) ∙ ap (λ (x : ℕ). x / 2 ^ (k - l)) (place-involution k q m))

  pub node_at : (p q : ℕ) → p * 2 ^ (k - l) ≤ q → q < p * 2 ^ (k - l) + 2 ^ (k - l) → q / 2 ^ (k - l) ≡ p
  node_at p q from to =
      let r : ℕ = q - p * 2 ^ (k - l) in
      let is : q ≡ p * 2 ^ (k - l) + r = omega arith in
      let low : r < 2 ^ (k - l) = omega arith in
      ap (λ (x : ℕ). x / 2 ^ (k - l)) is ∙ digits_div p low

  -- a node is wholly held if each of its places is
  module _ (rs : List Rule) (b p : ℕ) where
    pub whole-node : p < 2 ^ l
        → ((q : ℕ) → p * 2 ^ (k - l) ≤ q → q < p * 2 ^ (k - l) + 2 ^ (k - l) → gives rs (place k q) b ≡ true)
        → is_whole k rs l (place l p) b ≡ true
    unfolding is_whole
    whole-node small each =
        covered-true k l (place l p) h (λ s. gives rs s b) (place-lt l p) (λ s m e.
        let here : place k s / 2 ^ (k - l) ≡ p = node_of s ∙ sym (place-mod l s) ∙ ap (place l) e ∙ place-involution l p small in
        let split : p * 2 ^ (k - l) + place k s % 2 ^ (k - l) ≡ place k s = ap (λ (x : ℕ). x * 2 ^ (k - l) + place k s % 2 ^ (k - l)) (sym here)
        ∙ div-add-mod' (place k s) (2 ^ (k - l)) in
        let low : place k s % 2 ^ (k - l) < 2 ^ (k - l) = mod-lt (place k s) (pow_pos (k - l)) in
        ap (λ (x : ℕ). gives rs x b) (sym (place-involution k s m)) ∙ each (place k s) (omega arith) (omega arith))

    pub node-held : is_whole k rs l (place l p) b ≡ true
        → (q : ℕ) → q < 2 ^ k → p * 2 ^ (k - l) ≤ q → q < p * 2 ^ (k - l) + 2 ^ (k - l) → gives rs (place k q) b ≡ true
    unfolding is_whole
    node-held w q m from to =
        covered-at k l (place l p) h (λ s. gives rs s b) w (place k q) (place-lt k q) (bits_at q m ∙ ap (place l) (node_at p q from to))

  -- a rule matches what its node has, and nothing else
  module _ (p : ℕ) (small : p < 2 ^ l) (b q : ℕ) (m : q < 2 ^ k) where
    pub match-inside : p * 2 ^ (k - l) ≤ q → q < p * 2 ^ (k - l) + 2 ^ (k - l)
        → matches (record { len = l; value = place l p; backend = b }) (place k q) ≡ true
    unfolding matches
    match-inside from to =
        eq-eqb (place k q % 2 ^ l) (place l p) (bits_at q m ∙ ap (place l) (node_at p q from to))

    pub match-outside : (p * 2 ^ (k - l) ≤ q → p * 2 ^ (k - l) + 2 ^ (k - l) ≤ q)
        → matches (record { len = l; value = place l p; backend = b }) (place k q) ≡ false
    unfolding matches
    match-outside out =
        ne_eqb (place k q % 2 ^ l) (place l p) (λ e.
        let same : place l (q / 2 ^ (k - l)) ≡ place l p = sym (bits_at q m) ∙ e in
        let below : q / 2 ^ (k - l)
        < 2 ^ l = rw (sym (ap (λ (x : ℕ). x / 2 ^ (k - l)) (sym (place-involution k q m)) ∙ node_of (place k q))) at (place-lt l (place k q)) in
        let here : q / 2 ^ (k - l) ≡ p = place-injective l (q / 2 ^ (k - l)) p below small same in
        let split : p * 2 ^ (k - l) + q % 2 ^ (k - l) ≡ q = ap (λ (x : ℕ). x * 2 ^ (k - l) + q % 2 ^ (k - l)) (sym here) ∙ div-add-mod' q (2 ^ (k - l)) in
        let low : q % 2 ^ (k - l) < 2 ^ (k - l) = mod-lt q (pow_pos (k - l)) in
        let beyond : p * 2 ^ (k - l) + 2 ^ (k - l) ≤ q = out (omega arith) in
        omega arith)

-- a place of a node is one of all
pub inside-node : (k l p i : ℕ) → l ≤ k → p < 2 ^ l → i < 2 ^ (k - l) → p * 2 ^ (k - l) + i < 2 ^ k
inside-node k l p i h m o = omega (arith, mul-le-mul_right (2 ^ (k - l)) m, suc-mul p (2 ^ (k - l)), all-nodes k l h)

-- the places of a rule's suffix
module _ (k : ℕ) (r : Rule) (R : is_rule k r ≡ true) where
  abbrev at : ℕ
  at = place r.len r.value * 2 ^ (k - r.len)

  abbrev size : ℕ
  size = 2 ^ (k - r.len)

  pub rule-place : (i : ℕ) → i < size → at + i < 2 ^ k
  rule-place i l = inside-node k r.len (place r.len r.value) i (rule-short k r R) (place-lt r.len r.value) l

  rule-back : record { len = r.len; value = place r.len (place r.len r.value); backend = r.backend } ≡ r
  rule-back = ap (λ (v : ℕ). record { len = r.len; value = v; backend = r.backend }) (place-involution r.len r.value (rule-bits k r R))

  pub rule-inside : (q : ℕ) → q < 2 ^ k → at ≤ q → q < at + size → matches r (place k q) ≡ true
  rule-inside q m from to =
      subst (λ (o : Rule). matches o (place k q) ≡ true) rule-back
      (match-inside k r.len (rule-short k r R) (place r.len r.value) (place-lt r.len r.value) r.backend q m from to)

  rule-outside : (q : ℕ) → q < 2 ^ k → (at ≤ q → at + size ≤ q) → matches r (place k q) ≡ false
  rule-outside q m out =
      subst (λ (o : Rule). matches o (place k q) ≡ false) rule-back
      (match-outside k r.len (rule-short k r R) (place r.len r.value) (place-lt r.len r.value) r.backend q m out)

  -- who holds what after they went to a backend
  pub given-at : (b : ℕ) (holder holder' : List ℕ) → Given at size b holder holder'
      → (q : ℕ) → q < 2 ^ k → get_or holder' q 0 ≡ pick (matches r (place k q)) b (get_or holder q 0)
  given-at b holder holder' G q m = go (dec_lt q at) (dec_lt q (at + size))
    where
      by : (t : Bool) → matches r (place k q) ≡ t → pick t b (get_or holder q 0) ≡ pick (matches r (place k q)) b (get_or holder q 0)
      by t e = ap (λ (x : Bool). pick x b (get_or holder q 0)) (sym e)

      out : (at ≤ q → at + size ≤ q) → get_or holder' q 0 ≡ pick (matches r (place k q)) b (get_or holder q 0)
      out o = G.other q o ∙ by false (rule-outside q m o)

      go : Dec (q < at) → Dec (q < at + size) → get_or holder' q 0 ≡ pick (matches r (place k q)) b (get_or holder q 0)
      go (yes n) d = out (λ o. absurd (omega arith))
      go (no n) (yes o) = G.taken q (omega arith) o ∙ by true (rule-inside q m (omega arith) o)
      go (no n) (no o) = out (λ x. omega arith)
