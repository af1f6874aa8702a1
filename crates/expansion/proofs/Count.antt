-- The shares: they sum to all suffixes, and a new rule over a wholly held suffix moves just what it covers.
use Prim.Native.Nat.{ℕ, zero, suc, ◌+◌, ◌-◌, ◌*◌, ◌/◌, ◌%◌, ◌^◌, ◌≤◌, ◌<◌}
use mathlib.Core.Bool.{Bool, true, false}
use mathlib.Core.List.{List, ◌∷◌}
use mathlib.Core.Logic.{◌≢◌}
use mathlib.Core.Path.{◌≡◌, refl, ap, sym, ◌∙◌}
use native.Mathlib.Nat.{sub-add_cancel, mul-one, zero-mul, suc-mul, div-add-mod', div-lt_iff_lt-mul, mod-mod, add-mul-mod_self_right}
use native.Mathlib.Omega.{arith}
use lib.Arith.{digits_mod}
use lib.Dec.{eqb}
use lib.Pow.{pow-add, pow_pos}
use borrow.Author.Tests.{eqb-true, eq-eqb, ne_eqb}
use Rattle.numerals.specs.Sums.{sum_to, count_to}
use Rattle.expansion.specs.FirstMatch.{matches, gives, share}
use Rattle.expansion.specs.Steps.{is_whole}
use Rattle.expansion.specs.Inner.Sound.{Distinct, Complete, Lengths}
use Rattle.expansion.specs.declared.rule.Rule.{Rule}
use Rattle.numerals.proofs.Sums.{sum-ext, sum-add, sum-const, sum-swap, sum-split, count-ext, count-single, bit}
use Rattle.numerals.proofs.Searches.{all_true, true-all}
use Rattle.expansion.proofs.FirstMatch.{gives-matched, gives-passed, gives_one, gives-low}

-- each s counts for one backend
gives-sum : (labelled : ℕ → ℕ) (n : ℕ) → Distinct labelled n → (rs : List Rule) (s : ℕ) → (b : ℕ) × (b < n) × (gives rs s (labelled b) ≡ true)
    → count_to n (λ b. gives rs s (labelled b)) ≡ 1
gives-sum labelled n distinct rs s h =
    count-single n (λ b. gives rs s (labelled b)) h.0 h.1 h.2 (λ i l d. fails i l d (gives rs s (labelled i)) refl)
  where
    fails : (i : ℕ) → i < n → i ≢ h.0 → (t : Bool) → gives rs s (labelled i) ≡ t → gives rs s (labelled i) ≡ false
    fails i l d true e = absurd (d (distinct i h.0 l h.1 (gives_one rs s (labelled i) (labelled h.0) e h.2)))
    fails i l d false e = e

pub share-sum : (k : ℕ) (labelled : ℕ → ℕ) (n : ℕ) → Distinct labelled n → (rs : List Rule) → Complete labelled n rs
    → sum_to n (λ b. share k rs (labelled b)) ≡ 2 ^ k
unfolding share count_to
share-sum k labelled n distinct rs h =
    sum-swap n (2 ^ k) (λ b s. bit (gives rs s (labelled b)))
    ∙ sum-ext (2 ^ k) (λ s. count_to n (λ b. gives rs s (labelled b))) (λ s. 1) (λ s l. gives-sum labelled n distinct rs s (h s))
    ∙ sum-const (2 ^ k) 1
    ∙ mul-one (2 ^ k)

-- of q stretches of m numbers each has one of every residue
count-mod : (q m v : ℕ) → v < m → count_to (q * m) (λ s. eqb (s % m) v) ≡ q
unfolding count_to sum_to
count-mod zero m v l = ap (λ (x : ℕ). count_to x (λ s. eqb (s % m) v)) (zero-mul m)
count-mod (suc q) m v l =
    ap (λ (x : ℕ). count_to x (λ s. eqb (s % m) v)) (suc-mul q m)
    ∙ omega (arith, sum-split (q * m) m (λ s. bit (eqb (s % m) v)), count-mod q m v l, stretch)
  where
    at : (i : ℕ) → i < m → eqb ((q * m + i) % m) v ≡ eqb i v
    at i k = ap (λ (x : ℕ). eqb x v) (digits_mod q k)

    stretch : count_to m (λ i. eqb ((q * m + i) % m) v) ≡ 1
    stretch =
        count-ext m (λ i. eqb ((q * m + i) % m) v) (λ i. eqb i v) at
        ∙ count-single m (λ i. eqb i v) v l (eq-eqb v v refl) (λ i k d. ne_eqb i v d)

pub pow-split : (l k : ℕ) → l ≤ k → 2 ^ k ≡ 2 ^ (k - l) * 2 ^ l
pow-split l k h = ap (λ (x : ℕ). 2 ^ x) (sym (sub-add_cancel h)) ∙ pow-add 2 (k - l) l

-- a suffix of l bits covers 2 ^ (k - l)
pub covers : (k : ℕ) (r : Rule) → r.len ≤ k → r.value < 2 ^ r.len → count_to (2 ^ k) (matches r) ≡ 2 ^ (k - r.len)
unfolding matches
covers k r h v =
    ap (λ (x : ℕ). count_to x (matches r)) (pow-split r.len k h) ∙ count-mod (2 ^ (k - r.len)) (2 ^ r.len) r.value v

-- what a wholly held suffix covers is the backend's
pub whole-gives : (k : ℕ) (rs : List Rule) (r : Rule) (b : ℕ) → r.len ≤ k → is_whole k rs r.len r.value b ≡ true
    → (s : ℕ) → s < 2 ^ k → matches r s ≡ true → gives rs s b ≡ true
unfolding is_whole matches
whole-gives k rs r b h w s l m =
    ap (λ (x : ℕ). gives rs x b) is
    ∙ all_true (2 ^ (k - r.len)) (λ j. gives rs (r.value + j * 2 ^ r.len) b) w (s / 2 ^ r.len) inside
  where
    inside : s / 2 ^ r.len < 2 ^ (k - r.len)
    inside = (div-lt_iff_lt-mul (pow_pos r.len)).1 (omega (arith, pow-split r.len k h))

    is : s ≡ r.value + s / 2 ^ r.len * 2 ^ r.len
    is = omega (arith, div-add-mod' s (2 ^ r.len), eqb-true (s % 2 ^ r.len) r.value m)

-- where no rule is longer, what holds of one s that the suffix covers holds of all
pub whole-of-one : (k l : ℕ) (rs : List Rule) (b s : ℕ) → Lengths l rs → gives rs s b ≡ true → is_whole k rs l (s % 2 ^ l) b ≡ true
unfolding is_whole
whole-of-one k l rs b s h e =
    true-all (2 ^ (k - l)) (λ j. gives rs (s % 2 ^ l + j * 2 ^ l) b) (λ j m. each j)
  where
    each : (j : ℕ) → gives rs (s % 2 ^ l + j * 2 ^ l) b ≡ true
    each j =
        sym (gives-low l rs h (s % 2 ^ l + j * 2 ^ l) b)
        ∙ ap (λ (x : ℕ). gives rs x b) (add-mul-mod_self_right (s % 2 ^ l) j (2 ^ l) ∙ mod-mod s (2 ^ l))
        ∙ gives-low l rs h s b
        ∙ e

-- a rule put before the others over a suffix that g holds wholly
module _ (k : ℕ) (rs : List Rule) (r : Rule) (g : ℕ) (short : r.len ≤ k) (bits : r.value < 2 ^ r.len)
    (held : is_whole k rs r.len r.value g ≡ true) (apart : g ≢ r.backend) where
  -- a backend that loses, gains or keeps what the suffix covers, s by s
  loses : (s : ℕ) → s < 2 ^ k → (m : Bool) → matches r s ≡ m → bit (gives (r ∷ rs) s g) + bit (matches r s) ≡ bit (gives rs s g)
  loses s l true e =
      omega (
        arith,
        ap bit (gives-matched r rs s g e ∙ ne_eqb r.backend g (λ x. apart (sym x))),
        ap bit e,
        ap bit (whole-gives k rs r g short held s l e),
      )
  loses s l false e = omega (arith, ap bit (gives-passed r rs s g e), ap bit e)

  only : (s b : ℕ) → s < 2 ^ k → matches r s ≡ true → b ≢ g → (t : Bool) → gives rs s b ≡ t → gives rs s b ≡ false
  only s b l e d true p = absurd (d (gives_one rs s b g p (whole-gives k rs r g short held s l e)))
  only s b l e d false p = p

  gains : (s : ℕ) → s < 2 ^ k → (m : Bool) → matches r s ≡ m
      → bit (gives (r ∷ rs) s r.backend) ≡ bit (gives rs s r.backend) + bit (matches r s)
  gains s l true e =
      omega (
        arith,
        ap bit (gives-matched r rs s r.backend e ∙ eq-eqb r.backend r.backend refl),
        ap bit e,
        ap bit (only s r.backend l e (λ x. apart (sym x)) (gives rs s r.backend) refl),
      )
  gains s l false e = omega (arith, ap bit (gives-passed r rs s r.backend e), ap bit e)

  keeps : (b : ℕ) → b ≢ g → b ≢ r.backend → (s : ℕ) → s < 2 ^ k → (m : Bool) → matches r s ≡ m
      → gives (r ∷ rs) s b ≡ gives rs s b
  keeps b d c s l true e =
      gives-matched r rs s b e ∙ ne_eqb r.backend b (λ x. c (sym x)) ∙ sym (only s b l e d (gives rs s b) refl)
  keeps b d c s l false e = gives-passed r rs s b e

  pub share-giver : share k (r ∷ rs) g + 2 ^ (k - r.len) ≡ share k rs g
  unfolding share count_to
  share-giver =
      ap (λ (x : ℕ). share k (r ∷ rs) g + x) (sym (covers k r short bits))
      ∙ sym (sum-add (2 ^ k) (λ s. bit (gives (r ∷ rs) s g)) (λ s. bit (matches r s)))
      ∙ sum-ext (2 ^ k) (λ s. bit (gives (r ∷ rs) s g) + bit (matches r s)) (λ s. bit (gives rs s g)) (λ s l. loses s l (matches r s) refl)

  pub share-receiver : share k (r ∷ rs) r.backend ≡ share k rs r.backend + 2 ^ (k - r.len)
  unfolding share count_to
  share-receiver =
      sum-ext (2 ^ k) (λ s. bit (gives (r ∷ rs) s r.backend)) (λ s. bit (gives rs s r.backend) + bit (matches r s))
      (λ s l. gains s l (matches r s) refl)
      ∙ sum-add (2 ^ k) (λ s. bit (gives rs s r.backend)) (λ s. bit (matches r s))
      ∙ ap (λ (x : ℕ). share k rs r.backend + x) (covers k r short bits)

  pub share_other : (b : ℕ) → b ≢ g → b ≢ r.backend → share k (r ∷ rs) b ≡ share k rs b
  unfolding share
  share_other b d c =
      count-ext (2 ^ k) (λ s. gives (r ∷ rs) s b) (λ s. gives rs s b) (λ s l. keeps b d c s l (matches r s) refl)

-- a new rule leaves nothing without a backend
pub complete-cons : (labelled : ℕ → ℕ) (n : ℕ) (r : Rule) (rs : List Rule) → (b : ℕ) × (b < n) × (r.backend ≡ labelled b)
    → Complete labelled n rs → Complete labelled n (r ∷ rs)
complete-cons labelled n r rs l h s = go (matches r s) refl
  where
    go : (m : Bool) → matches r s ≡ m → (b : ℕ) × (b < n) × (gives (r ∷ rs) s (labelled b) ≡ true)
    go true e = (l.0, l.1, gives-matched r rs s (labelled l.0) e ∙ eq-eqb r.backend (labelled l.0) l.2)
    go false e = ((h s).0, (h s).1, gives-passed r rs s (labelled (h s).0) e ∙ (h s).2)
