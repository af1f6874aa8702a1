-- Holders by tree place: a node that the listing has wholly is a suffix held wholly by first match, and the listing goes on saying who holds what as
-- a node moves.
use Prim.Native.Nat.{ℕ, zero, suc, ◌+◌, ◌-◌, ◌*◌, ◌/◌, ◌%◌, ◌^◌, ◌≤◌, ◌<◌, min}
use mathlib.Core.Bool.{Bool, true, false}
use mathlib.Core.List.{List, [], ◌∷◌}
use mathlib.Core.Logic.{◌≢◌}
use mathlib.Core.Path.{◌≡◌, refl, ap, sym, ◌∙◌, subst}
use native.Mathlib.Decide.{dec_lt, ℕ_discrete}
use native.Mathlib.Nat.{suc-mul, mul-le-mul_right, mod-one, div-add-mod', div-lt_iff_lt-mul}
use native.Mathlib.Omega.{arith}
use lib.Dec.{eqb}
use lib.ListN.{length, get_or, set, replicate, get_or-replicate, length-set}
use lib.Seq.{get_or-set_same, get_or-set_other}
use lib.Pow.{pow_pos}
use borrow.Author.Tests.{eqb-true, eq-eqb, ne_eqb}
use Rattle.numerals.specs.Limits.{most_bits, most_suffixes, most_known}
use Rattle.numerals.specs.Pick.{pick}
use Rattle.numerals.specs.Suffix.{place}
use Rattle.numerals.specs.Sums.{first_to, argmax}
use Rattle.expansion.specs.FirstMatch.{nobody, matches, gives}
use Rattle.expansion.specs.Imbalance.{Targets, backends, label}
use Rattle.expansion.specs.Steps.{first_rule, is_whole}
use Rattle.expansion.specs.Inner.Sound.{Lengths, Distinct}
use Rattle.expansion.specs.Inner.Holders.{held_by, lowest_held, Holds, Given, lowered}
use Rattle.expansion.specs.declared.rule.Rule.{Rule}
use Rattle.numerals.proofs.Searches.{clash, same_test, all_true, true-all, all-false, IsFirst, first-unique, first-is}
use Rattle.expansion.proofs.FirstMatch.{is-rule, gives-matched, gives-passed, gives_one}
use Rattle.expansion.proofs.Count.{whole-of-one}
use Rattle.expansion.proofs.Nodes.{inside-node, bits_at, whole-node, node-held, given-at}
use Rattle.numerals.proofs.Place.{place-lt, place-involution}
use Rattle.numerals.proofs.Powers.{pow-few}

-- one suffix of a node that is another's
pub held-not : (holder : List ℕ) (size b j i : ℕ) → i < size → get_or holder (j * size + i) 0 ≢ b → held_by holder size b j ≡ false
unfolding held_by
held-not holder size b j i l d =
    all-false size (λ x. eqb (get_or holder (j * size + x) 0) b) i l (ne_eqb (get_or holder (j * size + i) 0) b d)

pub held_all : (holder : List ℕ) (size b j : ℕ) → ((i : ℕ) → i < size → get_or holder (j * size + i) 0 ≡ b) → held_by holder size b j ≡ true
unfolding held_by
held_all holder size b j h =
    true-all size (λ x. eqb (get_or holder (j * size + x) 0) b) (λ i l. eq-eqb (get_or holder (j * size + i) 0) b (h i l))

held_at : (holder : List ℕ) (size b j : ℕ) → held_by holder size b j ≡ true → (i : ℕ) → i < size → get_or holder (j * size + i) 0 ≡ b
unfolding held_by
held_at holder size b j e i l =
    eqb-true (get_or holder (j * size + i) 0) b (all_true size (λ x. eqb (get_or holder (j * size + x) 0) b) e i l)

-- places given one by one
pub given-none : (at b : ℕ) (holder : List ℕ) → Given at 0 b holder holder
given-none at b holder = record { long = refl; taken = λ p l m. absurd (omega arith); other = λ p o. refl }

pub given-more : (at i b : ℕ) (holder holder' : List ℕ) → at + i < length holder → Given at i b holder holder'
    → Given at (i + 1) b holder (set holder' (at + i) b)
given-more at i b holder holder' h G =
    record {
      long = length-set holder' (at + i) b ∙ G.long;
      taken = λ p l m. taken p l m (ℕ_discrete p (at + i));
      other = λ p o. other p o (ℕ_discrete p (at + i));
    }
  where
    taken : (p : ℕ) → at ≤ p → p < at + (i + 1) → Dec (p ≡ at + i) → get_or (set holder' (at + i) b) p 0 ≡ b
    taken p l m (yes e) =
        ap (λ (x : ℕ). get_or (set holder' (at + i) b) x 0) e ∙ get_or-set_same holder' (at + i) b 0 (omega (arith, G.long))
    taken p l m (no d) = get_or-set_other holder' (at + i) p b 0 d ∙ G.taken p l (omega arith)

    other : (p : ℕ) → (at ≤ p → at + (i + 1) ≤ p) → Dec (p ≡ at + i) → get_or (set holder' (at + i) b) p 0 ≡ get_or holder p 0
    other p o (yes e) = absurd (omega (arith, o (omega arith)))
    other p o (no d) = get_or-set_other holder' (at + i) p b 0 d ∙ G.other p (λ l. omega (arith, o l))

-- the answer of a walk over the nodes: none of those passed is b's, and where it ended below n, b holds that node
pub lowest-is : (holder : List ℕ) (size b from n node : ℕ) → from ≤ node → node - from ≤ n - from
    → ((j : ℕ) → from ≤ j → j < node → held_by holder size b j ≡ false)
    → (node < n → held_by holder size b node ≡ true)
    → node ≡ lowest_held holder size b from n
unfolding lowest_held
lowest-is holder size b from n node start most none whole =
    let back : from + (node - from) ≡ node = omega arith in
    let test : ℕ → Bool = λ j. held_by holder size b (from + j) in
    let here : IsFirst (n - from) test (node - from) =
    record {
      most = most;
      passes = λ l. ap (held_by holder size b) back ∙ whole (omega arith);
      below = λ j l. none (from + j) (omega arith) (omega arith);
    } in
    sym back ∙ ap (λ (x : ℕ). from + x) (first-unique (n - from) test (node - from) (first_to (n - from) test) here (first-is (n - from) test))

module _ (T : Targets) (distinct : Distinct (label T) (backends T)) (l : ℕ) (h : l ≤ T.k) (rs : List Rule) (holder low : List ℕ)
    (H : Holds T rs holder low) where
  abbrev k : ℕ
  k = T.k

  abbrev size : ℕ
  size = 2 ^ (k - l)

  inside : (j i : ℕ) → j < 2 ^ l → i < size → j * size + i < 2 ^ k
  inside j i m o = inside-node k l j i h m o

  -- a node is held wholly just where its suffix is
  pub held_whole : (b j : ℕ) → b < backends T → j < 2 ^ l → held_by holder size b j ≡ is_whole k rs l (place l j) (label T b)
  held_whole b j known m =
      same_test (held_by holder size b j) (is_whole k rs l (place l j) (label T b))
      (λ e. whole-node k l h rs (label T b) j m (λ q from to.
      let i : ℕ = q - j * size in
      let is : j * size + i ≡ q = omega arith in
      let mine : get_or holder q 0 ≡ b = ap (λ (x : ℕ). get_or holder x 0) (sym is) ∙ held_at holder size b j e i (omega arith) in
      ap (λ (x : ℕ). gives rs (place k q) (label T x)) (sym mine) ∙ H.holders q (omega (arith, inside j i m (omega arith)))))
      (λ w. held_all holder size b j (λ i o.
      let q : ℕ = j * size + i in
      distinct (get_or holder q 0) b (H.known q (inside j i m o)) known
      (gives_one rs (place k q) (label T (get_or holder q 0)) (label T b) (H.holders q (inside j i m o))
      (node-held k l h rs (label T b) j w q (inside j i m o) (omega arith) (omega arith)))))

  -- no node before the one of a backend's low is its own
  pub low-not : (b j : ℕ) → j < 2 ^ l → j < get_or low b 0 / size → held_by holder size b j ≡ false
  low-not b j m n =
      held-not holder size b j 0 (pow_pos (k - l))
      (H.lows b (j * size + 0) (inside j 0 m (pow_pos (k - l)))
      (omega (arith, mul-le-mul_right size n, suc-mul j size, div-add-mod' (get_or low b 0) size, pow_pos (k - l))))

  -- a node goes to a backend
  module _ (p : ℕ) (small : p < 2 ^ l) (b : ℕ) (b-known : b < backends T) (holder' : List ℕ) (G : Given (p * size) size b holder holder') where
    abbrev new : Rule
    new = record { len = l; value = place l p; backend = label T b }

    after : (q : ℕ) → q < 2 ^ k → get_or holder' q 0 ≡ pick (matches new (place k q)) b (get_or holder q 0)
    after q m =
        given-at k new (is-rule k new h (place-lt l p)) b holder holder'
        (subst (λ (x : ℕ). Given (x * size) size b holder holder') (sym (place-involution l p small)) G) q m

    holders-given : (q : ℕ) → q < 2 ^ k → gives (new ∷ rs) (place k q) (label T (get_or holder' q 0)) ≡ true
    holders-given q m = go (matches new (place k q)) refl
      where
        go : (t : Bool) → matches new (place k q) ≡ t → gives (new ∷ rs) (place k q) (label T (get_or holder' q 0)) ≡ true
        go true e =
            gives-matched new rs (place k q) (label T (get_or holder' q 0)) e
            ∙ eq-eqb (label T b) (label T (get_or holder' q 0)) (ap (label T) (sym (after q m ∙ ap (λ (t : Bool). pick t b (get_or holder q 0)) e)))
        go false e =
            gives-passed new rs (place k q) (label T (get_or holder' q 0)) e
            ∙ ap (λ (x : ℕ). gives rs (place k q) (label T x)) (after q m ∙ ap (λ (t : Bool). pick t b (get_or holder q 0)) e)
            ∙ H.holders q m

    known-given : (q : ℕ) → q < 2 ^ k → get_or holder' q 0 < backends T
    known-given q m = rw (after q m) (go (matches new (place k q)))
      where
        go : (t : Bool) → pick t b (get_or holder q 0) < backends T
        go true = b-known
        go false = H.known q m

  -- a node goes from the giver to another, the lowest that the giver holds
  module _ (short : Lengths l rs) (p : ℕ) (small : p < 2 ^ l) (giver b : ℕ) (apart : giver ≢ b) (b-known : b < backends T)
      (first : (j : ℕ) → j < p → is_whole k rs l (place l j) (label T giver) ≡ false) (giver_in : giver < length low) (b-in : b < length low)
      (holder' low' : List ℕ) (G : Given (p * size) size b holder holder') (L : low' ≡ lowered low giver b (p * size) (p * size + size)) where
    -- no rule is longer, so before that node the giver holds nothing at all
    none_before : (q : ℕ) → q < 2 ^ k → q < p * size → get_or holder q 0 ≢ giver
    none_before q m n e =
        let whole : is_whole k rs l (place k q % 2 ^ l) (label T giver) ≡ true =
        whole-of-one k l rs (label T giver) (place k q) short (ap (λ (x : ℕ). gives rs (place k q) (label T x)) (sym e) ∙ H.holders q m) in
        clash (is_whole k rs l (place l (q / size)) (label T giver))
        (ap (λ (v : ℕ). is_whole k rs l v (label T giver)) (sym (bits_at k l h q m)) ∙ whole)
        (first (q / size) ((div-lt_iff_lt-mul (pow_pos (k - l))).1 n))

    -- the lows of receiver, giver and the others
    low-receiver : get_or low' b 0 ≡ min (get_or low b 0) (p * size)
    unfolding lowered
    low-receiver =
        ap (λ (x : List ℕ). get_or x b 0) L
        ∙ get_or-set_same (set low giver (p * size + size)) b (min (get_or low b 0) (p * size)) 0 (omega (arith, length-set low giver (p * size + size)))

    low-giver : get_or low' giver 0 ≡ p * size + size
    unfolding lowered
    low-giver =
        ap (λ (x : List ℕ). get_or x giver 0) L
        ∙ get_or-set_other (set low giver (p * size + size)) b giver (min (get_or low b 0) (p * size)) 0 apart
        ∙ get_or-set_same low giver (p * size + size) 0 giver_in

    low-other : (c : ℕ) → c ≢ giver → c ≢ b → get_or low' c 0 ≡ get_or low c 0
    unfolding lowered
    low-other c d e =
        ap (λ (x : List ℕ). get_or x c 0) L
        ∙ get_or-set_other (set low giver (p * size + size)) b c (min (get_or low b 0) (p * size)) 0 e
        ∙ get_or-set_other low giver c (p * size + size) 0 d

    lows-given : (c q : ℕ) → q < 2 ^ k → q < get_or low' c 0 → get_or holder' q 0 ≢ c
    lows-given c q m n e = go (ℕ_discrete c b) (ℕ_discrete c giver) (dec_lt q (p * size)) (dec_lt q (p * size + size))
      where
        still : (p * size ≤ q → p * size + size ≤ q) → get_or holder q 0 ≡ c
        still o = sym (G.other q o) ∙ e

        go : Dec (c ≡ b) → Dec (c ≡ giver) → Dec (q < p * size) → Dec (q < p * size + size) → ⊥
        go (yes d) x y z =
            let less : q < min (get_or low b 0) (p * size) = omega (arith, ap (λ (v : ℕ). get_or low' v 0) d, low-receiver) in
            H.lows b q m (omega arith) (still (λ o. absurd (omega arith)) ∙ d)
        go (no d) (yes f) (yes y) z = none_before q m y (still (λ o. absurd (omega arith)) ∙ f)
        go (no d) (yes f) (no y) z =
            apart (sym f ∙ sym e ∙ G.taken q (omega arith) (omega (arith, ap (λ (v : ℕ). get_or low' v 0) f, low-giver)))
        go (no d) (no f) (yes y) z = H.lows c q m (omega (arith, low-other c f d)) (still (λ o. absurd (omega arith)))
        go (no d) (no f) (no y) (yes z) = d (sym e ∙ G.taken q (omega arith) z)
        go (no d) (no f) (no y) (no z) = H.lows c q m (omega (arith, low-other c f d)) (still (λ o. omega arith))

    pub holds-given : Holds T (record { len = l; value = place l p; backend = label T b } ∷ rs) holder' low'
    holds-given =
        record { known = known-given p small b b-known holder' G; holders = holders-given p small b b-known holder' G; lows = lows-given }

-- the rule `*` gives everything to one backend, and the others hold nothing
-- a listing of one value, also past its end
pub alike : (n b a : ℕ) → get_or (replicate n a) b a ≡ a
alike zero b a = refl
alike (suc n) zero a = refl
alike (suc n) (suc b) a = alike n b a

pub holds-first : (T : Targets) → T.k ≤ most_bits → (first : ℕ) → first < backends T
    → first ≡ argmax (λ b. get_or T.weights b 0) (length T.weights)
    → Holds T (first_rule T.labels T.weights) (replicate most_suffixes first) (replicate most_known 0)
unfolding first_rule matches label
holds-first T few first known e =
    record {
      known = λ p m. omega (arith, all p m);
      holders = λ p m.
          gives-matched star [] (place T.k p) (label T (get_or (replicate most_suffixes first) p 0))
          (eq-eqb (place T.k p % 2 ^ 0) 0 (mod-one (place T.k p)))
          ∙ eq-eqb star.backend (label T (get_or (replicate most_suffixes first) p 0)) (ap (label T) (sym (all p m ∙ e)));
      lows = λ b p m n d. omega (arith, alike most_known b 0);
    }
  where
    star : Rule
    star = record { len = 0; value = 0; backend = get_or T.labels (argmax (λ b. get_or T.weights b 0) (length T.weights)) nobody }

    all : (p : ℕ) → p < 2 ^ T.k → get_or (replicate most_suffixes first) p 0 ≡ first
    all p m = get_or-replicate most_suffixes p first 0 (omega (arith, pow-few T.k few))
