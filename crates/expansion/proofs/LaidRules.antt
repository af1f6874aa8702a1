-- Kept rules laid on the tree and taken back: the listing of holders says who holds what after each, and the counts are the shares by first match.
use Prim.Native.Nat.{ℕ, suc, ◌+◌, ◌-◌, ◌*◌, ◌%◌, ◌^◌, ◌≤◌, ◌<◌, max}
use mathlib.Core.Bool.{Bool, true, false}
use mathlib.Core.List.{List, [], ◌∷◌}
use mathlib.Core.Logic.{◌≢◌}
use mathlib.Core.Path.{◌≡◌, refl, ap, sym, ◌∙◌, subst}
use native.Mathlib.Nat.{mod-one}
use native.Mathlib.Decide.{ℕ_discrete}
use native.Mathlib.Omega.{arith}
use lib.Dec.{eqb}
use lib.ListN.{length, get_or, set, replicate, length-replicate, length-set, get_or-replicate}
use lib.Pow.{pow_pos}
use lib.Seq.{get_or-set_same, get_or-set_other}
use borrow.Author.Tests.{eqb-true, eq-eqb, ne_eqb}
use Rattle.numerals.specs.Limits.{most_bits, most_known, most_suffixes}
use Rattle.numerals.specs.Suffix.{place}
use Rattle.numerals.specs.Sums.{count_to}
use Rattle.numerals.specs.Pick.{pick}
use Rattle.numerals.proofs.Powers.{pow-few}
use Rattle.numerals.proofs.Place.{place-lt}
use Rattle.numerals.proofs.Sums.{count-ext, count-le, sum-le, bit}
use Rattle.expansion.specs.FirstMatch.{nobody, is_rule, matches, first_match, gives, share}
use Rattle.expansion.specs.Imbalance.{backends, label}
use Rattle.expansion.specs.Steps.{is_whole}
use Rattle.expansion.specs.Resume.{longest}
use Rattle.expansion.specs.Inner.Sound.{Lengths, Distinct}
use Rattle.expansion.specs.Inner.Lists.{no_rule, newest_first}
use Rattle.expansion.specs.Inner.Holders.{Holds, Given}
use Rattle.expansion.specs.Inner.OldList.{Known}
use Rattle.expansion.specs.Inner.Known.{place_in, Ascending}
use Rattle.expansion.specs.Inner.Laying.{passed_on, Passable, Placed, Held, Had}
use Rattle.expansion.specs.Inner.Run.{labelled_by}
use Rattle.expansion.specs.declared.rule.Rule.{Rule}
use Rattle.expansion.proofs.Base.{star-share}
use Rattle.expansion.proofs.Count.{covers, whole-gives, whole-of-one, share-giver, share-receiver, share_other}
use Rattle.expansion.proofs.FirstMatch.{rule-short, rule-bits, gives-matched, gives-passed}
use Rattle.expansion.proofs.Holdings.{alike}
use Rattle.expansion.proofs.Ids.{rises-distinct}
use Rattle.expansion.proofs.KnownIds.{above-rises, place_found}
use Rattle.expansion.proofs.Nodes.{rule-place, rule-inside, given-at}

-- the longest of one rule more
pub longest-more : (rs : List Rule) (c : ℕ) → longest (newest_first rs (c + 1)) ≡ max (get_or rs c no_rule).len (longest (newest_first rs c))
unfolding longest newest_first
longest-more rs c = let e : c + 1 ≡ suc c = omega arith in ap (λ (i : ℕ). longest (newest_first rs i)) e

-- of the lows nothing is known
abbrev pub no_lows : List ℕ
no_lows = replicate most_known 0

-- who holds what, by the labels of the run
pub holds-held : (k : ℕ) (labels ws : List ℕ) (rs : List Rule) (holder shares : List ℕ) → length labels ≡ length ws → Held k labels rs holder shares
    → Holds (labelled_by k labels ws) rs holder no_lows
unfolding gives backends label
holds-held k labels ws rs holder shares paired H =
    record {
      known = λ p m. omega (arith, H.known p m);
      holders = λ p m. eq-eqb (first_match rs (place k p)) (get_or labels (get_or holder p 0) nobody) (H.holders p m);
      lows = λ b p m n. absurd (omega (arith, alike most_known b 0));
    }

-- backends by their labels, and by their places
pub same-label : (labels : List ℕ) (n : ℕ) → Distinct (λ b. get_or labels b nobody) n → (b c : ℕ) → b < n → c < n
    → eqb (get_or labels b nobody) (get_or labels c nobody) ≡ eqb b c
same-label labels n D b c l m = go (ℕ_discrete b c)
  where
    go : Dec (b ≡ c) → eqb (get_or labels b nobody) (get_or labels c nobody) ≡ eqb b c
    go (yes e) = eq-eqb _ _ (ap (λ (x : ℕ). get_or labels x nobody) e) ∙ sym (eq-eqb b c e)
    go (no d) = ne_eqb _ _ (λ e. d (D b c l m e)) ∙ sym (ne_eqb b c d)

-- ascending labels differ
module _ (labels : List ℕ) (A : Ascending labels) where
  labels-differ : Distinct (λ b. get_or labels b nobody) (length labels)
  labels-differ = rises-distinct labels (length labels) (above-rises labels A.above)

  -- a rule for one of them is for the one at its id's place
  pub placed : (k : ℕ) (r : Rule) → Known k labels r → Placed k labels r (place_in r.backend labels)
  placed k r K =
      let p = place_found 0 r.backend labels A.above K.known in
      record { rule = K.rule; inside = p.0; is = p.1 }

-- counts that were passed on

part-is : (size b c : ℕ) → b ≡ c → pick (eqb b c) size 0 ≡ size
part-is size b c e = ap (λ (t : Bool). pick {A = ℕ} t size 0) (eq-eqb b c e)

part-not : (size b c : ℕ) → b ≢ c → pick (eqb b c) size 0 ≡ 0
part-not size b c d = ap (λ (t : Bool). pick {A = ℕ} t size 0) (ne_eqb b c d)

module _ (shares : List ℕ) (from to size : ℕ) (long : length shares ≡ most_known) (from_known : from < most_known) (to_known : to < most_known)
    (enough : size ≤ get_or shares from 0) where
  abbrev less : List ℕ
  less = set shares from (get_or shares from 0 - size)

  abbrev bit-of : ℕ → ℕ → ℕ
  bit-of b c = pick (eqb b c) size 0

  less-at : (c : ℕ) → get_or less c 0 + bit-of from c ≡ get_or shares c 0
  less-at c = go (ℕ_discrete c from)
    where
      go : Dec (c ≡ from) → get_or less c 0 + bit-of from c ≡ get_or shares c 0
      go (yes e) =
          omega (
            arith,
            ap (λ (x : ℕ). get_or less x 0) e,
            get_or-set_same shares from (get_or shares from 0 - size) 0 (omega arith),
            part-is size from c (sym e),
            ap (λ (x : ℕ). get_or shares x 0) e,
          )
      go (no d) = omega (arith, get_or-set_other shares from c (get_or shares from 0 - size) 0 d, part-not size from c (λ e. d (sym e)))

  passed-at : (c : ℕ) → get_or (passed_on shares from to size) c 0 + bit-of from c ≡ get_or shares c 0 + bit-of to c
  passed-at c = go (ℕ_discrete c to)
    where
      go : Dec (c ≡ to) → get_or (passed_on shares from to size) c 0 + bit-of from c ≡ get_or shares c 0 + bit-of to c
      go (yes e) =
          omega (
            arith,
            ap (λ (x : ℕ). get_or (passed_on shares from to size) x 0) e,
            get_or-set_same less to (get_or less to 0 + size) 0 (omega (arith, length-set shares from (get_or shares from 0 - size))),
            part-is size to c (sym e),
            ap (λ (x : ℕ). get_or less x 0) e,
            less-at c,
          )
      go (no d) = omega (arith, get_or-set_other less to c (get_or less to 0 + size) 0 d, part-not size to c (λ e. d (sym e)), less-at c)

  passed-long : length (passed_on shares from to size) ≡ most_known
  passed-long = length-set less to (get_or less to 0 + size) ∙ length-set shares from (get_or shares from 0 - size) ∙ long

  pub less-few : (c : ℕ) → get_or less c 0 ≤ get_or shares c 0
  less-few c = omega (arith, less-at c)

-- a rule of k bits
module _ (k : ℕ) (r : Rule) (K : is_rule k r ≡ true) where
  abbrev size : ℕ
  size = 2 ^ (k - r.len)

  abbrev at : ℕ
  at = place r.len r.value * 2 ^ (k - r.len)

  short : r.len ≤ k
  short = rule-short k r K

  bits : r.value < 2 ^ r.len
  bits = rule-bits k r K

  -- the places of the suffix are in the listing
  pub at-inside : at < 2 ^ k
  at-inside = omega (arith, rule-place k r K 0 (pow_pos (k - r.len)))

  at-few : k ≤ most_bits → at + size ≤ most_suffixes
  at-few few =
      let some = pow_pos (k - r.len) in
      let last : size - 1 < size = omega arith in
      omega (arith, rule-place k r K (size - 1) last, pow-few k few)

  -- the rule matches the suffix at its first place
  at-matches : matches r (place k at) ≡ true
  at-matches = rule-inside k r K at at-inside (omega arith) (omega (arith, pow_pos (k - r.len)))

  -- who has all that the suffix covers has as much
  most-of : (t : ℕ → Bool) → ((s : ℕ) → s < 2 ^ k → matches r s ≡ true → t s ≡ true) → size ≤ count_to (2 ^ k) t
  unfolding count_to
  most-of t h =
      omega (arith, covers k r short bits, sum-le (2 ^ k) (λ s. bit (matches r s)) (λ s. bit (t s)) (λ s l. le s l (matches r s) refl))
    where
      le : (s : ℕ) → s < 2 ^ k → (m : Bool) → matches r s ≡ m → bit (matches r s) ≤ bit (t s)
      le s l true e = omega (arith, ap bit e, ap bit (h s l e))
      le s l false e = omega (arith, ap bit e)

  -- whoever gets the suffix, every place has a holder
  known-after : (n : ℕ) (holder holder' : List ℕ) (b : ℕ) → b < n → Given at size b holder holder'
      → ((q : ℕ) → q < 2 ^ k → get_or holder q 0 < n) → (q : ℕ) → q < 2 ^ k → get_or holder' q 0 < n
  known-after n holder holder' b l G h q m = rw (given-at k r K b holder holder' G q m) (go (matches r (place k q)))
    where
      go : (t : Bool) → pick t b (get_or holder q 0) < n
      go true = l
      go false = h q m

  -- the rule before others, over a suffix that one backend has wholly
  module _ (rs : List Rule) (g : ℕ) (W : is_whole k rs r.len r.value g ≡ true) where
    given : (s : ℕ) → s < 2 ^ k → matches r s ≡ true → first_match rs s ≡ g
    unfolding gives
    given s l e = eqb-true (first_match rs s) g (whole-gives k rs r g short W s l e)

    same-share : g ≡ r.backend → (c : ℕ) → share k (r ∷ rs) c ≡ share k rs c
    unfolding share gives
    same-share e c = count-ext (2 ^ k) (λ s. gives (r ∷ rs) s c) (λ s. gives rs s c) (λ s l. go s l (matches r s) refl)
      where
        go : (s : ℕ) → s < 2 ^ k → (m : Bool) → matches r s ≡ m → gives (r ∷ rs) s c ≡ gives rs s c
        go s l true h = gives-matched r rs s c h ∙ ap (λ (x : ℕ). eqb x c) (sym (given s l h ∙ e))
        go s l false h = gives-passed r rs s c h

    -- what the suffix covers goes from one to the other, and nothing else
    share-moved : (c : ℕ) → share k (r ∷ rs) c + pick (eqb g c) size 0 ≡ share k rs c + pick (eqb r.backend c) size 0
    share-moved c = go (ℕ_discrete g r.backend) (ℕ_discrete c g) (ℕ_discrete c r.backend)
      where
        is : (b : ℕ) → c ≡ b → pick (eqb b c) size 0 ≡ size
        is b e = part-is size b c (sym e)

        not : (b : ℕ) → c ≢ b → pick (eqb b c) size 0 ≡ 0
        not b d = part-not size b c (λ e. d (sym e))

        go : Dec (g ≡ r.backend) → Dec (c ≡ g) → Dec (c ≡ r.backend)
            → share k (r ∷ rs) c + pick (eqb g c) size 0 ≡ share k rs c + pick (eqb r.backend c) size 0
        go (yes e) x y = omega (arith, same-share e c, ap (λ (b : ℕ). pick {A = ℕ} (eqb b c) size 0) e)
        go (no d) (yes e) (yes f) = absurd (d (sym e ∙ f))
        go (no d) (yes e) (no f) =
            omega (arith, is g e, not r.backend f, share-giver k rs r g short bits W d, ap (share k (r ∷ rs)) e, ap (share k rs) e)
        go (no d) (no e) (yes f) =
            omega (arith, not g e, is r.backend f, share-receiver k rs r g short bits W d, ap (share k (r ∷ rs)) f, ap (share k rs) f)
        go (no d) (no e) (no f) = omega (arith, not g e, not r.backend f, share_other k rs r g short bits W d c e f)

  -- backends with ascending labels: one rule more, and one rule less
  module _ (few : k ≤ most_bits) (labels : List ℕ) (A : Ascending labels) (rs : List Rule) (holder shares : List ℕ) where
    abbrev named : ℕ → ℕ
    named b = get_or labels b nobody

    -- no rule is longer, so whoever has the first place has all
    pub had-first : Held k labels rs holder shares → Lengths r.len rs → Had k labels rs r (get_or holder at 0)
    unfolding gives matches
    had-first H short-all =
        let one : first_match rs (place k at) ≡ named (get_or holder at 0) = H.holders at at-inside in
        let low : place k at % 2 ^ r.len ≡ r.value = eqb-true (place k at % 2 ^ r.len) r.value at-matches in
        record {
          known = H.known at at-inside;
          wholly =
              subst (λ (v : ℕ). is_whole k rs r.len v (named (get_or holder at 0)) ≡ true) low
              (whole-of-one k r.len rs (named (get_or holder at 0)) (place k at) short-all (eq-eqb _ _ one));
        }

    -- the rule is the first match at its first place, so its backend has that
    pub has_first : Held k labels (r ∷ rs) holder shares → Placed k labels r (get_or holder at 0)
    unfolding first_match
    has_first H =
        record {
          rule = K;
          inside = H.known at at-inside;
          is = sym (ap (λ (t : Bool). pick t r.backend (first_match rs (place k at))) at-matches) ∙ H.holders at at-inside;
        }

    few-shares : (os : List Rule) → Held k labels os holder shares → (b : ℕ) → b < length labels → get_or shares b 0 ≤ most_suffixes
    unfolding share
    few-shares os H b l = omega (arith, H.each b l, count-le (2 ^ k) (λ s. gives os s (named b)), pow-few k few)

    -- the suffix between the backend at place b, which had it, and the rule's at place `to`
    module _ (b to : ℕ) (B : Had k labels rs r b) (P : Placed k labels r to) where
      suffixes : (c : ℕ) → c < length labels
          → share k (r ∷ rs) (named c) + pick (eqb b c) size 0 ≡ share k rs (named c) + pick (eqb to c) size 0
      suffixes c l =
          omega (
            arith,
            share-moved rs (named b) B.wholly (named c),
            ap (λ (t : Bool). pick {A = ℕ} t size 0) (same-label labels (length labels) (labels-differ labels A) b c B.known l),
            ap (λ (x : ℕ). pick {A = ℕ} (eqb x (named c)) size 0) P.is,
            ap (λ (t : Bool). pick {A = ℕ} t size 0) (same-label labels (length labels) (labels-differ labels A) to c P.inside l),
          )

      pub lay-passable : Held k labels rs holder shares → Passable holder shares at size b to
      unfolding share gives
      lay-passable H =
          record {
            inside = omega (arith, at-few few, H.wide);
            long = H.long;
            from_known = omega (arith, B.known, A.few);
            to_known = omega (arith, P.inside, A.few);
            enough =
                omega (
                  arith,
                  H.each b B.known,
                  most-of (λ s. gives rs s (named b)) (λ s l e. whole-gives k rs r (named b) short B.wholly s l e),
                );
            few = (few-shares rs H b B.known, few-shares rs H to P.inside);
          }

      pub back-passable : Held k labels (r ∷ rs) holder shares → Passable holder shares at size to b
      unfolding share
      back-passable H =
          record {
            inside = omega (arith, at-few few, H.wide);
            long = H.long;
            from_known = omega (arith, P.inside, A.few);
            to_known = omega (arith, B.known, A.few);
            enough =
                omega (
                  arith,
                  H.each to P.inside,
                  ap (share k (r ∷ rs)) P.is,
                  most-of (λ s. gives (r ∷ rs) s r.backend) (λ s l e.
                      gives-matched r rs s r.backend e ∙ eq-eqb r.backend r.backend refl),
                );
            few = (few-shares (r ∷ rs) H to P.inside, few-shares (r ∷ rs) H b B.known);
          }

      module _ (holder' shares' : List ℕ) where
        pub held-laid : Held k labels rs holder shares → Given at size to holder holder' → shares' ≡ passed_on shares b to size
            → Held k labels (r ∷ rs) holder' shares'
        unfolding first_match
        held-laid H G e =
            let Q = lay-passable H in
            record {
              wide = G.long ∙ H.wide;
              long = ap length e ∙ passed-long shares b to size Q.long Q.from_known Q.to_known Q.enough;
              known = known-after (length labels) holder holder' to P.inside G H.known;
              holders = λ q m. holders q m (matches r (place k q)) refl;
              each = λ c l.
                  omega (
                    arith,
                    ap (λ (xs : List ℕ). get_or xs c 0) e,
                    passed-at shares b to size Q.long Q.from_known Q.to_known Q.enough c,
                    H.each c l,
                    suffixes c l,
                  );
            }
          where
            holders : (q : ℕ) → q < 2 ^ k → (t : Bool) → matches r (place k q) ≡ t → first_match (r ∷ rs) (place k q) ≡ named (get_or holder' q 0)
            holders q m true e = rw (given-at k r K to holder holder' G q m, e) P.is
            holders q m false e = rw (given-at k r K to holder holder' G q m, e) (H.holders q m)

        pub held_back : Held k labels (r ∷ rs) holder shares → Given at size b holder holder' → shares' ≡ passed_on shares to b size
            → Held k labels rs holder' shares'
        unfolding first_match
        held_back H G e =
            let Q = back-passable H in
            record {
              wide = G.long ∙ H.wide;
              long = ap length e ∙ passed-long shares to b size Q.long Q.from_known Q.to_known Q.enough;
              known = known-after (length labels) holder holder' b B.known G H.known;
              holders = λ q m. holders q m (matches r (place k q)) refl;
              each = λ c l.
                  omega (
                    arith,
                    ap (λ (xs : List ℕ). get_or xs c 0) e,
                    passed-at shares to b size Q.long Q.from_known Q.to_known Q.enough c,
                    H.each c l,
                    suffixes c l,
                  );
            }
          where
            holders : (q : ℕ) → q < 2 ^ k → (t : Bool) → matches r (place k q) ≡ t → first_match rs (place k q) ≡ named (get_or holder' q 0)
            holders q m true e = rw (given-at k r K b holder holder' G q m, e) (given rs (named b) B.wholly (place k q) (place-lt k q) e)
            holders q m false e =
                sym (ap (λ (t : Bool). pick t r.backend (first_match rs (place k q))) e)
                ∙ H.holders q m
                ∙ ap named (sym (given-at k r K b holder holder' G q m ∙ ap (λ (t : Bool). pick t b (get_or holder q 0)) e))

  -- the rule `*` alone
  pub held-star : k ≤ most_bits → r.len ≡ 0 → (labels : List ℕ) → Ascending labels → (to : ℕ) → Placed k labels r to
      → Held k labels (r ∷ []) (replicate most_suffixes to) (set (replicate most_known 0) to (2 ^ k))
  unfolding first_match matches
  held-star few star labels A to P =
      record {
        wide = length-replicate {A = ℕ} most_suffixes to;
        long = length-set (replicate most_known 0) to (2 ^ k) ∙ length-replicate {A = ℕ} most_known 0;
        known = λ q m. omega (arith, all q m, P.inside);
        holders = λ q m. one (place k q) ∙ P.is ∙ ap (λ (b : ℕ). get_or labels b nobody) (sym (all q m));
        each = λ b l. each b l (ℕ_discrete b to);
      }
    where
      all : (q : ℕ) → q < 2 ^ k → get_or (replicate most_suffixes to) q 0 ≡ to
      all q m = get_or-replicate most_suffixes q to 0 (omega (arith, pow-few k few))

      is-star : record { len = 0; value = 0; backend = r.backend } ≡ r
      is-star =
          let none : r.value ≡ 0 = omega (arith, bits, ap (λ (l : ℕ). 2 ^ l) star) in
          ap (λ (l : ℕ). record { len = l; value = 0; backend = r.backend }) (sym star)
          ∙ ap (λ (v : ℕ). record { len = r.len; value = v; backend = r.backend }) (sym none)

      one : (s : ℕ) → first_match (r ∷ []) s ≡ r.backend
      one s =
          subst (λ (o : Rule). first_match (o ∷ []) s ≡ o.backend) is-star
          (ap (λ (t : Bool). pick t r.backend nobody) (eq-eqb (s % 2 ^ 0) 0 (mod-one s)))

      shares : (c : ℕ) → share k (r ∷ []) c ≡ pick (eqb r.backend c) (2 ^ k) 0
      shares c = subst (λ (o : Rule). share k (o ∷ []) c ≡ pick (eqb o.backend c) (2 ^ k) 0) is-star (star-share k r.backend c)

      share-at : (b : ℕ) → b < length labels → (t : Bool) → eqb to b ≡ t → share k (r ∷ []) (get_or labels b nobody) ≡ pick t (2 ^ k) 0
      share-at b l t e =
          shares (get_or labels b nobody)
          ∙ ap (λ (x : ℕ). pick {A = ℕ} (eqb x (get_or labels b nobody)) (2 ^ k) 0) P.is
          ∙ ap (λ (u : Bool). pick {A = ℕ} u (2 ^ k) 0) (same-label labels (length labels) (labels-differ labels A) to b P.inside l ∙ e)

      each : (b : ℕ) → b < length labels → Dec (b ≡ to) → get_or (set (replicate most_known 0) to (2 ^ k)) b 0 ≡ share k (r ∷ []) (get_or labels b nobody)
      each b l (yes e) =
          ap (λ (x : ℕ). get_or (set (replicate most_known 0) to (2 ^ k)) x 0) e
          ∙ get_or-set_same (replicate most_known 0) to (2 ^ k) 0 (omega (arith, P.inside, A.few, length-replicate {A = ℕ} most_known 0))
          ∙ sym (share-at b l true (eq-eqb to b (sym e)))
      each b l (no d) =
          get_or-set_other (replicate most_known 0) to b (2 ^ k) 0 d
          ∙ alike most_known b 0
          ∙ sym (share-at b l false (ne_eqb to b (λ e. d (sym e))))
