-- The list of a stage is as promised: its suffixes cover all places in order, each is one backend's, and none could be a larger one.
use Prim.Native.Nat.{ℕ, zero, suc, ◌+◌, ◌-◌, ◌*◌, ◌%◌, ◌^◌, ◌≤◌, ◌<◌}
use mathlib.Core.Bool.{Bool, true, false, not}
use mathlib.Core.List.{List, [], ◌∷◌, ◌++◌}
use mathlib.Core.Logic.{◌⊎◌, inl, inr}
use mathlib.Core.Path.{◌≡◌, refl, ap, sym, ◌∙◌, subst}
use native.Mathlib.Decide.{dec_lt}
use native.Mathlib.Nat.{zero-mul, one-mul, pow-succ', mod-lt, mod-eq_of_lt}
use native.Mathlib.Omega.{arith}
use lib.Arith.{digits_mod}
use lib.Dec.{eqb}
use lib.ListN.{length, get_or}
use lib.Pow.{pow_pos, pow_mono}
use borrow.Author.Tests.{eqb-true, eq-eqb}
use Rattle.numerals.specs.Pick.{pick}
use Rattle.numerals.specs.Suffix.{place}
use Rattle.numerals.specs.Sums.{all_to}
use Rattle.numerals.proofs.Place.{place-zero, place-lt, place-involution}
use Rattle.numerals.proofs.Searches.{clash}
use Rattle.numerals.proofs.Sums.{count-ext}
use Rattle.expansion.specs.FirstMatch.{is_rule, matches, first_match, differing, churn}
use Rattle.expansion.specs.declared.rule.Rule.{Rule}
use Rattle.expansion.proofs.FirstMatch.{rule-bits, is-rule, low-low}
use Rattle.expansion.proofs.Nodes.{covered-true, covered-at, rule-inside}
use Rattle.stages.specs.Stages.{Change, stage_at, stage_churn}
use Rattle.stages.specs.Lines.{one_holds, largest_of, stage_rules}
use Rattle.stages.specs.Promise.{In, Reordered, lowest_place, size, Tiles, OneLarger, Printed}
use Rattle.stages.proofs.LargestLines.{half-mod, left-from, right-from}

-- each rule of a list is so

unfoldable All : (Rule → Type 0) → List Rule → Type 0
All P [] = Unit {0}
All P (r ∷ rs) = P r × All P rs

all_append : (P : Rule → Type 0) (rs qs : List Rule) → All P rs → All P qs → All P (rs ++ qs)
unfolding All
all_append P [] qs a b = b
all_append P (r ∷ rs) qs a b = (a.0, all_append P rs qs a.1 b)

all-at : (P : Rule → Type 0) (rs : List Rule) → All P rs → (i : ℕ) → i < length rs → (d : Rule) → P (get_or rs i d)
unfolding All
all-at P [] a i l d = absurd (omega arith)
all-at P (r ∷ rs) a zero l d = a.0
all-at P (r ∷ rs) a (suc i) l d = all-at P rs a.1 i (omega arith) d

all_in : (P : Rule → Type 0) (rs : List Rule) → All P rs → (r : Rule) → In r rs → P r
all_in P rs a r n = subst P n.2 (all-at P rs a n.0 n.1 r)

-- one behind the other

tiles-append : (k a b c : ℕ) (rs qs : List Rule) → Tiles k a rs b → Tiles k b qs c → Tiles k a (rs ++ qs) c
unfolding Tiles
tiles-append k a b c [] qs t u = subst (λ (x : ℕ). Tiles k x qs c) (sym t) u
tiles-append k a b c (r ∷ rs) qs t u = (t.0, tiles-append k (a + size k r) b c rs qs t.1 u)

-- a rule's places begin where those of the one before it end
tiles-next : (k a b : ℕ) (rs : List Rule) → Tiles k a rs b → (i : ℕ) → suc i < length rs → (d : Rule)
    → lowest_place k (get_or rs (suc i) d) ≡ lowest_place k (get_or rs i d) + size k (get_or rs i d)
unfolding Tiles
tiles-next k a b [] t i l d = absurd (omega arith)
tiles-next k a b (r ∷ []) t i l d = absurd (omega arith)
tiles-next k a b (r ∷ q ∷ rs) t zero l d = t.1.0 ∙ ap (λ (x : ℕ). x + size k r) (sym t.0)
tiles-next k a b (r ∷ q ∷ rs) t (suc i) l d = tiles-next k (a + size k r) b (q ∷ rs) t.1 i (omega arith) d

-- the rule of a place
record At (k q : ℕ) (rs : List Rule) : Type 0 where
  pub rule : Rule
  pub among : In rule rs
  pub from : lowest_place k rule ≤ q
  pub to : q < lowest_place k rule + size k rule

in-cons : (r x : Rule) (rs : List Rule) → In r rs → In r (x ∷ rs)
in-cons r x rs n = (suc n.0, omega (arith, n.1), n.2)

tiles-at : (k a b q : ℕ) (rs : List Rule) → Tiles k a rs b → a ≤ q → q < b → At k q rs
unfolding Tiles
tiles-at k a b q [] t f o = absurd (omega arith)
tiles-at k a b q (r ∷ rs) t f o = go (dec_lt q (a + size k r)) (tiles-at k (a + size k r) b q rs t.1)
  where
    more : At k q rs → At k q (r ∷ rs)
    more h = record { rule = h.rule; among = in-cons h.rule r rs h.among; from = h.from; to = h.to }

    go : Dec (q < a + size k r) → (a + size k r ≤ q → q < b → At k q rs) → At k q (r ∷ rs)
    go (yes l) ih = record { rule = r; among = (0, omega arith, refl); from = omega (arith, t.0); to = omega (arith, t.0) }
    go (no l) ih = more (ih (omega arith) o)

-- if each rule that matches s has the backend b, and one does, the first match is b
first_any : (s b : ℕ) (qs : List Rule) → ((r : Rule) → In r qs → matches r s ≡ true → r.backend ≡ b)
    → (r : Rule) → In r qs → matches r s ≡ true → first_match qs s ≡ b
unfolding first_match
first_any s b [] each r n m = absurd (omega (arith, n.1))
first_any s b (x ∷ qs) each r n m = go (matches x s) refl n.0 n.1 n.2 (first_any s b qs (λ y h. each y (in-cons y x qs h)) r)
  where
    go : (t : Bool) → matches x s ≡ t → (i : ℕ) → i < length (x ∷ qs) → get_or (x ∷ qs) i r ≡ r
        → (In r qs → matches r s ≡ true → first_match qs s ≡ b) → pick t x.backend (first_match qs s) ≡ b
    go true e i l p ih = each x (0, omega arith, refl) e
    go false e zero l p ih = absurd (clash (matches r s) m (ap (λ (y : Rule). matches y s) (sym p) ∙ e))
    go false e (suc i) l p ih = ih (i, omega arith, p) m

match-bits : (r : Rule) (s : ℕ) → matches r s ≡ true → s % 2 ^ r.len ≡ r.value
unfolding matches
match-bits r s m = eqb-true (s % 2 ^ r.len) r.value m

-- a number of one bit more: that bit is 0 or 1
half : (m w : ℕ) → w < 2 ^ suc m → (w ≡ w % 2 ^ m) ⊎ (w ≡ w % 2 ^ m + 2 ^ m)
half m w l = go (dec_lt w (2 ^ m))
  where
    go : Dec (w < 2 ^ m) → (w ≡ w % 2 ^ m) ⊎ (w ≡ w % 2 ^ m + 2 ^ m)
    go (yes h) = inl (sym (mod-eq_of_lt h))
    go (no h) =
        let r : ℕ = w - 2 ^ m in
        let is : w ≡ 1 * 2 ^ m + r = omega (arith, one-mul (2 ^ m)) in
        let low : r < 2 ^ m = omega (arith, pow-succ' 2 m) in
        inr (omega (arith, ap (λ (x : ℕ). x % 2 ^ m) is ∙ digits_mod 1 low))

-- two unlike ones with the same lower bits are the only two
halves : (m x y z : ℕ) → x < 2 ^ suc m → y < 2 ^ suc m → z < 2 ^ suc m → x % 2 ^ m ≡ y % 2 ^ m → z % 2 ^ m ≡ x % 2 ^ m
    → (x ≡ y → ⊥) → (z ≡ x) ⊎ (z ≡ y)
halves m x y z a b c e f d = go (half m x a) (half m y b) (half m z c)
  where
    go : (x ≡ x % 2 ^ m) ⊎ (x ≡ x % 2 ^ m + 2 ^ m) → (y ≡ y % 2 ^ m) ⊎ (y ≡ y % 2 ^ m + 2 ^ m)
        → (z ≡ z % 2 ^ m) ⊎ (z ≡ z % 2 ^ m + 2 ^ m) → (z ≡ x) ⊎ (z ≡ y)
    go (inl p) (inl q) t = absurd (d (p ∙ e ∙ sym q))
    go (inr p) (inr q) t = absurd (d (omega arith))
    go (inl p) (inr q) (inl r) = inl (omega arith)
    go (inl p) (inr q) (inr r) = inr (omega arith)
    go (inr p) (inl q) (inl r) = inr (omega arith)
    go (inr p) (inl q) (inr r) = inl (omega arith)

-- of a stage that gives each of the 2^k suffixes s the backend f s
module _ (k : ℕ) (f : ℕ → ℕ) where
  -- what the suffix of l bits with the value v covers is the backend b's
  abbrev Holds : ℕ → ℕ → ℕ → Type 0
  Holds l v b = (s : ℕ) → s < 2 ^ k → s % 2 ^ l ≡ v → f s ≡ b

  -- the suffix with one bit less isn't one backend's, where there is one
  abbrev Largest : ℕ → ℕ → Type 0
  Largest l v = (m b : ℕ) → l ≡ suc m → Holds m (v % 2 ^ m) b → ⊥

  record Line (r : Rule) : Type 0 where
    pub formed : is_rule k r ≡ true
    pub holds : Holds r.len r.value r.backend
    pub largest : Largest r.len r.value

  module _ (n l v : ℕ) (sum : l + n ≡ k) (small : v < 2 ^ l) where
    bits : k - l ≡ n
    bits = omega arith

    one_holds_lem : one_holds f n l v ≡ true → Holds l v (f v)
    unfolding one_holds
    one_holds_lem e s m o =
        eqb-true (f s) (f v)
        (covered-at k l v (omega arith) (λ s. eqb (f s) (f v))
        (subst (λ (x : ℕ). all_to (2 ^ x) (λ j. eqb (f (v + j * 2 ^ l)) (f v)) ≡ true) (sym bits) e) s m o)

    none-holds : one_holds f n l v ≡ false → (b : ℕ) → Holds l v b → ⊥
    unfolding one_holds
    none-holds e b h =
        let below : 2 ^ l ≤ 2 ^ k = pow_mono (omega arith) in
        clash (all_to (2 ^ n) (λ j. eqb (f (v + j * 2 ^ l)) (f v)))
        (subst (λ (x : ℕ). all_to (2 ^ x) (λ j. eqb (f (v + j * 2 ^ l)) (f v)) ≡ true) bits
        (covered-true k l v (omega arith) (λ s. eqb (f s) (f v)) small (λ s m o. eq-eqb (f s) (f v) (h s m o ∙ sym (h v (omega arith) (mod-eq_of_lt small))))))
        e

    -- a line for it, where one backend holds it
    abbrev line : Rule
    line = record { len = l; value = v; backend = f v }

    line-tiles : Tiles k (place l v * 2 ^ n) (line ∷ []) (place l v * 2 ^ n + 2 ^ n)
    unfolding Tiles
    line-tiles = (ap (λ (x : ℕ). place l v * 2 ^ x) bits, ap (λ (x : ℕ). place l v * 2 ^ n + 2 ^ x) bits)

    line-good : Holds l v (f v) → Largest l v → All Line (line ∷ [])
    unfolding All
    line-good h g = (record { formed = is-rule k line (omega arith) small; holds = h; largest = g }, tt)

  module _ (n l v : ℕ) (sum : l + suc n ≡ k) (small : v < 2 ^ l) (split : one_holds f (suc n) l v ≡ false) where
    lower-largest : Largest (suc l) v
    lower-largest m b e h =
        let same : l ≡ m = omega arith in
        none-holds (suc n) l v sum small split b
        (subst (λ (x : ℕ). Holds l x b) (mod-eq_of_lt small) (subst (λ (x : ℕ). Holds x (v % 2 ^ x) b) (sym same) h))

    upper-largest : Largest (suc l) (v + 2 ^ l)
    upper-largest m b e h =
        let same : l ≡ m = omega arith in
        none-holds (suc n) l v sum small split b
        (subst (λ (x : ℕ). Holds l x b) (half-mod l v small) (subst (λ (x : ℕ). Holds x ((v + 2 ^ l) % 2 ^ x) b) (sym same) h))

  largest-tiles : (n l v : ℕ) → l + n ≡ k → v < 2 ^ l → Tiles k (place l v * 2 ^ n) (largest_of f n l v) (place l v * 2 ^ n + 2 ^ n)
  unfolding largest_of
  largest-tiles zero l v sum small = line-tiles zero l v sum small
  largest-tiles (suc n) l v sum small =
      go (one_holds f (suc n) l v)
      (largest-tiles n (suc l) v (omega arith) (omega (arith, pow-succ' 2 l)))
      (largest-tiles n (suc l) (v + 2 ^ l) (omega arith) (omega (arith, pow-succ' 2 l)))
    where
      go : (b : Bool)
          → Tiles k (place (suc l) v * 2 ^ n) (largest_of f n (suc l) v) (place (suc l) v * 2 ^ n + 2 ^ n)
          → Tiles k (place (suc l) (v + 2 ^ l) * 2 ^ n) (largest_of f n (suc l) (v + 2 ^ l)) (place (suc l) (v + 2 ^ l) * 2 ^ n + 2 ^ n)
          → Tiles k (place l v * 2 ^ suc n)
          (pick b (record { len = l; value = v; backend = f v } ∷ []) (largest_of f n (suc l) v ++ largest_of f n (suc l) (v + 2 ^ l)))
          (place l v * 2 ^ suc n + 2 ^ suc n)
      go true t u = line-tiles (suc n) l v sum small
      go false t u =
          let p : ℕ = place l v * 2 ^ suc n in
          let rs = largest_of f n (suc l) v in
          let qs = largest_of f n (suc l) (v + 2 ^ l) in
          let end : p + 2 ^ n + 2 ^ n ≡ p + 2 ^ suc n = omega (arith, pow-succ' 2 n) in
          tiles-append k p (p + 2 ^ n) (p + 2 ^ suc n) rs qs
          (subst (λ (x : ℕ). Tiles k x rs (x + 2 ^ n)) (left-from l v small n) t)
          (subst (λ (x : ℕ). Tiles k (p + 2 ^ n) qs x) end (subst (λ (x : ℕ). Tiles k x qs (x + 2 ^ n)) (right-from l v small n) u))

  largest-lines : (n l v : ℕ) → l + n ≡ k → v < 2 ^ l → Largest l v → All Line (largest_of f n l v)
  unfolding largest_of
  largest-lines zero l v sum small g =
      line-good zero l v sum small (λ s m o. ap f (sym (mod-eq_of_lt (subst (λ (x : ℕ). s < 2 ^ x) (omega arith) m)) ∙ o)) g
  largest-lines (suc n) l v sum small g =
      go (one_holds f (suc n) l v) refl
      (largest-lines n (suc l) v (omega arith) (omega (arith, pow-succ' 2 l)))
      (largest-lines n (suc l) (v + 2 ^ l) (omega arith) (omega (arith, pow-succ' 2 l)))
    where
      go : (b : Bool) → one_holds f (suc n) l v ≡ b
          → (Largest (suc l) v → All Line (largest_of f n (suc l) v))
          → (Largest (suc l) (v + 2 ^ l) → All Line (largest_of f n (suc l) (v + 2 ^ l)))
          → All Line (pick b (record { len = l; value = v; backend = f v } ∷ []) (largest_of f n (suc l) v ++ largest_of f n (suc l) (v + 2 ^ l)))
      go true e t u = line-good (suc n) l v sum small (one_holds_lem (suc n) l v sum small e) g
      go false e t u =
          all_append Line (largest_of f n (suc l) v) (largest_of f n (suc l) (v + 2 ^ l))
          (t (lower-largest n l v sum small e)) (u (upper-largest n l v sum small e))

  -- neighbours of one backend that are halves of one suffix
  neighbours : (a b : Rule) → Line a → Line b → lowest_place k b ≡ lowest_place k a + size k a → OneLarger a b → ⊥
  neighbours a b A B next o =
      A.largest m a.backend (omega arith) (λ s l e. go s l (halves m a.value b.value (s % 2 ^ suc m)
      (subst (λ (x : ℕ). a.value < 2 ^ x) long (rule-bits k a A.formed))
      (subst (λ (x : ℕ). b.value < 2 ^ x) (sym o.long ∙ long) (rule-bits k b B.formed))
      (mod-lt s (pow_pos (suc m)))
      (o.half ∙ ap (λ (x : ℕ). b.value % 2 ^ (x - 1)) (sym o.long))
      (low-low s m (suc m) (omega arith) ∙ e)
      unlike))
    where
      m : ℕ
      m = a.len - 1

      long : a.len ≡ suc (a.len - 1)
      long = omega (arith, o.some)

      unlike : a.value ≡ b.value → ⊥
      unlike e =
          let same : lowest_place k b ≡ lowest_place k a = ap (λ (x : ℕ). place x b.value * 2 ^ (k - x)) (sym o.long)
          ∙ ap (λ (x : ℕ). place a.len x * 2 ^ (k - a.len)) (sym e) in
          omega (arith, pow_pos (k - a.len))

      go : (s : ℕ) → s < 2 ^ k → (s % 2 ^ suc (a.len - 1) ≡ a.value) ⊎ (s % 2 ^ suc (a.len - 1) ≡ b.value) → f s ≡ a.backend
      go s l (inl e) = A.holds s l (ap (λ (x : ℕ). s % 2 ^ x) long ∙ e)
      go s l (inr e) = B.holds s l (ap (λ (x : ℕ). s % 2 ^ x) (sym o.long ∙ long) ∙ e) ∙ sym o.held

  pub printed : Printed k f (largest_of f k 0 0)
  printed =
      record {
        formed = λ i l d. (all-at Line rs lines i l d).formed;
        any_order = λ qs o s l. any qs o s l (tiles-at k 0 (2 ^ k) (place k s) rs tiles (omega arith) (place-lt k s));
        apart = λ i l d. neighbours (get_or rs i d) (get_or rs (suc i) d) (all-at Line rs lines i (omega arith) d) (all-at Line rs lines (suc i) l d)
            (tiles-next k 0 (2 ^ k) rs tiles i l d);
        tiled = tiles;
      }
    where
      rs : List Rule
      rs = largest_of f k 0 0

      lines : All Line rs
      lines = largest-lines k 0 0 (omega arith) (omega arith) (λ m b e h. omega arith)

      tiles : Tiles k 0 rs (2 ^ k)
      tiles =
          let zeroth : place 0 0 * 2 ^ k ≡ 0 = ap (λ (x : ℕ). x * 2 ^ k) (place-zero 0) ∙ zero-mul (2 ^ k) in
          let end : 0 + 2 ^ k ≡ 2 ^ k = omega arith in
          subst (λ (x : ℕ). Tiles k 0 rs x) end
          (subst (λ (x : ℕ). Tiles k x rs (x + 2 ^ k)) zeroth (largest-tiles k 0 0 (omega arith) (omega arith)))

      any : (qs : List Rule) → Reordered rs qs → (s : ℕ) → s < 2 ^ k → At k (place k s) rs → first_match qs s ≡ f s
      any qs o s l h =
          first_any s (f s) qs (λ r n m. sym (held r (all_in Line rs lines r (o.only r n)) m)) h.rule (o.each h.rule h.among)
          (subst (λ (x : ℕ). matches h.rule x ≡ true) (place-involution k s l)
          (rule-inside k h.rule (all_in Line rs lines h.rule h.among).formed (place k s) (place-lt k s) h.from h.to))
        where
          held : (r : Rule) → Line r → matches r s ≡ true → f s ≡ r.backend
          held r L m = L.holds s l (match-bits r s m)

pub stage-printed : (C : Change) (p : ℕ) → Printed C.k (stage_at C p) (stage_rules C p)
unfolding stage_rules
stage-printed C p = printed C.k (stage_at C p)

stage-first : (C : Change) (p s : ℕ) → s < 2 ^ C.k → first_match (stage_rules C p) s ≡ stage_at C p s
stage-first C p s l = (stage-printed C p).any_order (stage_rules C p) (record { each = λ r n. n; only = λ r n. n }) s l

pub stage-counted : (C : Change) (p q : ℕ) → stage_churn C p q ≡ churn C.k (stage_rules C p) (stage_rules C q)
unfolding stage_churn churn differing
stage-counted C p q =
    count-ext (2 ^ C.k) (λ s. not (eqb (stage_at C p s) (stage_at C q s))) (λ s. not (eqb (first_match (stage_rules C p) s) (first_match (stage_rules C q) s)))
    (λ s l. rw (stage-first C p s l, stage-first C q s l))
