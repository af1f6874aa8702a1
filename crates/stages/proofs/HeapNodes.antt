-- Laws of the heap of nodes: numbers of nodes, filling it from the last number on, and the path from a place upwards.
use Prim.Native.Nat.{ℕ, zero, suc, ◌+◌, ◌-◌, ◌*◌, ◌/◌, ◌%◌, ◌^◌, ◌≤◌, ◌<◌}
use mathlib.Core.Bool.{Bool, true, false}
use mathlib.Core.List.{List}
use mathlib.Core.Path.{◌≡◌, refl, ap, sym, ◌∙◌, subst}
use native.Mathlib.Decide.{ℕ_discrete, dec_lt}
use native.Mathlib.Nat.{pow-succ', div-add-mod', mod-lt, add_comm}
use native.Mathlib.Omega.{arith}
use lib.Dec.{eqb}
use lib.ListN.{length, get_or, set, length-set}
use lib.Pow.{pow_pos, pow_mono, shr-shr}
use lib.Seq.{get_or-set_same, get_or-set_other}
use borrow.Author.Tests.{ne_eqb}
use Rattle.numerals.specs.Limits.{most_bits, most_suffixes}
use Rattle.numerals.specs.Pick.{pick, both}
use Rattle.numerals.proofs.Choice.{both_false}
use Rattle.numerals.proofs.Powers.{pow-few}
use Rattle.numerals.proofs.Searches.{both_true, clash, largest-unique}
use Rattle.stages.specs.Inner.Nodes.{cut_at, uniform, lines_at, joined, node_count, Nodes, height_at}
use Rattle.stages.proofs.StageChurn.{eqb-sym}
use Rattle.stages.proofs.NodeLaws.{cut_below, cut-from, path-lt, left-start, right-start, uniform-inside, uniform-halves, height-is}
use Rattle.stages.proofs.NodeLaws.{lines-leaf, lines-some, lines-few, lines-one, one-lines, lines-joined, lines-ext}

-- the numbers of the nodes of a height

pub level : (k n : ℕ) → n < k → 2 ^ (k - n) ≡ 2 * 2 ^ (k - suc n)
level k n h =
    let e : k - n ≡ suc (k - suc n) = omega arith in
    ap (λ (x : ℕ). 2 ^ x) e ∙ pow-succ' 2 (k - suc n)

pub number_lt : (k n q : ℕ) → q < 2 ^ (k - n) → 2 ^ (k - n) + q < 2 * 2 ^ k
number_lt k n q l =
    let less : k - n ≤ k = omega arith in
    omega (arith, pow_mono less)

-- only a leaf's is 2 ^ k or more
leaf-number : (k n q : ℕ) → n ≤ k → q < 2 ^ (k - n) → 2 ^ k ≤ 2 ^ (k - n) + q → n ≡ 0
leaf-number k zero q h l m = refl
leaf-number k (suc n) q h l m =
    let less : k - n ≤ k = omega arith in
    absurd (omega (arith, level k n h, pow_mono less))

pub leaf-level : (k : ℕ) → 2 ^ (k - 0) ≡ 2 ^ k
leaf-level k = let e : k - 0 ≡ k = omega arith in ap (λ (x : ℕ). 2 ^ x) e

pub first-place : (q : ℕ) → q * 2 ^ 0 ≡ q
first-place q = omega arith

-- each number is a node's
pub find : (k i : ℕ) → 1 ≤ i → i < 2 * 2 ^ k → (n : ℕ) × (q : ℕ) × (n ≤ k) × (q < 2 ^ (k - n)) × (2 ^ (k - n) + q ≡ i)
find zero i some l = (0, 0, omega arith, omega arith, omega arith)
find (suc k) i some l = go (dec_lt i (2 ^ suc k)) (λ m. find k i some m)
  where
    go : Dec (i < 2 ^ suc k)
        → (i < 2 * 2 ^ k → (n : ℕ) × (q : ℕ) × (n ≤ k) × (q < 2 ^ (k - n)) × (2 ^ (k - n) + q ≡ i))
        → (n : ℕ) × (q : ℕ) × (n ≤ suc k) × (q < 2 ^ (suc k - n)) × (2 ^ (suc k - n) + q ≡ i)
    go (yes m) ih =
        let h = ih (omega (arith, pow-succ' 2 k)) in
        let same : suc k - suc h.0 ≡ k - h.0 = omega arith in
        let e : 2 ^ (suc k - suc h.0) ≡ 2 ^ (k - h.0) = ap (λ (x : ℕ). 2 ^ x) same in
        (suc h.0, h.1, omega (arith, h.2), omega (arith, h.3), omega (arith, h.4))
    go (no m) ih = (0, i - 2 ^ suc k, omega arith, omega (arith, leaf-level (suc k)), omega (arith, leaf-level (suc k)))

-- filling

pub nodes-none : (k : ℕ) (g : ℕ → ℕ) (from : ℕ) (held lines : List ℕ) → 2 * 2 ^ k ≤ from → length held ≡ node_count → length lines ≡ node_count
    → Nodes k g from held lines
nodes-none k g from held lines l x y =
    record {
      held_long = x;
      lines_long = y;
      lowest = λ n q h o f. absurd (omega (arith, number_lt k n q o));
      count = λ n q h o f. absurd (omega (arith, number_lt k n q o));
    }

module _ (k : ℕ) (g : ℕ → ℕ) (from i : ℕ) (held lines : List ℕ) where
  nodes-set : (a b : ℕ) → i < node_count → from ≤ i + 1 → Nodes k g from held lines
      → ((n q : ℕ) → n ≤ k → q < 2 ^ (k - n) → 2 ^ (k - n) + q ≡ i → (a ≡ g (q * 2 ^ n)) × (b ≡ lines_at g n q))
      → Nodes k g i (set held i a) (set lines i b)
  nodes-set a b inside next N here =
      record {
        held_long = length-set held i a ∙ N.held_long;
        lines_long = length-set lines i b ∙ N.lines_long;
        lowest = λ n q h l f. low n q h l f (ℕ_discrete (2 ^ (k - n) + q) i);
        count = λ n q h l f. num n q h l f (ℕ_discrete (2 ^ (k - n) + q) i);
      }
    where
      low : (n q : ℕ) → n ≤ k → q < 2 ^ (k - n) → i ≤ 2 ^ (k - n) + q → Dec (2 ^ (k - n) + q ≡ i)
          → get_or (set held i a) (2 ^ (k - n) + q) 0 ≡ g (q * 2 ^ n)
      low n q h l f (yes e) =
          ap (λ (j : ℕ). get_or (set held i a) j 0) e ∙ get_or-set_same held i a 0 (omega (arith, N.held_long)) ∙ (here n q h l e).0
      low n q h l f (no d) = get_or-set_other held i (2 ^ (k - n) + q) a 0 d ∙ N.lowest n q h l (omega arith)

      num : (n q : ℕ) → n ≤ k → q < 2 ^ (k - n) → i ≤ 2 ^ (k - n) + q → Dec (2 ^ (k - n) + q ≡ i)
          → get_or (set lines i b) (2 ^ (k - n) + q) 0 ≡ lines_at g n q
      num n q h l f (yes e) =
          ap (λ (j : ℕ). get_or (set lines i b) j 0) e ∙ get_or-set_same lines i b 0 (omega (arith, N.lines_long)) ∙ (here n q h l e).1
      num n q h l f (no d) = get_or-set_other lines i (2 ^ (k - n) + q) b 0 d ∙ N.count n q h l (omega arith)

  pub nodes-leaf : i < node_count → from ≤ i + 1 → Nodes k g from held lines → 2 ^ k ≤ i
      → Nodes k g i (set held i (g (i - 2 ^ k))) (set lines i 1)
  nodes-leaf inside next N high = nodes-set (g (i - 2 ^ k)) 1 inside next N here
    where
      here : (n q : ℕ) → n ≤ k → q < 2 ^ (k - n) → 2 ^ (k - n) + q ≡ i → (g (i - 2 ^ k) ≡ g (q * 2 ^ n)) × (1 ≡ lines_at g n q)
      here zero q h l e =
          let at : i - 2 ^ k ≡ q * 2 ^ 0 = omega (arith, leaf-level k, first-place q) in
          (ap g at, sym (lines-leaf g q))
      here (suc n) q h l e = absurd (omega (arith, leaf-number k (suc n) q h l (omega arith)))

  pub nodes-join : i < node_count → 1 ≤ i → from ≤ i + 1 → Nodes k g from held lines → i < 2 ^ k
      → Nodes k g i (set held i (get_or held (2 * i) 0))
      (set lines i (joined (get_or lines (2 * i) 0) (get_or lines (2 * i + 1) 0) (eqb (get_or held (2 * i) 0) (get_or held (2 * i + 1) 0))))
  nodes-join inside some next N low =
      nodes-set (get_or held (2 * i) 0)
      (joined (get_or lines (2 * i) 0) (get_or lines (2 * i + 1) 0) (eqb (get_or held (2 * i) 0) (get_or held (2 * i + 1) 0))) inside next N here
    where
      here : (n q : ℕ) → n ≤ k → q < 2 ^ (k - n) → 2 ^ (k - n) + q ≡ i
          → (get_or held (2 * i) 0 ≡ g (q * 2 ^ n))
          × (joined (get_or lines (2 * i) 0) (get_or lines (2 * i + 1) 0) (eqb (get_or held (2 * i) 0) (get_or held (2 * i + 1) 0)) ≡ lines_at g n q)
      here zero q h l e = absurd (omega (arith, leaf-level k))
      here (suc n) q h l e =
          let up : 2 ^ (k - n) ≡ 2 * 2 ^ (k - suc n) = level k n h in
          let left : 2 * i ≡ 2 ^ (k - n) + 2 * q = omega arith in
          let right : 2 * i + 1 ≡ 2 ^ (k - n) + (2 * q + 1) = omega arith in
          let h₁ : get_or held (2 * i) 0 ≡ g (2 * q * 2 ^ n) =
          ap (λ (j : ℕ). get_or held j 0) left ∙ N.lowest n (2 * q) (omega arith) (omega arith) (omega arith) in
          let h₂ : get_or held (2 * i + 1) 0 ≡ g ((2 * q + 1) * 2 ^ n) =
          ap (λ (j : ℕ). get_or held j 0) right ∙ N.lowest n (2 * q + 1) (omega arith) (omega arith) (omega arith) in
          let l₁ : get_or lines (2 * i) 0 ≡ lines_at g n (2 * q) =
          ap (λ (j : ℕ). get_or lines j 0) left ∙ N.count n (2 * q) (omega arith) (omega arith) (omega arith) in
          let l₂ : get_or lines (2 * i + 1) 0 ≡ lines_at g n (2 * q + 1) =
          ap (λ (j : ℕ). get_or lines j 0) right ∙ N.count n (2 * q + 1) (omega arith) (omega arith) (omega arith) in (
            h₁ ∙ ap g (left-start n q),
            rw (h₁, h₂, l₁, l₂) (sym (lines-joined g n q)),
          )

-- the lines of a node are few
pub count-few : (k : ℕ) (g : ℕ → ℕ) (from j : ℕ) (held lines : List ℕ) → Nodes k g from held lines → k ≤ most_bits → 1 ≤ j → from ≤ j → j < 2 * 2 ^ k
    → get_or lines j 0 ≤ most_suffixes
count-few k g from j held lines N h some f l =
    let w = find k j some l in
    let at : get_or lines j 0 ≡ lines_at g w.0 w.1 =
    ap (λ (x : ℕ). get_or lines x 0) (sym w.4) ∙ N.count w.0 w.1 w.2 w.3 (omega (arith, w.4)) in
    omega (arith, lines-few g w.0 w.1, pow_mono w.2, pow-few k h)

-- the path from a place upwards

path-suc : (n p : ℕ) → p / 2 ^ suc n ≡ p / 2 ^ n / 2
path-suc n p = let e : n + 1 ≡ suc n = omega arith in sym (shr-shr p n 1 ∙ ap (λ (x : ℕ). p / 2 ^ x) e)

-- the place itself is in its nodes
path_inside : (n p q : ℕ) → p / 2 ^ n ≡ q → (q * 2 ^ n ≤ p) × (p < q * 2 ^ n + 2 ^ n)
path_inside n p q e =
    let is : p / 2 ^ n * 2 ^ n ≡ q * 2 ^ n = ap (λ (x : ℕ). x * 2 ^ n) e in
    (omega (arith, div-add-mod' p (2 ^ n)), omega (arith, div-add-mod' p (2 ^ n), mod-lt p (pow_pos n)))

-- the number of the node above
pub path-up : (k n p i : ℕ) → n < k → i ≡ 2 ^ (k - n) + p / 2 ^ n → i / 2 ≡ 2 ^ (k - suc n) + p / 2 ^ suc n
path-up k n p i h e = omega (arith, level k n h, path-suc n p)

-- the lines of a node of the path
pub path-node : (k : ℕ) (g : ℕ → ℕ) (held lines : List ℕ) → Nodes k g 1 held lines → (n p i : ℕ) → n ≤ k → p < 2 ^ k
    → i ≡ 2 ^ (k - n) + p / 2 ^ n → get_or lines i 0 ≡ lines_at g n (p / 2 ^ n)
path-node k g held lines N n p i h l e =
    ap (λ (j : ℕ). get_or lines j 0) e ∙ N.count n (p / 2 ^ n) h (path-lt k n p h l) (omega (arith, pow_pos (k - n)))

-- the first node is the highest
pub top : (k n q i : ℕ) → n ≤ k → i ≡ 2 ^ (k - n) + q → i ≤ 1 → n ≡ k
top k n q i h e l = go (dec_lt n k)
  where
    go : Dec (n < k) → n ≡ k
    go (yes m) = absurd (omega (arith, level k n m, pow_pos (k - suc n)))
    go (no m) = omega arith

pub not_top : (k n p i : ℕ) → n ≤ k → p < 2 ^ k → i ≡ 2 ^ (k - n) + p / 2 ^ n → 1 < i → n < k
not_top k n p i h o e l = go (dec_lt n k)
  where
    go : Dec (n < k) → n < k
    go (yes m) = m
    go (no m) =
        let none : k - n ≡ 0 = omega arith in
        let one : 2 ^ (k - n) ≡ 1 = ap (λ (x : ℕ). 2 ^ x) none in
        absurd (omega (arith, path-lt k n p h o))

-- where a node around a place has one backend, so have the lower ones around it
uniform-down : (g : ℕ → ℕ) (n p : ℕ) → uniform g (suc n) (p / 2 ^ suc n) ≡ true → uniform g n (p / 2 ^ n) ≡ true
uniform-down g n p e = go (ℕ_discrete (p / 2 ^ n % 2) 0)
  where
    q : ℕ
    q = p / 2 ^ suc n

    u : Bool
    u = uniform g n (2 * q)

    v : Bool
    v = uniform g n (2 * q + 1)

    w : Bool
    w = eqb (g (2 * q * 2 ^ n)) (g ((2 * q + 1) * 2 ^ n))

    halves : (u ≡ true) × (both v w ≡ true)
    halves = both_true u (both v w) (sym (uniform-halves g n q) ∙ e)

    go : Dec (p / 2 ^ n % 2 ≡ 0) → uniform g n (p / 2 ^ n) ≡ true
    go (yes z) =
        let is : p / 2 ^ n ≡ 2 * q = omega (arith, path-suc n p) in
        ap (uniform g n) is ∙ halves.0
    go (no z) =
        let is : p / 2 ^ n ≡ 2 * q + 1 = omega (arith, path-suc n p) in
        ap (uniform g n) is ∙ (both_true v w halves.1).0

uniform-below : (g : ℕ → ℕ) (p n d j : ℕ) → j ≡ n + d → uniform g j (p / 2 ^ j) ≡ true → uniform g n (p / 2 ^ n) ≡ true
uniform-below g p n zero j e h = let is : j ≡ n = omega arith in subst (λ (x : ℕ). uniform g x (p / 2 ^ x) ≡ true) is h
uniform-below g p n (suc d) zero e h = absurd (omega arith)
uniform-below g p n (suc d) (suc j) e h = uniform-below g p n d j (omega arith) (uniform-down g j p h)

-- a node of several lines has several backends
pub not-one : (g : ℕ → ℕ) (n q : ℕ) → (lines_at g n q ≡ 1 → ⊥) → uniform g n q ≡ false
not-one g n q d = go (uniform g n q) refl
  where
    go : (b : Bool) → uniform g n q ≡ b → uniform g n q ≡ false
    go true e = absurd (d (lines-one g n q e))
    go false e = e

-- the height where a search upwards ends
pub height-end : (g : ℕ → ℕ) (k p n : ℕ) → n ≤ k → uniform g n (p / 2 ^ n) ≡ true
    → (n < k → uniform g (suc n) (p / 2 ^ suc n) ≡ false) → n ≡ height_at g k p
height-end g k p n h e next =
    largest-unique k (λ m. uniform g m (p / 2 ^ m)) n (height_at g k p)
    (record { most = h; passes = λ l. e; above = λ j l m. up j l m (uniform g j (p / 2 ^ j)) refl })
    (height-is g k p)
  where
    up : (j : ℕ) → n < j → j ≤ k → (b : Bool) → uniform g j (p / 2 ^ j) ≡ b → uniform g j (p / 2 ^ j) ≡ false
    up j l m false r = r
    up j l m true r =
        absurd (clash (uniform g (suc n) (p / 2 ^ suc n)) (uniform-below g p (suc n) (j - suc n) j (omega arith) r) (next (omega arith)))

-- joining where the test counts only of two single lines
joined_same : (a b : ℕ) (s t : Bool) → (a + b ≡ 2 → s ≡ t) → joined a b s ≡ joined a b t
joined_same a b s t h = go (ℕ_discrete (a + b) 2)
  where
    one : (c : Bool) → eqb (a + b) 2 ≡ false → joined a b c ≡ a + b
    one c e = ap (λ (x : Bool). pick (both c x) 1 (a + b)) e ∙ ap (λ (x : Bool). pick x 1 (a + b)) (both_false c)

    go : Dec (a + b ≡ 2) → joined a b s ≡ joined a b t
    go (yes e) = ap (joined a b) (h e)
    go (no d) = one s (ne_eqb (a + b) 2 d) ∙ sym (one t (ne_eqb (a + b) 2 d))

joined-swap : (a b : ℕ) (s : Bool) → joined a b s ≡ joined b a s
joined-swap a b s = ap (λ (x : ℕ). pick (both s (eqb x 2)) 1 x) (add_comm a b)

-- one step up from x, where o is the lowest place's backend of the other half
module _ (f : ℕ → ℕ) (m z x a b o : ℕ) where
  join-right : x / 2 ^ m ≡ 2 * z → a ≡ lines_at f m (2 * z) → b ≡ lines_at f m (2 * z + 1) → o ≡ f ((2 * z + 1) * 2 ^ m)
      → joined a b (eqb (f x) o) ≡ lines_at f (suc m) z
  join-right e p q r =
      joined_same a b (eqb (f x) o) (eqb (f (2 * z * 2 ^ m)) (f ((2 * z + 1) * 2 ^ m))) (λ two.
      let one : lines_at f m (2 * z) ≡ 1 = omega (arith, lines-some f m (2 * z), lines-some f m (2 * z + 1)) in
      let i = path_inside m x (2 * z) e in
      let same : f x ≡ f (2 * z * 2 ^ m) = uniform-inside f m (2 * z) (one-lines f m (2 * z) one) x i.0 i.1 in
      rw (same, r))
      ∙ rw (p, q) (sym (lines-joined f m z))

  join-left : x / 2 ^ m ≡ 2 * z + 1 → a ≡ lines_at f m (2 * z + 1) → b ≡ lines_at f m (2 * z) → o ≡ f (2 * z * 2 ^ m)
      → joined a b (eqb (f x) o) ≡ lines_at f (suc m) z
  join-left e p q r =
      joined_same a b (eqb (f x) o) (eqb (f (2 * z * 2 ^ m)) (f ((2 * z + 1) * 2 ^ m))) (λ two.
      let one : lines_at f m (2 * z + 1) ≡ 1 = omega (arith, lines-some f m (2 * z), lines-some f m (2 * z + 1)) in
      let i = path_inside m x (2 * z + 1) e in
      let same : f x ≡ f ((2 * z + 1) * 2 ^ m) = uniform-inside f m (2 * z + 1) (one-lines f m (2 * z + 1) one) x i.0 i.1 in
      rw (same, r) (eqb-sym (f ((2 * z + 1) * 2 ^ m)) (f (2 * z * 2 ^ m))))
      ∙ joined-swap a b (eqb (f (2 * z * 2 ^ m)) (f ((2 * z + 1) * 2 ^ m)))
      ∙ rw (p, q) (sym (lines-joined f m z))

-- how far the count of a stage's lines has come up: at node i, with n lines
pub record Up (k p : ℕ) (old new : ℕ → ℕ) (i n : ℕ) : Type 0 where
  pub height : ℕ
  pub low : height ≤ k
  pub number : i ≡ 2 ^ (k - height) + (p - 1) / 2 ^ height
  pub lines : n ≡ lines_at (cut_at p old new) height ((p - 1) / 2 ^ height)

module _ (k p : ℕ) (old new : ℕ → ℕ) (some : 0 < p) (most : p ≤ 2 ^ k) where
  pub up_start : Up k p old new (2 ^ k + (p - 1)) 1
  up_start =
      let whole : (p - 1) / 2 ^ 0 ≡ p - 1 = omega arith in
      record { height = 0; low = omega arith; number = omega (arith, leaf-level k); lines = sym (lines-leaf (cut_at p old new) ((p - 1) / 2 ^ 0)) }

  pub up-end : (i n : ℕ) → Up k p old new i n → i ≤ 1 → n ≡ lines_at (cut_at p old new) k 0
  up-end i n U l =
      let is : U.height ≡ k = top k U.height ((p - 1) / 2 ^ U.height) i U.low U.number l in
      let none : (p - 1) / 2 ^ U.height ≡ 0 = omega (arith, U.number, pow_pos (k - U.height)) in
      U.lines ∙ ap (lines_at (cut_at p old new) U.height) none ∙ ap (λ (x : ℕ). lines_at (cut_at p old new) x 0) is

  module _ (i n : ℕ) (U : Up k p old new i n) where
    pub up-inside : (1 ≤ i) × (i < 2 * 2 ^ k)
    up-inside = (
      omega (arith, U.number, pow_pos (k - U.height)),
      omega (arith, U.number, number_lt k U.height ((p - 1) / 2 ^ U.height) (path-lt k U.height (p - 1) U.low (omega arith))),
    )

    pub up-few : k ≤ most_bits → n ≤ most_suffixes
    up-few h =
        omega (arith, U.lines, lines-few (cut_at p old new) U.height ((p - 1) / 2 ^ U.height), pow_mono U.low, pow-few k h)

    -- what is right of the path is old
    pub up-old : (held lines : List ℕ) → Nodes k old 1 held lines → 1 < i → i % 2 ≡ 0
        → Up k p old new (i / 2) (joined n (get_or lines (i + 1) 0) (eqb (new (p - 1)) (get_or held (i + 1) 0)))
    up-old held lines N big even =
        record {
          height = suc U.height;
          low = less;
          number = path-up k U.height (p - 1) i less U.number;
          lines =
              ap (λ (y : ℕ). joined n (get_or lines (i + 1) 0) (eqb y (get_or held (i + 1) 0))) (sym (cut_below p old new (p - 1) (omega arith)))
              ∙ join-right f U.height z (p - 1) n (get_or lines (i + 1) 0) (get_or held (i + 1) 0) here (U.lines ∙ ap (lines_at f U.height) here)
              (ap (λ (j : ℕ). get_or lines j 0) right ∙ N.count U.height (2 * z + 1) U.low fits (omega (arith, pow_pos (k - U.height)))
              ∙ sym (lines-ext f old U.height (2 * z + 1) (λ j l. cut-from p old new ((2 * z + 1) * 2 ^ U.height + j) (omega (arith, after)))))
              (ap (λ (j : ℕ). get_or held j 0) right ∙ N.lowest U.height (2 * z + 1) U.low fits (omega (arith, pow_pos (k - U.height)))
              ∙ sym (cut-from p old new ((2 * z + 1) * 2 ^ U.height) after));
        }
      where
        f : ℕ → ℕ
        f = cut_at p old new

        z : ℕ
        z = (p - 1) / 2 ^ suc U.height

        less : U.height < k
        less = not_top k U.height (p - 1) i U.low (omega arith) U.number big

        here : (p - 1) / 2 ^ U.height ≡ 2 * z
        here = omega (arith, U.number, level k U.height less, path-suc U.height (p - 1))

        right : i + 1 ≡ 2 ^ (k - U.height) + (2 * z + 1)
        right = omega (arith, U.number, here)

        fits : 2 * z + 1 < 2 ^ (k - U.height)
        fits = omega (arith, level k U.height less, here, path-lt k U.height (p - 1) U.low (omega arith))

        after : p ≤ (2 * z + 1) * 2 ^ U.height
        after =
            let t = path_inside U.height (p - 1) (2 * z) here in
            omega (arith, t.1, left-start U.height z, right-start U.height z)

    -- what is left of it is new
    pub up-new : (held lines : List ℕ) → Nodes k new 1 held lines → 1 < i → (i % 2 ≡ 0 → ⊥)
        → Up k p old new (i / 2) (joined n (get_or lines (i - 1) 0) (eqb (new (p - 1)) (get_or held (i - 1) 0)))
    up-new held lines N big odd =
        record {
          height = suc U.height;
          low = less;
          number = path-up k U.height (p - 1) i less U.number;
          lines =
              ap (λ (y : ℕ). joined n (get_or lines (i - 1) 0) (eqb y (get_or held (i - 1) 0))) (sym (cut_below p old new (p - 1) (omega arith)))
              ∙ join-left f U.height z (p - 1) n (get_or lines (i - 1) 0) (get_or held (i - 1) 0) here (U.lines ∙ ap (lines_at f U.height) here)
              (ap (λ (j : ℕ). get_or lines j 0) left ∙ N.count U.height (2 * z) U.low fits (omega (arith, pow_pos (k - U.height)))
              ∙ sym (lines-ext f new U.height (2 * z) (λ j l. cut_below p old new (2 * z * 2 ^ U.height + j) (omega (arith, before)))))
              (ap (λ (j : ℕ). get_or held j 0) left ∙ N.lowest U.height (2 * z) U.low fits (omega (arith, pow_pos (k - U.height)))
              ∙ sym (cut_below p old new (2 * z * 2 ^ U.height) (omega (arith, before, pow_pos U.height))));
        }
      where
        f : ℕ → ℕ
        f = cut_at p old new

        z : ℕ
        z = (p - 1) / 2 ^ suc U.height

        less : U.height < k
        less = not_top k U.height (p - 1) i U.low (omega arith) U.number big

        here : (p - 1) / 2 ^ U.height ≡ 2 * z + 1
        here =
            let rest : i % 2 ≡ 1 = omega arith in
            omega (arith, U.number, level k U.height less, path-suc U.height (p - 1))

        left : i - 1 ≡ 2 ^ (k - U.height) + 2 * z
        left = omega (arith, U.number, here)

        fits : 2 * z < 2 ^ (k - U.height)
        fits = omega (arith, here, path-lt k U.height (p - 1) U.low (omega arith))

        before : 2 * z * 2 ^ U.height + 2 ^ U.height < p
        before =
            let t = path_inside U.height (p - 1) (2 * z + 1) here in
            omega (arith, t.0, left-start U.height z, right-start U.height z)
