-- Laws of nodes: which have one backend, how many lines each has, the largest around a place, and the lines in order of places.
use Prim.Native.Nat.{ℕ, zero, suc, ◌+◌, ◌-◌, ◌*◌, ◌/◌, ◌%◌, ◌^◌, ◌≤◌, ◌<◌}
use mathlib.Core.Bool.{Bool, true, false}
use mathlib.Core.List.{[], ◌∷◌, ◌++◌, append-nil}
use mathlib.Core.Path.{◌≡◌, refl, ap, sym, ◌∙◌, subst}
use native.Mathlib.Decide.{dec_lt}
use native.Mathlib.Nat.{mul_comm, mul_assoc, add-mul, one-mul, pow-succ', div-add-mod', add-zero}
use native.Mathlib.Omega.{arith}
use lib.Arith.{digits_lt, digits_div, digits_mod}
use lib.Dec.{eqb}
use lib.Pow.{pow_pos, shr_lt, shr-shr}
use borrow.Author.Tests.{eqb-true, eq-eqb, ne_eqb, lt-ltb, le-ltb}
use Rattle.numerals.specs.Pick.{pick, both}
use Rattle.numerals.specs.Suffix.{place}
use Rattle.numerals.specs.Sums.{largest_to}
use Rattle.numerals.proofs.Searches.{all_true, true-all, same_test, both_true, true-both, IsLargest, largest-is, largest-unique}
use Rattle.expansion.proofs.Count.{pow-split}
use Rattle.stages.specs.Inner.Nodes.{cut_at, uniform, lines_at, joined, height_at, starts_at, starts_to}

-- a stage: new below a place, old from it on

pub cut_below : (p : ℕ) (old new : ℕ → ℕ) (q : ℕ) → q < p → cut_at p old new q ≡ new q
unfolding cut_at
cut_below p old new q l = rw (lt-ltb q p l)

pub cut-from : (p : ℕ) (old new : ℕ → ℕ) (q : ℕ) → p ≤ q → cut_at p old new q ≡ old q
unfolding cut_at
cut-from p old new q l = rw (le-ltb q p l)

-- where a node's halves begin
pub left-start : (n q : ℕ) → 2 * q * 2 ^ n ≡ q * 2 ^ suc n
left-start n q =
    ap (λ (x : ℕ). x * 2 ^ n) (mul_comm 2 q) ∙ mul_assoc q 2 (2 ^ n) ∙ ap (λ (x : ℕ). q * x) (sym (pow-succ' 2 n))

pub right-start : (n q : ℕ) → (2 * q + 1) * 2 ^ n ≡ q * 2 ^ suc n + 2 ^ n
right-start n q = omega (arith, add-mul (2 * q) 1 (2 ^ n), one-mul (2 ^ n), left-start n q)

-- one backend has all places of a node

pub uniform-at : (g : ℕ → ℕ) (n q : ℕ) → uniform g n q ≡ true → (i : ℕ) → i < 2 ^ n → g (q * 2 ^ n + i) ≡ g (q * 2 ^ n)
unfolding uniform
uniform-at g n q e i l =
    eqb-true (g (q * 2 ^ n + i)) (g (q * 2 ^ n)) (all_true (2 ^ n) (λ j. eqb (g (q * 2 ^ n + j)) (g (q * 2 ^ n))) e i l)

pub at-uniform : (g : ℕ → ℕ) (n q : ℕ) → ((i : ℕ) → i < 2 ^ n → g (q * 2 ^ n + i) ≡ g (q * 2 ^ n)) → uniform g n q ≡ true
unfolding uniform
at-uniform g n q h =
    true-all (2 ^ n) (λ j. eqb (g (q * 2 ^ n + j)) (g (q * 2 ^ n))) (λ i l. eq-eqb (g (q * 2 ^ n + i)) (g (q * 2 ^ n)) (h i l))

-- the same of the places s of the node
pub uniform-inside : (g : ℕ → ℕ) (n q : ℕ) → uniform g n q ≡ true
    → (s : ℕ) → q * 2 ^ n ≤ s → s < q * 2 ^ n + 2 ^ n → g s ≡ g (q * 2 ^ n)
uniform-inside g n q e s from to =
    let is : s ≡ q * 2 ^ n + (s - q * 2 ^ n) = omega arith in
    ap g is ∙ uniform-at g n q e (s - q * 2 ^ n) (omega arith)

pub uniform-leaf : (g : ℕ → ℕ) (q : ℕ) → uniform g 0 q ≡ true
uniform-leaf g q = at-uniform g 0 q (λ i l. ap g (omega arith))

pub uniform-halves : (g : ℕ → ℕ) (n q : ℕ) → uniform g (suc n) q
    ≡ both (uniform g n (2 * q)) (both (uniform g n (2 * q + 1)) (eqb (g (2 * q * 2 ^ n)) (g ((2 * q + 1) * 2 ^ n))))
uniform-halves g n q = same_test (uniform g (suc n) q) (both u (both v w)) to from
  where
    u : Bool
    u = uniform g n (2 * q)

    v : Bool
    v = uniform g n (2 * q + 1)

    w : Bool
    w = eqb (g (2 * q * 2 ^ n)) (g ((2 * q + 1) * 2 ^ n))

    a : ℕ
    a = q * 2 ^ suc n

    in_left : (s : ℕ) → uniform g (suc n) q ≡ true → 2 * q * 2 ^ n ≤ s → s < 2 * q * 2 ^ n + 2 ^ n + 2 ^ n → g s ≡ g a
    in_left s e x y = uniform-inside g (suc n) q e s (omega (arith, left-start n q)) (omega (arith, left-start n q, pow-succ' 2 n))

    to : uniform g (suc n) q ≡ true → both u (both v w) ≡ true
    to e =
        let at : (s : ℕ) → 2 * q * 2 ^ n ≤ s → s < 2 * q * 2 ^ n + 2 ^ n + 2 ^ n → g s ≡ g a = λ s x y. in_left s e x y in
        let pos : 0 < 2 ^ n = pow_pos n in
        let l : 2 * q * 2 ^ n ≡ a = left-start n q in
        let r : (2 * q + 1) * 2 ^ n ≡ a + 2 ^ n = right-start n q in
        let first : g (2 * q * 2 ^ n) ≡ g a = ap g l in
        let second : g ((2 * q + 1) * 2 ^ n) ≡ g a = at ((2 * q + 1) * 2 ^ n) (omega arith) (omega arith) in
        true-both u (both v w) (at-uniform g n (2 * q) (λ i m. at (2 * q * 2 ^ n + i) (omega arith) (omega arith) ∙ sym first))
        (true-both v w (at-uniform g n (2 * q + 1) (λ i m. at ((2 * q + 1) * 2 ^ n + i) (omega arith) (omega arith) ∙ sym second))
        (eq-eqb (g (2 * q * 2 ^ n)) (g ((2 * q + 1) * 2 ^ n)) (first ∙ sym second)))

    from : both u (both v w) ≡ true → uniform g (suc n) q ≡ true
    from e = at-uniform g (suc n) q (λ i m. go i m (dec_lt i (2 ^ n)))
      where
        rest : (v ≡ true) × (w ≡ true)
        rest = both_true v w (both_true u (both v w) e).1

        go : (i : ℕ) → i < 2 ^ suc n → Dec (i < 2 ^ n) → g (a + i) ≡ g a
        go i m (yes l) =
            let x : a + i ≡ 2 * q * 2 ^ n + i = omega (arith, left-start n q) in
            ap g x ∙ uniform-at g n (2 * q) (both_true u (both v w) e).0 i l ∙ ap g (left-start n q)
        go i m (no l) =
            let x : a + i ≡ (2 * q + 1) * 2 ^ n + (i - 2 ^ n) = omega (arith, right-start n q) in
            ap g x ∙ uniform-at g n (2 * q + 1) rest.0 (i - 2 ^ n) (omega (arith, pow-succ' 2 n))
            ∙ sym (eqb-true (g (2 * q * 2 ^ n)) (g ((2 * q + 1) * 2 ^ n)) rest.1)
            ∙ ap g (left-start n q)

-- how many lines a node has

pub lines-leaf : (g : ℕ → ℕ) (q : ℕ) → lines_at g 0 q ≡ 1
unfolding lines_at
lines-leaf g q = refl

pub lines-suc : (g : ℕ → ℕ) (n q : ℕ)
    → lines_at g (suc n) q ≡ pick (uniform g (suc n) q) 1 (lines_at g n (2 * q) + lines_at g n (2 * q + 1))
unfolding lines_at
lines-suc g n q = refl

pub lines-some : (g : ℕ → ℕ) (n q : ℕ) → 1 ≤ lines_at g n q
lines-some g zero q = omega (arith, lines-leaf g q)
lines-some g (suc n) q = rw (lines-suc g n q) (go (uniform g (suc n) q) (lines-some g n (2 * q)))
  where
    go : (b : Bool) → 1 ≤ lines_at g n (2 * q) → 1 ≤ pick b 1 (lines_at g n (2 * q) + lines_at g n (2 * q + 1))
    go true l = omega arith
    go false l = omega arith

pub lines-few : (g : ℕ → ℕ) (n q : ℕ) → lines_at g n q ≤ 2 ^ n
lines-few g zero q = omega (arith, lines-leaf g q)
lines-few g (suc n) q = rw (lines-suc g n q) (go (uniform g (suc n) q) (lines-few g n (2 * q)) (lines-few g n (2 * q + 1)))
  where
    go : (b : Bool) → lines_at g n (2 * q) ≤ 2 ^ n → lines_at g n (2 * q + 1) ≤ 2 ^ n
        → pick b 1 (lines_at g n (2 * q) + lines_at g n (2 * q + 1)) ≤ 2 ^ suc n
    go true l r = pow_pos (suc n)
    go false l r = omega (arith, pow-succ' 2 n)

pub lines-one : (g : ℕ → ℕ) (n q : ℕ) → uniform g n q ≡ true → lines_at g n q ≡ 1
lines-one g zero q e = lines-leaf g q
lines-one g (suc n) q e = lines-suc g n q ∙ rw e

pub one-lines : (g : ℕ → ℕ) (n q : ℕ) → lines_at g n q ≡ 1 → uniform g n q ≡ true
one-lines g zero q e = uniform-leaf g q
one-lines g (suc n) q e = go (uniform g (suc n) q) refl
  where
    go : (b : Bool) → uniform g (suc n) q ≡ b → uniform g (suc n) q ≡ true
    go true p = p
    go false p =
        let two : lines_at g (suc n) q ≡ lines_at g n (2 * q) + lines_at g n (2 * q + 1) = lines-suc g n q ∙ rw p in
        absurd (omega (arith, lines-some g n (2 * q), lines-some g n (2 * q + 1)))

pub lines-joined : (g : ℕ → ℕ) (n q : ℕ) → lines_at g (suc n) q
    ≡ joined (lines_at g n (2 * q)) (lines_at g n (2 * q + 1)) (eqb (g (2 * q * 2 ^ n)) (g ((2 * q + 1) * 2 ^ n)))
lines-joined g n q =
    lines-suc g n q ∙ ap (λ (t : Bool). pick t 1 (a + b)) (uniform-halves g n q ∙ same_test (both u (both v w)) (both w (eqb (a + b) 2)) to from)
  where
    a : ℕ
    a = lines_at g n (2 * q)

    b : ℕ
    b = lines_at g n (2 * q + 1)

    u : Bool
    u = uniform g n (2 * q)

    v : Bool
    v = uniform g n (2 * q + 1)

    w : Bool
    w = eqb (g (2 * q * 2 ^ n)) (g ((2 * q + 1) * 2 ^ n))

    to : both u (both v w) ≡ true → both w (eqb (a + b) 2) ≡ true
    to e =
        let r = both_true u (both v w) e in
        let s = both_true v w r.1 in
        true-both w (eqb (a + b) 2) s.1
        (eq-eqb (a + b) 2 (omega (arith, lines-one g n (2 * q) r.0, lines-one g n (2 * q + 1) s.0)))

    from : both w (eqb (a + b) 2) ≡ true → both u (both v w) ≡ true
    from e =
        let r = both_true w (eqb (a + b) 2) e in
        let sum : a + b ≡ 2 = eqb-true (a + b) 2 r.1 in
        let x : 1 ≤ a = lines-some g n (2 * q) in
        let y : 1 ≤ b = lines-some g n (2 * q + 1) in
        true-both u (both v w) (one-lines g n (2 * q) (omega arith)) (true-both v w (one-lines g n (2 * q + 1) (omega arith)) r.0)

-- backends that are the same at the places of a node

uniform-to : (f g : ℕ → ℕ) (n q : ℕ) → ((i : ℕ) → i < 2 ^ n → f (q * 2 ^ n + i) ≡ g (q * 2 ^ n + i))
    → uniform f n q ≡ true → uniform g n q ≡ true
uniform-to f g n q h e = at-uniform g n q (λ i l. sym (h i l) ∙ uniform-at f n q e i l ∙ first)
  where
    first : f (q * 2 ^ n) ≡ g (q * 2 ^ n)
    first = rw (add-zero (q * 2 ^ n)) at (h 0 (pow_pos n))

uniform-ext : (f g : ℕ → ℕ) (n q : ℕ) → ((i : ℕ) → i < 2 ^ n → f (q * 2 ^ n + i) ≡ g (q * 2 ^ n + i)) → uniform f n q ≡ uniform g n q
uniform-ext f g n q h =
    same_test (uniform f n q) (uniform g n q) (uniform-to f g n q h) (uniform-to g f n q (λ i l. sym (h i l)))

pub lines-ext : (f g : ℕ → ℕ) (n q : ℕ) → ((i : ℕ) → i < 2 ^ n → f (q * 2 ^ n + i) ≡ g (q * 2 ^ n + i)) → lines_at f n q ≡ lines_at g n q
lines-ext f g zero q h = lines-leaf f q ∙ sym (lines-leaf g q)
lines-ext f g (suc n) q h =
    rw (lines-suc f n q, uniform-ext f g (suc n) q h, lines-ext f g n (2 * q) left, lines-ext f g n (2 * q + 1) right) (sym (lines-suc g n q))
  where
    at : (s i : ℕ) → s ≡ q * 2 ^ suc n + i → i < 2 ^ suc n → f s ≡ g s
    at s i e l = ap f e ∙ h i l ∙ ap g (sym e)

    left : (i : ℕ) → i < 2 ^ n → f (2 * q * 2 ^ n + i) ≡ g (2 * q * 2 ^ n + i)
    left i l = at (2 * q * 2 ^ n + i) i (omega (arith, left-start n q)) (omega (arith, pow-succ' 2 n))

    right : (i : ℕ) → i < 2 ^ n → f ((2 * q + 1) * 2 ^ n + i) ≡ g ((2 * q + 1) * 2 ^ n + i)
    right i l = at ((2 * q + 1) * 2 ^ n + i) (2 ^ n + i) (omega (arith, right-start n q)) (omega (arith, pow-succ' 2 n))

-- the places of a node are among all
pub node-inside : (k n q i : ℕ) → n ≤ k → q < 2 ^ (k - n) → i < 2 ^ n → q * 2 ^ n + i < 2 ^ k
node-inside k n q i l m o = omega (arith, pow-split n k l, digits_lt {c = 2 ^ n} m o)

-- which node of height n is around p
pub path-lt : (k n p : ℕ) → n ≤ k → p < 2 ^ k → p / 2 ^ n < 2 ^ (k - n)
path-lt k n p h l = let sum : k ≡ k - n + n = omega arith in shr_lt (k - n) n (rw sum at l)

-- its places are among all
pub around : (k n p i : ℕ) → n ≤ k → p < 2 ^ k → i < 2 ^ n → p / 2 ^ n * 2 ^ n + i < 2 ^ k
around k n p i m l o = node-inside k n (p / 2 ^ n) i m (path-lt k n p m l) o

largest-ext : (k : ℕ) (s t : ℕ → Bool) → ((n : ℕ) → n ≤ k → s n ≡ t n) → largest_to k s ≡ largest_to k t
unfolding largest_to
largest-ext zero s t h = refl
largest-ext (suc k) s t h = rw (h (suc k) (omega arith), largest-ext k s t (λ n l. h n (omega arith)))

module _ (f g : ℕ → ℕ) (k : ℕ) (h : (p : ℕ) → p < 2 ^ k → f p ≡ g p) where
  pub height-ext : (p : ℕ) → p < 2 ^ k → height_at f k p ≡ height_at g k p
  unfolding height_at
  height-ext p l =
      largest-ext k (λ n. uniform f n (p / 2 ^ n)) (λ n. uniform g n (p / 2 ^ n)) (λ n m.
      uniform-ext f g n (p / 2 ^ n) (λ i o. h (p / 2 ^ n * 2 ^ n + i) (around k n p i m l o)))

  pub start-ext : (p : ℕ) → p < 2 ^ k → starts_at f k p ≡ starts_at g k p
  unfolding starts_at
  start-ext p l = rw (height-ext p l, h p l)

  pub starts-ext : (m : ℕ) → m ≤ 2 ^ k → starts_to f k m ≡ starts_to g k m
  unfolding starts_to
  starts-ext zero l = refl
  starts-ext (suc m) l = rw (starts-ext m (omega arith), start-ext m l)

-- the largest node around a place that one backend has

pub height-is : (g : ℕ → ℕ) (k p : ℕ) → IsLargest k (λ n. uniform g n (p / 2 ^ n)) (height_at g k p)
unfolding height_at
height-is g k p = largest-is k (λ n. uniform g n (p / 2 ^ n))

-- places in one node are in the same nodes above
pub same_above : (h n p q : ℕ) → h ≤ n → p / 2 ^ h ≡ q / 2 ^ h → p / 2 ^ n ≡ q / 2 ^ n
same_above h n p q l e =
    let sum : h + (n - h) ≡ n = omega arith in
    rw (← sum) (sym (shr-shr p h (n - h)) ∙ ap (λ (x : ℕ). x / 2 ^ (n - h)) e ∙ shr-shr q h (n - h))

pub height-same : (g : ℕ → ℕ) (k p q : ℕ) → p / 2 ^ height_at g k p ≡ q / 2 ^ height_at g k p → height_at g k q ≡ height_at g k p
height-same g k p q e = largest-unique k (λ n. uniform g n (q / 2 ^ n)) (height_at g k q) h (height-is g k q) (go (height-is g k p))
  where
    h : ℕ
    h = height_at g k p

    go : IsLargest k (λ n. uniform g n (p / 2 ^ n)) h → IsLargest k (λ n. uniform g n (q / 2 ^ n)) h
    go r =
        record {
          most = r.most;
          passes = λ l. subst (λ (x : ℕ). uniform g h x ≡ true) e (r.passes l);
          above = λ j l m. subst (λ (x : ℕ). uniform g j x ≡ false) (same_above h j p q (omega arith) e) (r.above j l m);
        }

-- the lines in order of places

pub starts_none : (g : ℕ → ℕ) (k : ℕ) → starts_to g k 0 ≡ []
unfolding starts_to
starts_none g k = refl

pub starts-suc : (g : ℕ → ℕ) (k p : ℕ) → starts_to g k (suc p) ≡ starts_to g k p ++ starts_at g k p
unfolding starts_to
starts-suc g k p = refl

pub start-here : (g : ℕ → ℕ) (k p : ℕ) → let h = height_at g k p in p % 2 ^ h ≡ 0
    → starts_at g k p ≡ record { len = k - h; value = place k p; backend = g p } ∷ []
unfolding starts_at
start-here g k p e = rw (eq-eqb (p % 2 ^ height_at g k p) 0 e)

pub start-not : (g : ℕ → ℕ) (k p : ℕ) → 0 < p % 2 ^ height_at g k p → starts_at g k p ≡ []
unfolding starts_at
start-not g k p l = rw (ne_eqb (p % 2 ^ height_at g k p) 0 (λ e. omega arith))

pub starts-node : (g : ℕ → ℕ) (k p : ℕ) → let h = height_at g k p in p % 2 ^ h ≡ 0 → (j : ℕ) → 0 < j → j ≤ 2 ^ h
    → starts_to g k (p + j) ≡ starts_to g k p ++ record { len = k - h; value = place k p; backend = g p } ∷ []
starts-node g k p e zero pos l = absurd (omega arith)
starts-node g k p e (suc zero) pos l =
    let is : p + 1 ≡ suc p = omega arith in
    rw is (starts-suc g k p ∙ rw (start-here g k p e))
starts-node g k p e (suc (suc j)) pos l =
    let is : p + suc (suc j) ≡ suc (p + suc j) = omega arith in
    rw is (starts-suc g k (p + suc j) ∙ rw (nothing, append-nil) (starts-node g k p e (suc j) (omega arith) (omega arith)))
  where
    h : ℕ
    h = height_at g k p

    split : p + suc j ≡ p / 2 ^ h * 2 ^ h + suc j
    split = omega (arith, div-add-mod' p (2 ^ h))

    node : (p + suc j) / 2 ^ h ≡ p / 2 ^ h
    node = ap (λ (x : ℕ). x / 2 ^ h) split ∙ digits_div (p / 2 ^ h) l

    rest : (p + suc j) % 2 ^ h ≡ suc j
    rest = ap (λ (x : ℕ). x % 2 ^ h) split ∙ digits_mod (p / 2 ^ h) l

    nothing : starts_at g k (p + suc j) ≡ []
    nothing = start-not g k (p + suc j) (rw (height-same g k p (p + suc j) (sym node), rest) (omega arith))
