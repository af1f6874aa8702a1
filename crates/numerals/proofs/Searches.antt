-- Laws of the searches over the numbers up to n: do all pass a test, the first and the largest that passes, the first and the last place of a maximum.
use Prim.Native.Nat.{ℕ, zero, suc, ◌≤◌, ◌<◌}
use mathlib.Core.Bool.{Bool, true, false}
use mathlib.Core.Path.{◌≡◌, refl, ap, sym, ◌∙◌, subst}
use native.Mathlib.Decide.{ℕ_discrete, dec_lt}
use native.Mathlib.Omega.{arith}
use lib.Dec.{ltb}
use borrow.Author.Tests.{ltb-true, ltb-false, lt-ltb, le-ltb, le-leb, lt-leb}
use Rattle.numerals.specs.Pick.{pick, both}
use Rattle.numerals.specs.Sums.{all_to, first_to, largest_to, argmax, lastmax}

-- two tests at once

pub both_true : (a b : Bool) → both a b ≡ true → (a ≡ true) × (b ≡ true)
both_true true b e = (refl, e)
both_true false b e = (e, cc)

pub true-both : (a b : Bool) → a ≡ true → b ≡ true → both a b ≡ true
true-both a b p q = ap (λ (x : Bool). both x b) p ∙ q

-- a test can't both pass and fail
pub clash : (b : Bool) → b ≡ true → b ≡ false → ⊥
clash b p q = let z : ◌≡◌ {A = ℕ} 0 1 = cc in omega arith

-- two tests that pass together are the same
pub same_test : (a b : Bool) → (a ≡ true → b ≡ true) → (b ≡ true → a ≡ true) → a ≡ b
same_test true b p q = sym (p refl)
same_test false true p q = q refl
same_test false false p q = refl

-- all pass

pub all-suc : (n : ℕ) (t : ℕ → Bool) → all_to (suc n) t ≡ both (all_to n t) (t n)
unfolding all_to
all-suc n t = refl

pub all_true : (n : ℕ) (t : ℕ → Bool) → all_to n t ≡ true → (i : ℕ) → i < n → t i ≡ true
unfolding all_to
all_true zero t e i l = absurd (omega arith)
all_true (suc n) t e i l = go (both_true (all_to n t) (t n) e) (ℕ_discrete i n) (λ h. all_true n t h i)
  where
    go : (all_to n t ≡ true) × (t n ≡ true) → Dec (i ≡ n) → (all_to n t ≡ true → i < n → t i ≡ true) → t i ≡ true
    go r (yes d) ih = ap t d ∙ r.1
    go r (no d) ih = ih r.0 (omega arith)

pub true-all : (n : ℕ) (t : ℕ → Bool) → ((i : ℕ) → i < n → t i ≡ true) → all_to n t ≡ true
unfolding all_to
true-all zero t h = refl
true-all (suc n) t h = true-both (all_to n t) (t n) (true-all n t (λ i l. h i (omega arith))) (h n (omega arith))

-- one that fails
pub all-false : (n : ℕ) (t : ℕ → Bool) (i : ℕ) → i < n → t i ≡ false → all_to n t ≡ false
all-false n t i l e = go (all_to n t) refl
  where
    go : (b : Bool) → all_to n t ≡ b → all_to n t ≡ false
    go true p = absurd (clash (t i) (all_true n t p i l) e)
    go false p = p

-- the first that passes

pub record IsFirst (n : ℕ) (t : ℕ → Bool) (i : ℕ) : Type 0 where
  pub most : i ≤ n
  pub passes : i < n → t i ≡ true
  pub below : (j : ℕ) → j < i → t j ≡ false

pub first-is : (n : ℕ) (t : ℕ → Bool) → IsFirst n t (first_to n t)
unfolding first_to
first-is zero t = record { most = omega arith; passes = λ l. absurd (omega arith); below = λ j l. absurd (omega arith) }
first-is (suc n) t = go (first-is n t) (ltb (first_to n t) n) refl (t n) refl
  where
    go : IsFirst n t (first_to n t) → (b : Bool) → ltb (first_to n t) n ≡ b → (c : Bool) → t n ≡ c
        → IsFirst (suc n) t (pick b (first_to n t) (pick c n (suc n)))
    go h true e c d =
        record {
          most = omega (arith, h.most);
          passes = λ l. h.passes (ltb-true (first_to n t) n e);
          below = h.below;
        }
    go h false e true d =
        record {
          most = omega arith;
          passes = λ l. d;
          below = λ j l. h.below j (omega (arith, ltb-false (first_to n t) n e));
        }
    go h false e false d =
        record {
          most = omega arith;
          passes = λ l. absurd (omega arith);
          below = λ j l. up j l (ℕ_discrete j n);
        }
      where
        up : (j : ℕ) → j < suc n → Dec (j ≡ n) → t j ≡ false
        up j l (yes p) = ap t p ∙ d
        up j l (no p) = h.below j (omega (arith, ltb-false (first_to n t) n e))

pub first-unique : (n : ℕ) (t : ℕ → Bool) (i j : ℕ) → IsFirst n t i → IsFirst n t j → i ≡ j
first-unique n t i j p q = go (dec_lt i j) (dec_lt j i)
  where
    go : Dec (i < j) → Dec (j < i) → i ≡ j
    go (yes l) d = absurd (clash (t i) (p.passes (omega (arith, q.most))) (q.below i l))
    go (no l) (yes m) = absurd (clash (t j) (q.passes (omega (arith, p.most))) (p.below j m))
    go (no l) (no m) = omega arith

-- where one passes, the first isn't above it
pub first-le : (n : ℕ) (t : ℕ → Bool) (i : ℕ) → i < n → t i ≡ true → first_to n t ≤ i
first-le n t i l e = go (dec_lt i (first_to n t))
  where
    go : Dec (i < first_to n t) → first_to n t ≤ i
    go (yes m) = absurd (clash (t i) e ((first-is n t).below i m))
    go (no m) = omega arith

-- the largest that passes
pub record IsLargest (n : ℕ) (t : ℕ → Bool) (r : ℕ) : Type 0 where
  pub most : r ≤ n
  pub passes : 0 < r → t r ≡ true
  pub above : (j : ℕ) → r < j → j ≤ n → t j ≡ false

pub largest-is : (n : ℕ) (t : ℕ → Bool) → IsLargest n t (largest_to n t)
unfolding largest_to
largest-is zero t = record { most = omega arith; passes = λ l. absurd (omega arith); above = λ j l m. absurd (omega arith) }
largest-is (suc n) t = go (largest-is n t) (t (suc n)) refl
  where
    go : IsLargest n t (largest_to n t) → (b : Bool) → t (suc n) ≡ b → IsLargest (suc n) t (pick b (suc n) (largest_to n t))
    go h true e = record { most = omega arith; passes = λ l. e; above = λ j l m. absurd (omega arith) }
    go h false e = record { most = omega (arith, h.most); passes = h.passes; above = λ j l m. up j l m (ℕ_discrete j (suc n)) }
      where
        up : (j : ℕ) → largest_to n t < j → j ≤ suc n → Dec (j ≡ suc n) → t j ≡ false
        up j l m (yes p) = ap t p ∙ e
        up j l m (no p) = h.above j l (omega arith)

pub largest-unique : (n : ℕ) (t : ℕ → Bool) (i j : ℕ) → IsLargest n t i → IsLargest n t j → i ≡ j
largest-unique n t i j p q = go (dec_lt i j) (dec_lt j i)
  where
    go : Dec (i < j) → Dec (j < i) → i ≡ j
    go (yes l) d = absurd (clash (t j) (q.passes (omega arith)) (p.above j l q.most))
    go (no l) (yes m) = absurd (clash (t i) (p.passes (omega arith)) (q.above i m p.most))
    go (no l) (no m) = omega arith

-- the first place of the greatest value
pub record IsArgmax (f : ℕ → ℕ) (n : ℕ) (i : ℕ) : Type 0 where
  pub inside : i < n
  pub best : (j : ℕ) → j < n → f j ≤ f i
  pub lowest : (j : ℕ) → j < i → f j < f i

-- a later place takes over only where it is greater
pub argmax-higher : (f : ℕ → ℕ) (n : ℕ) → f (argmax f n) < f n → argmax f (suc n) ≡ n
unfolding argmax
argmax-higher f n l = ap (λ (b : Bool). pick b n (argmax f n)) (lt-ltb (f (argmax f n)) (f n) l)

pub argmax-kept : (f : ℕ → ℕ) (n : ℕ) → f n ≤ f (argmax f n) → argmax f (suc n) ≡ argmax f n
unfolding argmax
argmax-kept f n l = ap (λ (b : Bool). pick b n (argmax f n)) (le-ltb (f (argmax f n)) (f n) l)

pub argmax-one : (f : ℕ → ℕ) → argmax f 1 ≡ 0
unfolding argmax
argmax-one f = go (ltb (f 0) (f 0))
  where
    go : (b : Bool) → pick {A = ℕ} b 0 0 ≡ 0
    go true = refl
    go false = refl

pub argmax-none : (f : ℕ → ℕ) → argmax f 0 ≡ 0
unfolding argmax
argmax-none f = refl

pub argmax-is : (f : ℕ → ℕ) (n : ℕ) → 0 < n → IsArgmax f n (argmax f n)
argmax-is f zero h = absurd (omega arith)
argmax-is f (suc zero) h =
    subst (IsArgmax f 1) (sym (argmax-one f))
    (record { inside = omega arith; best = λ j l. only j l; lowest = λ j l. absurd (omega arith) })
  where
    only : (j : ℕ) → j < 1 → f j ≤ f 0
    only j l = let e : j ≡ 0 = omega arith in omega (arith, ap f e)
argmax-is f (suc (suc m)) h = go (argmax-is f (suc m) (omega arith)) (dec_lt (f (argmax f (suc m))) (f (suc m)))
  where
    go : IsArgmax f (suc m) (argmax f (suc m)) → Dec (f (argmax f (suc m)) < f (suc m))
        → IsArgmax f (suc (suc m)) (argmax f (suc (suc m)))
    go p (yes l) =
        subst (IsArgmax f (suc (suc m))) (sym (argmax-higher f (suc m) l))
        (record {
          inside = omega arith;
          best = λ j k. up j k (ℕ_discrete j (suc m));
          lowest = λ j k. omega (arith, p.best j k);
        })
      where
        up : (j : ℕ) → j < suc (suc m) → Dec (j ≡ suc m) → f j ≤ f (suc m)
        up j k (yes e) = omega (arith, ap f e)
        up j k (no e) = omega (arith, p.best j (omega arith))
    go p (no l) =
        subst (IsArgmax f (suc (suc m))) (sym (argmax-kept f (suc m) (omega arith)))
        (record {
          inside = omega (arith, p.inside);
          best = λ j k. up j k (ℕ_discrete j (suc m));
          lowest = p.lowest;
        })
      where
        up : (j : ℕ) → j < suc (suc m) → Dec (j ≡ suc m) → f j ≤ f (argmax f (suc m))
        up j k (yes e) = omega (arith, ap f e)
        up j k (no e) = p.best j (omega arith)

pub argmax-unique : (f : ℕ → ℕ) (n i j : ℕ) → IsArgmax f n i → IsArgmax f n j → i ≡ j
argmax-unique f n i j p q = go (dec_lt i j) (dec_lt j i)
  where
    go : Dec (i < j) → Dec (j < i) → i ≡ j
    go (yes l) d = absurd (omega (arith, q.lowest i l, p.best j q.inside))
    go (no l) (yes m) = absurd (omega (arith, p.lowest j m, q.best i p.inside))
    go (no l) (no m) = omega arith

pub argmax-ext : (f g : ℕ → ℕ) (n : ℕ) → ((i : ℕ) → i < n → f i ≡ g i) → argmax f n ≡ argmax g n
unfolding argmax
argmax-ext f g zero h = refl
argmax-ext f g (suc n) h =
    argmax-unique g (suc n) (argmax f (suc n)) (argmax g (suc n)) (go (argmax-is f (suc n) (omega arith))) (argmax-is g (suc n) (omega arith))
  where
    go : IsArgmax f (suc n) (argmax f (suc n)) → IsArgmax g (suc n) (argmax f (suc n))
    go p =
        record {
          inside = p.inside;
          best = λ j l. omega (arith, p.best j l, h j l, h (argmax f (suc n)) p.inside);
          lowest = λ j l. omega (arith, p.lowest j l, h j (omega (arith, p.inside)), h (argmax f (suc n)) p.inside);
        }

-- a search in code starts at place 0 with the value 0: the greatest of the first n values, and 0 of none
unfoldable pub peak : (ℕ → ℕ) → ℕ → ℕ
peak f zero = 0
peak f (suc n) = f (argmax f (suc n))

pub peak-none : (f : ℕ → ℕ) → peak f 0 ≡ 0
unfolding peak
peak-none f = refl

pub peak-is : (f : ℕ → ℕ) (n : ℕ) → 0 < n → peak f n ≡ f (argmax f n)
unfolding peak
peak-is f zero h = absurd (omega arith)
peak-is f (suc n) h = refl

pub peak-higher : (f : ℕ → ℕ) (n : ℕ) → peak f n < f n → (argmax f (suc n) ≡ n) × (peak f (suc n) ≡ f n)
unfolding peak
peak-higher f zero l = (argmax-one f, ap f (argmax-one f))
peak-higher f (suc n) l = let e = argmax-higher f (suc n) l in (e, ap f e)

pub peak-kept : (f : ℕ → ℕ) (n : ℕ) → f n ≤ peak f n → (argmax f (suc n) ≡ argmax f n) × (peak f (suc n) ≡ peak f n)
unfolding peak argmax
peak-kept f zero l = (argmax-one f, omega (arith, ap f (argmax-one f)))
peak-kept f (suc n) l = let e = argmax-kept f (suc n) l in (e, ap f e)

-- the last place up to n of the greatest value

pub record IsLastmax (f : ℕ → ℕ) (n : ℕ) (i : ℕ) : Type 0 where
  pub inside : i ≤ n
  pub best : (j : ℕ) → j ≤ n → f j ≤ f i
  pub last : (j : ℕ) → i < j → j ≤ n → f j < f i

-- a later place takes over unless it is less
pub lastmax-higher : (f : ℕ → ℕ) (n : ℕ) → f (lastmax f n) ≤ f (suc n) → lastmax f (suc n) ≡ suc n
unfolding lastmax
lastmax-higher f n l = ap (λ (b : Bool). pick b (suc n) (lastmax f n)) (le-leb (f (lastmax f n)) (f (suc n)) l)

pub lastmax-kept : (f : ℕ → ℕ) (n : ℕ) → f (suc n) < f (lastmax f n) → lastmax f (suc n) ≡ lastmax f n
unfolding lastmax
lastmax-kept f n l = ap (λ (b : Bool). pick b (suc n) (lastmax f n)) (lt-leb (f (lastmax f n)) (f (suc n)) l)

pub lastmax-zero : (f : ℕ → ℕ) → lastmax f 0 ≡ 0
unfolding lastmax
lastmax-zero f = refl

pub lastmax-is : (f : ℕ → ℕ) (n : ℕ) → IsLastmax f n (lastmax f n)
lastmax-is f zero =
    subst (IsLastmax f 0) (sym (lastmax-zero f))
    (record { inside = omega arith; best = λ j l. only j l; last = λ j l m. absurd (omega arith) })
  where
    only : (j : ℕ) → j ≤ 0 → f j ≤ f 0
    only j l = let e : j ≡ 0 = omega arith in omega (arith, ap f e)
lastmax-is f (suc n) = go (lastmax-is f n) (dec_lt (f (suc n)) (f (lastmax f n)))
  where
    go : IsLastmax f n (lastmax f n) → Dec (f (suc n) < f (lastmax f n)) → IsLastmax f (suc n) (lastmax f (suc n))
    go p (yes l) =
        subst (IsLastmax f (suc n)) (sym (lastmax-kept f n l))
        (record {
          inside = omega (arith, p.inside);
          best = λ j k. up j k (ℕ_discrete j (suc n));
          last = λ j k m. up' j k m (ℕ_discrete j (suc n));
        })
      where
        up : (j : ℕ) → j ≤ suc n → Dec (j ≡ suc n) → f j ≤ f (lastmax f n)
        up j k (yes e) = omega (arith, ap f e)
        up j k (no e) = p.best j (omega arith)

        up' : (j : ℕ) → lastmax f n < j → j ≤ suc n → Dec (j ≡ suc n) → f j < f (lastmax f n)
        up' j k m (yes e) = omega (arith, ap f e)
        up' j k m (no e) = p.last j k (omega arith)
    go p (no l) =
        subst (IsLastmax f (suc n)) (sym (lastmax-higher f n (omega arith)))
        (record {
          inside = omega arith;
          best = λ j k. up j k (ℕ_discrete j (suc n));
          last = λ j k m. absurd (omega arith);
        })
      where
        up : (j : ℕ) → j ≤ suc n → Dec (j ≡ suc n) → f j ≤ f (suc n)
        up j k (yes e) = omega (arith, ap f e)
        up j k (no e) = omega (arith, p.best j (omega arith))

pub lastmax-unique : (f : ℕ → ℕ) (n i j : ℕ) → IsLastmax f n i → IsLastmax f n j → i ≡ j
lastmax-unique f n i j p q = go (dec_lt i j) (dec_lt j i)
  where
    go : Dec (i < j) → Dec (j < i) → i ≡ j
    go (yes l) d = absurd (omega (arith, p.last j l q.inside, q.best i p.inside))
    go (no l) (yes m) = absurd (omega (arith, q.last i m p.inside, p.best j q.inside))
    go (no l) (no m) = omega arith

-- the same place among fewer, where it is one of them
pub lastmax-fewer : (f : ℕ → ℕ) (n c : ℕ) → c ≤ n → lastmax f n ≤ c → lastmax f c ≡ lastmax f n
lastmax-fewer f n c h l =
    let p = lastmax-is f n in
    lastmax-unique f c (lastmax f c) (lastmax f n) (lastmax-is f c)
    (record { inside = l; best = λ j m. p.best j (omega arith); last = λ j k m. p.last j k (omega arith) })

pub lastmax-ext : (f g : ℕ → ℕ) (n : ℕ) → ((i : ℕ) → i ≤ n → f i ≡ g i) → lastmax f n ≡ lastmax g n
lastmax-ext f g n h = lastmax-unique g n (lastmax f n) (lastmax g n) (go (lastmax-is f n)) (lastmax-is g n)
  where
    go : IsLastmax f n (lastmax f n) → IsLastmax g n (lastmax f n)
    go p =
        record {
          inside = p.inside;
          best = λ j l. omega (arith, p.best j l, h j l, h (lastmax f n) p.inside);
          last = λ j l m. omega (arith, p.last j l m, h j m, h (lastmax f n) p.inside);
        }

-- the same search from n downwards: the best of the places from `left` on; at the start its value is 0
pub record Led (f : ℕ → ℕ) (n left i best : ℕ) : Type 0 where
  pub inside : i ≤ n
  pub low : best ≤ f i
  pub passed : (j : ℕ) → left ≤ j → j ≤ n → f j ≤ best
  pub last : (j : ℕ) → i < j → j ≤ n → f j < f i

pub led-start : (f : ℕ → ℕ) (n left : ℕ) → n < left → Led f n left n 0
led-start f n left h =
    record { inside = omega arith; low = omega arith; passed = λ j l m. absurd (omega arith); last = λ j l m. absurd (omega arith) }

-- one place more
module _ (f : ℕ → ℕ) (n left i best : ℕ) (L : Led f n left i best) (j : ℕ) (next : left ≤ suc j) where
  one_more : (c : ℕ) → best ≤ c → f j ≤ c → (m : ℕ) → j ≤ m → m ≤ n → f m ≤ c
  one_more c p q m l h = go (ℕ_discrete m j)
    where
      go : Dec (m ≡ j) → f m ≤ c
      go (yes e) = omega (arith, ap f e)
      go (no d) = omega (arith, L.passed m (omega arith) h)

  pub led-higher : j ≤ n → best < f j → Led f n j j (f j)
  led-higher h l =
      record {
        inside = h;
        low = omega arith;
        passed = one_more (f j) (omega arith) (omega arith);
        last = λ m k o. omega (arith, L.passed m (omega arith) o);
      }

  pub led-kept : f j ≤ best → Led f n j i best
  led-kept l =
      record { inside = L.inside; low = L.low; passed = one_more best (omega arith) l; last = L.last }

-- where no place further down has a greater value
pub led-end : (f : ℕ → ℕ) (n left i best : ℕ) → Led f n left i best → ((j : ℕ) → j < left → f j ≤ best)
    → (i ≡ lastmax f n) × (best ≡ f i)
led-end f n left i best L h = (
  lastmax-unique f n i (lastmax f n) (record { inside = L.inside; best = λ j l. omega (arith, all j l, L.low); last = L.last }) (lastmax-is f n),
  omega (arith, all i L.inside, L.low),
)
  where
    all : (j : ℕ) → j ≤ n → f j ≤ best
    all j l = go (dec_lt j left)
      where
        go : Dec (j < left) → f j ≤ best
        go (yes m) = h j m
        go (no m) = L.passed j (omega arith) l
