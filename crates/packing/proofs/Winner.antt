-- The tournament: it stays one where the nodes from a replaced key up to the root are filled anew, and the root names the greatest saving, the lowest
-- number if equal.
use Prim.Native.Nat.{ℕ, zero, suc, ◌+◌, ◌-◌, ◌*◌, ◌/◌, ◌%◌, ◌≤◌, ◌<◌, max}
use mathlib.Core.Path.{◌≡◌, refl, sym, ap, ap₂, ◌∙◌}
use mathlib.Core.List.{List}
use native.Mathlib.Decide.{ℕ_discrete, dec_le, dec_lt}
use native.Mathlib.Omega.{arith}
use lib.ListN.{length, get_or, set, replicate, length-set, get_or-replicate}
use lib.Seq.{get_or-set_same, get_or-set_other}
use Rattle.numerals.specs.Sums.{argmax}
use Rattle.numerals.proofs.Searches.{IsArgmax, argmax-is, argmax-unique}
use Rattle.packing.specs.Inner.Tournament.{leaves, nodes, greater_child, Tournament, Replaced, key_of, Entered}

-- a store elsewhere leaves a node as it was
kept :
    (tree : List ℕ) (j v p : ℕ) → (p ≡ j → ⊥) → (2 * p ≡ j → ⊥) → (2 * p + 1 ≡ j → ⊥)
    → get_or tree p 0 ≡ greater_child tree p
    → get_or (set tree j v) p 0 ≡ greater_child (set tree j v) p
kept tree j v p a b c h =
    get_or-set_other tree j p v 0 a
    ∙ h
    ∙ sym (ap₂ max (get_or-set_other tree j (2 * p) v 0 b) (get_or-set_other tree j (2 * p + 1) v 0 c))

-- while nodes are filled anew: i was stored last, and only its parent may be wrong; the leaves are those of the start
pub record Refilling (start : List ℕ) (i : ℕ) (tree : List ℕ) : Type 0 where
  pub places : length tree ≡ nodes
  pub low : 0 < i
  pub high : i < nodes
  pub node :
      (p : ℕ) → 0 < p → p < leaves → (2 * p ≡ i → ⊥) → (2 * p + 1 ≡ i → ⊥)
      → get_or tree p 0 ≡ greater_child tree p
  pub keys : (s : ℕ) → get_or tree (leaves + s) 0 ≡ get_or start (leaves + s) 0

module _ {before : List ℕ} (h : Tournament before) (long : length before ≡ nodes) (s key : ℕ) (l : s < leaves) where
  pub refill-first : Refilling (set before (leaves + s) key) (leaves + s) (set before (leaves + s) key)
  refill-first =
      record {
        places = length-set before (leaves + s) key ∙ long;
        low = omega arith;
        high = omega arith;
        node = λ p a b c d. kept before (leaves + s) key p (λ e. omega arith) c d (h.node p a b);
        keys = λ _. refl;
      }

  -- the root has no parent
  pub refill-last : (i : ℕ) (tree : List ℕ) → Refilling (set before (leaves + s) key) i tree → i ≤ 1 → Replaced before s key tree
  refill-last i tree c m =
      record {
        here = c.keys s ∙ get_or-set_same before (leaves + s) key 0 (omega (arith, long));
        others = λ t _ d. c.keys t ∙ get_or-set_other before (leaves + s) (leaves + t) key 0 (λ e. d (omega arith));
      }

pub refilled : (start : List ℕ) (i : ℕ) (tree : List ℕ) → Refilling start i tree → i ≤ 1 → Tournament tree
refilled start i tree c m = record { node = λ p a b. c.node p a b (λ e. omega arith) (λ e. omega arith) }

-- the parent is filled
pub refill-more :
    (start : List ℕ) (i : ℕ) (tree : List ℕ) → Refilling start i tree → 1 < i
    → Refilling start (i / 2) (set tree (i / 2) (greater_child tree (i / 2)))
refill-more start i tree h l =
    record {
      places = length-set tree (i / 2) v ∙ h.places;
      low = omega arith;
      high = omega (arith, h.high);
      node = λ p a b c d. go p a b c d (ℕ_discrete p (i / 2));
      keys = λ s. get_or-set_other tree (i / 2) (leaves + s) v 0 (λ e. omega (arith, h.high)) ∙ h.keys s;
    }
  where
    v : ℕ
    v = greater_child tree (i / 2)

    go :
        (p : ℕ) → 0 < p → p < leaves → (2 * p ≡ i / 2 → ⊥) → (2 * p + 1 ≡ i / 2 → ⊥) → Dec (p ≡ i / 2)
        → get_or (set tree (i / 2) v) p 0 ≡ greater_child (set tree (i / 2) v) p
    go p a b c d (yes e) =
        ap (λ (j : ℕ). get_or (set tree (i / 2) v) j 0) e
        ∙ get_or-set_same tree (i / 2) v 0 (omega (arith, h.places))
        ∙ ap (greater_child tree) (sym e)
        ∙ sym (ap₂ max (get_or-set_other tree (i / 2) (2 * p) v 0 c) (get_or-set_other tree (i / 2) (2 * p + 1) v 0 d))
    go p a b c d (no e) = kept tree (i / 2) v p e c d (h.node p a b (λ x. e (omega arith)) (λ x. e (omega arith)))

-- without a service every key is 0
zeros : (i : ℕ) → i < nodes → ◌≡◌ {A = ℕ} (get_or (replicate nodes 0) i 0) 0
zeros i l = get_or-replicate nodes i 0 0 l

pub tournament-none : Tournament (replicate nodes 0)
tournament-none =
    record { node = λ i a b. zeros i (omega arith) ∙ sym (ap₂ max (zeros (2 * i) (omega arith)) (zeros (2 * i + 1) (omega arith))) }

pub entered-none : (f : ℕ → ℕ) → Entered f 0 (replicate nodes 0)
entered-none f = record { key = λ s l. absurd (omega arith); none = λ s _ l. zeros (leaves + s) (omega arith) }

-- a service enters, or enters again with another saving
pub entered-one :
    (f g : ℕ → ℕ) (n m s : ℕ) (before tree : List ℕ) → Entered f n before → Replaced before s (key_of (g s) s) tree
    → n ≤ m → m ≤ leaves → s < m → ((i : ℕ) → i < m → (i ≡ s → ⊥) → (i < n) × (g i ≡ f i)) → Entered g m tree
entered-one f g n m s before tree h r a b l same =
    record {
      key = λ i k. go i k (ℕ_discrete i s);
      none = λ i k c. r.others i c (λ e. omega arith) ∙ h.none i (omega arith) c;
    }
  where
    go : (i : ℕ) → i < m → Dec (i ≡ s) → get_or tree (leaves + i) 0 ≡ key_of (g i) i
    go i k (yes e) = ap (λ (j : ℕ). get_or tree (leaves + j) 0) e ∙ r.here ∙ ap (λ (j : ℕ). key_of (g j) j) (sym e)
    go i k (no d) =
        r.others i (omega arith) d
        ∙ h.key i (same i k d).0
        ∙ ap (λ (x : ℕ). key_of x i) (sym (same i k d).1)

-- a key that some leaf has
record Leaf (tree : List ℕ) (v : ℕ) : Type 0 where
  leaf : ℕ
  inside : leaf < leaves
  is : v ≡ get_or tree (leaves + leaf) 0

module _ {tree : List ℕ} (h : Tournament tree) where
  -- no node holds more than the root
  below_root : (d i : ℕ) → i ≤ d → 0 < i → i < nodes → get_or tree i 0 ≤ get_or tree 1 0
  below_root zero i a b c = absurd (omega arith)
  below_root (suc d) i a b c = go (ℕ_discrete i 1) (below_root d (i / 2))
    where
      up : Dec (i ≡ 2 * (i / 2)) → 1 < i → get_or tree i 0 ≤ get_or tree (i / 2) 0
      up (yes e) l = omega (arith, h.node (i / 2) (omega arith) (omega arith), ap (λ (j : ℕ). get_or tree j 0) e)
      up (no e) l =
          let o : i ≡ 2 * (i / 2) + 1 = omega arith in
          omega (arith, h.node (i / 2) (omega arith) (omega arith), ap (λ (j : ℕ). get_or tree j 0) o)

      go : Dec (i ≡ 1) → (i / 2 ≤ d → 0 < i / 2 → i / 2 < nodes → get_or tree (i / 2) 0 ≤ get_or tree 1 0) → get_or tree i 0 ≤ get_or tree 1 0
      go (yes e) ih = omega (arith, ap (λ (j : ℕ). get_or tree j 0) e)
      go (no e) ih =
          omega (arith, up (ℕ_discrete i (2 * (i / 2))) (omega arith), ih (omega arith) (omega arith) (omega arith))

  -- every node holds the key of some leaf
  from-leaf : (d i : ℕ) → nodes ≤ i + d → 0 < i → i < nodes → Leaf tree (get_or tree i 0)
  from-leaf zero i a b c = absurd (omega arith)
  from-leaf (suc d) i a b c = go (dec_lt i leaves) (from-leaf d)
    where
      Below : Type 0
      Below = (j : ℕ) → nodes ≤ j + d → 0 < j → j < nodes → Leaf tree (get_or tree j 0)

      down : i < leaves → Below → Dec (get_or tree (2 * i) 0 ≤ get_or tree (2 * i + 1) 0) → Leaf tree (get_or tree i 0)
      down l ih (yes m) =
          let p = ih (2 * i + 1) (omega arith) (omega arith) (omega arith) in
          record { leaf = p.leaf; inside = p.inside; is = omega (arith, h.node i b l, p.is) }
      down l ih (no m) =
          let p = ih (2 * i) (omega arith) (omega arith) (omega arith) in
          record { leaf = p.leaf; inside = p.inside; is = omega (arith, h.node i b l, p.is) }

      go : Dec (i < leaves) → Below → Leaf tree (get_or tree i 0)
      go (yes l) ih = down l ih (dec_le (get_or tree (2 * i) 0) (get_or tree (2 * i + 1) 0))
      go (no l) ih =
          let e : i ≡ leaves + (i - leaves) = omega arith in
          record { leaf = i - leaves; inside = omega arith; is = ap (λ (j : ℕ). get_or tree j 0) e }

-- the place of the greatest value, the lowest if equal, and that value
pub record Greatest (f : ℕ → ℕ) (n i v : ℕ) : Type 0 where
  pub place : i ≡ argmax f n
  pub value : v ≡ f i

-- the root has it
pub winner :
    (f : ℕ → ℕ) (n : ℕ) (tree : List ℕ) → Tournament tree → Entered f n tree → 0 < n → n ≤ leaves
    → Greatest f n (leaves - 1 - get_or tree 1 0 % leaves) (get_or tree 1 0 / leaves)
winner f n tree t h some few = go (from-leaf t (nodes - 1) 1 (omega arith) (omega arith) (omega arith))
  where
    top : ℕ
    top = get_or tree 1 0

    most : (i : ℕ) → i < n → key_of (f i) i ≤ top
    most i l = omega (arith, h.key i l, below_root t (nodes - 1) (leaves + i) (omega arith) (omega arith) (omega arith))

    first : (j : ℕ) → j < n → top ≡ key_of (f j) j → IsArgmax f n j
    first j l e =
        record {
          inside = l;
          best = λ i k. omega (arith, most i k);
          lowest = λ i k. omega (arith, most i (omega arith));
        }

    found : (j : ℕ) → j < n → top ≡ key_of (f j) j → Greatest f n (leaves - 1 - top % leaves) (top / leaves)
    found j l e =
        let here : leaves - 1 - top % leaves ≡ j = omega arith in
        record {
          place = here ∙ argmax-unique f n j (argmax f n) (first j l e) (argmax-is f n some);
          value = omega (arith, ap f here);
        }

    go : Leaf tree top → Greatest f n (leaves - 1 - top % leaves) (top / leaves)
    go p = by_cases (dec_lt p.leaf n)
      where
        by_cases : Dec (p.leaf < n) → Greatest f n (leaves - 1 - top % leaves) (top / leaves)
        by_cases (yes l) = found p.leaf l (p.is ∙ h.key p.leaf l)
        by_cases (no l) = absurd (omega (arith, p.is, h.none p.leaf (omega arith) p.inside, most 0 some))
