-- The ids that an update knows: they ascend, they are those of the rules and of the new weights and no others, and their weights sum to what the new
-- weights sum to.
use Prim.Native.Nat.{ℕ, zero, suc, ◌+◌, ◌≤◌, ◌<◌}
use mathlib.Core.Bool.{Bool, true, false}
use mathlib.Core.List.{List, [], ◌∷◌, map}
use mathlib.Core.Logic.{◌⊎◌, inl, inr}
use mathlib.Core.Path.{◌≡◌, refl, ap, ap₂, sym, ◌∙◌}
use native.Mathlib.Omega.{arith}
use lib.Dec.{ltb, eqb}
use lib.ListN.{length, get_or}
use borrow.Author.Tests.{ltb-true, ltb-false, eqb-true, eqb-false, lt-ltb, le-ltb, eq-eqb, ne_eqb}
use Rattle.numerals.specs.Pick.{pick}
use Rattle.numerals.specs.Sums.{sum_to}
use Rattle.numerals.proofs.Searches.{clash}
use Rattle.expansion.specs.Answer.{id_before}
use Rattle.expansion.specs.Known.{include, known_ids, weight_of}
use Rattle.expansion.specs.Inner.Known.{Above, Among, place_in, is_there, insert_at}
use Rattle.expansion.specs.Inner.Lists.{no_rule}
use Rattle.expansion.specs.declared.rule.Rule.{Rule}
use Rattle.expansion.proofs.Ids.{Rises}

-- ascending numbers by their places

pub above_at : (m : ℕ) (xs : List ℕ) → Above m xs → (b : ℕ) → b < length xs → m < get_or xs b 0
unfolding Above
above_at m [] a b l = absurd (omega arith)
above_at m (x ∷ xs) a zero l = a.0
above_at m (x ∷ xs) a (suc b) l = omega (arith, a.0, above_at x xs a.1 b (omega arith))

above-lt : (m : ℕ) (xs : List ℕ) → Above m xs → (a b : ℕ) → a < b → b < length xs → get_or xs a 0 < get_or xs b 0
unfolding Above
above-lt m [] h a b l n = absurd (omega arith)
above-lt m (x ∷ xs) h a zero l n = absurd (omega arith)
above-lt m (x ∷ xs) h zero (suc b) l n = above_at x xs h.1 b (omega arith)
above-lt m (x ∷ xs) h (suc a) (suc b) l n = above-lt x xs h.1 a b (omega arith) (omega arith)

pub above-rises : (xs : List ℕ) → Above 0 xs → Rises xs (length xs)
unfolding id_before
above-rises xs h zero l = above_at 0 xs h 0 l
above-rises xs h (suc b) l = above-lt 0 xs h b (suc b) (omega arith) l

above_of : (m : ℕ) (xs : List ℕ) → (0 < length xs → m < get_or xs 0 0) → ((b : ℕ) → suc b < length xs → get_or xs b 0 < get_or xs (suc b) 0) → Above m xs
unfolding Above
above_of m [] first next = tt
above_of m (x ∷ xs) first next = (first (omega arith), above_of x xs (λ l. next 0 (omega arith)) (λ b l. next (suc b) (omega arith)))

pub rises-above : (xs : List ℕ) → Rises xs (length xs) → Above 0 xs
unfolding id_before
rises-above xs R = above_of 0 xs (λ l. R 0 l) (λ b l. R (suc b) l)

-- what is among ids

module _ (y x : ℕ) (xs : List ℕ) where
  among-head : y ≡ x → Among y (x ∷ xs)
  among-head e = (0, omega arith, e)

  among-tail : Among y xs → Among y (x ∷ xs)
  among-tail a = (suc a.0, omega (arith, a.1), a.2)

  among_cases : Among y (x ∷ xs) → (y ≡ x) ⊎ Among y xs
  among_cases a = go a.0 a.1 a.2
    where
      go : (b : ℕ) → b < length (x ∷ xs) → y ≡ get_or (x ∷ xs) b 0 → (y ≡ x) ⊎ Among y xs
      go zero l e = inl e
      go (suc b) l e = inr (b, omega arith, e)

-- one id more

-- it is below the first, it is the first, or it is above
data Stands : ℕ → ℕ → Type 0 where
  lower : {id x : ℕ} → id < x → Stands id x
  same : {id x : ℕ} → id ≡ x → Stands id x
  higher : {id x : ℕ} → x < id → Stands id x

stands : (id x : ℕ) → Stands id x
stands id x = go (ltb id x) refl (eqb id x) refl
  where
    go : (t : Bool) → ltb id x ≡ t → (u : Bool) → eqb id x ≡ u → Stands id x
    go true p u q = Stands.lower (ltb-true id x p)
    go false p true q = Stands.same (eqb-true id x q)
    go false p false q = let l : x < id = omega (arith, ltb-false id x p, eqb-false id x q) in Stands.higher l

module _ (id x : ℕ) (xs : List ℕ) where
  include-below : id < x → include id (x ∷ xs) ≡ id ∷ x ∷ xs
  unfolding include
  include-below l = simp (lt-ltb id x l)

  include-same : id ≡ x → include id (x ∷ xs) ≡ x ∷ xs
  unfolding include
  include-same e = simp (le-ltb id x (omega arith), eq-eqb id x e)

  include-above : x < id → include id (x ∷ xs) ≡ x ∷ include id xs
  unfolding include
  include-above l = simp (le-ltb id x (omega arith), ne_eqb id x (λ e. omega arith))

pub include-rises : (m id : ℕ) (xs : List ℕ) → m < id → Above m xs → Above m (include id xs)
unfolding Above include
include-rises m id [] h a = (h, tt)
include-rises m id (x ∷ xs) h a = go (stands id x) (λ l. include-rises x id xs l a.1)
  where
    go : Stands id x → (x < id → Above x (include id xs)) → Above m (include id (x ∷ xs))
    go (Stands.lower l) ih = rw (include-below id x xs l) (h, (l, a.1))
    go (Stands.same e) ih = rw (include-same id x xs e) a
    go (Stands.higher l) ih = rw (include-above id x xs l) (a.0, ih l)

include-new : (id : ℕ) (xs : List ℕ) → Among id (include id xs)
unfolding include
include-new id [] = among-head id id [] refl
include-new id (x ∷ xs) = go (stands id x) (include-new id xs)
  where
    go : Stands id x → Among id (include id xs) → Among id (include id (x ∷ xs))
    go (Stands.lower l) ih = rw (include-below id x xs l) (among-head id id (x ∷ xs) refl)
    go (Stands.same e) ih = rw (include-same id x xs e) (among-head id x xs e)
    go (Stands.higher l) ih = rw (include-above id x xs l) (among-tail id x (include id xs) ih)

include-old : (id : ℕ) (xs : List ℕ) (y : ℕ) → Among y xs → Among y (include id xs)
unfolding include
include-old id [] y a = absurd (omega (arith, a.1))
include-old id (x ∷ xs) y a = go (stands id x) (λ t. include-old id xs y t)
  where
    on : (y ≡ x) ⊎ Among y xs → (Among y xs → Among y (include id xs)) → Among y (x ∷ include id xs)
    on (inl e) ih = among-head y x (include id xs) e
    on (inr t) ih = among-tail y x (include id xs) (ih t)

    go : Stands id x → (Among y xs → Among y (include id xs)) → Among y (include id (x ∷ xs))
    go (Stands.lower l) ih = rw (include-below id x xs l) (among-tail y id (x ∷ xs) a)
    go (Stands.same e) ih = rw (include-same id x xs e) a
    go (Stands.higher l) ih = rw (include-above id x xs l) (on (among_cases y x xs a) ih)

include-only : (id : ℕ) (xs : List ℕ) (y : ℕ) → Among y (include id xs) → (y ≡ id) ⊎ Among y xs
unfolding include
include-only id [] y a = among_cases y id [] a
include-only id (x ∷ xs) y a = go (stands id x) (λ t. include-only id xs y t)
  where
    next : (y ≡ id) ⊎ Among y xs → (y ≡ id) ⊎ Among y (x ∷ xs)
    next (inl e) = inl e
    next (inr t) = inr (among-tail y x xs t)

    on : (y ≡ x) ⊎ Among y (include id xs) → (Among y (include id xs) → (y ≡ id) ⊎ Among y xs) → (y ≡ id) ⊎ Among y (x ∷ xs)
    on (inl e) ih = inr (among-head y x xs e)
    on (inr t) ih = next (ih t)

    go : Stands id x → (Among y (include id xs) → (y ≡ id) ⊎ Among y xs) → (y ≡ id) ⊎ Among y (x ∷ xs)
    go (Stands.lower l) ih = among_cases y id (x ∷ xs) (rw (include-below id x xs l) at a)
    go (Stands.same e) ih = inr (rw (include-same id x xs e) at a)
    go (Stands.higher l) ih = on (among_cases y x (include id xs) (rw (include-above id x xs l) at a)) ih

include-count : (id : ℕ) (xs : List ℕ) → (length xs ≤ length (include id xs)) × (length (include id xs) ≤ suc (length xs))
unfolding include
include-count id [] = (omega arith, omega arith)
include-count id (x ∷ xs) = go (stands id x) (include-count id xs)
  where
    go : Stands id x → (length xs ≤ length (include id xs)) × (length (include id xs) ≤ suc (length xs))
        → (length (x ∷ xs) ≤ length (include id (x ∷ xs))) × (length (include id (x ∷ xs)) ≤ suc (length (x ∷ xs)))
    go (Stands.lower l) ih = rw (include-below id x xs l) (omega arith, omega arith)
    go (Stands.same e) ih = rw (include-same id x xs e) (omega arith, omega arith)
    go (Stands.higher l) ih = rw (include-above id x xs l) (omega (arith, ih.0), omega (arith, ih.1))

-- the ids that are known

-- the id of a rule, or of a new weight
abbrev pub Mentioned : ℕ → List Rule → List ℕ → Type 0
Mentioned y rs ids = ((i : ℕ) × (i < length rs) × (y ≡ (get_or rs i no_rule).backend)) ⊎ Among y ids

known-rule : (rs : List Rule) (ids : List ℕ) (i : ℕ) → i < length rs → Among (get_or rs i no_rule).backend (known_ids rs ids)
unfolding known_ids
known-rule [] ids i l = absurd (omega arith)
known-rule (r ∷ rs) ids zero l = include-new r.backend (known_ids rs ids)
known-rule (r ∷ rs) ids (suc i) l = include-old r.backend (known_ids rs ids) (get_or rs i no_rule).backend (known-rule rs ids i (omega arith))

pub known-id : (rs : List Rule) (ids : List ℕ) (y : ℕ) → Among y ids → Among y (known_ids rs ids)
unfolding known_ids
known-id [] ids y a = a
known-id (r ∷ rs) ids y a = include-old r.backend (known_ids rs ids) y (known-id rs ids y a)

known_only : (rs : List Rule) (ids : List ℕ) (y : ℕ) → Among y (known_ids rs ids) → Mentioned y rs ids
unfolding known_ids
known_only [] ids y a = inr a
known_only (r ∷ rs) ids y a = go (include-only r.backend (known_ids rs ids) y a) (λ t. known_only rs ids y t)
  where
    next : Mentioned y rs ids → Mentioned y (r ∷ rs) ids
    next (inl h) = inl (suc h.0, omega (arith, h.1), h.2)
    next (inr t) = inr t

    go : (y ≡ r.backend) ⊎ Among y (known_ids rs ids) → (Among y (known_ids rs ids) → Mentioned y rs ids) → Mentioned y (r ∷ rs) ids
    go (inl e) ih = inl (0, omega arith, e)
    go (inr t) ih = next (ih t)

-- an id is known if and only if it is that of a rule or of a new weight
pub known-exactly : (rs : List Rule) (ids : List ℕ) (y : ℕ)
    → (Among y (known_ids rs ids) → Mentioned y rs ids) × (Mentioned y rs ids → Among y (known_ids rs ids))
known-exactly rs ids y = (known_only rs ids y, back)
  where
    back : Mentioned y rs ids → Among y (known_ids rs ids)
    back (inl h) = let t = known-rule rs ids h.0 h.1 in (t.0, t.1, h.2 ∙ t.2)
    back (inr t) = known-id rs ids y t

pub known-count : (rs : List Rule) (ids : List ℕ)
    → (length ids ≤ length (known_ids rs ids)) × (length (known_ids rs ids) ≤ length rs + length ids)
unfolding known_ids
known-count [] ids = (omega arith, omega arith)
known-count (r ∷ rs) ids =
    let c = include-count r.backend (known_ids rs ids) in
    let d = known-count rs ids in
    (omega (arith, c.0, d.0), omega (arith, c.1, d.1))

-- ids from 1 on
module _ (ids : List ℕ) (rising : Above 0 ids) where
  pub known-above : (rs : List Rule) → ((i : ℕ) → i < length rs → 1 ≤ (get_or rs i no_rule).backend) → Above 0 (known_ids rs ids)
  unfolding known_ids
  known-above [] named = rising
  known-above (r ∷ rs) named =
      include-rises 0 r.backend (known_ids rs ids) (named 0 (omega arith)) (known-above rs (λ i l. named (suc i) (omega arith)))

  -- they ascend strictly
  pub known-ascend : (rs : List Rule) → ((i : ℕ) → i < length rs → 1 ≤ (get_or rs i no_rule).backend)
      → (a b : ℕ) → a < b → b < length (known_ids rs ids) → get_or (known_ids rs ids) a 0 < get_or (known_ids rs ids) b 0
  known-ascend rs named = above-lt 0 (known_ids rs ids) (known-above rs named)

-- the place of an id

pub place-le : (id : ℕ) (xs : List ℕ) → place_in id xs ≤ length xs
unfolding place_in
place-le id [] = omega arith
place-le id (x ∷ xs) = go (ltb x id) (place-le id xs)
  where
    go : (t : Bool) → place_in id xs ≤ length xs → pick t (suc (place_in id xs)) 0 ≤ suc (length xs)
    go true ih = omega arith
    go false ih = omega arith

pub place-next : (id x : ℕ) (xs : List ℕ) → x < id → place_in id (x ∷ xs) ≡ suc (place_in id xs)
unfolding place_in
place-next id x xs l = simp (lt-ltb x id l)

pub place-stop : (id x : ℕ) (xs : List ℕ) → id ≤ x → place_in id (x ∷ xs) ≡ 0
unfolding place_in
place-stop id x xs l = simp (le-ltb x id l)

-- an id that is there is found
pub place_found : (m id : ℕ) (xs : List ℕ) → Above m xs → Among id xs → (place_in id xs < length xs) × (id ≡ get_or xs (place_in id xs) 0)
unfolding Above
place_found m id [] h a = absurd (omega (arith, a.1))
place_found m id (x ∷ xs) h a = go (among_cases id x xs a) (λ t. place_found x id xs h.1 t)
  where
    go : (id ≡ x) ⊎ Among id xs → (Among id xs → (place_in id xs < length xs) × (id ≡ get_or xs (place_in id xs) 0))
        → (place_in id (x ∷ xs) < length (x ∷ xs)) × (id ≡ get_or (x ∷ xs) (place_in id (x ∷ xs)) 0)
    go (inl e) ih = rw (place-stop id x xs (omega arith)) (omega arith, e)
    go (inr t) ih =
        let l : x < id = omega (arith, above_at x xs h.1 t.0 t.1, t.2) in
        let p = ih t in
        rw (place-next id x xs l) (omega (arith, p.0), p.1)

pub there-found : (id : ℕ) (xs : List ℕ) → Above 0 xs → Among id xs → is_there id xs ≡ true
there-found id xs h a = eq-eqb (get_or xs (place_in id xs) 0) id (sym (place_found 0 id xs h a).1)

-- what `include` comes to: the id is there, or is put in its place

pick-cons : (t : Bool) (x : ℕ) (ls ms : List ℕ) → x ∷ pick t ls ms ≡ pick t (x ∷ ls) (x ∷ ms)
pick-cons true x ls ms = refl
pick-cons false x ls ms = refl

pub include-is : (id : ℕ) (xs : List ℕ) → 1 ≤ id → include id xs ≡ pick (is_there id xs) xs (insert_at (place_in id xs) id xs)
unfolding include place_in
include-is id [] h = simp (ne_eqb 0 id (λ e. omega arith))
include-is id (x ∷ xs) h = go (stands id x) (include-is id xs h)
  where
    go : Stands id x → include id xs ≡ pick (is_there id xs) xs (insert_at (place_in id xs) id xs)
        → include id (x ∷ xs) ≡ pick (is_there id (x ∷ xs)) (x ∷ xs) (insert_at (place_in id (x ∷ xs)) id (x ∷ xs))
    go (Stands.lower l) ih = simp (lt-ltb id x l, le-ltb x id (omega arith), ne_eqb x id (λ e. omega arith))
    go (Stands.same e) ih = simp (le-ltb id x (omega arith), eq-eqb id x e, le-ltb x id (omega arith), eq-eqb x id (sym e))
    go (Stands.higher l) ih =
        include-above id x xs l
        ∙ ap (λ (l : List ℕ). x ∷ l) ih
        ∙ pick-cons (is_there id xs) x xs (insert_at (place_in id xs) id xs)
        ∙ sym (simp (lt-ltb x id l))

-- the weights

map-insert : (f : ℕ → ℕ) (at y : ℕ) (xs : List ℕ) → map f (insert_at at y xs) ≡ insert_at at (f y) (map f xs)
map-insert f zero y xs = refl
map-insert f (suc at) y [] = refl
map-insert f (suc at) y (x ∷ xs) = ap (λ (l : List ℕ). f x ∷ l) (map-insert f at y xs)

pub weight-none : (ids ws : List ℕ) (y : ℕ) → (Among y ids → ⊥) → weight_of ids ws y ≡ 0
unfolding weight_of
weight-none [] ws y d = refl
weight-none (x ∷ xs) [] y d = refl
weight-none (x ∷ xs) (w ∷ ws) y d =
    ap (λ (t : Bool). pick t w (weight_of xs ws y)) (ne_eqb x y (λ e. d (among-head y x xs (sym e)))) ∙ weight-none xs ws y (λ t. d (among-tail y x xs t))

-- one rule more: where its id is new, its weight is 0
pub known_more : (r : Rule) (rs : List Rule) (ids ws : List ℕ) → 1 ≤ r.backend → Above 0 (known_ids rs ids)
    → pick (is_there r.backend (known_ids rs ids)) (map (weight_of ids ws) (known_ids rs ids))
    (insert_at (place_in r.backend (known_ids rs ids)) 0 (map (weight_of ids ws) (known_ids rs ids)))
    ≡ map (weight_of ids ws) (known_ids (r ∷ rs) ids)
unfolding known_ids
known_more r rs ids ws h rising = sym (ap (map f) (include-is id xs h) ∙ go (is_there id xs) refl)
  where
    id : ℕ
    id = r.backend

    xs : List ℕ
    xs = known_ids rs ids

    f : ℕ → ℕ
    f = weight_of ids ws

    go : (t : Bool) → is_there id xs ≡ t
        → map f (pick t xs (insert_at (place_in id xs) id xs)) ≡ pick t (map f xs) (insert_at (place_in id xs) 0 (map f xs))
    go true e = refl
    go false e =
        map-insert f (place_in id xs) id xs
        ∙ ap (λ (w : ℕ). insert_at (place_in id xs) w (map f xs))
        (weight-none ids ws id (λ a. clash (is_there id xs) (there-found id xs rising (known-id rs ids id a)) e))

-- the new weights, by the ids that they have

weights-behind : (m x w : ℕ) (xs ws ys : List ℕ) → x ≤ m → Above m ys → map (weight_of (x ∷ xs) (w ∷ ws)) ys ≡ map (weight_of xs ws) ys
unfolding weight_of Above
weights-behind m x w xs ws [] h a = refl
weights-behind m x w xs ws (y ∷ ys) h a =
    ap₂ (λ (v : ℕ) (l : List ℕ). v ∷ l) (ap (λ (t : Bool). pick t w (weight_of xs ws y)) (ne_eqb x y (λ e. omega (arith, a.0))))
    (weights-behind y x w xs ws ys (omega (arith, a.0)) a.1)

pub weights-are : (m : ℕ) (ids ws : List ℕ) → Above m ids → length ids ≡ length ws → map (weight_of ids ws) ids ≡ ws
unfolding weight_of Above
weights-are m [] [] a e = refl
weights-are m [] (w ∷ ws) a e = absurd (omega arith)
weights-are m (x ∷ xs) [] a e = absurd (omega arith)
weights-are m (x ∷ xs) (w ∷ ws) a e =
    ap₂ (λ (v : ℕ) (l : List ℕ). v ∷ l) (ap (λ (t : Bool). pick t w (weight_of xs ws x)) (eq-eqb x x refl))
    (weights-behind x x w xs ws xs (omega arith) a.1 ∙ weights-are x xs ws a.1 (omega arith))

-- sums

abbrev total : List ℕ → ℕ
total [] = 0
total (x ∷ xs) = x + total xs

sum-front : (n : ℕ) (f : ℕ → ℕ) → sum_to (suc n) f ≡ f 0 + sum_to n (λ i. f (suc i))
unfolding sum_to
sum-front zero f = omega arith
sum-front (suc n) f = omega (arith, sum-front n f)

sum-total : (xs : List ℕ) → sum_to (length xs) (λ b. get_or xs b 0) ≡ total xs
unfolding sum_to
sum-total [] = refl
sum-total (x ∷ xs) = omega (arith, sum-front (length xs) (λ b. get_or (x ∷ xs) b 0), sum-total xs)

total-insert : (at : ℕ) (xs : List ℕ) → total (insert_at at 0 xs) ≡ total xs
total-insert zero xs = omega arith
total-insert (suc at) [] = refl
total-insert (suc at) (x ∷ xs) = ap (λ (n : ℕ). x + n) (total-insert at xs)

module _ (ids ws : List ℕ) (rising : Above 0 ids) (paired : length ids ≡ length ws) where
  total-known : (rs : List Rule) → ((i : ℕ) → i < length rs → 1 ≤ (get_or rs i no_rule).backend) → total (map (weight_of ids ws) (known_ids rs ids)) ≡ total ws
  unfolding known_ids
  total-known [] named = ap total (weights-are 0 ids ws rising paired)
  total-known (r ∷ rs) named =
      sym (ap total (known_more r rs ids ws (named 0 (omega arith)) (known-above ids rising rs (λ i l. named (suc i) (omega arith)))))
      ∙ go (is_there r.backend (known_ids rs ids))
      ∙ total-known rs (λ i l. named (suc i) (omega arith))
    where
      old : List ℕ
      old = map (weight_of ids ws) (known_ids rs ids)

      go : (t : Bool) → total (pick t old (insert_at (place_in r.backend (known_ids rs ids)) 0 old)) ≡ total old
      go true = refl
      go false = total-insert (place_in r.backend (known_ids rs ids)) old

  -- the weights of the ids that are known sum to what the new weights sum to
  pub sum-known : (rs : List Rule) → ((i : ℕ) → i < length rs → 1 ≤ (get_or rs i no_rule).backend)
      → let known = map (weight_of ids ws) (known_ids rs ids) in
      sum_to (length known) (λ b. get_or known b 0) ≡ sum_to (length ws) (λ b. get_or ws b 0)
  sum-known rs named = sum-total (map (weight_of ids ws) (known_ids rs ids)) ∙ total-known rs named ∙ sym (sum-total ws)
