-- The checks of a packing, service by service, and what they leave.
use Rattle.std.specs.Prelude.{Err, Ok}
use Prim.Native.Nat.{ℕ, zero, suc, ◌+◌, ◌-◌, ◌≤◌, ◌<◌, min, max}
use mathlib.Core.List.{List, [], ◌∷◌}
use mathlib.Core.Path.{◌≡◌, refl, sym, ap, ◌∙◌}
use native.Mathlib.Numerals.{add-one}
use native.Mathlib.Omega.{arith}
use lib.Dec.{leb, ltb, eqb}
use lib.ListN.{length, get_or, take, drop, length-drop}
use lib.Seq.{drop-cons, drop-drop}
use borrow.Author.Tests.{lt-ltb, le-ltb, le-leb, leb-true, ltb-true}
use Rattle.expansion.specs.Answer.{and_then, or_else, in_limits, check_weights}
use Rattle.numerals.specs.Limits.{most_bits, most_backends, most_services, most_rules, most_capacity, most_volume, unit}
use Rattle.numerals.specs.declared.refusal.Refusal.{Refusal}
use Rattle.numerals.specs.declared.refusal.Refusal.TheVariants.{Malformed, BadField, TooMany, NoService, TableShort}
use Rattle.expansion.proofs.Checks.{both-passed, test-passed, limits, Weighed, weights-passed, call-weights}
use Rattle.expansion.specs.Imbalance.{backends, label, weight}
use Rattle.numerals.proofs.Searches.{true-both}
use Rattle.expansion.proofs.Ids.{rises-distinct, rises-named}
use Rattle.packing.specs.Count.{services, targets_of}
use Rattle.packing.specs.Table.{rule_budget}
use Rattle.packing.specs.Answer.{services_with, chunks, services_of, check_service, check_from, check_services, check_head, check_all}
use Rattle.packing.specs.Inner.Premises.{Balanced}
use Rattle.packing.specs.Inner.Lists.{start, part, Sized}

-- the ids and weights of the first service begin at the start
pub start-zero : (sizes : List ℕ) → start sizes 0 ≡ 0
unfolding start
start-zero [] = refl
start-zero (n ∷ ns) = refl

-- those of the next service begin after those of this one
pub start-suc : (sizes : List ℕ) (s : ℕ) → s < length sizes → start sizes (suc s) ≡ start sizes s + get_or sizes s 0
unfolding start
start-suc [] s l = absurd (omega arith)
start-suc (n ∷ []) zero l = omega arith
start-suc (n ∷ m ∷ ns) zero l = omega arith
start-suc (n ∷ ns) (suc s) l = omega (arith, start-suc ns s (omega arith))

-- the numbers of a service after the first, in what the first leaves of the row
part-suc : (n : ℕ) (ns row : List ℕ) (s : ℕ) → part (n ∷ ns) row (suc s) ≡ part ns (drop n row) s
unfolding part start
part-suc n ns row s = ap (take (get_or ns s 0)) (sym (drop-drop (start ns s) n row))

-- a row taken apart by the sizes has them at its place
pub chunk-at : (sizes row : List ℕ) (s : ℕ) → s < length sizes → get_or (chunks sizes row) s [] ≡ part sizes row s
unfolding chunks part start
chunk-at [] row s l = absurd (omega arith)
chunk-at (n ∷ ns) row zero l = refl
chunk-at (n ∷ ns) row (suc s) l = chunk-at ns (drop n row) s (omega arith) ∙ sym (part-suc n ns row s)

-- the checks from service s on: its line, one too many, one without a volume or without a size, and none

pub from_step :
    (volumes sizes ids ws : List ℕ) (s at : ℕ) → s < length volumes → s < length sizes
    → check_from s (drop s volumes) (drop s sizes) (drop at ids) (drop at ws)
    ≡ and_then (or_else (ltb s most_services) TooMany)
    (and_then (check_service (get_or volumes s 0) (get_or sizes s 0) (drop at ids) (drop at ws))
    (check_from (suc s) (drop (suc s) volumes) (drop (suc s) sizes) (drop (at + get_or sizes s 0) ids) (drop (at + get_or sizes s 0) ws)))
unfolding check_from
from_step volumes sizes ids ws s at l m =
    rw (drop-cons volumes s 0 l, drop-cons sizes s 0 m, check_from, drop-drop (get_or sizes s 0) at ids, drop-drop (get_or sizes s 0) at ws)

from-many : (s : ℕ) (vs ns ids ws : List ℕ) → most_services ≤ s → 0 < max (length vs) (length ns) → check_from s vs ns ids ws ≡ Err TooMany
unfolding check_from
from-many s [] [] ids ws h l = absurd (omega arith)
from-many s [] (n ∷ ns) ids ws h l = simp (le-ltb s most_services h)
from-many s (v ∷ vs) [] ids ws h l = simp (le-ltb s most_services h)
from-many s (v ∷ vs) (n ∷ ns) ids ws h l = simp (le-ltb s most_services h)

from-no-volume : (s : ℕ) (vs ns ids ws : List ℕ) → s < most_services → length vs ≡ 0 → 0 < length ns → check_from s vs ns ids ws ≡ Err Malformed
unfolding check_from
from-no-volume s [] [] ids ws h e l = absurd (omega arith)
from-no-volume s [] (n ∷ ns) ids ws h e l = simp (lt-ltb s most_services h)
from-no-volume s (v ∷ vs) ns ids ws h e l = absurd (omega arith)

from-no-size : (s : ℕ) (vs ns ids ws : List ℕ) → s < most_services → length ns ≡ 0 → 0 < length vs → check_from s vs ns ids ws ≡ Err Malformed
unfolding check_from
from-no-size s [] ns ids ws h e l = absurd (omega arith)
from-no-size s (v ∷ vs) [] ids ws h e l = simp (lt-ltb s most_services h)
from-no-size s (v ∷ vs) (n ∷ ns) ids ws h e l = absurd (omega arith)

from_end :
    (s : ℕ) (vs ns ids ws : List ℕ) → length vs ≡ 0 → length ns ≡ 0
    → check_from s vs ns ids ws ≡ and_then (or_else (eqb (length ids) 0) Malformed) (or_else (eqb (length ws) 0) Malformed)
unfolding check_from
from_end s [] [] ids ws e f = refl
from_end s [] (n ∷ ns) ids ws e f = absurd (omega arith)
from_end s (v ∷ vs) ns ids ws e f = absurd (omega arith)

-- the checks of all services, where those before service s passed and its ids and weights begin at `at`
module _ (volumes sizes ids ws : List ℕ) (s at : ℕ)
    (before : check_from 0 volumes sizes ids ws ≡ check_from s (drop s volumes) (drop s sizes) (drop at ids) (drop at ws)) where
  services-left :
      check_services volumes sizes ids ws
      ≡ and_then (check_from s (drop s volumes) (drop s sizes) (drop at ids) (drop at ws)) (or_else (ltb 0 (length volumes)) NoService)
  unfolding check_services
  services-left = simp before

  pub services-many : s < max (length volumes) (length sizes) → most_services ≤ s → check_services volumes sizes ids ws ≡ Err TooMany
  services-many l h =
      services-left
      ∙ simp (from-many s (drop s volumes) (drop s sizes) (drop at ids) (drop at ws) h (omega (arith, length-drop s volumes, length-drop s sizes)))

  pub services-no-volume : s < most_services → length volumes ≤ s → s < length sizes → check_services volumes sizes ids ws ≡ Err Malformed
  services-no-volume h l m =
      services-left
      ∙ simp (from-no-volume s (drop s volumes) (drop s sizes) (drop at ids) (drop at ws) h (omega (arith, length-drop s volumes))
      (omega (arith, length-drop s sizes)))

  pub services-no-size : s < most_services → s < length volumes → length sizes ≤ s → check_services volumes sizes ids ws ≡ Err Malformed
  services-no-size h l m =
      services-left
      ∙ simp (from-no-size s (drop s volumes) (drop s sizes) (drop at ids) (drop at ws) h (omega (arith, length-drop s sizes))
      (omega (arith, length-drop s volumes)))

  module _ (place : s < most_services) (volume : s < length volumes) (size : s < length sizes) where
    pub services-failed :
        (why : Refusal) → check_service (get_or volumes s 0) (get_or sizes s 0) (drop at ids) (drop at ws) ≡ Err why
        → check_services volumes sizes ids ws ≡ Err why
    services-failed why e =
        services-left ∙ simp (from_step volumes sizes ids ws s at volume size, lt-ltb s most_services place, e)

    pub services-passed :
        check_service (get_or volumes s 0) (get_or sizes s 0) (drop at ids) (drop at ws) ≡ Ok tt
        → check_from 0 volumes sizes ids ws
        ≡ check_from (s + 1) (drop (s + 1) volumes) (drop (s + 1) sizes) (drop (at + get_or sizes s 0) ids) (drop (at + get_or sizes s 0) ws)
    services-passed e = before ∙ from_step volumes sizes ids ws s at volume size ∙ simp (lt-ltb s most_services place, e, add-one)

  pub services-end :
      length volumes ≤ s → length sizes ≤ s
      → check_services volumes sizes ids ws
      ≡ and_then (and_then (or_else (eqb (length ids - at) 0) Malformed) (or_else (eqb (length ws - at) 0) Malformed))
      (or_else (ltb 0 (length volumes)) NoService)
  services-end l m =
      services-left
      ∙ rw (
        from_end s (drop s volumes) (drop s sizes) (drop at ids) (drop at ws) (omega (arith, length-drop s volumes)) (omega (arith, length-drop s sizes)),
        length-drop at ids,
        length-drop at ws,
      )

-- what is known of a service that passed: its volume v, its size n, its ids and its weights
pub record Known (v n : ℕ) (ids ws : List ℕ) : Type 0 where
  pub volume : v ≤ most_volume
  pub some : 1 ≤ n
  pub few : n ≤ most_backends
  pub weighed : check_weights ids ws ≡ Ok tt

-- its ids and weights stand in their rows too
pub service-passed :
    (v n : ℕ) (ids ws : List ℕ) → check_service v n ids ws ≡ Ok tt
    → (n ≤ min (length ids) (length ws)) × Known v n (take n ids) (take n ws)
unfolding check_service
service-passed v n ids ws e =
    let low = and_then (or_else (leb v most_volume) BadField) (check_weights (take n ids) (take n ws)) in
    let long = and_then (or_else (leb n (length ws)) Malformed) low in
    let both = and_then (or_else (leb n (length ids)) Malformed) long in
    let p = both-passed (or_else (ltb 0 n) Malformed) (and_then (or_else (leb n most_backends) TooMany) both) e in
    let q = both-passed (or_else (leb n most_backends) TooMany) both p.1 in
    let i = both-passed (or_else (leb n (length ids)) Malformed) long q.1 in
    let r = both-passed (or_else (leb n (length ws)) Malformed) low i.1 in
    let w = both-passed (or_else (leb v most_volume) BadField) (check_weights (take n ids) (take n ws)) r.1 in (
      omega (
        arith,
        leb-true n (length ids) (test-passed (leb n (length ids)) Malformed i.0),
        leb-true n (length ws) (test-passed (leb n (length ws)) Malformed r.0),
      ),
      record {
        volume = leb-true v most_volume (test-passed (leb v most_volume) BadField w.0);
        some = omega (arith, ltb-true 0 n (test-passed (ltb 0 n) Malformed p.0));
        few = leb-true n most_backends (test-passed (leb n most_backends) TooMany q.0);
        weighed = w.1;
      },
    )

-- service i of those from s on, in all service j: it is none too many, and its ids and weights stand in their rows
pub record Placed (j : ℕ) (vs ns ids ws : List ℕ) (i : ℕ) : Type 0 where
  pub place : j < most_services
  pub inside : start ns i + get_or ns i 0 ≤ min (length ids) (length ws)
  pub known : Known (get_or vs i 0) (get_or ns i 0) (part ns ids i) (part ns ws i)

-- the first of the services and the rest
from_first :
    (s v n : ℕ) (vs ns ids ws : List ℕ) → check_from s (v ∷ vs) (n ∷ ns) ids ws ≡ Ok tt
    → Placed s (v ∷ vs) (n ∷ ns) ids ws 0 × (n ≤ min (length ids) (length ws)) × (check_from (suc s) vs ns (drop n ids) (drop n ws) ≡ Ok tt)
unfolding check_from start part
from_first s v n vs ns ids ws e =
    let rest = check_from (suc s) vs ns (drop n ids) (drop n ws) in
    let p = both-passed (or_else (ltb s most_services) TooMany) (and_then (check_service v n ids ws) rest) e in
    let q = both-passed (check_service v n ids ws) rest p.1 in
    let k = service-passed v n ids ws q.0 in (
      record {
        place = ltb-true s most_services (test-passed (ltb s most_services) TooMany p.0);
        inside = omega (arith, k.0);
        known = k.1;
      },
      k.0,
      q.1,
    )

-- a service that lacks its volume or its size doesn't pass
none-alone : (s : ℕ) → and_then (or_else (ltb s most_services) TooMany) (Err Malformed) ≡ Ok tt → ⊥
none-alone s e =
    let p = both-passed (or_else (ltb s most_services) TooMany) (Err Malformed) e in
    let z : ◌≡◌ {A = ℕ} 0 1 = cc p.1 in
    omega arith

pub from-same : (s : ℕ) (vs ns ids ws : List ℕ) → check_from s vs ns ids ws ≡ Ok tt → length vs ≡ length ns
unfolding check_from
from-same s [] [] ids ws e = refl
from-same s [] (n ∷ ns) ids ws e = absurd (none-alone s e)
from-same s (v ∷ vs) [] ids ws e = absurd (none-alone s e)
from-same s (v ∷ vs) (n ∷ ns) ids ws e =
    ap suc (from-same (suc s) vs ns (drop n ids) (drop n ws) (from_first s v n vs ns ids ws e).2)

from-passed :
    (s : ℕ) (vs ns ids ws : List ℕ) → check_from s vs ns ids ws ≡ Ok tt → (i j : ℕ) → s + i ≡ j → i < length ns
    → Placed j vs ns ids ws i
unfolding start
from-passed s vs [] ids ws e i j h l = absurd (omega arith)
from-passed s [] (n ∷ ns) ids ws e i j h l = absurd (omega (arith, from-same s [] (n ∷ ns) ids ws e))
from-passed s (v ∷ vs) (n ∷ ns) ids ws e zero j h l =
    let same : j ≡ s = omega arith in rw same (from_first s v n vs ns ids ws e).0
from-passed s (v ∷ vs) (n ∷ ns) ids ws e (suc i) j h l =
    let f = from_first s v n vs ns ids ws e in
    let next = from-passed (suc s) vs ns (drop n ids) (drop n ws) f.2 i j (omega arith) (omega arith) in
    record {
      place = next.place;
      inside = omega (arith, next.inside, length-drop n ids, length-drop n ws, f.1);
      known = rw (part-suc n ns ids i, part-suc n ns ws i) next.known;
    }

-- the numbers of a packing that are accepted
pub record Accepted (k tolerance capacity : ℕ) (volumes sizes ids ws : List ℕ) : Type 0 where
  pub some_bits : 1 ≤ k
  pub few_bits : k ≤ most_bits
  pub tolerable : tolerance ≤ unit
  pub some-room : 1 ≤ capacity
  pub little-room : capacity ≤ most_capacity
  pub same : length volumes ≡ length sizes
  pub some : 1 ≤ length sizes
  pub few : length sizes ≤ most_services
  pub room : length sizes ≤ capacity
  pub each : (s : ℕ) → s < length sizes → Placed s volumes sizes ids ws s

pub all-passed :
    (k tolerance capacity : ℕ) (volumes sizes ids ws : List ℕ) → check_all k tolerance capacity volumes sizes ids ws ≡ Ok tt
    → Accepted k tolerance capacity volumes sizes ids ws
unfolding check_all check_head check_services
all-passed k tolerance capacity volumes sizes ids ws e =
    let short = or_else (leb (length volumes) capacity) TableShort in
    let p = both-passed (check_head k tolerance capacity) (and_then (check_services volumes sizes ids ws) short) e in
    let q = both-passed (check_services volumes sizes ids ws) short p.1 in
    let rooms = or_else (in_limits 1 most_capacity capacity) BadField in
    let h = both-passed (or_else (in_limits 1 most_bits k) BadField) (and_then (or_else (leb tolerance unit) BadField) rooms) p.0 in
    let g = both-passed (or_else (leb tolerance unit) BadField) rooms h.1 in
    let bits = limits 1 most_bits k (test-passed (in_limits 1 most_bits k) BadField h.0) in
    let cap = limits 1 most_capacity capacity (test-passed (in_limits 1 most_capacity capacity) BadField g.1) in
    let v = both-passed (check_from 0 volumes sizes ids ws) (or_else (ltb 0 (length volumes)) NoService) q.0 in
    let same : length volumes ≡ length sizes = from-same 0 volumes sizes ids ws v.0 in
    let placed : (s : ℕ) → s < length sizes → Placed s volumes sizes ids ws s =
    λ s l. from-passed 0 volumes sizes ids ws v.0 s s (omega arith) l in
    let some : 0 < length volumes = ltb-true 0 (length volumes) (test-passed (ltb 0 (length volumes)) NoService v.1) in
    let room : length volumes ≤ capacity = leb-true (length volumes) capacity (test-passed (leb (length volumes) capacity) TableShort q.1) in
    record {
      some_bits = bits.0;
      few_bits = bits.1;
      tolerable = leb-true tolerance unit (test-passed (leb tolerance unit) BadField g.0);
      some-room = cap.0;
      little-room = cap.1;
      same = same;
      some = omega arith;
      few = omega (arith, (placed (length sizes - 1) (omega arith)).place);
      room = omega arith;
      each = placed;
    }

-- services whose ids ascend from above 0 and whose weights sum to the unit are such as the demands are about
pub services-balanced :
    (k : ℕ) (volumes : List ℕ) (ids weights : List (List ℕ)) → 1 ≤ k
    → ((s : ℕ) → s < length volumes → Weighed (get_or ids s []) (get_or weights s [])) → Balanced (services_with unit k volumes ids weights)
unfolding services_with services targets_of backends label weight unit
services-balanced k volumes ids weights some W =
    record {
      bits = some;
      positive = omega arith;
      weigh = λ s l. (W s l).balanced;
      distinct = λ s l. rises-distinct (get_or ids s []) (length (get_or weights s [])) (W s l).rises;
      labelled = λ s l. rises-named (get_or ids s []) (length (get_or weights s [])) (W s l).rises;
    }

module _ {k tolerance capacity : ℕ} {volumes sizes ids ws : List ℕ} (A : Accepted k tolerance capacity volumes sizes ids ws) where
  -- the lists can be made
  pub sized : Sized k tolerance sizes ids ws
  unfolding rule_budget in_limits
  sized =
      record {
        few = A.few;
        inside = λ s l. (A.each s l).inside;
        sound =
            λ s l. call-weights k tolerance most_rules (part sizes ids s) (part sizes ws s)
            (true-both (leb 1 k) (leb k most_bits) (le-leb 1 k A.some_bits) (le-leb k most_bits A.few_bits)) A.tolerable refl
            ∙ (A.each s l).known.weighed;
      }

  -- the ids of each service ascend from above 0 to at most most_id, and its weights sum to the unit
  pub weighed : (s : ℕ) → s < length volumes → Weighed (get_or (chunks sizes ids) s []) (get_or (chunks sizes ws) s [])
  weighed s l =
      let m : s < length sizes = omega (arith, A.same) in
      rw (chunk-at sizes ids s m, chunk-at sizes ws s m) (weights-passed (part sizes ids s) (part sizes ws s) (A.each s m).known.weighed)

  -- so they are such as the demands are about
  pub balanced : Balanced (services_of k volumes sizes ids ws)
  balanced = services-balanced k volumes (chunks sizes ids) (chunks sizes ws) A.some_bits weighed

  pub volume-le : (s : ℕ) → s < length volumes → get_or volumes s 0 ≤ most_volume
  volume-le s l = (A.each s (omega (arith, A.same))).known.volume
