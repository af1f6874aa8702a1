-- The lists of all services, each stored in its places, are those of the definitions; a list stored for a later service leaves them.
use Rattle.std.specs.Prelude.{Ok, Result}
use Prim.Native.Nat.{ℕ, zero, suc, ◌+◌, ◌-◌, ◌*◌, ◌^◌, ◌≤◌, ◌<◌, min}
use mathlib.Core.Bool.{Bool, false}
use mathlib.Core.List.{List, [], ◌∷◌, ◌++◌, map, reverse}
use mathlib.Core.Path.{◌≡◌, refl, sym, ap, ap₂, ◌∙◌}
use native.Mathlib.Decide.{ℕ_discrete}
use native.Mathlib.Nat.{zero-mul}
use native.Mathlib.Omega.{arith}
use lib.ListN.{length, get_or, set, drop, length-set, length-append, length-map, length-reverse, get_or-append, get_or-map}
use lib.Seq.{sets, length-sets, get_or-set_same, get_or-set_other, get_or_at, drop-length}
use lib.Dec.{eqb}
use borrow.Author.Tests.{le-leb, ne_eqb}
use Rattle.numerals.specs.Sums.{count_to}
use Rattle.expansion.specs.FirstMatch.{nobody, first_match, gives, share}
use Rattle.expansion.specs.Imbalance.{Targets, backends, label, has, excess, imbalance}
use Rattle.expansion.specs.Steps.{Frame, first_rule, frame, end_of, list_of, oldest, stair, stairs_to}
use Rattle.numerals.specs.Buffer.{filled}
use Rattle.expansion.specs.Answer.{check_call, answer, is_made, frame_made, list_made, lens_made, values_made, backends_made, stairs_made, record_made}
use Rattle.numerals.specs.Limits.{most_rules, unit}
use Rattle.expansion.specs.Inner.Lists.{no_rule}
use Rattle.expansion.specs.declared.rule.Rule.{Rule}
use Rattle.expansion.specs.declared.rule.Record.{Record}
use Rattle.numerals.proofs.Sums.{sum-zero, count-const}
use Rattle.expansion.proofs.Turns.{length-le}
use Rattle.packing.specs.Count.{services, targets_of}
use Rattle.packing.specs.Table.{rule_budget, frame_of, list_for}
use Rattle.packing.specs.Answer.{services_with, services_of, end_number}
use Rattle.packing.specs.Inner.Lists.{stride, place_of, rule_at, ListedTo, part, Sized}
use Rattle.expansion.specs.Inner.Sound.{Labelled}
use Rattle.expansion.proofs.Checks.{call-passed}
use Rattle.packing.proofs.Checks.{chunk-at}
use Rattle.numerals.specs.declared.refusal.Refusal.{Refusal}

-- stores from a position on

pub sets_below :
    (l vs : List ℕ) (at i : ℕ) → i < at → get_or (sets l at vs) i 0 ≡ get_or l i 0
sets_below l [] at i h = refl
sets_below l (v ∷ vs) at i h =
    sets_below (set l at v) vs (suc at) i (omega arith) ∙ get_or-set_other l at i v 0 (λ e. omega arith)

pub sets-at :
    (l vs : List ℕ) (at j i : ℕ) → at + j ≡ i → j < length vs → at + length vs ≤ length l
    → get_or (sets l at vs) i 0 ≡ get_or vs j 0
sets-at l [] at j i e h fits = absurd (omega arith)
sets-at l (v ∷ vs) at zero i e h fits =
    let here : i ≡ at = omega arith in
    rw here (sets_below (set l at v) vs (suc at) at (omega arith) ∙ get_or-set_same l at v 0 (omega arith))
sets-at l (v ∷ vs) at (suc j) i e h fits =
    sets-at (set l at v) vs (suc at) j i (omega arith) (omega arith) (omega (arith, length-set l at v))

-- the places of service s for its rules hold these values
pub record Column (l : List ℕ) (s : ℕ) (vs : List ℕ) : Type 0 where
  pub at : (j : ℕ) → j < length vs → get_or l (place_of s (suc j)) 0 ≡ get_or vs j 0

column-made : (l vs : List ℕ) (s : ℕ) → place_of s 1 + length vs ≤ length l → Column (sets l (place_of s 1) vs) s vs
column-made l vs s fits =
    record { at = λ j h. sets-at l vs (place_of s 1) j (place_of s (suc j)) (omega arith) h fits }

column-kept :
    (l vs us : List ℕ) (s t : ℕ) → s < t → length vs ≤ most_rules → Column l s vs → Column (sets l (place_of t 1) us) s vs
column-kept l vs us s t h few C =
    record { at = λ j k. sets_below l us (place_of t 1) (place_of s (suc j)) (omega arith) ∙ C.at j k }

-- the place for no rule of a service isn't one of its rules, nor of an earlier service
column-other :
    (l vs : List ℕ) (s t x : ℕ) → s ≤ t → length vs ≤ most_rules → Column l s vs → Column (set l (stride * t) x) s vs
column-other l vs s t x h few C =
    record { at = λ j k. get_or-set_other l (stride * t) (place_of s (suc j)) x 0 (λ e. omega arith) ∙ C.at j k }

-- the length of a list

module _ (k tolerance : ℕ) (ids ws : List ℕ) where
  pub list-few : length (list_made k tolerance most_rules ids ws) ≤ most_rules
  unfolding list_made list_of frame_made frame first_rule
  list-few = length-le (frame_made k tolerance ids ws) (most_rules - 1)

-- with no rule no backend that has a label has too much
none-given : (T : Targets) (b : ℕ) → (label T b ≡ nobody → ⊥) → excess T [] b ≡ 0
unfolding excess has share gives first_match
none-given T b h =
    let other : eqb nobody (label T b) ≡ false = ne_eqb nobody (label T b) (λ e. h (sym e)) in
    let none : share T.k [] (label T b) ≡ 0 =
    ap (λ (t : Bool). count_to (2 ^ T.k) (λ s. t)) other ∙ count-const (2 ^ T.k) false in
    omega (arith, ap (λ (a : ℕ). a * T.unit) none, zero-mul T.unit)

-- the stair before any rule
pub stair-none : (F : Frame) (rs : List Rule) → Labelled (label F.targets) (backends F.targets) → stair F 0 rs ≡ 0
unfolding stair oldest imbalance
stair-none F rs labelled =
    let all : length rs - 0 ≡ length rs = omega arith in
    ap (λ (n : ℕ). imbalance F.targets (drop n rs)) all
    ∙ ap (imbalance F.targets) (drop-length rs)
    ∙ sum-zero (backends F.targets) (excess F.targets []) (λ b l. none-given F.targets b (labelled b l))

-- each backend of a call that passed has its id
made-labelled :
    (k tolerance : ℕ) (ids ws : List ℕ) → check_call k tolerance most_rules ids ws ≡ Ok tt
    → Labelled (label (frame_made k tolerance ids ws).targets) (backends (frame_made k tolerance ids ws).targets)
unfolding frame_made frame backends label
made-labelled k tolerance ids ws passed = (call-passed k tolerance most_rules ids ws passed).0.named

length-stairs : (F : Frame) (rs : List Rule) (c : ℕ) → length (stairs_to F rs c) ≡ c
unfolding stairs_to
length-stairs F rs zero = refl
length-stairs F rs (suc c) =
    length-append (stairs_to F rs c) (stair F (suc c) rs ∷ []) ∙ omega (arith, length-stairs F rs c)

stairs-at : (F : Frame) (rs : List Rule) (c j : ℕ) → j < c → get_or (stairs_to F rs c) j 0 ≡ stair F (suc j) rs
unfolding stairs_to
stairs-at F rs zero j h = absurd (omega arith)
stairs-at F rs (suc c) j h = go (ℕ_discrete j c) (stairs-at F rs c j)
  where
    go :
        Dec (j ≡ c) → (j < c → get_or (stairs_to F rs c) j 0 ≡ stair F (suc j) rs)
        → get_or (stairs_to F rs c ++ stair F (suc c) rs ∷ []) j 0 ≡ stair F (suc j) rs
    go (yes e) ih = rw e (get_or_at (stairs_to F rs c) (stair F (suc c) rs) [] 0 c (length-stairs F rs c))
    go (no d) ih =
        get_or-append (stairs_to F rs c) (stair F (suc c) rs ∷ []) 0 j (omega (arith, length-stairs F rs c))
        ∙ ih (omega arith)

rule-at : (f : Rule → ℕ) → f no_rule ≡ 0 → (rs : List Rule) (j : ℕ) → get_or (map f (reverse rs)) j 0 ≡ f (get_or (reverse rs) j no_rule)
rule-at f e rs j =
    ap (get_or (map f (reverse rs)) j) (sym e) ∙ get_or-map f (reverse rs) j no_rule

length-column : (f : Rule → ℕ) (rs : List Rule) → length (map f (reverse rs)) ≡ length rs
length-column f rs = length-map (reverse rs) f ∙ length-reverse rs

-- the list of service s, whose backends have these ids and weights, as it is stored
pub record Entry (k tolerance : ℕ) (ids ws : List ℕ) (s : ℕ) (lens values backends stairs counts ends : List ℕ) : Type 0 where
  pub len : Column lens s (lens_made k tolerance most_rules ids ws)
  pub value : Column values s (values_made k tolerance most_rules ids ws)
  pub backend : Column backends s (backends_made k tolerance most_rules ids ws)
  pub none : get_or stairs (stride * s) 0 ≡ 0
  pub stair : Column stairs s (stairs_made k tolerance most_rules ids ws)
  pub count : get_or counts s 0 ≡ (record_made k tolerance most_rules ids ws).rules
  pub ended : get_or ends s 0 ≡ end_number (record_made k tolerance most_rules ids ws).ended

entry-made :
    (k tolerance : ℕ) (ids ws : List ℕ) (s : ℕ) (lens values backends stairs counts ends : List ℕ)
    → place_of s 1 + most_rules ≤ min (min (length lens) (length values)) (min (length backends) (length stairs))
    → s < min (length counts) (length ends)
    → Entry k tolerance ids ws s (sets lens (place_of s 1) (lens_made k tolerance most_rules ids ws))
    (sets values (place_of s 1) (values_made k tolerance most_rules ids ws))
    (sets backends (place_of s 1) (backends_made k tolerance most_rules ids ws))
    (set (sets stairs (place_of s 1) (stairs_made k tolerance most_rules ids ws)) (stride * s) 0)
    (set counts s (record_made k tolerance most_rules ids ws).rules)
    (set ends s (end_number (record_made k tolerance most_rules ids ws).ended))
unfolding lens_made values_made backends_made stairs_made
entry-made k tolerance ids ws s lens values backends stairs counts ends fits room =
    let rs = list_made k tolerance most_rules ids ws in
    let few : length rs ≤ most_rules = list-few k tolerance ids ws in
    let long : length (stairs_made k tolerance most_rules ids ws) ≡ length rs =
    length-stairs (frame_made k tolerance ids ws) rs (length rs) in
    record {
      len = column-made lens (lens_made k tolerance most_rules ids ws) s (omega (arith, length-column (λ (r : Rule). r.len) rs));
      value = column-made values (values_made k tolerance most_rules ids ws) s (omega (arith, length-column (λ (r : Rule). r.value) rs));
      backend = column-made backends (backends_made k tolerance most_rules ids ws) s (omega (arith, length-column (λ (r : Rule). r.backend) rs));
      none =
          get_or-set_same (sets stairs (place_of s 1) (stairs_made k tolerance most_rules ids ws)) (stride * s) 0 0
          (omega (arith, length-sets stairs (place_of s 1) (stairs_made k tolerance most_rules ids ws)));
      stair =
          column-other (sets stairs (place_of s 1) (stairs_made k tolerance most_rules ids ws)) (stairs_made k tolerance most_rules ids ws) s s 0 (omega arith)
          (omega arith) (column-made stairs (stairs_made k tolerance most_rules ids ws) s (omega arith));
      count = get_or-set_same counts s (record_made k tolerance most_rules ids ws).rules 0 (omega arith);
      ended = get_or-set_same ends s (end_number (record_made k tolerance most_rules ids ws).ended) 0 (omega arith);
    }

-- a list stored for a later service t
entry_kept :
    (k tolerance : ℕ) (ids ws : List ℕ) (s t : ℕ) (lens values backends stairs counts ends a b d e : List ℕ) (x y z : ℕ)
    → s < t → Entry k tolerance ids ws s lens values backends stairs counts ends
    → Entry k tolerance ids ws s (sets lens (place_of t 1) a) (sets values (place_of t 1) b) (sets backends (place_of t 1) d)
    (set (sets stairs (place_of t 1) e) (stride * t) z) (set counts t x) (set ends t y)
unfolding lens_made values_made backends_made stairs_made
entry_kept k tolerance ids ws s t lens values backends stairs counts ends a b d e x y z h E =
    let rs = list_made k tolerance most_rules ids ws in
    let few : length rs ≤ most_rules = list-few k tolerance ids ws in
    let long : length (stairs_made k tolerance most_rules ids ws) ≡ length rs =
    length-stairs (frame_made k tolerance ids ws) rs (length rs) in
    record {
      len = column-kept lens (lens_made k tolerance most_rules ids ws) a s t h (omega (arith, length-column (λ (r : Rule). r.len) rs)) E.len;
      value = column-kept values (values_made k tolerance most_rules ids ws) b s t h (omega (arith, length-column (λ (r : Rule). r.value) rs)) E.value;
      backend =
          column-kept backends (backends_made k tolerance most_rules ids ws) d s t h (omega (arith, length-column (λ (r : Rule). r.backend) rs))
          E.backend;
      none =
          get_or-set_other (sets stairs (place_of t 1) e) (stride * t) (stride * s) z 0 (λ p. omega arith)
          ∙ sets_below stairs e (place_of t 1) (stride * s) (omega arith) ∙ E.none;
      stair =
          column-other (sets stairs (place_of t 1) e) (stairs_made k tolerance most_rules ids ws) s t z (omega arith) (omega arith)
          (column-kept stairs (stairs_made k tolerance most_rules ids ws) e s t h (omega arith) E.stair);
      count = get_or-set_other counts t s x 0 (λ p. omega arith) ∙ E.count;
      ended = get_or-set_other ends t s y 0 (λ p. omega arith) ∙ E.ended;
    }

-- the lists of the services before n are stored
pub record Entries (k tolerance : ℕ) (sizes ids ws : List ℕ) (n : ℕ) (lens values backends stairs counts ends : List ℕ) : Type 0 where
  pub each : (s : ℕ) → s < n → Entry k tolerance (part sizes ids s) (part sizes ws s) s lens values backends stairs counts ends

-- no service, no list
pub entries_none :
    (k tolerance : ℕ) (sizes ids ws lens values backends stairs counts ends : List ℕ)
    → Entries k tolerance sizes ids ws 0 lens values backends stairs counts ends
entries_none k tolerance sizes ids ws lens values backends stairs counts ends = record { each = λ s l. absurd (omega arith) }

-- a call of the expansion that passes its checks and has the room makes the list
made-answer :
    (k tolerance : ℕ) (ids ws : List ℕ) (at room : ℕ) → check_call k tolerance most_rules ids ws ≡ Ok tt → at + most_rules ≤ room
    → answer k tolerance most_rules ids ws at room ≡ Ok (record_made k tolerance most_rules ids ws)
unfolding answer
made-answer k tolerance ids ws at room passed fits =
    simp (
      passed,
      le-leb (at + length (list_made k tolerance most_rules ids ws)) room (omega (arith, list-few k tolerance ids ws)),
    )

-- one list more, as the expansion answers for the ids and weights of service s
module _ (k tolerance : ℕ) (sizes ids ws : List ℕ) (s : ℕ) (lens values backends stairs : List ℕ)
    (passed : check_call k tolerance most_rules (part sizes ids s) (part sizes ws s) ≡ Ok tt)
    (fits : place_of s 1 + most_rules ≤ min (min (length lens) (length values)) (min (length backends) (length stairs)))
    (own_ids own : List ℕ) (are_ids : own_ids ≡ part sizes ids s) (is : own ≡ part sizes ws s) (r : (Result Record Refusal))
    (answered :
    r ≡ answer k tolerance most_rules own_ids own (place_of s 1) (min (min (length lens) (length values)) (min (length backends) (length stairs)))) where
  pub made : r ≡ Ok (record_made k tolerance most_rules (part sizes ids s) (part sizes ws s))
  made =
      answered
      ∙ rw (are_ids, is) (made-answer k tolerance (part sizes ids s) (part sizes ws s) (place_of s 1)
      (min (min (length lens) (length values)) (min (length backends) (length stairs))) passed fits)

  pub entries-more :
      (m : Record) → r ≡ Ok m → (counts ends : List ℕ) → s < min (length counts) (length ends)
      → Entries k tolerance sizes ids ws s lens values backends stairs counts ends
      → (lens' values' backends' stairs' : List ℕ)
      → lens' ≡ filled (is_made r) lens (place_of s 1) (lens_made k tolerance most_rules own_ids own)
      → values' ≡ filled (is_made r) values (place_of s 1) (values_made k tolerance most_rules own_ids own)
      → backends' ≡ filled (is_made r) backends (place_of s 1) (backends_made k tolerance most_rules own_ids own)
      → stairs' ≡ filled (is_made r) stairs (place_of s 1) (stairs_made k tolerance most_rules own_ids own)
      → Entries k tolerance sizes ids ws (s + 1) lens' values' backends' (set stairs' (stride * s) 0) (set counts s m.rules)
      (set ends s (end_number m.ended))
  entries-more m e counts ends room E lens' values' backends' stairs' p q u v =
      let ids' = part sizes ids s in
      let ws' = part sizes ws s in
      let same : m ≡ record_made k tolerance most_rules ids' ws' = cc made in
      let p' : lens' ≡ sets lens (place_of s 1) (lens_made k tolerance most_rules ids' ws') = rw (made, are_ids, is) at p in
      let q' : values' ≡ sets values (place_of s 1) (values_made k tolerance most_rules ids' ws') = rw (made, are_ids, is) at q in
      let u' : backends' ≡ sets backends (place_of s 1) (backends_made k tolerance most_rules ids' ws') = rw (made, are_ids, is) at u in
      let v' : stairs' ≡ sets stairs (place_of s 1) (stairs_made k tolerance most_rules ids' ws') = rw (made, are_ids, is) at v in
      rw (same, p', q', u', v') (record { each = λ t l. go t l (ℕ_discrete t s) })
    where
      ids' : List ℕ
      ids' = part sizes ids s

      ws' : List ℕ
      ws' = part sizes ws s

      go :
          (t : ℕ) → t < s + 1 → Dec (t ≡ s)
          → Entry k tolerance (part sizes ids t) (part sizes ws t) t (sets lens (place_of s 1) (lens_made k tolerance most_rules ids' ws'))
          (sets values (place_of s 1) (values_made k tolerance most_rules ids' ws')) (sets backends (place_of s 1)
          (backends_made k tolerance most_rules ids' ws'))
          (set (sets stairs (place_of s 1) (stairs_made k tolerance most_rules ids' ws')) (stride * s) 0)
          (set counts s (record_made k tolerance most_rules ids' ws').rules)
          (set ends s (end_number (record_made k tolerance most_rules ids' ws').ended))
      go t l (yes e) = rw e (entry-made k tolerance ids' ws' s lens values backends stairs counts ends fits room)
      go t l (no d) =
          entry_kept k tolerance (part sizes ids t) (part sizes ws t) t s lens values backends stairs counts ends (lens_made k tolerance most_rules ids' ws')
          (values_made k tolerance most_rules ids' ws') (backends_made k tolerance most_rules ids' ws') (stairs_made k tolerance most_rules ids' ws')
          (record_made k tolerance most_rules ids' ws').rules (end_number (record_made k tolerance most_rules ids' ws').ended) 0 (omega arith)
          (E.each t (omega arith))

-- so service s has the list of the definitions
module _ (k tolerance : ℕ) (volumes sizes ids ws : List ℕ) (s : ℕ) (inside : s < length sizes) where
  frame-of : frame_of (services_of k volumes sizes ids ws) tolerance s ≡ frame_made k tolerance (part sizes ids s) (part sizes ws s)
  unfolding frame_of services_with targets_of frame_made
  frame-of = ap₂ (frame k unit tolerance) (chunk-at sizes ids s inside) (chunk-at sizes ws s inside)

  list-of : list_for (services_of k volumes sizes ids ws) tolerance s ≡ list_made k tolerance most_rules (part sizes ids s) (part sizes ws s)
  unfolding list_for rule_budget list_made
  list-of = ap (λ (F : Frame). list_of F most_rules) frame-of

  -- one column of its rules
  column-of :
      (f : Rule → ℕ) → f no_rule ≡ 0 → (l : List ℕ)
      → Column l s (map f (reverse (list_made k tolerance most_rules (part sizes ids s) (part sizes ws s)))) → (j : ℕ)
      → j < length (list_for (services_of k volumes sizes ids ws) tolerance s)
      → get_or l (place_of s (suc j)) 0 ≡ f (rule_at (list_for (services_of k volumes sizes ids ws) tolerance) s j)
  unfolding rule_at
  column-of f e l C j h =
      let rs = list_made k tolerance most_rules (part sizes ids s) (part sizes ws s) in
      C.at j (omega (arith, ap length list-of, length-column f rs))
      ∙ rule-at f e rs j
      ∙ ap (λ (x : List Rule). f (get_or (reverse x) j no_rule)) (sym list-of)

  stairs-of :
      (l : List ℕ) → Column l s (stairs_made k tolerance most_rules (part sizes ids s) (part sizes ws s)) → (j : ℕ)
      → j < length (list_for (services_of k volumes sizes ids ws) tolerance s)
      → get_or l (place_of s (suc j)) 0
      ≡ stair (frame_of (services_of k volumes sizes ids ws) tolerance s) (suc j) (list_for (services_of k volumes sizes ids ws) tolerance s)
  unfolding stairs_made
  stairs-of l C j h =
      let F = frame_made k tolerance (part sizes ids s) (part sizes ws s) in
      let rs = list_made k tolerance most_rules (part sizes ids s) (part sizes ws s) in
      let inside : j < length rs = omega (arith, ap length list-of) in
      C.at j (omega (arith, length-stairs F rs (length rs)))
      ∙ stairs-at F rs (length rs) j inside
      ∙ ap₂ (λ (F : Frame) (x : List Rule). stair F (suc j) x) (sym frame-of) (sym list-of)

  -- with that before any rule
  stairs-from :
      check_call k tolerance most_rules (part sizes ids s) (part sizes ws s) ≡ Ok tt → (l : List ℕ) → get_or l (stride * s) 0 ≡ 0
      → Column l s (stairs_made k tolerance most_rules (part sizes ids s) (part sizes ws s)) → (c : ℕ)
      → c ≤ length (list_for (services_of k volumes sizes ids ws) tolerance s)
      → get_or l (place_of s c) 0
      ≡ stair (frame_of (services_of k volumes sizes ids ws) tolerance s) c (list_for (services_of k volumes sizes ids ws) tolerance s)
  stairs-from passed l e C zero h =
      let here : place_of s 0 ≡ stride * s = omega arith in
      ap (λ (i : ℕ). get_or l i 0) here
      ∙ e
      ∙ sym (stair-none (frame_made k tolerance (part sizes ids s) (part sizes ws s)) (list_made k tolerance most_rules (part sizes ids s) (part sizes ws s))
      (made-labelled k tolerance (part sizes ids s) (part sizes ws s) passed))
      ∙ ap₂ (λ (F : Frame) (x : List Rule). stair F 0 x) (sym frame-of) (sym list-of)
  stairs-from passed l e C (suc j) h = stairs-of l C j h

-- and so have all
pub listed :
    (k tolerance : ℕ) (sizes ids ws : List ℕ) (n : ℕ) (lens values backends stairs counts ends : List ℕ) → n ≤ length sizes
    → Sized k tolerance sizes ids ws → Entries k tolerance sizes ids ws n lens values backends stairs counts ends
    → ListedTo k tolerance sizes ids ws n lens values backends stairs counts ends
unfolding services services_with rule_budget record_made lens_made values_made backends_made
listed k tolerance sizes ids ws n lens values backends stairs counts ends inside Z E volumes same =
    let S = services_of k volumes sizes ids ws in
    let known : (s : ℕ) → s < length volumes → s < length sizes = λ s l. omega arith in
    let entry : (s : ℕ) → s < length volumes → Entry k tolerance (part sizes ids s) (part sizes ws s) s lens values backends stairs counts ends =
    λ s l. E.each s (omega arith) in
    let list : (s : ℕ) → s < length volumes → list_for S tolerance s ≡ list_made k tolerance most_rules (part sizes ids s) (part sizes ws s) =
    λ s l. list-of k tolerance volumes sizes ids ws s (known s l) in
    record {
      stepped =
          record {
            count = λ s l. (entry s l).count ∙ ap length (sym (list s l));
            few = λ s l. omega (arith, ap length (list s l), list-few k tolerance (part sizes ids s) (part sizes ws s));
            step = λ s c l. stairs-from k tolerance volumes sizes ids ws s (known s l) (Z.sound s (known s l)) stairs (entry s l).none (entry s l).stair c;
          };
      ended =
          λ s l. (entry s l).ended
          ∙ ap₂ (λ (F : Frame) (x : List Rule). end_number (end_of F x)) (sym (frame-of k tolerance volumes sizes ids ws s (known s l))) (sym (list s l));
      len = λ s j l. column-of k tolerance volumes sizes ids ws s (known s l) (λ r. r.len) refl lens (entry s l).len j;
      value = λ s j l. column-of k tolerance volumes sizes ids ws s (known s l) (λ r. r.value) refl values (entry s l).value j;
      backend = λ s j l. column-of k tolerance volumes sizes ids ws s (known s l) (λ r. r.backend) refl backends (entry s l).backend j;
    }
