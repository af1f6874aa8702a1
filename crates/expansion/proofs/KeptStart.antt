-- The start from kept rules is one that the run can be taken up from: it fits, its shares are the counts, and its list is the kept rules.
use Prim.Native.Nat.{ℕ, suc, ◌+◌, ◌-◌, ◌%◌, ◌^◌, ◌≤◌, ◌<◌, min, max}
use mathlib.Core.Bool.{Bool, true, false}
use mathlib.Core.List.{List, [], ◌∷◌}
use mathlib.Core.Path.{◌≡◌, refl, ap, sym, ◌∙◌, subst}
use native.Mathlib.Nat.{mod-lt, mod-one}
use native.Mathlib.Omega.{arith}
use lib.ListN.{length, get_or, set}
use lib.Pow.{pow_pos}
use lib.Seq.{get_or-set_same}
use borrow.Author.Tests.{eq-eqb}
use Rattle.numerals.specs.Limits.{most_rules}
use Rattle.numerals.specs.Pick.{pick}
use Rattle.numerals.specs.Suffix.{place}
use Rattle.numerals.proofs.Place.{place-lt, place-involution}
use Rattle.expansion.specs.FirstMatch.{is_rule, matches, first_match, gives}
use Rattle.expansion.specs.Imbalance.{backends, label, weight, imbalance}
use Rattle.expansion.specs.Steps.{Frame, after}
use Rattle.expansion.specs.Resume.{longest, cap_from}
use Rattle.expansion.specs.Inner.Sound.{Lengths, Complete}
use Rattle.expansion.specs.Inner.Holders.{Holds}
use Rattle.expansion.specs.Inner.Lists.{no_rule, newest_first, Listed}
use Rattle.expansion.specs.Inner.OldList.{Known, Proper}
use Rattle.expansion.specs.Inner.Known.{Among}
use Rattle.expansion.specs.Inner.Run.{Fits, Shared}
use Rattle.expansion.specs.Inner.Service.{targets_for, frame_for}
use Rattle.expansion.specs.Inner.Laying.{Starts}
use Rattle.expansion.specs.declared.rule.Rule.{Rule}
use Rattle.expansion.specs.declared.list.RuleList.{RuleList}
use Rattle.expansion.specs.declared.service.Service.{Service}
use Rattle.expansion.proofs.Checks.{some-unit}
use Rattle.expansion.proofs.FirstMatch.{rule-short, rule-bits, gives-low, lengths-mono}
use Rattle.expansion.proofs.LaidRules.{no_lows, holds-held}
use Rattle.expansion.proofs.Listing.{length-newest}

-- rules by their place, and all of them
pub lengths-of : (m : ℕ) (rs : List Rule) → ((i : ℕ) → i < length rs → (get_or rs i no_rule).len ≤ m) → Lengths m rs
unfolding Lengths
lengths-of m [] h = tt
lengths-of m (r ∷ rs) h = (h 0 (omega arith), lengths-of m rs (λ i l. h (suc i) (omega arith)))

pub longest-le : (m : ℕ) (rs : List Rule) → Lengths m rs → longest rs ≤ m
unfolding Lengths longest
longest-le m [] h = omega arith
longest-le m (r ∷ rs) h = omega (arith, h.0, longest-le m rs h.1)

pub lengths-longest : (rs : List Rule) → Lengths (longest rs) rs
unfolding Lengths longest
lengths-longest [] = tt
lengths-longest (r ∷ rs) = (omega arith, lengths-mono (longest rs) (max r.len (longest rs)) rs (omega arith) (lengths-longest rs))

-- the first match of rules for backends with these labels, the last a `*`

star-matches : (k : ℕ) (r : Rule) → is_rule k r ≡ true → r.len ≡ 0 → (s : ℕ) → matches r s ≡ true
unfolding matches
star-matches k r e star s =
    let one : 2 ^ r.len ≡ 1 = ap (λ (i : ℕ). 2 ^ i) star in
    let bits = rule-bits k r e in
    let none : r.value ≡ 0 = omega arith in
    eq-eqb (s % 2 ^ r.len) r.value (rw one (mod-one s) ∙ sym none)

first-among :
    (k : ℕ) (labels : List ℕ) (rs : List Rule) → ((i : ℕ) → i < length rs → Known k labels (get_or rs i no_rule)) → 0 < length rs
    → (get_or rs (length rs - 1) no_rule).len ≡ 0 → (s : ℕ) → Among (first_match rs s) labels
unfolding first_match
first-among k labels [] each some star s = absurd (omega arith)
first-among k labels (r ∷ []) each some star s =
    let K = each 0 some in
    let a = K.known in
    let e : pick (matches r s) r.backend 0 ≡ r.backend = ap (λ (m : Bool). pick m r.backend 0) (star-matches k r K.rule star s) in
    (a.0, a.1, e ∙ a.2)
first-among k labels (r ∷ q ∷ rs) each some star s =
    let last : length (r ∷ q ∷ rs) - 1 ≡ suc (length rs) = omega arith in
    let last' : length (q ∷ rs) - 1 ≡ length rs = omega arith in
    let star' : (get_or (q ∷ rs) (length (q ∷ rs) - 1) no_rule).len ≡ 0 =
    ap (λ (i : ℕ). (get_or (q ∷ rs) i no_rule).len) last' ∙ ap (λ (i : ℕ). (get_or (r ∷ q ∷ rs) i no_rule).len) (sym last) ∙ star in
    go (matches r s) (each 0 some) (first_match (q ∷ rs) s) (first-among k labels (q ∷ rs) (λ i l. each (suc i) (omega arith)) (omega arith) star' s)
  where
    go : (m : Bool) → Known k labels r → (f : ℕ) → Among f labels → Among (pick m r.backend f) labels
    go true K f h = K.known
    go false K f h = h

pub first-known : (k : ℕ) (labels : List ℕ) (rs : List Rule) → Proper k labels rs → (s : ℕ) → Among (first_match rs s) labels
first-known k labels rs P = first-among k labels rs P.each P.some P.star

module _ (s : Service) (list : RuleList) (holder shares : List ℕ) (budget : ℕ) (S : Starts s list holder shares budget) where
  abbrev k : ℕ
  k = s.k

  abbrev kept : List Rule
  kept = newest_first list.rules list.count

  abbrev F : Frame
  F = frame_for s (cap_from k kept) kept

  pub count-is : length kept ≡ list.count
  count-is = length-newest list.rules list.count

  pub some-kept : 1 ≤ list.count
  some-kept = omega (arith, S.proper.some, count-is)

  short-all : Lengths k kept
  short-all = lengths-of k kept (λ i l. rule-short k (get_or kept i no_rule) (S.proper.each i l).rule)

  pub longest-few : longest kept ≤ k
  longest-few = longest-le k kept short-all

  pub cap-below : cap_from k kept < k
  unfolding cap_from
  cap-below = omega (arith, s.valid.some_bits)

  short : Lengths (k - cap_from k kept) kept
  unfolding cap_from
  short = lengths-mono (longest kept) (k - min (k - longest kept) (k - 1)) kept (omega (arith, longest-few)) (lengths-longest kept)

  pub holds : Holds (targets_for s) kept holder no_lows
  holds = holds-held k s.labels.now s.weights.now kept holder shares s.valid.labelled S.held

  -- every suffix has a holder
  complete : Complete (label F.targets) (backends F.targets) kept
  complete x =
      let v = x % 2 ^ k in
      let m : v < 2 ^ k = mod-lt x (pow_pos k) in
      let p = place k v in
      let b = get_or holder p 0 in (
        b,
        holds.known p (place-lt k v),
        sym (gives-low k kept short-all x (label F.targets b))
            ∙ subst (λ (y : ℕ). gives kept y (label F.targets b) ≡ true) (place-involution k v m) (holds.holders p (place-lt k v)),
      )

  pub fits : Fits F
  unfolding backends label weight
  fits =
      record {
        in_unit = refl;
        few_bits = s.valid.few_bits;
        tolerable = s.valid.tolerable;
        few = s.valid.few;
        labelled = s.valid.labelled;
        sound =
            record {
              positive = some-unit;
              balanced = s.valid.balanced;
              distinct = s.valid.distinct;
              named = s.valid.named;
              below = cap-below;
              short = short;
              complete = complete;
            };
      }

  pub shared : Shared F shares
  unfolding backends label
  shared =
      record {
        long = omega (arith, s.valid.few, S.held.long);
        each = λ b l. S.held.each b (omega (arith, s.valid.labelled));
      }

  -- the kept rules, with the imbalance after them
  pub listed : (few : list.count ≤ most_rules) (sum : ℕ) → sum ≡ imbalance F.targets (after F 0) → length list.stairs ≡ most_rules
      → Listed F 0 (record { rules = list.rules; stairs = set list.stairs (list.count - 1) sum; count = list.count; few = few })
  unfolding after
  listed few sum e long =
      record {
        count = omega (arith, count-is);
        rules = refl;
        stairs = λ y l.
            let none : y ≡ 0 = omega arith in
            let at : length kept + y - 1 ≡ list.count - 1 = omega (arith, count-is) in
            ap (λ (i : ℕ). get_or (set list.stairs (list.count - 1) sum) i 0) at
            ∙ get_or-set_same list.stairs (list.count - 1) sum 0 (omega (arith, S.within, S.few, some-kept))
            ∙ e
            ∙ ap (λ (i : ℕ). imbalance F.targets (after F i)) (sym none);
      }
