-- The search over the numbers of kept rules: all rules are laid, and taken back one after the other.
use Prim.Native.Nat.{ℕ, suc, ◌+◌, ◌-◌, ◌*◌, ◌/◌, ◌^◌, ◌≤◌, ◌<◌}
use mathlib.Core.List.{List, [], ◌∷◌}
use mathlib.Core.Path.{◌≡◌, refl, ap, sym, ◌∙◌, subst}
use native.Mathlib.Decide.{ℕ_discrete}
use native.Mathlib.Omega.{arith}
use lib.ListN.{length, get_or, drop, set, replicate, length-set}
use lib.Seq.{get_or-set_same, get_or-set_other, drop-length}
use Rattle.numerals.specs.Limits.{most_bits, most_known, most_rules, most_suffixes}
use Rattle.std.specs.Prelude.{Option, None}
use Rattle.expansion.specs.Imbalance.{Targets}
use Rattle.expansion.specs.Steps.{oldest}
use Rattle.expansion.specs.OldList.{rules_from}
use Rattle.expansion.specs.Resume.{frame_from, frame_kept}
use Rattle.expansion.specs.Inner.Known.{Ascending}
use Rattle.expansion.specs.Inner.Laying.{Placed, Held, Had, LaidTo, Starts}
use Rattle.expansion.specs.Inner.Lists.{no_rule, newest_first}
use Rattle.expansion.specs.Inner.OldList.{rule_at, Known, Proper}
use Rattle.expansion.specs.Inner.Resume.{Tried}
use Rattle.expansion.specs.Inner.Service.{targets_for}
use Rattle.expansion.specs.Inner.Sound.{Lengths, Falling}
use Rattle.expansion.specs.declared.rule.Rule.{Rule}
use Rattle.expansion.specs.declared.list.RuleList.{RuleList}
use Rattle.expansion.specs.declared.resuming.Attempt.{Attempt}
use Rattle.expansion.specs.declared.service.Service.{Service}
use Rattle.expansion.proofs.KeptBest.{BestAbove, best-start}
use Rattle.expansion.proofs.LaidRules.{held-star}
use Rattle.expansion.proofs.Listing.{newest-more}
use Rattle.expansion.proofs.OldChecks.{oldest-proper}
use Rattle.expansion.proofs.OldNumbers.{rules-count, rules-more, oldest-rules}
use Rattle.expansion.proofs.Turns.{oldest-all}

oldest-none : (rs : List Rule) → oldest 0 rs ≡ []
unfolding oldest
oldest-none rs = let e : length rs - 0 ≡ length rs = omega arith in ap (λ (n : ℕ). drop n rs) e ∙ drop-length rs

head-same : (r q : Rule) (rs qs : List Rule) → r ∷ rs ≡ q ∷ qs → r ≡ q
head-same r q rs qs e = ap (λ (l : List Rule). get_or l 0 no_rule) e

tail-same : (r q : Rule) (rs qs : List Rule) → r ∷ rs ≡ q ∷ qs → rs ≡ qs
tail-same r q rs qs e = ap (drop 1) e

module _ (k : ℕ) (labels cs : List ℕ) (proper : Proper k labels (rules_from cs)) where
  abbrev R : List Rule
  R = rules_from cs

  -- the next rule from the oldest on
  abbrev next : ℕ → Rule
  next i = rule_at cs (length cs / 3 - 1 - i)

  oldest-next : (i : ℕ) → i < length R → oldest (suc i) R ≡ next i ∷ oldest i R
  oldest-next i l =
      let m = length cs / 3 in
      let count : length R ≡ m = rules-count cs in
      let e : m - suc i ≡ m - 1 - i = omega arith in
      let f : m - 1 - i + 1 ≡ m - i = omega arith in
      oldest-rules cs m (suc i) refl (omega arith)
      ∙ ap (λ (j : ℕ). rules_from (drop (3 * j) cs)) e
      ∙ rules-more cs (m - 1 - i) (omega arith)
      ∙ ap (λ (j : ℕ). next i ∷ rules_from (drop (3 * j) cs)) f
      ∙ ap (λ (rs : List Rule). next i ∷ rs) (sym (oldest-rules cs m i refl (omega arith)))

  module _ (i : ℕ) (l : i < length R) where
    next-proper : Proper k labels (next i ∷ oldest i R)
    next-proper = subst (Proper k labels) (oldest-next i l) (oldest-proper k labels (suc i) R proper (omega arith) l)

    pub next_known : Known k labels (next i)
    next_known = next-proper.each 0 (omega arith)

    pub next-lengths : Lengths (next i).len (oldest i R)
    unfolding Falling
    next-lengths = next-proper.falling.0

  -- the oldest rule is `*`
  first-star : (next 0).len ≡ 0
  first-star =
      let l : 0 < length R = proper.some in
      ap (λ (rs : List Rule). (get_or (next 0 ∷ rs) (length (next 0 ∷ rs) - 1) no_rule).len) (sym (oldest-none R)) ∙ (next-proper 0 l).star

  oldest-one : oldest 1 R ≡ next 0 ∷ []
  oldest-one = oldest-next 0 proper.some ∙ ap (λ (rs : List Rule). next 0 ∷ rs) (oldest-none R)

  -- the `*` alone
  pub laid-star : (holder shares : List ℕ) (rules : List Rule) (had : List ℕ)
      → (length rules ≡ most_rules) × (length had ≡ most_rules) → Held k labels (oldest 1 R) holder shares → get_or rules 0 no_rule ≡ next 0
      → LaidTo k labels R 1 holder shares rules had
  unfolding newest_first
  laid-star holder shares rules had long H e =
      record {
        some = omega arith;
        inside = proper.some;
        long = long;
        held = H;
        kept = ap (λ (r : Rule). r ∷ []) e ∙ sym oldest-one;
        before = λ j a b. absurd (omega arith);
      }

  module _ (i : ℕ) (holder shares : List ℕ) (rules : List Rule) (had holder' shares' : List ℕ) where
    -- one rule more
    pub laid_more : (b : ℕ) → i < length R → LaidTo k labels R i holder shares rules had
        → Held k labels (next i ∷ oldest i R) holder' shares' → Had k labels (oldest i R) (next i) b
        → LaidTo k labels R (i + 1) holder' shares' (set rules i (next i)) (set had i b)
    laid_more b l t H B =
        let e : suc i ≡ i + 1 = omega arith in
        record {
          some = omega arith;
          inside = omega arith;
          long = (length-set rules i (next i) ∙ t.long.0, length-set had i b ∙ t.long.1);
          held = subst (λ (rs : List Rule). Held k labels rs holder' shares') (sym (oldest-next i l) ∙ ap (λ (j : ℕ). oldest j R) e) H;
          kept =
              ap (newest_first (set rules i (next i))) (sym e)
              ∙ newest-more rules i (next i) (omega (arith, t.long.0, proper.few))
              ∙ ap (λ (rs : List Rule). next i ∷ rs) t.kept
              ∙ sym (oldest-next i l)
              ∙ ap (λ (j : ℕ). oldest j R) e;
          before = λ j a m. before j a m (ℕ_discrete j i);
        }
      where
        before : (j : ℕ) → 1 ≤ j → j < i + 1 → Dec (j ≡ i) → Had k labels (oldest j R) (get_or (set rules i (next i)) j no_rule) (get_or (set had i b) j 0)
        before j a m (yes e) =
            subst (λ (x : ℕ). Had k labels (oldest x R) (get_or (set rules i (next i)) x no_rule) (get_or (set had i b) x 0)) (sym e)
            (subst (λ (r : Rule). Had k labels (oldest i R) r (get_or (set had i b) i 0))
            (sym (get_or-set_same rules i (next i) no_rule (omega (arith, t.long.0, proper.few))))
            (subst (Had k labels (oldest i R) (next i)) (sym (get_or-set_same had i b 0 (omega (arith, t.long.1, proper.few)))) B))
        before j a m (no d) =
            subst (λ (r : Rule). Had k labels (oldest j R) r (get_or (set had i b) j 0)) (sym (get_or-set_other rules i j (next i) no_rule d))
            (subst (Had k labels (oldest j R) (get_or rules j no_rule)) (sym (get_or-set_other had i j b 0 d)) (t.before j a (omega arith)))

    -- one rule less
    module _ (t : LaidTo k labels R (suc i) holder shares rules had) where
      pub newest-is : get_or rules i no_rule ≡ next i
      unfolding newest_first
      newest-is = head-same (get_or rules i no_rule) (next i) (newest_first rules i) (oldest i R) (t.kept ∙ oldest-next i t.inside)

      pub newest-held : Held k labels (get_or rules i no_rule ∷ oldest i R) holder shares
      newest-held =
          subst (λ (rs : List Rule). Held k labels rs holder shares)
          (oldest-next i t.inside ∙ ap (λ (r : Rule). r ∷ oldest i R) (sym newest-is)) t.held

      pub laid-less : 1 ≤ i → Held k labels (oldest i R) holder' shares' → LaidTo k labels R i holder' shares' rules had
      unfolding newest_first
      laid-less some H =
          record {
            some = some;
            inside = omega (arith, t.inside);
            long = t.long;
            held = H;
            kept = tail-same (get_or rules i no_rule) (next i) (newest_first rules i) (oldest i R) (t.kept ∙ oldest-next i t.inside);
            before = λ j a m. t.before j a (omega arith);
          }

-- the `*` has everything
pub held_first : (k : ℕ) (labels cs : List ℕ) → k ≤ most_bits → Ascending labels → Proper k labels (rules_from cs)
    → (star : Rule) → star ≡ rule_at cs (length cs / 3 - 1) → (to : ℕ) → Placed k labels star to
    → Held k labels (oldest 1 (rules_from cs)) (replicate most_suffixes to) (set (replicate most_known 0) to (2 ^ k))
held_first k labels cs few A proper star e to P =
    let l : 0 < length (rules_from cs) = proper.some in
    let is : rule_at cs (length cs / 3 - 1 - 0) ≡ star = ap (rule_at cs) (omega arith) ∙ sym e in
    subst (λ (rs : List Rule). Held k labels rs (replicate most_suffixes to) (set (replicate most_known 0) to (2 ^ k)))
    (sym (oldest-one k labels cs proper ∙ ap (λ (r : Rule). r ∷ []) is))
    (held-star k star P.rule few (ap (λ (r : Rule). r.len) (sym is) ∙ first-star k labels cs proper) labels A to P)

-- the search has come down to the rules of a list: of the numbers above, the best, and who held what after the whole old list
pub record Searched (s : Service) (cs whole holder shares : List ℕ) (list : RuleList) (had : List ℕ) (best : Option Attempt) : Type 0 where
  pub laid : LaidTo s.k s.labels.now (rules_from cs) list.count holder shares list.rules had
  pub full : (all : List ℕ) × Held s.k s.labels.now (rules_from cs) whole all
  pub above : BestAbove (targets_for s) s.tolerance (rules_from cs) list.count best

-- all rules are laid, and none was tried
pub searched-none : (s : Service) (cs holder shares : List ℕ) (list : RuleList) (had : List ℕ)
    → list.count ≡ length (rules_from cs)
    → LaidTo s.k s.labels.now (rules_from cs) (length (rules_from cs)) holder shares list.rules had
    → Searched s cs holder holder shares list had None
searched-none s cs holder shares list had all L =
    let R = rules_from cs in
    record {
      laid = subst (λ (n : ℕ). LaidTo s.k s.labels.now R n holder shares list.rules had) (sym all) L;
      full = (shares, subst (λ (rs : List Rule). Held s.k s.labels.now rs holder shares) (oldest-all (length R) R (omega arith)) L.held);
      above = subst (λ (n : ℕ). BestAbove (targets_for s) s.tolerance R n None) (sym all) (best-start (targets_for s) s.tolerance R);
    }

module _ (s : Service) (cs : List ℕ) (proper : Proper s.k s.labels.now (rules_from cs))
    (holder shares : List ℕ) (list : RuleList) (had : List ℕ)
    (laid : LaidTo s.k s.labels.now (rules_from cs) list.count holder shares list.rules had) where
  abbrev old : List Rule
  old = rules_from cs

  abbrev T : Targets
  T = targets_for s

  abbrev c : ℕ
  c = list.count

  pub starts-at : Starts s list holder shares (length cs / 3)
  starts-at =
      record {
        proper = subst (Proper s.k s.labels.now) (sym laid.kept) (oldest-proper s.k s.labels.now c old proper laid.some laid.inside);
        held = subst (λ (rs : List Rule). Held s.k s.labels.now rs holder shares) (sym laid.kept) laid.held;
        within = omega (arith, rules-count cs, laid.inside);
        few = omega (arith, rules-count cs, proper.few);
      }

  -- the try from where it stands
  pub tried_here : (tried : Option Attempt) → Tried (frame_from T s.tolerance (newest_first list.rules c)) (length cs / 3) c old tried
      → Tried (frame_kept T s.tolerance old c) (length old) c old tried
  unfolding frame_kept
  tried_here tried M =
      subst (λ (n : ℕ). Tried (frame_from T s.tolerance (oldest c old)) n c old tried) (sym (rules-count cs))
      (subst (λ (rs : List Rule). Tried (frame_from T s.tolerance rs) (length cs / 3) c old tried) laid.kept M)
