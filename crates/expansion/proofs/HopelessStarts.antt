-- A start with more backends beyond the tolerance than two for each rule that may still be added ends in no list that is within.
use Prim.Native.Nat.{ℕ, zero, suc, ◌+◌, ◌-◌, ◌*◌, ◌^◌, ◌≤◌, ◌<◌}
use mathlib.Core.Bool.{Bool, true, false}
use mathlib.Core.List.{List, ◌∷◌}
use mathlib.Core.Logic.{◌≢◌}
use mathlib.Core.Path.{◌≡◌, refl, ap, ap₂, sym, ◌∙◌, subst}
use native.Mathlib.Omega.{arith}
use lib.Dec.{leb, ltb}
use lib.ListN.{length, get_or}
use Rattle.std.proofs.lemmas.Bool.{false_from_ne_true}
use borrow.Author.Tests.{leb-true, le-ltb, ltb-true}
use Rattle.numerals.specs.Limits.{most_suffixes, unit}
use Rattle.numerals.specs.Pick.{pick, both}
use Rattle.numerals.specs.Sums.{count_to}
use Rattle.numerals.proofs.Powers.{pow-few}
use Rattle.numerals.proofs.Searches.{both_true, all_true}
use Rattle.numerals.proofs.Sums.{sum-two, sum-zero, count-ext, one-most}
use Rattle.expansion.specs.FirstMatch.{share, churn}
use Rattle.expansion.specs.Imbalance.{backends, label, weight, has, wants, excess, shortfall, giver, receiver}
use Rattle.expansion.specs.Steps.{Frame, is_within, new_rule, after, step, list_of}
use Rattle.expansion.specs.Resume.{frame_from}
use Rattle.expansion.specs.Inner.Hopeless.{is_apart, beyond_to}
use Rattle.expansion.specs.Inner.Laying.{Starts}
use Rattle.expansion.specs.Inner.Lists.{newest_first}
use Rattle.expansion.specs.Inner.Resume.{Ended}
use Rattle.expansion.specs.Inner.Run.{Made}
use Rattle.expansion.specs.Inner.Service.{targets_for}
use Rattle.expansion.specs.Inner.Sound.{Sound}
use Rattle.expansion.specs.declared.rule.Rule.{Rule}
use Rattle.expansion.specs.declared.rule.Ended.TheVariants.{Within}
use Rattle.expansion.specs.declared.list.RuleList.{RuleList}
use Rattle.expansion.specs.declared.run.Run.{Run}
use Rattle.expansion.specs.declared.service.Service.{Service}
use Rattle.expansion.proofs.Balance.{giver-lt, receiver-lt}
use Rattle.expansion.proofs.Bounds.{share-le}
use Rattle.expansion.proofs.KeptLists.{sound-kept, within-ended}
use Rattle.expansion.proofs.KeptStart.{count-is}
use Rattle.expansion.proofs.Moves.{apart, has_other}
use Rattle.expansion.proofs.Turns.{Turn, turn, after-suc, good-after, ended-within}

-- a backend beyond the tolerance, and how many are
abbrev pub beyond_at : Frame → List Rule → ℕ → Bool
beyond_at F rs b = is_apart (has F.targets rs b) (wants F.targets b) (F.tolerance * 2 ^ F.targets.k)

abbrev pub beyond : Frame → List Rule → ℕ
beyond F rs = count_to (backends F.targets) (beyond_at F rs)

near : (h w t : ℕ) → h - w ≤ t → w - h ≤ t → pick {A = ℕ} (is_apart h w t) 1 0 ≡ 0
near h w t p q =
    ap₂ (λ (x y : Bool). pick {A = ℕ} (pick x true y) 1 0) (le-ltb (w + t) h (omega arith)) (le-ltb (h + t) w (omega arith))

within_none : (F : Frame) (rs : List Rule) → is_within F rs ≡ true → beyond F rs ≡ 0
unfolding is_within count_to excess shortfall
within_none F rs e =
    sum-zero (backends F.targets) (λ b. pick (beyond_at F rs b) 1 0) (λ b l.
    let t = F.tolerance * 2 ^ F.targets.k in
    let h = has F.targets rs b in
    let w = wants F.targets b in
    let at = both_true (leb (h - w) t) (leb (w - h) t) (all_true (backends F.targets) (λ c.
    both (leb (excess F.targets rs c) t) (leb (shortfall F.targets rs c) t)) e b l) in
    near h w t (leb-true (h - w) t at.0) (leb-true (w - h) t at.1))

-- a turn changes two of them at most
module _ (F : Frame) (S : Sound F) where
  step-two : (x : ℕ) → beyond F (after F x) ≤ beyond F (after F (suc x)) + 2
  unfolding count_to
  step-two x = subst (λ (rs : List Rule). beyond F (after F x) ≤ beyond F rs + 2) (sym (after-suc F x)) (go (turn F (after F x)))
    where
      rs : List Rule
      rs = after F x

      go : Turn F (after F x) → beyond F (after F x) ≤ beyond F (step F (after F x)) + 2
      go (Turn.stays e) = subst (λ (q : List Rule). beyond F rs ≤ beyond F q + 2) (sym e) (omega arith)
      go (Turn.moves g e) =
          let a = giver F.targets rs in
          let z = receiver F.targets rs in
          let new = new_rule F rs ∷ rs in
          let h = sum-two (backends F.targets) (λ b. pick (beyond_at F rs b) 1 0) (λ b. pick (beyond_at F new b) 1 0) a z
          (giver-lt F S rs) (receiver-lt F S rs) (apart F S rs g.gain) (λ b l d c.
          ap (λ (y : ℕ). pick {A = ℕ} (is_apart y (wants F.targets b) (F.tolerance * 2 ^ F.targets.k)) 1 0)
          (sym (has_other F S rs (good-after F S x) g.gain b l d c))) in
          subst (λ (q : List Rule). beyond F rs ≤ beyond F q + 2) (sym e)
          (omega (arith, h, one-most (beyond_at F rs a), one-most (beyond_at F rs z)))

  turns-two : (x : ℕ) → beyond F F.start ≤ beyond F (after F x) + 2 * x
  unfolding after
  turns-two zero = omega arith
  turns-two (suc x) = omega (arith, turns-two x, step-two x)

  pub enough_turns : (budget : ℕ) → is_within F (list_of F budget) ≡ true → beyond F F.start ≤ 2 * (budget - length F.start)
  unfolding list_of
  enough_turns budget w =
      let x = budget - length F.start in
      omega (arith, turns-two x, within_none F (after F x) w)

-- the same of a start, by its weights and shares
module _ (s : Service) (list : RuleList) (holder shares : List ℕ) (budget : ℕ) (S : Starts s list holder shares budget) where
  abbrev k : ℕ
  k = s.k

  abbrev tolerance : ℕ
  tolerance = s.tolerance

  abbrev ws : List ℕ
  ws = s.weights.now

  abbrev kept : List Rule
  kept = newest_first list.rules list.count

  abbrev F : Frame
  F = frame_from (targets_for s) tolerance kept

  sound : Sound F
  sound = sound-kept k tolerance s.labels.now ws kept s.valid S.proper

  share-is : (b : ℕ) → b < length ws → get_or shares b 0 ≡ share k kept (label (targets_for s) b)
  unfolding label
  share-is b l = S.held.each b (omega (arith, s.valid.labelled))

  beyond-is : beyond_to k tolerance ws shares (length ws) ≡ beyond F F.start
  unfolding frame_from backends has wants weight
  beyond-is =
      count-ext (length ws) (λ b. is_apart (get_or shares b 0 * unit) (get_or ws b 0 * 2 ^ k) (tolerance * 2 ^ k)) (beyond_at F kept) (λ b l.
      ap (λ (y : ℕ). is_apart (y * unit) (get_or ws b 0 * 2 ^ k) (tolerance * 2 ^ k)) (share-is b l))

  -- what the test asks for
  pub small : (b : ℕ) → b < length ws → get_or shares b 0 ≤ most_suffixes
  small b l = omega (arith, share-is b l, share-le k kept (label (targets_for s) b), pow-few k s.valid.few_bits)

  starts-enough : is_within F (list_of F budget) ≡ true → beyond_to k tolerance ws shares (length ws) ≤ 2 * (budget - list.count)
  unfolding frame_from
  starts-enough w =
      omega (arith, beyond-is, enough_turns F sound budget w, count-is s list holder shares budget S)

  -- a hopeless start
  pub tried-hopeless : ltb (2 * (budget - list.count)) (beyond_to k tolerance ws shares (length ws)) ≡ true → is_within F (list_of F budget) ≡ false
  tried-hopeless e =
      false_from_ne_true (is_within F (list_of F budget)) (λ w.
      omega (arith, starts-enough w, ltb-true (2 * (budget - list.count)) (beyond_to k tolerance ws shares (length ws)) e))

  -- a run that was made
  module _ (run : Run) (M : Made F budget run) where
    pub tried_other : run.ended ≢ Within → is_within F (list_of F budget) ≡ false
    tried_other d = false_from_ne_true (is_within F (list_of F budget)) (λ w. d (M.ended ∙ ended-within F (list_of F budget) w))

    pub tried-within : run.ended ≡ Within → (old : List Rule) (moved : ℕ) → moved ≡ churn k old (list_of F budget)
        → Ended F budget list.count old (record { kept = list.count; churn = moved; list = run.list })
    unfolding frame_from
    tried-within e old moved is =
        record { within = within-ended F (list_of F budget) (sym M.ended ∙ e); number = refl; rules = M.rules; moved = is }
