-- The same targets in parts that are m times as small (document 02, Req 07): where the unit, all weights and the tolerance are m times as many parts, the
-- lists of rules are the same, and errors and stairs are m times as many parts.
use Prim.Native.Nat.{ℕ, zero, suc, ◌+◌, ◌-◌, ◌*◌, ◌^◌, ◌<◌, min}
use mathlib.Core.Bool.{Bool, true, false}
use mathlib.Core.List.{List, ◌∷◌, map}
use mathlib.Core.Path.{◌≡◌, refl, ap, ap₂, sym, fun_ext, ◌∙◌}
use native.Mathlib.Nat.{mul-zero, mul-add, mul-sub, mul_assoc, mul_left_comm}
use lib.Dec.{leb, eqb}
use lib.ListN.{length, get_or, length-map}
use Rattle.numerals.specs.Pick.{both}
use Rattle.numerals.specs.Sums.{all_to, argmax}
use Rattle.expansion.specs.FirstMatch.{share}
use Rattle.expansion.specs.Imbalance.{Targets, backends, label, weight, has, wants, excess, shortfall, imbalance}
use Rattle.expansion.specs.Imbalance.{giver, receiver, largest_excess, largest_shortfall}
use Rattle.expansion.specs.Steps.{Frame, first_rule, frame, is_within, reduction, reduction_at, term, is_no_gain, term_length, lowest_place, new_rule}
use Rattle.expansion.specs.Steps.{step, after, end_of, list_of, oldest, stair}
use Rattle.expansion.specs.declared.rule.Rule.{Rule}
use Rattle.numerals.proofs.Scaled.{min-scaled, get_or-scaled, sum-scaled, leb-scaled, eqb-scaled, argmax-scaled, lastmax-scaled}
use Rattle.expansion.proofs.Turns.{step-within, step-none, step-moves}

-- targets in parts of which m make one: the unit and each weight are m times as many
abbrev pub scaled_targets : ℕ → Targets → Targets
scaled_targets m T = record { k = T.k; unit = m * T.unit; labels = T.labels; weights = map (λ w. m * w) T.weights }

abbrev pub scaled_frame : ℕ → Frame → Frame
scaled_frame m F = record { targets = scaled_targets m F.targets; tolerance = m * F.tolerance; cap = F.cap; start = F.start }

-- what holds for every m
module _ (m : ℕ) where
  backends-scaled : (T : Targets) → backends (scaled_targets m T) ≡ backends T
  unfolding backends
  backends-scaled T = length-map T.weights (λ w. m * w)

  has-scaled : (T : Targets) (rs : List Rule) (b : ℕ) → has (scaled_targets m T) rs b ≡ m * has T rs b
  unfolding has label
  has-scaled T rs b = mul_left_comm (share T.k rs (label T b)) m T.unit

  wants-scaled : (T : Targets) (b : ℕ) → wants (scaled_targets m T) b ≡ m * wants T b
  unfolding wants weight
  wants-scaled T b = ap (λ (w : ℕ). w * 2 ^ T.k) (get_or-scaled m T.weights b) ∙ mul_assoc m (weight T b) (2 ^ T.k)

  reduction-scaled : (u o t : ℕ) → reduction (m * u) (m * o) (m * t) ≡ m * reduction u o t
  unfolding reduction
  reduction-scaled u o t =
      rw (min-scaled m u t, min-scaled m o t, ← mul-add m (min u t) (min o t), ← mul-sub m (min u t + min o t) t)
      (mul_left_comm 2 m (min u t + min o t - t))

module _ (m : ℕ) (positive : 0 < m) where
  -- the frame of document 01, whose first rule goes to the same backend
  pub frame-scaled :
      (k unit tolerance : ℕ) (labels ws : List ℕ)
      → frame k (m * unit) (m * tolerance) labels (map (λ w. m * w) ws) ≡ scaled_frame m (frame k unit tolerance labels ws)
  unfolding frame first_rule
  frame-scaled k unit tolerance labels ws = rw (length-map ws (λ w. m * w), largest)
    where
      largest : argmax (λ b. get_or (map (λ w. m * w) ws) b 0) (length ws) ≡ argmax (λ b. get_or ws b 0) (length ws)
      largest = argmax-scaled m positive (λ b. get_or ws b 0) (λ b. get_or (map (λ w. m * w) ws) b 0) (get_or-scaled m ws) (length ws)

  -- errors and their sums are m times as large, and the largest stand at the same places
  module _ (T : Targets) (rs : List Rule) where
    pub excess-scaled : (b : ℕ) → excess (scaled_targets m T) rs b ≡ m * excess T rs b
    unfolding excess
    excess-scaled b = ap₂ ◌-◌ (has-scaled m T rs b) (wants-scaled m T b) ∙ sym (mul-sub m (has T rs b) (wants T b))

    pub shortfall-scaled : (b : ℕ) → shortfall (scaled_targets m T) rs b ≡ m * shortfall T rs b
    unfolding shortfall
    shortfall-scaled b = ap₂ ◌-◌ (wants-scaled m T b) (has-scaled m T rs b) ∙ sym (mul-sub m (wants T b) (has T rs b))

    pub imbalance-scaled : imbalance (scaled_targets m T) rs ≡ m * imbalance T rs
    unfolding imbalance
    imbalance-scaled =
        rw (backends-scaled m T) (sum-scaled m (excess T rs) (excess (scaled_targets m T) rs) excess-scaled (backends T))

    giver-scaled : giver (scaled_targets m T) rs ≡ giver T rs
    unfolding giver
    giver-scaled =
        rw (backends-scaled m T) (argmax-scaled m positive (excess T rs) (excess (scaled_targets m T) rs) excess-scaled (backends T))

    receiver-scaled : receiver (scaled_targets m T) rs ≡ receiver T rs
    unfolding receiver
    receiver-scaled =
        rw (backends-scaled m T) (argmax-scaled m positive (shortfall T rs) (shortfall (scaled_targets m T) rs) shortfall-scaled (backends T))

    pub largest-excess-scaled : largest_excess (scaled_targets m T) rs ≡ m * largest_excess T rs
    unfolding largest_excess
    largest-excess-scaled = rw giver-scaled (excess-scaled (giver T rs))

    pub largest-shortfall-scaled : largest_shortfall (scaled_targets m T) rs ≡ m * largest_shortfall T rs
    unfolding largest_shortfall
    largest-shortfall-scaled = rw receiver-scaled (shortfall-scaled (receiver T rs))

  -- the tests, the term and the next rule are the same
  module _ (F : Frame) (rs : List Rule) where
    pub within-scaled : is_within (scaled_frame m F) rs ≡ is_within F rs
    unfolding is_within
    within-scaled = ap₂ all_to (backends-scaled m F.targets) (fun_ext each)
      where
        most : ℕ
        most = F.tolerance * 2 ^ F.targets.k

        small : (e e' : ℕ) → e' ≡ m * e → leb e' (m * F.tolerance * 2 ^ F.targets.k) ≡ leb e most
        small e e' h = ap₂ leb h (mul_assoc m F.tolerance (2 ^ F.targets.k)) ∙ leb-scaled m positive e most

        each : (b : ℕ) → both (leb (excess (scaled_targets m F.targets) rs b) (m * F.tolerance * 2 ^ F.targets.k))
            (leb (shortfall (scaled_targets m F.targets) rs b) (m * F.tolerance * 2 ^ F.targets.k))
            ≡ both (leb (excess F.targets rs b) most) (leb (shortfall F.targets rs b) most)
        each b =
            ap₂ both (small (excess F.targets rs b) (excess (scaled_targets m F.targets) rs b) (excess-scaled F.targets rs b))
            (small (shortfall F.targets rs b) (shortfall (scaled_targets m F.targets) rs b) (shortfall-scaled F.targets rs b))

    reduction-at-scaled : (i : ℕ) → reduction_at (scaled_frame m F) rs i ≡ m * reduction_at F rs i
    unfolding reduction_at
    reduction-at-scaled i =
        rw (largest-shortfall-scaled F.targets rs, largest-excess-scaled F.targets rs, mul_left_comm (2 ^ i) m F.targets.unit)
        (reduction-scaled m (largest_shortfall F.targets rs) (largest_excess F.targets rs) (2 ^ i * F.targets.unit))

    term-scaled : term (scaled_frame m F) rs ≡ term F rs
    unfolding term
    term-scaled = lastmax-scaled m positive (reduction_at F rs) (reduction_at (scaled_frame m F) rs) reduction-at-scaled F.cap

    pub no-gain-scaled : is_no_gain (scaled_frame m F) rs ≡ is_no_gain F rs
    unfolding is_no_gain
    no-gain-scaled =
        rw (term-scaled, reduction-at-scaled (term F rs))
        (ap (eqb (m * reduction_at F rs (term F rs))) (sym (mul-zero m)) ∙ eqb-scaled m positive (reduction_at F rs (term F rs)) 0)

    new-rule-scaled : new_rule (scaled_frame m F) rs ≡ new_rule F rs
    unfolding new_rule lowest_place term_length label
    new-rule-scaled = simp (term-scaled, giver-scaled F.targets rs, receiver-scaled F.targets rs)

    pub step-scaled : step (scaled_frame m F) rs ≡ step F rs
    step-scaled = go (is_within F rs) refl (is_no_gain F rs) refl
      where
        go : (w : Bool) → is_within F rs ≡ w → (g : Bool) → is_no_gain F rs ≡ g → step (scaled_frame m F) rs ≡ step F rs
        go true p g q = step-within (scaled_frame m F) rs (within-scaled ∙ p) ∙ sym (step-within F rs p)
        go false p true q = step-none (scaled_frame m F) rs (no-gain-scaled ∙ q) ∙ sym (step-none F rs q)
        go false p false q =
            step-moves (scaled_frame m F) rs (within-scaled ∙ p) (no-gain-scaled ∙ q)
            ∙ ap (λ (r : Rule). r ∷ rs) new-rule-scaled
            ∙ sym (step-moves F rs p q)

    pub end-scaled : end_of (scaled_frame m F) rs ≡ end_of F rs
    unfolding end_of
    end-scaled = rw (within-scaled, no-gain-scaled)

  -- so are the lists
  pub after-scaled : (F : Frame) (x : ℕ) → after (scaled_frame m F) x ≡ after F x
  unfolding after
  after-scaled F zero = refl
  after-scaled F (suc x) = rw (after-scaled F x) (step-scaled F (after F x))

  pub list-scaled : (F : Frame) (budget : ℕ) → list_of (scaled_frame m F) budget ≡ list_of F budget
  unfolding list_of
  list-scaled F budget = after-scaled F (budget - length F.start)

  -- a stair is m times as high
  pub stair-scaled : (F : Frame) (c : ℕ) (rs : List Rule) → stair (scaled_frame m F) c rs ≡ m * stair F c rs
  unfolding stair
  stair-scaled F c rs = imbalance-scaled F.targets (oldest c rs)
