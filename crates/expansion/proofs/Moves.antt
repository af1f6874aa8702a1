-- One turn with a gain: the giver holds a suffix of the term's length wholly, the new rule moves just the term, the imbalance falls by half the
-- reduction, and nothing that is largest grows.
use Prim.Native.Nat.{ℕ, ◌+◌, ◌-◌, ◌*◌, ◌%◌, ◌^◌, ◌≤◌, ◌<◌, min}
use mathlib.Core.Bool.{Bool, true, false}
use mathlib.Core.List.{List, ◌∷◌}
use mathlib.Core.Logic.{◌≢◌}
use mathlib.Core.Path.{◌≡◌, refl, ap}
use native.Mathlib.Decide.{ℕ_discrete, dec_lt}
use native.Mathlib.Nat.{le_of_lt, mod-lt, mul-le-mul_right}
use native.Mathlib.Omega.{arith}
use lib.Pow.{pow_pos, pow_mono}
use Rattle.numerals.specs.Suffix.{place}
use Rattle.numerals.specs.Sums.{sum_to, first_to}
use Rattle.expansion.specs.FirstMatch.{gives, share}
use Rattle.expansion.specs.Imbalance.{backends, label, has, wants, excess, shortfall, imbalance, giver, receiver, largest_excess, largest_shortfall}
use Rattle.expansion.specs.Steps.{reduction, reduction_at, term, is_no_gain, is_whole, term_length, lowest_place, new_rule, Frame}
use Rattle.expansion.specs.Inner.Sound.{Lengths, Complete, Formed, Sound}
use Rattle.expansion.specs.declared.rule.Rule.{Rule}
use Rattle.numerals.proofs.Sums.{sum-two, count-some}
use Rattle.numerals.proofs.Searches.{first-is, first-le}
use Rattle.expansion.proofs.FirstMatch.{is-rule, lengths-mono, lengths-cons}
use Rattle.expansion.proofs.Count.{whole-of-one, share-giver, share-receiver, share_other, complete-cons}
use Rattle.expansion.proofs.Balance.{giver-lt, receiver-lt, excess-le, shortfall-le}
use Rattle.expansion.proofs.Reduction.{reduction-mono, reduction-gain, reduction-larger}
use Rattle.expansion.proofs.NoGain.{gain-above, term-le, term-best, term-last}
use Rattle.numerals.proofs.Place.{place-lt, place-involution}

-- what every list of a run has
pub record Good (F : Frame) (rs : List Rule) : Type 0 where
  pub complete : Complete (label F.targets) (backends F.targets) rs
  pub short : is_no_gain F rs ≡ false → Lengths (term_length F rs) rs

-- the labels of giver and receiver
abbrev pub giver_label : Frame → List Rule → ℕ
giver_label F rs = label F.targets (giver F.targets rs)

abbrev pub receiver_label : Frame → List Rule → ℕ
receiver_label F rs = label F.targets (receiver F.targets rs)

-- the parts of a term
abbrev pub parts : Frame → List Rule → ℕ
parts F rs = 2 ^ term F rs * F.targets.unit

pub covered : (F : Frame) → Sound F → (rs : List Rule) → F.targets.k - term_length F rs ≡ term F rs
unfolding term_length
covered F S rs = omega (arith, term-le F rs, S.below)

-- errors after a move of t, over plain numbers: h and w are what a backend has and wants
left_over_lem : (h w h' t : ℕ) → h' + t ≡ h → h' - w ≡ h - w - t
left_over_lem h w h' t e = omega arith

now_short : (h w h' t : ℕ) → h' + t ≡ h → 0 < h - w → w - h' ≡ t - (h - w)
now_short h w h' t e l = omega arith

now-over : (h w h' t : ℕ) → h' ≡ h + t → 0 < w - h → h' - w ≡ t - (w - h)
now-over h w h' t e l = omega arith

still-short : (h w h' t : ℕ) → h' ≡ h + t → w - h' ≡ w - h - t
still-short h w h' t e = omega arith

-- u and o the largest shortfall and excess, the sums of the excesses before and after
fall : (u o t : ℕ) → t < min u t + min o t → (new old : ℕ) → new + o ≡ old + (o - t + (t - u))
    → 2 * new + 2 * (min u t + min o t - t) ≡ 2 * old
fall u o t l new old e = omega arith

no_both : (h w : ℕ) → 0 < h - w → 0 < w - h → ⊥
no_both h w p q = omega arith

module _ (F : Frame) (S : Sound F) (rs : List Rule) (gain : is_no_gain F rs ≡ false) where
  pub gains : parts F rs < min (largest_shortfall F.targets rs) (parts F rs) + min (largest_excess F.targets rs) (parts F rs)
  unfolding reduction_at
  gains = reduction-gain (largest_shortfall F.targets rs) (largest_excess F.targets rs) (parts F rs) (gain-above F rs gain)

  pub some-excess : 0 < largest_excess F.targets rs
  some-excess = omega (arith, gains)

  pub some-shortfall : 0 < largest_shortfall F.targets rs
  some-shortfall = omega (arith, gains)

  pub apart : giver F.targets rs ≢ receiver F.targets rs
  unfolding largest_excess largest_shortfall excess shortfall
  apart e =
      let g : 0 < has F.targets rs (giver F.targets rs) - wants F.targets (giver F.targets rs) = some-excess in
      let r : 0 < wants F.targets (receiver F.targets rs) - has F.targets rs (receiver F.targets rs) = some-shortfall in
      no_both (has F.targets rs (receiver F.targets rs)) (wants F.targets (receiver F.targets rs)) (rw e at g) r

  holds-some : 0 < share F.targets.k rs (giver_label F rs)
  unfolding largest_excess excess has
  holds-some = go (ℕ_discrete (share F.targets.k rs (giver_label F rs)) 0) some-excess
    where
      go :
          Dec (share F.targets.k rs (giver_label F rs) ≡ 0)
          → 0 < share F.targets.k rs (giver_label F rs) * F.targets.unit - wants F.targets (giver F.targets rs)
          → 0 < share F.targets.k rs (giver_label F rs)
      go (yes e) h = absurd (omega (arith, ap (λ (x : ℕ). x * F.targets.unit) e))
      go (no d) h = omega arith

module _ (F : Frame) (S : Sound F) (rs : List Rule) (G : Good F rs) (gain : is_no_gain F rs ≡ false) where
  -- the giver holds some s, hence all that its lowest bits cover
  pub place_found : lowest_place F rs < 2 ^ term_length F rs
  unfolding lowest_place share
  place_found = found (count-some (2 ^ F.targets.k) (λ s. gives rs s (giver_label F rs)) (holds-some F S rs gain))
    where
      l : ℕ
      l = term_length F rs

      held : ℕ → Bool
      held p = is_whole F.targets.k rs l (place l p) (giver_label F rs)

      found : (s : ℕ) × (s < 2 ^ F.targets.k) × (gives rs s (giver_label F rs) ≡ true) → first_to (2 ^ l) held < 2 ^ l
      found h =
          let v : ℕ = h.0 % 2 ^ l in
          let whole : is_whole F.targets.k rs l v (giver_label F rs) ≡ true =
          whole-of-one F.targets.k l rs (giver_label F rs) h.0 (G.short gain) h.2 in
          let back : place l (place l v) ≡ v = place-involution l v (mod-lt h.0 (pow_pos l)) in
          omega (arith, place-lt l v, first-le (2 ^ l) held (place l v) (place-lt l v) (rw back whole))

  pub new-whole : is_whole F.targets.k rs (new_rule F rs).len (new_rule F rs).value (giver_label F rs) ≡ true
  unfolding new_rule lowest_place
  new-whole =
      (first-is (2 ^ term_length F rs) (λ p. is_whole F.targets.k rs (term_length F rs) (place (term_length F rs) p) (giver_label F rs))).passes place_found

  new-short : (new_rule F rs).len ≤ F.targets.k
  unfolding new_rule term_length
  new-short = omega arith

  new-bits : (new_rule F rs).value < 2 ^ (new_rule F rs).len
  unfolding new_rule
  new-bits = place-lt (term_length F rs) (lowest_place F rs)

  pub new-formed : Formed F.targets.k (label F.targets) (backends F.targets) (new_rule F rs)
  unfolding new_rule
  new-formed =
      record {
        rule = is-rule F.targets.k (new_rule F rs) new-short new-bits;
        known = (receiver F.targets rs, receiver-lt F S rs, refl);
      }

  labels_apart : giver_label F rs ≢ receiver_label F rs
  labels_apart e =
      apart F S rs gain (S.distinct (giver F.targets rs) (receiver F.targets rs) (giver-lt F S rs) (receiver-lt F S rs) e)

  -- the share of each backend afterwards, and what it has
  pub new-giver : share F.targets.k (new_rule F rs ∷ rs) (giver_label F rs) + 2 ^ term F rs ≡ share F.targets.k rs (giver_label F rs)
  unfolding new_rule
  new-giver =
      rw (covered F S rs)
      at (share-giver F.targets.k rs (new_rule F rs) (giver_label F rs) new-short new-bits new-whole labels_apart)

  pub new-receiver : share F.targets.k (new_rule F rs ∷ rs) (receiver_label F rs) ≡ share F.targets.k rs (receiver_label F rs) + 2 ^ term F rs
  unfolding new_rule
  new-receiver =
      rw (covered F S rs)
      at (share-receiver F.targets.k rs (new_rule F rs) (giver_label F rs) new-short new-bits new-whole labels_apart)

  pub new-other : (b : ℕ) → b < backends F.targets → b ≢ giver F.targets rs → b ≢ receiver F.targets rs
      → share F.targets.k (new_rule F rs ∷ rs) (label F.targets b) ≡ share F.targets.k rs (label F.targets b)
  unfolding new_rule
  new-other b l d c =
      share_other F.targets.k rs (new_rule F rs) (giver_label F rs) new-short new-bits new-whole labels_apart
      (label F.targets b)
      (λ e. d (S.distinct b (giver F.targets rs) l (giver-lt F S rs) e))
      (λ e. c (S.distinct b (receiver F.targets rs) l (receiver-lt F S rs) e))

  pub has-giver : has F.targets (new_rule F rs ∷ rs) (giver F.targets rs) + parts F rs ≡ has F.targets rs (giver F.targets rs)
  unfolding has
  has-giver = omega (arith, ap (λ (x : ℕ). x * F.targets.unit) new-giver)

  pub has-receiver : has F.targets (new_rule F rs ∷ rs) (receiver F.targets rs) ≡ has F.targets rs (receiver F.targets rs) + parts F rs
  unfolding has
  has-receiver = omega (arith, ap (λ (x : ℕ). x * F.targets.unit) new-receiver)

  pub has_other :
      (b : ℕ) → b < backends F.targets → b ≢ giver F.targets rs → b ≢ receiver F.targets rs
      → has F.targets (new_rule F rs ∷ rs) b ≡ has F.targets rs b
  unfolding has
  has_other b l d c = ap (λ (x : ℕ). x * F.targets.unit) (new-other b l d c)

  -- the errors afterwards
  pub excess-giver : excess F.targets (new_rule F rs ∷ rs) (giver F.targets rs) ≡ largest_excess F.targets rs - parts F rs
  unfolding excess largest_excess
  excess-giver =
      left_over_lem (has F.targets rs (giver F.targets rs)) (wants F.targets (giver F.targets rs))
      (has F.targets (new_rule F rs ∷ rs) (giver F.targets rs)) (parts F rs) has-giver

  pub shortfall-giver : shortfall F.targets (new_rule F rs ∷ rs) (giver F.targets rs) ≡ parts F rs - largest_excess F.targets rs
  unfolding shortfall excess largest_excess
  shortfall-giver =
      now_short (has F.targets rs (giver F.targets rs)) (wants F.targets (giver F.targets rs))
      (has F.targets (new_rule F rs ∷ rs) (giver F.targets rs)) (parts F rs) has-giver
      (some-excess F S rs gain)

  pub excess-receiver : excess F.targets (new_rule F rs ∷ rs) (receiver F.targets rs) ≡ parts F rs - largest_shortfall F.targets rs
  unfolding excess shortfall largest_shortfall
  excess-receiver =
      now-over (has F.targets rs (receiver F.targets rs)) (wants F.targets (receiver F.targets rs))
      (has F.targets (new_rule F rs ∷ rs) (receiver F.targets rs)) (parts F rs) has-receiver
      (some-shortfall F S rs gain)

  pub shortfall-receiver : shortfall F.targets (new_rule F rs ∷ rs) (receiver F.targets rs) ≡ largest_shortfall F.targets rs - parts F rs
  unfolding shortfall largest_shortfall
  shortfall-receiver =
      still-short (has F.targets rs (receiver F.targets rs)) (wants F.targets (receiver F.targets rs))
      (has F.targets (new_rule F rs ∷ rs) (receiver F.targets rs)) (parts F rs) has-receiver

  pub excess-other :
      (b : ℕ) → b < backends F.targets → b ≢ giver F.targets rs → b ≢ receiver F.targets rs
      → excess F.targets (new_rule F rs ∷ rs) b ≡ excess F.targets rs b
  unfolding excess
  excess-other b l d c = ap (λ (x : ℕ). x - wants F.targets b) (has_other b l d c)

  pub shortfall-other :
      (b : ℕ) → b < backends F.targets → b ≢ giver F.targets rs → b ≢ receiver F.targets rs
      → shortfall F.targets (new_rule F rs ∷ rs) b ≡ shortfall F.targets rs b
  unfolding shortfall
  shortfall-other b l d c = ap (λ (x : ℕ). wants F.targets b - x) (has_other b l d c)

  no-excess : excess F.targets rs (receiver F.targets rs) ≡ 0
  unfolding excess largest_shortfall shortfall
  no-excess = omega (arith, some-shortfall F S rs gain)

  -- the imbalance falls by half the reduction
  pub imbalance-falls : 2 * imbalance F.targets (new_rule F rs ∷ rs) + reduction_at F rs (term F rs) ≡ 2 * imbalance F.targets rs
  unfolding imbalance reduction_at reduction largest_excess
  imbalance-falls =
      fall (largest_shortfall F.targets rs) (largest_excess F.targets rs) (parts F rs) (gains F S rs gain)
      (sum_to (backends F.targets) (excess F.targets (new_rule F rs ∷ rs))) (sum_to (backends F.targets) (excess F.targets rs))
      (omega (
        arith,
        excess-giver,
        excess-receiver,
        no-excess,
        sum-two (backends F.targets) (excess F.targets (new_rule F rs ∷ rs)) (excess F.targets rs) (giver F.targets rs)
            (receiver F.targets rs) (giver-lt F S rs) (receiver-lt F S rs)
            (apart F S rs gain) excess-other,
      ))

  -- what is largest doesn't grow

  excess-still : (b : ℕ) → b < backends F.targets → excess F.targets (new_rule F rs ∷ rs) b ≤ largest_excess F.targets rs
  excess-still b l = go (ℕ_discrete b (giver F.targets rs)) (ℕ_discrete b (receiver F.targets rs))
    where
      go : Dec (b ≡ giver F.targets rs) → Dec (b ≡ receiver F.targets rs) → excess F.targets (new_rule F rs ∷ rs) b ≤ largest_excess F.targets rs
      go (yes e) d = rw e (omega (arith, excess-giver))
      go (no c) (yes e) = rw e (omega (arith, excess-receiver, gains F S rs gain))
      go (no c) (no d) = omega (arith, excess-other b l c d, excess-le F S rs b l)

  shortfall-still : (b : ℕ) → b < backends F.targets → shortfall F.targets (new_rule F rs ∷ rs) b ≤ largest_shortfall F.targets rs
  shortfall-still b l = go (ℕ_discrete b (giver F.targets rs)) (ℕ_discrete b (receiver F.targets rs))
    where
      go :
          Dec (b ≡ giver F.targets rs) → Dec (b ≡ receiver F.targets rs) → shortfall F.targets (new_rule F rs ∷ rs) b ≤ largest_shortfall F.targets rs
      go (yes e) d = rw e (omega (arith, shortfall-giver, gains F S rs gain))
      go (no c) (yes e) = rw e (omega (arith, shortfall-receiver))
      go (no c) (no d) = omega (arith, shortfall-other b l c d, shortfall-le F S rs b l)

  pub excess-falls : largest_excess F.targets (new_rule F rs ∷ rs) ≤ largest_excess F.targets rs
  unfolding largest_excess
  excess-falls = excess-still (giver F.targets (new_rule F rs ∷ rs)) (giver-lt F S (new_rule F rs ∷ rs))

  pub shortfall-falls : largest_shortfall F.targets (new_rule F rs ∷ rs) ≤ largest_shortfall F.targets rs
  unfolding largest_shortfall
  shortfall-falls = shortfall-still (receiver F.targets (new_rule F rs ∷ rs)) (receiver-lt F S (new_rule F rs ∷ rs))

  pub reduction-falls :
      reduction_at F (new_rule F rs ∷ rs) (term F (new_rule F rs ∷ rs)) ≤ reduction_at F rs (term F rs)
  unfolding reduction_at
  reduction-falls =
      omega (
        arith,
        term-best F rs (term F (new_rule F rs ∷ rs)) (term-le F (new_rule F rs ∷ rs)),
        reduction-mono (largest_shortfall F.targets rs) (largest_excess F.targets rs) (largest_shortfall F.targets (new_rule F rs ∷ rs))
            (largest_excess F.targets (new_rule F rs ∷ rs))
            (parts F (new_rule F rs ∷ rs)) shortfall-falls excess-falls,
      )

  -- as long as there is a gain
  pub term-falls : is_no_gain F (new_rule F rs ∷ rs) ≡ false → term F (new_rule F rs ∷ rs) ≤ term F rs
  unfolding reduction_at
  term-falls more = go (dec_lt (term F rs) (term F (new_rule F rs ∷ rs)))
    where
      go : Dec (term F rs < term F (new_rule F rs ∷ rs)) → term F (new_rule F rs ∷ rs) ≤ term F rs
      go (yes l) =
          absurd (omega (
            arith,
            term-best F (new_rule F rs ∷ rs) (term F rs) (term-le F rs),
            reduction-larger (largest_shortfall F.targets rs) (largest_excess F.targets rs) (largest_shortfall F.targets (new_rule F rs ∷ rs))
                (largest_excess F.targets (new_rule F rs ∷ rs))
                (parts F rs) (parts F (new_rule F rs ∷ rs)) shortfall-falls excess-falls (mul-le-mul_right F.targets.unit (pow_mono (le_of_lt l)))
                (term-last F rs (term F (new_rule F rs ∷ rs)) l (term-le F (new_rule F rs ∷ rs))) (gain-above F (new_rule F rs ∷ rs) more),
          ))
      go (no l) = omega arith

  longer : term F (new_rule F rs ∷ rs) ≤ term F rs → (new_rule F rs).len ≤ term_length F (new_rule F rs ∷ rs)
  unfolding new_rule term_length
  longer l = omega arith

  pub good_new : Good F (new_rule F rs ∷ rs)
  unfolding new_rule
  good_new =
      record {
        complete = complete-cons (label F.targets) (backends F.targets) (new_rule F rs) rs new-formed.known G.complete;
        short = λ more.
            lengths-cons (term_length F (new_rule F rs ∷ rs)) (new_rule F rs) rs (longer (term-falls more))
            (lengths-mono (term_length F rs) (term_length F (new_rule F rs ∷ rs)) rs (longer (term-falls more)) (G.short gain));
      }
