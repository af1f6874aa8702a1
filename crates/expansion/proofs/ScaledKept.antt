-- An update in smaller parts (document 02, Req 03 to 05 and 07): where the unit, all weights and the tolerance are m times as many parts, the same rules are
-- kept, and the same list is made.
use Prim.Native.Nat.{ℕ, ◌*◌, ◌<◌}
use mathlib.Core.Bool.{Bool, true, false}
use mathlib.Core.List.{List, [], ◌∷◌, map, map-map}
use mathlib.Core.Path.{◌≡◌, refl, ap, ap₂, sym, fun_ext}
use native.Mathlib.Nat.{mul-zero}
use lib.Dec.{eqb}
use lib.ListN.{length}
use Rattle.numerals.specs.Pick.{pick}
use Rattle.numerals.specs.Sums.{largest_to}
use Rattle.expansion.specs.Imbalance.{Targets}
use Rattle.expansion.specs.Known.{known_ids, weight_of}
use Rattle.expansion.specs.Resume.{frame_from, frame_kept, list_kept, ends_within, churn_kept, is_lowest, kept_of, list_resumed, resume_of}
use Rattle.expansion.specs.declared.rule.Rule.{Rule}
use Rattle.expansion.proofs.Scaled.{scaled_targets, scaled_frame, within-scaled, list-scaled}

module _ (m : ℕ) (positive : 0 < m) (T : Targets) (tolerance : ℕ) (old : List Rule) where
  -- of each r: its frame in smaller parts, its list, its test and its churn
  pub frame-kept-scaled : (r : ℕ) → frame_kept (scaled_targets m T) (m * tolerance) old r ≡ scaled_frame m (frame_kept T tolerance old r)
  unfolding frame_kept frame_from
  frame-kept-scaled r = refl

  pub list-kept-scaled : (r : ℕ) → list_kept (scaled_targets m T) (m * tolerance) old r ≡ list_kept T tolerance old r
  unfolding list_kept
  list-kept-scaled r = rw (frame-kept-scaled r) (list-scaled m positive (frame_kept T tolerance old r) (length old))

  pub ends-within-scaled : (r : ℕ) → ends_within (scaled_targets m T) (m * tolerance) old r ≡ ends_within T tolerance old r
  unfolding ends_within
  ends-within-scaled r =
      rw (frame-kept-scaled r, list-kept-scaled r) (within-scaled m positive (frame_kept T tolerance old r) (list_kept T tolerance old r))

  pub churn-kept-scaled : (r : ℕ) → churn_kept (scaled_targets m T) (m * tolerance) old r ≡ churn_kept T tolerance old r
  unfolding churn_kept
  churn-kept-scaled r = rw (list-kept-scaled r)

  -- the r that is answered, its list and the answer
  pub kept-scaled : kept_of (scaled_targets m T) (m * tolerance) old ≡ kept_of T tolerance old
  unfolding kept_of
  kept-scaled = ap (largest_to (length old)) (ap₂ (is_lowest (length old)) (fun_ext ends-within-scaled) (fun_ext churn-kept-scaled))

  pub resumed-scaled : list_resumed (scaled_targets m T) (m * tolerance) old ≡ list_resumed T tolerance old
  unfolding list_resumed
  resumed-scaled = rw kept-scaled (list-kept-scaled (kept_of T tolerance old))

  pub resume-scaled : (room : ℕ) → resume_of (scaled_targets m T) (m * tolerance) old room ≡ resume_of T tolerance old room
  unfolding resume_of
  resume-scaled room = rw (kept-scaled, resumed-scaled, churn-kept-scaled (kept_of T tolerance old))

-- the weights of an update, looked up by id, and its targets
pub weight-of-scaled : (m : ℕ) (ids ws : List ℕ) (id : ℕ) → weight_of ids (map (λ w. m * w) ws) id ≡ m * weight_of ids ws id
unfolding weight_of
weight-of-scaled m [] ws id = sym (mul-zero m)
weight-of-scaled m (x ∷ ids) [] id = sym (mul-zero m)
weight-of-scaled m (x ∷ ids) (w ∷ ws) id = rw (weight-of-scaled m ids ws id) (chosen (eqb x id))
  where
    chosen : (t : Bool) → pick t (m * w) (m * weight_of ids ws id) ≡ m * pick t w (weight_of ids ws id)
    chosen true = refl
    chosen false = refl

pub known-scaled :
    (m k unit : ℕ) (old : List Rule) (ids ws : List ℕ)
    → ◌≡◌ {A = Targets}
    (record { k = k; unit = m * unit; labels = known_ids old ids; weights = map (weight_of ids (map (λ w. m * w) ws)) (known_ids old ids) })
    (scaled_targets m (record { k = k; unit = unit; labels = known_ids old ids; weights = map (weight_of ids ws) (known_ids old ids) }))
known-scaled m k unit old ids ws =
    rw (map-map (λ w. m * w) (weight_of ids ws) (known_ids old ids), fun_ext (weight-of-scaled m ids ws))
