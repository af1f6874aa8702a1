-- The same services in parts that are m times as small (document 02, Req 07): where the unit, all weights and the tolerance are m times as many parts, the
-- lists, the grants and the lines are the same, and the total is m times as many parts.
use Prim.Native.Nat.{ℕ, zero, suc, ◌*◌, ◌<◌}
use mathlib.Core.List.{List, [], map}
use mathlib.Core.Logic.{◌⊎◌, inl, inr}
use mathlib.Core.Path.{◌≡◌, refl, ap, sym, fun_ext, ◌∙◌}
use native.Mathlib.Nat.{mul-zero, mul-sub, mul_left_comm, mul-pos}
use native.Mathlib.Omega.{arith}
use lib.ListN.{get_or-map}
use Rattle.expansion.specs.Steps.{end_of, stair}
use Rattle.expansion.specs.declared.rule.Rule.{Rule}
use Rattle.numerals.proofs.Scaled.{sum-scaled, argmax-scaled}
use Rattle.expansion.proofs.Scaled.{scaled_targets, scaled_frame, frame-scaled, imbalance-scaled, list-scaled, end-scaled, stair-scaled}
use Rattle.packing.specs.Grants.{Problem, Grants, saving, next, rules, total, more, grant_step, grants_after, packed}
use Rattle.packing.specs.Count.{Line, Services, services, volume, targets_of, own_rules, counted_imbalance, counted}
use Rattle.packing.specs.Table.{rule_budget, frame_of, list_for, table_of, table, problem, granted, one_each}
use Rattle.packing.specs.Answer.{lines_made, figures_to, figures_made}
use Rattle.packing.proofs.GrantSteps.{Goes, Stops, goes-or-stops, step-goes, step-stops}

-- services in parts of which m make one: the unit and each weight are m times as many
abbrev pub scaled_services : ℕ → Services → Services
scaled_services m S =
    record {
      k = S.k;
      unit = m * S.unit;
      volumes = S.volumes;
      labels = S.labels;
      weights = map (λ ws. map (λ w. m * w) ws) S.weights;
    }

-- each cost m times as large
abbrev scaled_problem : ℕ → Problem → Problem
scaled_problem m P =
    record { services = P.services; cost = λ s x. m * P.cost s x; least = P.least; capacity = P.capacity }

-- such a packing grants the same, at m times the total
module _ (m : ℕ) (positive : 0 < m) (P : Problem) where
  saving-scaled : (g : Grants) (s : ℕ) → saving (scaled_problem m P) g s ≡ m * saving P g s
  unfolding saving
  saving-scaled g s = sym (mul-sub m (P.cost s (g s)) (P.cost s (suc (g s))))

  next-scaled : (g : Grants) → next (scaled_problem m P) g ≡ next P g
  unfolding next
  next-scaled g = argmax-scaled m positive (saving P g) (saving (scaled_problem m P) g) (saving-scaled g) P.services

  gain-scaled : (g : Grants) → saving (scaled_problem m P) g (next (scaled_problem m P) g) ≡ m * saving P g (next P g)
  gain-scaled g = rw (next-scaled g) (saving-scaled g (next P g))

  grant-step-scaled : (g : Grants) → grant_step (scaled_problem m P) g ≡ grant_step P g
  unfolding rules
  grant-step-scaled g = go (goes-or-stops P g)
    where
      goes : Goes P g → Goes (scaled_problem m P) g
      goes h = record { room = h.room; gains = omega (arith, gain-scaled g, mul-pos positive h.gains) }

      stops : Stops P g → Stops (scaled_problem m P) g
      stops (inl h) = inl h
      stops (inr h) = inr (gain-scaled g ∙ ap (λ (x : ℕ). m * x) h ∙ mul-zero m)

      go : Goes P g ⊎ Stops P g → grant_step (scaled_problem m P) g ≡ grant_step P g
      go (inl h) = step-goes (scaled_problem m P) g (goes h) ∙ ap (more g) (next-scaled g) ∙ sym (step-goes P g h)
      go (inr h) = step-stops (scaled_problem m P) g (stops h) ∙ sym (step-stops P g h)

  grants-scaled : (x : ℕ) → grants_after (scaled_problem m P) x ≡ grants_after P x
  unfolding grants_after
  grants-scaled zero = refl
  grants-scaled (suc x) = rw (grants-scaled x) (grant-step-scaled (grants_after P x))

  packed-scaled : packed (scaled_problem m P) ≡ packed P
  unfolding packed
  packed-scaled = grants-scaled P.capacity

  total-of-scaled : (g : Grants) → total (scaled_problem m P) g ≡ m * total P g
  unfolding total
  total-of-scaled g = sum-scaled m (λ s. P.cost s (g s)) (λ s. m * P.cost s (g s)) (λ s. refl) P.services

module _ (m : ℕ) (positive : 0 < m) (S : Services) where
  targets-of-scaled : (s : ℕ) → targets_of (scaled_services m S) s ≡ scaled_targets m (targets_of S s)
  unfolding targets_of
  targets-of-scaled s = rw (get_or-map (λ ws. map (λ w. m * w) ws) S.weights s [])

  -- the count over any lines is m times as large
  pub counted-scaled : (ls : List Line) → counted (scaled_services m S) ls ≡ m * counted S ls
  unfolding counted counted_imbalance services volume
  counted-scaled ls =
      sum-scaled m (λ s. volume S s * counted_imbalance S ls s) (λ s. volume S s * counted_imbalance (scaled_services m S) ls s) each (services S)
    where
      each : (s : ℕ) → volume S s * counted_imbalance (scaled_services m S) ls s ≡ m * (volume S s * counted_imbalance S ls s)
      each s =
          rw (targets-of-scaled s, imbalance-scaled m positive (targets_of S s) (own_rules (suc s) ls))
          (mul_left_comm (volume S s) m (counted_imbalance S ls s))

  -- lists, table, grants, total, lines and figures
  module _ (tolerance : ℕ) where
    frame-of-scaled : (s : ℕ) → frame_of (scaled_services m S) (m * tolerance) s ≡ scaled_frame m (frame_of S tolerance s)
    unfolding frame_of
    frame-of-scaled s =
        rw (targets-of-scaled s) (frame-scaled m positive S.k S.unit tolerance (targets_of S s).labels (targets_of S s).weights)

    pub list-for-scaled : (s : ℕ) → list_for (scaled_services m S) (m * tolerance) s ≡ list_for S tolerance s
    unfolding list_for
    list-for-scaled s = rw (frame-of-scaled s) (list-scaled m positive (frame_of S tolerance s) rule_budget)

    pub table-scaled : (g : Grants) → table (scaled_services m S) (m * tolerance) g ≡ table S tolerance g
    unfolding table services
    table-scaled g = ap (λ (lists : ℕ → List Rule). table_of (services S) lists g) (fun_ext list-for-scaled)

    problem-scaled :
        (least : Grants) (capacity : ℕ)
        → problem (scaled_services m S) (m * tolerance) least capacity ≡ scaled_problem m (problem S tolerance least capacity)
    unfolding problem services volume
    problem-scaled least capacity =
        ap (λ (cost : ℕ → ℕ → ℕ). record { services = services S; cost = cost; least = least; capacity = capacity })
        (fun_ext (λ s. fun_ext (each s)))
      where
        each :
            (s x : ℕ)
            → volume S s * stair (frame_of (scaled_services m S) (m * tolerance) s) x (list_for (scaled_services m S) (m * tolerance) s)
            ≡ m * (volume S s * stair (frame_of S tolerance s) x (list_for S tolerance s))
        each s x =
            rw (frame-of-scaled s, list-for-scaled s, stair-scaled m positive (frame_of S tolerance s) x (list_for S tolerance s))
            (mul_left_comm (volume S s) m (stair (frame_of S tolerance s) x (list_for S tolerance s)))

    -- each service is granted the same
    pub granted-scaled :
        (least : Grants) (capacity : ℕ)
        → granted (scaled_services m S) (m * tolerance) least capacity ≡ granted S tolerance least capacity
    unfolding granted
    granted-scaled least capacity = rw (problem-scaled least capacity) (packed-scaled m positive (problem S tolerance least capacity))

    pub total-scaled :
        (least : Grants) (capacity : ℕ)
        → total (problem (scaled_services m S) (m * tolerance) least capacity) (granted (scaled_services m S) (m * tolerance) least capacity)
        ≡ m * total (problem S tolerance least capacity) (granted S tolerance least capacity)
    total-scaled least capacity =
        rw (granted-scaled least capacity, problem-scaled least capacity)
        (total-of-scaled m positive (problem S tolerance least capacity) (granted S tolerance least capacity))

    pub lines-scaled : (capacity : ℕ) → lines_made (scaled_services m S) (m * tolerance) capacity ≡ lines_made S tolerance capacity
    unfolding lines_made
    lines-scaled capacity = rw (granted-scaled one_each capacity) (table-scaled (granted S tolerance one_each capacity))

    ended-scaled :
        (s : ℕ)
        → end_of (frame_of (scaled_services m S) (m * tolerance) s) (list_for (scaled_services m S) (m * tolerance) s)
        ≡ end_of (frame_of S tolerance s) (list_for S tolerance s)
    ended-scaled s = rw (list-for-scaled s, frame-of-scaled s) (end-scaled m positive (frame_of S tolerance s) (list_for S tolerance s))

    figures-to-scaled :
        (capacity n : ℕ) → figures_to (scaled_services m S) (m * tolerance) capacity n ≡ figures_to S tolerance capacity n
    unfolding figures_to
    figures-to-scaled capacity zero = refl
    figures-to-scaled capacity (suc n) =
        rw (figures-to-scaled capacity n, granted-scaled one_each capacity, ended-scaled n, list-for-scaled n)

    pub figures-scaled : (capacity : ℕ) → figures_made (scaled_services m S) (m * tolerance) capacity ≡ figures_made S tolerance capacity
    unfolding figures_made services
    figures-scaled capacity = figures-to-scaled capacity (services S)
