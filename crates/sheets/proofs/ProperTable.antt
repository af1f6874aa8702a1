-- The table of a percentage sheet is proper: its lines are in order and in their limits, and its total is in its limit.
use Prim.Native.Nat.{ℕ, suc, ◌-◌, ◌*◌, ◌≤◌, ◌<◌, min}
use mathlib.Core.Path.{◌≡◌, refl, sym, ◌∙◌, subst}
use mathlib.Core.List.{List, [], reverse}
use native.Mathlib.Nat.{le_trans, mul-le-mul}
use native.Mathlib.Omega.{arith}
use lib.ListN.{length, get_or}
use lib.Pow.{pow_mono}
use Rattle.numerals.specs.Limits.{most_bits, most_suffixes, most_id, most_rules, most_capacity, most_volume, unit, total_limit}
use Rattle.numerals.specs.Sums.{sum_to}
use Rattle.expansion.specs.FirstMatch.{nobody}
use Rattle.expansion.specs.Imbalance.{backends, label, weight, imbalance}
use Rattle.expansion.specs.Steps.{Frame, first_rule, frame, after, list_of, oldest, stair}
use Rattle.expansion.specs.Inner.Sound.{Distinct, Labelled, Sound}
use Rattle.expansion.specs.declared.rule.Rule.{Rule}
use Rattle.expansion.proofs.Base.{base-sound, base-formed, base-falling}
use Rattle.expansion.proofs.Ids.{rises-distinct}
use Rattle.expansion.proofs.Bounds.{imbalance-bound}
use Rattle.expansion.proofs.Shape.{falling-after, front-after}
use Rattle.numerals.proofs.Sums.{sum-le, sum-most, sum-at}
use Rattle.expansion.proofs.Turns.{good-after, formed-after, length-le, length-oldest, oldest-after}
use Rattle.packing.specs.Count.{Services, services, volume, targets_of}
use Rattle.packing.specs.Demand.{Fitting}
use Rattle.packing.specs.Grants.{Grants, total}
use Rattle.packing.specs.Table.{rule_budget, frame_of, list_for, table, problem, granted, one_each}
use Rattle.packing.specs.Answer.{services_with, lines_made}
use Rattle.packing.specs.Inner.Premises.{Balanced}
use Rattle.packing.proofs.Demand.{granted-fitting, one-fits}
use Rattle.packing.proofs.Tables.{length-table}
use Rattle.sheets.specs.Reading.{got}
use Rattle.sheets.specs.PercentageSheet.{Sheet, read_sheet}
use Rattle.sheets.specs.Inner.Premises.{check_table}
use Rattle.sheets.specs.Calls.{services_in, table_for}
use Rattle.sheets.proofs.Ladder.{Ladder, ladder, ladder-some, all-labelled, Granted, Admits, table-sorted}
use Rattle.sheets.proofs.SheetLimits.{Row, row-rises, row-most, Limits, limits, sum-places}
use Rattle.sheets.proofs.TableChecks.{InOrder, Proper, checked}

-- what a list leaves at most, and what a service then costs
abbrev most_imbalance : ℕ
most_imbalance = unit * most_suffixes

abbrev most_cost : ℕ
most_cost = most_volume * most_imbalance

-- the labels of a service's backends are ids, no two equal
record Ids (labels ws : List ℕ) : Type 0 where
  distinct : Distinct (λ b. get_or labels b nobody) (length ws)
  limits : (b : ℕ) → b < length ws → (1 ≤ get_or labels b nobody) × (get_or labels b nobody ≤ most_id)

named : {labels ws : List ℕ} → Ids labels ws → Labelled (λ b. get_or labels b nobody) (length ws)
named ids b l e = omega (arith, (ids.limits b l).0)

-- those of a sheet are such
row-ids : {labels ws : List ℕ} → Row labels ws → Ids labels ws
row-ids {labels} {ws} r =
    record {
      distinct = rises-distinct labels (length ws) (row-rises r);
      limits = λ b l. (omega (arith, row-rises r b l), row-most r b l);
    }

-- a list of the expansion is a ladder
module _ (k tolerance : ℕ) (labels ws : List ℕ) (one : 1 ≤ k) (balanced : sum_to (length ws) (λ b. get_or ws b 0) ≡ unit) (ids : Ids labels ws) where
  abbrev F : Frame
  F = frame k unit tolerance labels ws

  sound : Sound F
  unfolding unit
  sound = base-sound k unit tolerance labels ws one (omega arith) balanced ids.distinct (named ids)

  list-ladder : (x : ℕ) → Ladder (after F x)
  unfolding frame first_rule
  list-ladder x =
      let front = front-after F sound x in
      subst Ladder (sym front.1)
      (ladder front.0 _ refl front.2 (rw front.1 at (falling-after F sound (base-falling labels ws) x)))

  list-granted : (x : ℕ) → x < most_rules → Granted k (after F x)
  unfolding frame first_rule backends label unit
  list-granted x h =
      record {
        steps = list-ladder x;
        labelled =
            all-labelled k (λ b. get_or labels b nobody) (length ws) (after F x) ids.limits
            (formed-after F sound (base-formed k unit tolerance labels ws one (omega arith) balanced ids.distinct) x);
        few = omega (arith, length-le F x);
      }

  list-imbalance : (x : ℕ) → k ≤ most_bits → imbalance F.targets (after F x) ≤ most_imbalance
  unfolding frame unit
  list-imbalance x h =
      omega (arith, imbalance-bound F sound (after F x) (good-after F sound x).complete, pow_mono {i = k} {j = most_bits} h)

  oldest-list : (c : ℕ) → 1 ≤ c → oldest c (list_of F rule_budget) ≡ after F (min (c - 1) (most_rules - 1))
  unfolding list_of rule_budget frame first_rule
  oldest-list c h = oldest-after F c (most_rules - 1) h

-- the table of a sheet in its limits
module _ (S : Sheet) (L : Limits S) where
  abbrev T : Services
  T = services_in S

  abbrev g : Grants
  g = granted T S.tolerance one_each S.capacity

  count : services T ≡ length S.volumes
  unfolding services services_in services_with
  count = refl

  weigh : (s : ℕ) → s < length S.volumes → sum_to (length (get_or S.weights s [])) (λ b. get_or (get_or S.weights s []) b 0) ≡ unit
  weigh s l = sum-places (get_or S.weights s []) ∙ (L.row s l).balanced

  -- a service's labels are its ids
  service-ids : (s : ℕ) → s < length S.volumes → Ids (get_or T.labels s []) (get_or S.weights s [])
  unfolding services_in services_with
  service-ids s l = row-ids (L.row s l)

  pub balanced : Balanced T
  unfolding services_in services targets_of backends weight label unit services_with
  balanced =
      record {
        bits = L.bits;
        positive = omega arith;
        weigh = weigh;
        distinct = λ s l. (service-ids s l).distinct;
        labelled = λ s l. named (service-ids s l);
      }

  pub enough-room : sum_to (services T) one_each ≤ S.capacity
  enough-room = one-fits T S.capacity (omega (arith, count, L.room))

  pub fitting : Fitting T one_each S.capacity g
  fitting = granted-fitting T S.tolerance one_each S.capacity enough-room

  granted-oldest :
      (s : ℕ) → s < length S.volumes
      → (x : ℕ) × (x < most_rules) × (oldest (g s) (list_for T S.tolerance s) ≡ after (frame_of T S.tolerance s) x)
  unfolding list_for frame_of services_in services targets_of services_with
  granted-oldest s l = (
    min (g s - 1) (most_rules - 1),
    omega arith,
    oldest-list S.k S.tolerance (get_or T.labels s []) (get_or S.weights s []) L.bits (weigh s l) (service-ids s l) (g s)
        (fitting.enough s l),
  )

  all-granted : (s : ℕ) → s < length S.volumes → Granted S.k (oldest (g s) (list_for T S.tolerance s))
  unfolding frame_of services_in targets_of services_with
  all-granted s l =
      let o = granted-oldest s l in
      rw o.2 (list-granted S.k S.tolerance (get_or T.labels s []) (get_or S.weights s []) L.bits (weigh s l) (service-ids s l)
      o.0 o.1)

  imbalance-most :
      (s : ℕ) → s < length S.volumes → imbalance (frame_of T S.tolerance s).targets (oldest (g s) (list_for T S.tolerance s)) ≤ most_imbalance
  unfolding frame_of services_in targets_of services_with
  imbalance-most s l =
      let o = granted-oldest s l in
      rw o.2 (list-imbalance S.k S.tolerance (get_or T.labels s []) (get_or S.weights s []) L.bits (weigh s l) (service-ids s l)
      o.0 L.few_bits)

  cost-most :
      (s : ℕ) → s < length S.volumes
      → volume T s * stair (frame_of T S.tolerance s) (g s) (list_for T S.tolerance s) ≤ most_cost
  unfolding stair volume services_in services_with
  cost-most s l =
      let F : Frame = frame_of T S.tolerance s in
      let least : imbalance F.targets (oldest (g s) (list_for T S.tolerance s)) ≤ most_imbalance = imbalance-most s l in
      le_trans (mul-le-mul (L.volume s l) least) (omega arith)

  total-most : total (problem T S.tolerance one_each S.capacity) g ≤ total_limit
  unfolding total problem total_limit unit
  total-most =
      let n = services T in
      omega (arith, sum-most n _ most_cost (λ s l. cost-most s (omega (arith, count))), count, L.few)

  lines-room : length (lines_made T S.tolerance S.capacity) ≤ most_capacity
  unfolding lines_made table
  lines-room =
      let n = services T in
      let lists : ℕ → List Rule = list_for T S.tolerance in
      omega (
        arith,
        length-table n lists g,
        sum-le n (λ s. min (g s) (length (lists s))) g (λ s l. omega arith),
        fitting.room,
        L.small,
      )

  lines-some : 1 ≤ length (lines_made T S.tolerance S.capacity)
  unfolding lines_made table
  lines-some =
      let n = services T in
      let lists : ℕ → List Rule = list_for T S.tolerance in
      let first : 0 < length S.volumes = L.some in
      omega (
        arith,
        length-table n lists g,
        sum-at n (λ s. min (g s) (length (lists s))) 0 (omega (arith, count)),
        length-oldest (g 0) (lists 0),
        ladder-some (oldest (g 0) (lists 0)) (all-granted 0 first).steps,
      )

  sorted : InOrder S.k [] (lines_made T S.tolerance S.capacity) × Admits (suc (services T)) (reverse (lines_made T S.tolerance S.capacity))
  unfolding lines_made table
  sorted =
      table-sorted S.k (services T) (list_for T S.tolerance) g (omega (arith, count, L.few)) (λ s l. all-granted s (omega (arith, count)))

  pub table-proper : Proper (table_for S)
  unfolding table_for
  table-proper =
      record {
        bits = L.bits;
        few_bits = L.few_bits;
        some = lines-some;
        few = lines-room;
        small = total-most;
        sorted = sorted.0;
        ends = sorted.1.shut;
      }

-- the table of a sheet that was read passes the checks
pub table-checked : (text : List ℕ) (S : Sheet) → read_sheet text ≡ got S → check_table (table_for S) ≡ got (table_for S)
table-checked text S e = checked (table_for S) (table-proper S (limits text S e))
