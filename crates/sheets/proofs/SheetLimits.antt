-- The limits of a percentage sheet that was read: of line 1, of the number of services, of each volume and of the backends of each service.
use Rattle.std.specs.Prelude.{Ok, Some}
use Prim.Native.Nat.{ℕ, zero, suc, ◌+◌, ◌-◌, ◌≤◌, ◌<◌}
use mathlib.Core.Path.{◌≡◌, refl, sym, ap, ◌∙◌}
use mathlib.Core.Bool.{true}
use mathlib.Core.List.{List, [], ◌∷◌}
use native.Mathlib.Nat.{le_of_suc-le-suc}
use native.Mathlib.Numerals.{one-add}
use native.Mathlib.Omega.{arith}
use lib.ListN.{length, get_or, drop, length-drop}
use borrow.Author.Tests.{ltb-true, leb-true, eqb-true, le-leb, eq-eqb}
use Rattle.numerals.specs.Decimal.{number}
use Rattle.numerals.specs.Text.{split}
use Rattle.numerals.proofs.Decimal.{only-text}
use Rattle.numerals.specs.Limits.{most_bits, most_backends, most_id, most_services, most_capacity, most_volume, decimals, unit}
use Rattle.numerals.specs.Sums.{sum_to}
use Rattle.numerals.proofs.Sums.{sum-none, sum-suc, sum-ext, sum-split}
use Rattle.numerals.proofs.Searches.{true-all}
use Rattle.expansion.specs.Answer.{id_before, is_backend, check_weights}
use Rattle.expansion.proofs.Checks.{weights-sum}
use Rattle.expansion.proofs.Ids.{Rises}
use Rattle.sheets.specs.Reading.{got, field}
use Rattle.sheets.specs.FirstLine.{Opening}
use Rattle.sheets.specs.PercentageSheet.{Sheet, Service, Weights, weight_fields, sum, service_fields, service_lines, volumes_of}
use Rattle.sheets.specs.PercentageSheet.{ids_of, weights_of, whole, sheet_line, read_sheet, read_sheet_at}
use Rattle.sheets.proofs.Readings.{got_same, unless-got, on_field-got, then-got}
use Rattle.sheets.proofs.OpeningLine.{opened}
use Rattle.sheets.proofs.BackendFields.{percent-limit}
use Rattle.sheets.proofs.TableChecks.{is_within_lem}

-- ids above one that stands before them, each above the one before it
abbrev pub Ascending : ℕ → List ℕ → Type 0
Ascending before [] = Unit {0}
Ascending before (id ∷ ids) = (before < id) × (id ≤ most_id) × Ascending id ids

-- the backends of a service: 1 to 32 of them, their ids ascending, each weight at most the unit, the unit together
pub record Row (ids ws : List ℕ) : Type 0 where
  pub some : 1 ≤ length ws
  pub few : length ws ≤ most_backends
  pub paired : length ids ≡ length ws
  pub ascends : Ascending 0 ids
  pub small : (b : ℕ) → b < length ws → get_or ws b 0 ≤ unit
  pub balanced : sum ws ≡ unit

-- the sum of a list, by places
pub sum-places : (ws : List ℕ) → sum_to (length ws) (λ b. get_or ws b 0) ≡ sum ws
unfolding sum
sum-places [] = sum-none (λ b. 0)
sum-places (w ∷ ws) =
    let f : ℕ → ℕ = λ b. get_or (w ∷ ws) b 0 in
    let rest : sum_to (length ws) (λ i. f (1 + i)) ≡ sum_to (length ws) (λ i. get_or ws i 0) =
    sum-ext (length ws) (λ i. f (1 + i)) (λ i. get_or ws i 0) (λ i l. ap f (one-add i)) in
    rw (← one-add (length ws)) (omega (arith, sum-split 1 (length ws) f, sum-suc 0 f, sum-none f, rest, sum-places ws))

-- the ids in terms of the calls without a text: each is above the one before it
ascends-first : (before : ℕ) (ids : List ℕ) → Ascending before ids → 0 < length ids → before < get_or ids 0 0
ascends-first before [] a l = absurd (omega arith)
ascends-first before (id ∷ ids) a l = a.0

ascends-next : (before : ℕ) (ids : List ℕ) → Ascending before ids → (b : ℕ) → suc b < length ids → get_or ids b 0 < get_or ids (suc b) 0
ascends-next before [] a b l = absurd (omega arith)
ascends-next before (id ∷ ids) a zero l = ascends-first id ids a.2 (omega arith)
ascends-next before (id ∷ ids) a (suc b) l = ascends-next id ids a.2 b (omega arith)

ascends-most : (before : ℕ) (ids : List ℕ) → Ascending before ids → (b : ℕ) → b < length ids → get_or ids b 0 ≤ most_id
ascends-most before [] a b l = absurd (omega arith)
ascends-most before (id ∷ ids) a zero l = a.1
ascends-most before (id ∷ ids) a (suc b) l = ascends-most id ids a.2 b (omega arith)

module _ {ids ws : List ℕ} (r : Row ids ws) where
  pub row-rises : Rises ids (length ws)
  unfolding id_before
  row-rises zero l = ascends-first 0 ids r.ascends (omega (arith, r.paired))
  row-rises (suc b) l = ascends-next 0 ids r.ascends b (omega (arith, r.paired))

  pub row-most : (b : ℕ) → b < length ws → get_or ids b 0 ≤ most_id
  row-most b l = ascends-most 0 ids r.ascends b (omega (arith, r.paired))

  -- they pass the checks of a call without a text
  pub row-passes : check_weights ids ws ≡ Ok tt
  unfolding is_backend
  row-passes =
      let each : (b : ℕ) → b < length ws → is_backend ids ws b ≡ true =
      λ b l. rw (is_within_lem (suc (id_before ids b)) most_id (get_or ids b 0) (row-rises b l) (row-most b l), le-leb (get_or ws b 0) unit (r.small b l)) in
      weights-sum ids ws (omega (arith, r.some)) r.few r.paired (true-all (length ws) (is_backend ids ws) each)
      ∙ simp (eq-eqb _ unit (sum-places ws ∙ r.balanced))

pub record Limits (S : Sheet) : Type 0 where
  pub bits : 1 ≤ S.k
  pub few_bits : S.k ≤ most_bits
  pub tolerant : S.tolerance ≤ unit
  pub small : S.capacity ≤ most_capacity
  pub some : 1 ≤ length S.volumes
  pub few : length S.volumes ≤ most_services
  pub room : length S.volumes ≤ S.capacity
  pub named : length S.ids ≡ length S.volumes
  pub rows : length S.weights ≡ length S.volumes
  pub volume : (s : ℕ) → s < length S.volumes → get_or S.volumes s 0 ≤ most_volume
  pub row : (s : ℕ) → s < length S.volumes → Row (get_or S.ids s []) (get_or S.weights s [])

-- line 1
pub record HeadLimits (o : Opening) : Type 0 where
  pub bits : 1 ≤ o.k
  pub few_bits : o.k ≤ most_bits
  pub tolerant : o.second ≤ unit
  pub small : o.third ≤ most_capacity

head-limits : (text : List ℕ) (o : Opening) → sheet_line decimals text ≡ got o → HeadLimits o
unfolding sheet_line unit
head-limits text o e =
    let O = opened _ _ _ text o e in
    let k = only-text 1 most_bits o.k _ O.bits in
    record {
      bits = k.low;
      few_bits = k.high;
      tolerant = percent-limit decimals o.second _ O.left;
      small = (only-text 1 most_capacity o.third _ O.right).high;
    }

-- a line's weights
each_more : (w : ℕ) (ws : List ℕ) (m : ℕ) → w ≤ m → ((b : ℕ) → b < length ws → get_or ws b 0 ≤ m) → (b : ℕ) → b < suc (length ws) → get_or (w ∷ ws) b 0 ≤ m
each_more w ws m h k zero l = h
each_more w ws m h k (suc b) l = k b (le_of_suc-le-suc l)

-- what the backends of a line come to
record Lined (before : ℕ) (fs : List (List ℕ)) (ws : Weights) : Type 0 where
  named : length ws.ids ≡ length fs
  size : length ws.weights ≡ length fs
  ascends : Ascending before ws.ids
  small : (b : ℕ) → b < length ws.weights → get_or ws.weights b 0 ≤ unit

weight-limits : (line before : ℕ) (fs : List (List ℕ)) (ws : Weights) → weight_fields decimals line before fs ≡ got ws → Lined before fs ws
unfolding weight_fields unit
weight-limits line before [] ws e =
    rw (← got_same e) (record { named = refl; size = refl; ascends = tt; small = λ b l. absurd (omega arith) })
weight-limits line before (f ∷ fs) ws e =
    let two = unless-got _ _ _ _ e in
    let id = on_field-got _ _ _ two.1 in
    let w = on_field-got _ _ _ id.2 in
    let rest = then-got _ _ w.2 in
    let more = weight-limits line id.0 fs rest.0 rest.1 in
    let n = only-text (suc before) most_id id.0 _ id.1 in
    let first : w.0 ≤ unit = percent-limit decimals w.0 _ w.1 in
    rw (← got_same rest.2)
    (record {
      named = ap suc more.named;
      size = ap suc more.size;
      ascends = (n.low, n.high, more.ascends);
      small = each_more w.0 rest.0.weights unit first more.small;
    })

-- what the line of a service has where it was read, with any number of decimals and any sum of its weights
pub record LineRead (d all i : ℕ) (fs : List (List ℕ)) (s : Service) : Type 0 where
  pub place : i < most_services
  pub some : 3 ≤ length fs
  pub few : length fs ≤ 2 + most_backends
  pub volume : number 0 most_volume (field fs 1) ≡ Some s.volume
  pub weights : weight_fields d (i + 2) 0 (drop 2 fs) ≡ got (record { ids = s.ids; weights = s.weights })
  pub balanced : sum s.weights ≡ all

pub line_read : (d all i : ℕ) (fs : List (List ℕ)) (s : Service) → service_fields d all i fs ≡ got s → LineRead d all i fs s
unfolding service_fields
line_read d all i fs s e =
    let word = unless-got _ _ _ _ e in
    let few = unless-got _ _ _ _ word.1 in
    let three = unless-got _ _ _ _ few.1 in
    let most = unless-got _ _ _ _ three.1 in
    let v = on_field-got _ _ _ most.1 in
    let ws = then-got _ _ v.2 in
    let balanced = unless-got _ _ _ _ ws.2 in
    rw (← got_same balanced.1)
    (record {
      place = ltb-true i most_services few.0;
      some = leb-true 3 (length fs) three.0;
      few = leb-true (length fs) (2 + most_backends) most.0;
      volume = v.1;
      weights = ws.1;
      balanced = eqb-true (sum ws.0.weights) all balanced.0;
    })

-- a line of a service
pub record Served (s : Service) : Type 0 where
  pub volume : s.volume ≤ most_volume
  pub row : Row s.ids s.weights

service-limits : (i : ℕ) (fs : List (List ℕ)) (s : Service) → service_fields decimals unit i fs ≡ got s → (i < most_services) × Served s
service-limits i fs s e =
    let R = line_read decimals unit i fs s e in
    let line = weight-limits (i + 2) 0 (drop 2 fs) _ R.weights in
    let long : length s.weights ≡ length fs - 2 = line.size ∙ length-drop 2 fs in (
      R.place,
      record {
        volume = (only-text 0 most_volume s.volume (field fs 1) R.volume).high;
        row =
            record {
              some = omega (arith, long, R.some);
              few = omega (arith, long, R.few);
              paired = line.named ∙ sym line.size;
              ascends = line.ascends;
              small = line.small;
              balanced = R.balanced;
            };
      },
    )

-- all lines of services
abbrev AllServed : List Service → Type 0
AllServed [] = Unit {0}
AllServed (s ∷ ss) = Served s × AllServed ss

lines-limits :
    (i : ℕ) (ls : List (List ℕ)) (ss : List Service) → i ≤ most_services → service_lines decimals unit i ls ≡ got ss
    → (i + length ss ≤ most_services) × AllServed ss
unfolding service_lines
lines-limits i [] ss h e = rw (← got_same e) (omega arith, tt)
lines-limits i (l ∷ []) ss h e = rw (← got_same (unless-got _ _ _ _ e).1) (omega arith, tt)
lines-limits i (l ∷ m ∷ ls) ss h e =
    let s = then-got _ _ e in
    let rest = then-got _ _ s.2 in
    let first = service-limits i (split 32 l) s.0 s.1 in
    let more = lines-limits (suc i) (m ∷ ls) rest.0 (omega (arith, first.0)) rest.1 in
    rw (← got_same rest.2) (omega (arith, more.0), (first.1, more.1))

volumes-length : (ss : List Service) → length (volumes_of ss) ≡ length ss
unfolding volumes_of
volumes-length [] = refl
volumes-length (s ∷ ss) = ap suc (volumes-length ss)

ids-length : (ss : List Service) → length (ids_of ss) ≡ length ss
unfolding ids_of
ids-length [] = refl
ids-length (s ∷ ss) = ap suc (ids-length ss)

weights-length : (ss : List Service) → length (weights_of ss) ≡ length ss
unfolding weights_of
weights-length [] = refl
weights-length (s ∷ ss) = ap suc (weights-length ss)

served-at :
    (ss : List Service) → AllServed ss → (i : ℕ) → i < length ss
    → (get_or (volumes_of ss) i 0 ≤ most_volume) × Row (get_or (ids_of ss) i []) (get_or (weights_of ss) i [])
unfolding volumes_of ids_of weights_of
served-at [] a i h = absurd (omega arith)
served-at (s ∷ ss) a zero h = (a.0.volume, a.0.row)
served-at (s ∷ ss) a (suc i) h = served-at ss a.1 i (omega arith)

whole-limits :
    (o : Opening) (ss : List Service) (S : Sheet) → HeadLimits o → length ss ≤ most_services → AllServed ss
    → whole o.k o.second o.third ss ≡ got S → Limits S
unfolding whole
whole-limits o ss S H few a e =
    let some = unless-got _ _ _ _ e in
    let room = unless-got _ _ _ _ some.1 in
    rw (← got_same room.1)
    (record {
      bits = H.bits;
      few_bits = H.few_bits;
      tolerant = H.tolerant;
      small = H.small;
      some = omega (arith, volumes-length ss, ltb-true 0 (length ss) some.0);
      few = omega (arith, volumes-length ss);
      room = omega (arith, volumes-length ss, leb-true (length ss) o.third room.0);
      named = ids-length ss ∙ sym (volumes-length ss);
      rows = weights-length ss ∙ sym (volumes-length ss);
      volume = λ s l. (served-at ss a s (omega (arith, volumes-length ss))).0;
      row = λ s l. (served-at ss a s (omega (arith, volumes-length ss))).1;
    })

pub limits : (text : List ℕ) (S : Sheet) → read_sheet text ≡ got S → Limits S
unfolding read_sheet read_sheet_at
limits text S e =
    let line = then-got _ _ e in
    let rest = then-got _ _ line.2 in
    let more = lines-limits 0 line.0.behind rest.0 (omega arith) rest.1 in
    whole-limits line.0 rest.0 S (head-limits text line.0 line.1) (omega (arith, more.0)) more.1 rest.2
