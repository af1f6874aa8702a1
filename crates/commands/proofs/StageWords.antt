-- The words of stages and of stage: numbers above their limits are answered as one more than the limit.
use Rattle.std.specs.Prelude.{Err, None, Result, Some}
use Prim.Native.Nat.{ℕ, ◌+◌, ◌<◌, min}
use mathlib.Core.Path.{◌≡◌, refl, sym, ap, ◌∙◌}
use mathlib.Core.Bool.{Bool, true, false}
use mathlib.Core.List.{List}
use native.Mathlib.Omega.{arith}
use lib.Dec.{eqb}
use lib.ListN.{length}
use Rattle.numerals.specs.Limits.{most_services, most_suffixes, most_capacity}
use Rattle.numerals.specs.Refusals.{no2}
use Rattle.numerals.proofs.Choice.{both_false}
use Rattle.expansion.specs.Answer.{in_limits}
use Rattle.sheets.specs.Reading.{Reading, got, refused}
use Rattle.sheets.specs.RuleSheet.{Table, read_table}
use Rattle.sheets.specs.Calls.{refused_at, answered, of_service, has_service}
use Rattle.sheets.specs.declared.answer.Refused.{Refused as Why}
use Rattle.sheets.proofs.TableChecks.{above_most}
use Rattle.stages.specs.Stages.{Change, row}
use Rattle.stages.specs.Calls.{change_of, in_range, of_change, of_sheets, places_answer, lines_answer}
use Rattle.commands.specs.Said.{prints, no_number, on_number}
use Rattle.commands.specs.Numeral.{numeral}
use Rattle.commands.specs.Inner.Numeral.{capped}
use Rattle.commands.specs.Stages.{staged_text, stages_text, one_stage_text, stages_says, stage_says}
use Rattle.commands.proofs.Numerals.{capped-value, capped-bad, capped_same}
use Rattle.commands.proofs.Services.{unknown}
use Rattle.commands.proofs.StageRows.{few-stages}

-- a service that no table has: the same refusal
service-same : (old new : List ℕ) (n : ℕ) (f g : Change → Result ℕ Why) (ps qs : List ℕ) → most_services < n
    → staged_text (of_sheets old new (most_services + 1) f) ps ≡ staged_text (of_sheets old new n g) qs
unfolding of_sheets staged_text
service-same old new n f g ps qs h = go (read_table old) (read_table new) refl
  where
    go : (r s : Reading Table) → read_table old ≡ r
        → staged_text (answered Err 1 r (λ t. answered Err 2 s (λ u.
        of_service Err (has_service t (most_services + 1)) (has_service u (most_services + 1)) (eqb t.k u.k) (f (change_of t u (most_services + 1)))))) ps
        ≡ staged_text (answered Err 1 r (λ t. answered Err 2 s (λ u.
        of_service Err (has_service t n) (has_service u n) (eqb t.k u.k) (g (change_of t u n))))) qs
    go (refused why line) s e = refl
    go (got t) (refused why line) e = refl
    go (got t) (got u) e = rw (unknown old t e n h, unknown old t e (most_services + 1) (omega arith))

-- changes that are refused alike
module _ (old new : List ℕ) (n : ℕ) (f g : Change → Result ℕ Why) (ps qs : List ℕ) (w : Why) where
  refused-same : ((t u : Table) → read_table old ≡ got t → (f (change_of t u n) ≡ Err w) × (g (change_of t u n) ≡ Err w))
      → staged_text (of_sheets old new n f) ps ≡ staged_text (of_sheets old new n g) qs
  unfolding of_sheets staged_text
  refused-same h = go (read_table old) (read_table new) refl
    where
      alike : (x y : Result ℕ Why) → x ≡ Err w → y ≡ Err w → (a b c : Bool)
          → staged_text (of_service Err a b c x) ps ≡ staged_text (of_service Err a b c y) qs
      alike x y d e true true true = rw (d, e)
      alike x y d e true true false = refl
      alike x y d e true false c = refl
      alike x y d e false b c = refl

      go : (r s : Reading Table) → read_table old ≡ r
          → staged_text (answered Err 1 r (λ t. answered Err 2 s (λ u.
          of_service Err (has_service t n) (has_service u n) (eqb t.k u.k) (f (change_of t u n))))) ps
          ≡ staged_text (answered Err 1 r (λ t. answered Err 2 s (λ u.
          of_service Err (has_service t n) (has_service u n) (eqb t.k u.k) (g (change_of t u n))))) qs
      go (refused why line) s e = refl
      go (got t) (refused why line) e = refl
      go (got t) (got u) e =
          alike (f (change_of t u n)) (g (change_of t u n)) (h t u e).0 (h t u e).1 (has_service t n) (has_service u n) (eqb t.k u.k)

-- numbers out of their limits
module _ (C : Change) (limit capacity number : ℕ) (values : List ℕ) (room : ℕ) where
  abbrev no : Type 0
  no = of_change C limit capacity number values room ≡ Err (refused_at no2 0)

  over-limit : most_suffixes < limit → no
  unfolding of_change in_range
  over-limit h = rw (above_most 1 most_suffixes limit h)

  over-capacity : most_capacity < capacity → no
  unfolding of_change in_range
  over-capacity h = rw (above_most 1 most_capacity capacity h, both_false (in_limits 1 most_suffixes limit))

  over-number : length (row C limit) < number → no
  unfolding of_change in_range
  over-number h =
      rw (
        above_most 1 (length (row C limit)) number h,
        both_false (in_limits 1 most_capacity capacity),
        both_false (in_limits 1 most_suffixes limit),
      )

-- the row

module _ (old new : List ℕ) where
  stages-service : (n limit capacity : ℕ) → stages_text old new (min n (most_services + 1)) limit capacity ≡ stages_text old new n limit capacity
  unfolding stages_text places_answer
  stages-service n limit capacity =
      capped_same (λ (m : ℕ). stages_text old new m limit capacity) most_services n (service-same old new n _ _ _ _)

  stages-limit : (n limit capacity : ℕ) → stages_text old new n (min limit (most_suffixes + 1)) capacity ≡ stages_text old new n limit capacity
  unfolding stages_text places_answer
  stages-limit n limit capacity =
      capped_same (λ (l : ℕ). stages_text old new n l capacity) most_suffixes limit
      (λ h. refused-same old new n _ _ _ _ (refused_at no2 0)
      (λ t u e. (over-limit _ (most_suffixes + 1) capacity 1 _ _ (omega arith), over-limit _ limit capacity 1 _ _ h)))

  stages-capacity : (n limit capacity : ℕ) → stages_text old new n limit (min capacity (most_capacity + 1)) ≡ stages_text old new n limit capacity
  unfolding stages_text places_answer
  stages-capacity n limit capacity =
      capped_same (λ (c : ℕ). stages_text old new n limit c) most_capacity capacity
      (λ h. refused-same old new n _ _ _ _ (refused_at no2 0)
      (λ t u e. (over-capacity _ limit (most_capacity + 1) 1 _ _ (omega arith), over-capacity _ limit capacity 1 _ _ h)))

  stages-capped : (n limit capacity : ℕ)
      → stages_text old new (min n (most_services + 1)) (min limit (most_suffixes + 1)) (min capacity (most_capacity + 1)) ≡ stages_text old new n limit
      capacity
  stages-capped n limit capacity =
      stages-service n (min limit (most_suffixes + 1)) (min capacity (most_capacity + 1))
      ∙ stages-limit n limit (min capacity (most_capacity + 1))
      ∙ stages-capacity n limit capacity

  stages-read : (x y z n l c : ℕ) → n ≡ min x (most_services + 1) → l ≡ min y (most_suffixes + 1) → c ≡ min z (most_capacity + 1)
      → stages_text old new x y z ≡ stages_text old new n l c
  stages-read x y z n l c p q r = rw (p, q, r) (sym (stages-capped x y z))

  module _ (service limit capacity : List ℕ) where
    pub no-service : capped most_services (numeral service) ≡ None → stages_says old new service limit capacity ≡ no_number 3
    unfolding stages_says on_number
    no-service e = rw (capped-bad most_services (numeral service) e)

    module _ (n : ℕ) (e : capped most_services (numeral service) ≡ Some n) where
      pub no-limit : capped most_suffixes (numeral limit) ≡ None → stages_says old new service limit capacity ≡ no_number 4
      unfolding stages_says on_number
      no-limit f = rw ((capped-value most_services n (numeral service) e).1, capped-bad most_suffixes (numeral limit) f)

      module _ (l : ℕ) (f : capped most_suffixes (numeral limit) ≡ Some l) where
        pub no-capacity : capped most_capacity (numeral capacity) ≡ None → stages_says old new service limit capacity ≡ no_number 5
        unfolding stages_says on_number
        no-capacity g =
            rw (
              (capped-value most_services n (numeral service) e).1,
              (capped-value most_suffixes l (numeral limit) f).1,
              capped-bad most_capacity (numeral capacity) g,
            )

        pub says : (c : ℕ) → capped most_capacity (numeral capacity) ≡ Some c
            → stages_says old new service limit capacity ≡ prints (stages_text old new n l c)
        unfolding stages_says on_number
        says c g =
            let x = capped-value most_services n (numeral service) e in
            let y = capped-value most_suffixes l (numeral limit) f in
            let z = capped-value most_capacity c (numeral capacity) g in
            rw (x.1, y.1, z.1) (ap prints (stages-read x.0 y.0 z.0 n l c x.2 y.2 z.2))

-- one stage

module _ (old new : List ℕ) where
  stage-service : (n limit capacity number : ℕ)
      → one_stage_text old new (min n (most_services + 1)) limit capacity number ≡ one_stage_text old new n limit capacity number
  unfolding one_stage_text lines_answer
  stage-service n limit capacity number =
      capped_same (λ (m : ℕ). one_stage_text old new m limit capacity number) most_services n (service-same old new n _ _ _ _)

  stage-limit : (n limit capacity number : ℕ)
      → one_stage_text old new n (min limit (most_suffixes + 1)) capacity number ≡ one_stage_text old new n limit capacity number
  unfolding one_stage_text lines_answer
  stage-limit n limit capacity number =
      capped_same (λ (l : ℕ). one_stage_text old new n l capacity number) most_suffixes limit
      (λ h. refused-same old new n _ _ _ _ (refused_at no2 0)
      (λ t u e. (over-limit _ (most_suffixes + 1) capacity number _ _ (omega arith), over-limit _ limit capacity number _ _ h)))

  stage-capacity : (n limit capacity number : ℕ)
      → one_stage_text old new n limit (min capacity (most_capacity + 1)) number ≡ one_stage_text old new n limit capacity number
  unfolding one_stage_text lines_answer
  stage-capacity n limit capacity number =
      capped_same (λ (c : ℕ). one_stage_text old new n limit c number) most_capacity capacity
      (λ h. refused-same old new n _ _ _ _ (refused_at no2 0)
      (λ t u e. (over-capacity _ limit (most_capacity + 1) number _ _ (omega arith), over-capacity _ limit capacity number _ _ h)))

  -- no row has more stages than there are suffixes
  stage-number : (n limit capacity number : ℕ)
      → one_stage_text old new n limit capacity (min number (most_suffixes + 1)) ≡ one_stage_text old new n limit capacity number
  unfolding one_stage_text lines_answer
  stage-number n limit capacity number =
      capped_same (λ (i : ℕ). one_stage_text old new n limit capacity i) most_suffixes number
      (λ h. refused-same old new n _ _ _ _ (refused_at no2 0)
      (λ t u e. (
        over-number _ limit capacity (most_suffixes + 1) _ _ (omega (arith, few-stages old t u n limit e)),
        over-number _ limit capacity number _ _ (omega (arith, few-stages old t u n limit e)),
      )))

  stage-capped : (n limit capacity number : ℕ)
      → one_stage_text old new (min n (most_services + 1)) (min limit (most_suffixes + 1)) (min capacity (most_capacity + 1)) (min number (most_suffixes + 1))
      ≡ one_stage_text old new n limit capacity number
  stage-capped n limit capacity number =
      stage-service n (min limit (most_suffixes + 1)) (min capacity (most_capacity + 1)) (min number (most_suffixes + 1))
      ∙ stage-limit n limit (min capacity (most_capacity + 1)) (min number (most_suffixes + 1))
      ∙ stage-capacity n limit capacity (min number (most_suffixes + 1))
      ∙ stage-number n limit capacity number

  stage-read : (w x y z n l c i : ℕ) → n ≡ min w (most_services + 1) → l ≡ min x (most_suffixes + 1) → c ≡ min y (most_capacity + 1)
      → i ≡ min z (most_suffixes + 1) → one_stage_text old new w x y z ≡ one_stage_text old new n l c i
  stage-read w x y z n l c i o p q r = rw (o, p, q, r) (sym (stage-capped w x y z))

  module _ (service limit capacity number : List ℕ) where
    pub stage-no-service : capped most_services (numeral service) ≡ None → stage_says old new service limit capacity number ≡ no_number 3
    unfolding stage_says on_number
    stage-no-service e = rw (capped-bad most_services (numeral service) e)

    module _ (n : ℕ) (e : capped most_services (numeral service) ≡ Some n) where
      pub stage-no-limit : capped most_suffixes (numeral limit) ≡ None → stage_says old new service limit capacity number ≡ no_number 4
      unfolding stage_says on_number
      stage-no-limit f = rw ((capped-value most_services n (numeral service) e).1, capped-bad most_suffixes (numeral limit) f)

      module _ (l : ℕ) (f : capped most_suffixes (numeral limit) ≡ Some l) where
        pub stage-no-capacity : capped most_capacity (numeral capacity) ≡ None → stage_says old new service limit capacity number ≡ no_number 5
        unfolding stage_says on_number
        stage-no-capacity g =
            rw (
              (capped-value most_services n (numeral service) e).1,
              (capped-value most_suffixes l (numeral limit) f).1,
              capped-bad most_capacity (numeral capacity) g,
            )

        module _ (c : ℕ) (g : capped most_capacity (numeral capacity) ≡ Some c) where
          pub not_a_number : capped most_suffixes (numeral number) ≡ None → stage_says old new service limit capacity number ≡ no_number 6
          unfolding stage_says on_number
          not_a_number h =
              rw (
                (capped-value most_services n (numeral service) e).1,
                (capped-value most_suffixes l (numeral limit) f).1,
                (capped-value most_capacity c (numeral capacity) g).1,
                capped-bad most_suffixes (numeral number) h,
              )

          pub stage-says : (i : ℕ) → capped most_suffixes (numeral number) ≡ Some i
              → stage_says old new service limit capacity number ≡ prints (one_stage_text old new n l c i)
          unfolding stage_says on_number
          stage-says i h =
              let w = capped-value most_services n (numeral service) e in
              let x = capped-value most_suffixes l (numeral limit) f in
              let y = capped-value most_capacity c (numeral capacity) g in
              let z = capped-value most_suffixes i (numeral number) h in
              rw (w.1, x.1, y.1, z.1) (ap prints (stage-read w.0 x.0 y.0 z.0 n l c i w.2 x.2 y.2 z.2))
