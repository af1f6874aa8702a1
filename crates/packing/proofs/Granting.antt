-- The run of the grants as the program makes it: grants in a list, their sum beside it, and each turn's search over the savings read off the stairs.
use Prim.Native.Nat.{ℕ, suc, ◌+◌, ◌-◌, ◌*◌, ◌/◌, ◌%◌, ◌≤◌, ◌<◌, min}
use mathlib.Core.Path.{◌≡◌, refl, sym, ap, ap₂, ◌∙◌}
use mathlib.Core.Bool.{Bool}
use mathlib.Core.List.{List}
use mathlib.Core.Logic.{inl, inr}
use native.Mathlib.Decide.{ℕ_discrete, dec_lt}
use native.Mathlib.Nat.{mul-sub}
use native.Mathlib.Numerals.{add-one}
use native.Mathlib.Omega.{arith}
use lib.Dec.{ltb}
use lib.ListN.{length, get_or, set}
use lib.Seq.{get_or-set_same, get_or-set_other}
use borrow.Author.Tests.{lt-ltb, le-ltb}
use Rattle.numerals.specs.Pick.{pick}
use Rattle.numerals.specs.Limits.{most_rules}
use Rattle.numerals.specs.Sums.{sum_to}
use Rattle.numerals.proofs.Searches.{argmax-is, argmax-ext}
use Rattle.packing.specs.Grants.{Problem, Grants, saving, next, rules, more, grants_after, packed}
use Rattle.packing.specs.Inner.Lists.{place_of}
use Rattle.packing.specs.Inner.Stored.{stored_cost, stored_problem, stored_saving, savings, held, Falls, AllPayable, Started, Allotted}
use Rattle.packing.specs.Inner.Tournament.{leaves, Tournament, Replaced, key_of, Entered}
use Rattle.packing.proofs.GrantSteps.{Goes, Stops, step-goes, rules-more, packed-at}
use Rattle.packing.proofs.Payable.{falls-later}
use Rattle.packing.proofs.Winner.{Greatest, entered-one, winner}
use Rattle.packing.proofs.EqualGrants.{Agree, more-set, rules-agree, step-agree, stops-agree}

-- grants of some turn of the run, and their sum
pub record Run (P : Problem) (grants : List ℕ) (r : ℕ) : Type 0 where
  pub turns : ℕ
  pub agree : Agree P (grants_after P turns) (held grants)
  pub spent : rules P (held grants) ≡ r

module _ (P : Problem) (grants : List ℕ) (r : ℕ) where
  pub run_none : Agree P P.least (held grants) → rules P P.least ≡ r → Run P grants r
  unfolding grants_after
  run_none h e =
      record { turns = 0; agree = h; spent = sym (rules-agree P P.least (held grants) h) ∙ e }

  module _ (some : 0 < P.services) where
    -- one turn more
    pub run_more :
        (n : ℕ) → n < length grants → n ≡ next P (held grants) → Goes P (held grants) → Run P grants r
        → Run P (set grants n (get_or grants n 0 + 1)) (r + 1)
    unfolding grants_after
    run_more n l e g h =
        rw (add-one (get_or grants n 0))
        (record {
          turns = suc h.turns;
          agree =
              λ s m. step-agree P (grants_after P h.turns) (held grants) h.agree some s m ∙ ap (λ (f : Grants). f s) (step-goes P (held grants) g)
              ∙ ap (λ (i : ℕ). more (held grants) i s) (sym e) ∙ sym (more-set grants n l s);
          spent =
              rules-agree P (held (set grants n (suc (get_or grants n 0)))) (more (held grants) n) (λ s _. more-set grants n l s)
              ∙ ap (λ (i : ℕ). rules P (more (held grants) i)) e ∙ rules-more P some (held grants) ∙ ap (λ (x : ℕ). x + 1) h.spent;
        })

    -- where the run stops, the grants are the packing's
    pub run-stops : Run P grants r → Stops P (held grants) → Agree P (held grants) (packed P)
    run-stops h stop s l =
        sym (h.agree s l)
        ∙ ap (λ (f : Grants). f s)
        (sym (packed-at P some h.turns (stops-agree P (held grants) (grants_after P h.turns) (λ i m. sym (h.agree i m)) some stop)))

-- a grant at the end of its list saves nothing
saved-below : (v : ℕ) (stairs : List ℕ) (s c g : ℕ) → (stored_saving v stairs s c g ≡ 0 → ⊥) → g < c
unfolding stored_saving
saved-below v stairs s c g h = go (dec_lt g c)
  where
    go : Dec (g < c) → g < c
    go (yes l) = l
    go (no l) = absurd (h (rw (le-ltb g c (omega arith))))

-- the savings read off the stairs are those of the costs read off them
module _ (least : Grants) (capacity : ℕ) (volumes stairs counts : List ℕ) where
  cost-drop :
      (s c g : ℕ) → c ≡ get_or counts s 0
      → stored_saving (get_or volumes s 0) stairs s c g
      ≡ stored_cost volumes stairs counts s g - stored_cost volumes stairs counts s (suc g)
  unfolding stored_saving stored_cost
  cost-drop s c g e = go (dec_lt g c)
    where
      v : ℕ
      v = get_or volumes s 0

      stair : ℕ → ℕ
      stair x = get_or stairs (place_of s x) 0

      go :
          Dec (g < c)
          → pick (ltb g c) (v * (stair g - stair (suc g))) 0
          ≡ v * stair (min g (get_or counts s 0)) - v * stair (min (suc g) (get_or counts s 0))
      go (yes l) =
          let p : g ≡ min g (get_or counts s 0) = omega arith in
          let q : suc g ≡ min (suc g) (get_or counts s 0) = omega arith in
          ap (λ (t : Bool). pick t (v * (stair g - stair (suc g))) 0) (lt-ltb g c l)
          ∙ ap₂ (λ (x y : ℕ). v * (stair x - stair y)) p q
          ∙ mul-sub v (stair (min g (get_or counts s 0))) (stair (min (suc g) (get_or counts s 0)))
      go (no l) =
          let p : min (suc g) (get_or counts s 0) ≡ min g (get_or counts s 0) = omega arith in
          ap (λ (t : Bool). pick t (v * (stair g - stair (suc g))) 0) (le-ltb g c (omega arith))
          ∙ omega (arith, ap (λ (x : ℕ). v * stair x) p)

  pub saving-stored :
      (grants : List ℕ) (s : ℕ)
      → savings volumes stairs counts grants s
      ≡ saving (stored_problem least capacity volumes stairs counts) (held grants) s
  unfolding savings saving stored_problem
  saving-stored grants s = cost-drop s (get_or counts s 0) (get_or grants s 0) refl

-- with one rule more to service n the stairs of every service still fall from its grant on
pub falls-more :
    (stairs : List ℕ) (s c : ℕ) (grants : List ℕ) (n : ℕ) → n < length grants → Falls stairs s c (get_or grants s 0)
    → Falls stairs s c (get_or (set grants n (get_or grants n 0 + 1)) s 0)
falls-more stairs s c grants n l f = go (ℕ_discrete s n)
  where
    go : Dec (s ≡ n) → Falls stairs s c (get_or (set grants n (get_or grants n 0 + 1)) s 0)
    go (yes e) =
        falls-later stairs s c (get_or grants s 0) (get_or (set grants n (get_or grants n 0 + 1)) s 0)
        (omega (
          arith,
          get_or-set_same grants n (get_or grants n 0 + 1) 0 l,
          ap (λ (i : ℕ). get_or (set grants n (get_or grants n 0 + 1)) i 0) e,
          ap (λ (i : ℕ). get_or grants i 0) e,
        )) f
    go (no d) = rw (get_or-set_other grants n s (get_or grants n 0 + 1) 0 d) f

-- another grant of service n leaves the other savings as they are
saving-other :
    (volumes stairs counts grants : List ℕ) (n x i : ℕ) → (i ≡ n → ⊥)
    → savings volumes stairs counts (set grants n x) i ≡ savings volumes stairs counts grants i
unfolding savings
saving-other volumes stairs counts grants n x i d =
    ap (λ (g : ℕ). stored_saving (get_or volumes i 0) stairs i (get_or counts i 0) g) (get_or-set_other grants n i x 0 d)

-- the program between two turns
pub record Turn (least : Grants) (capacity : ℕ) (volumes stairs counts grants tree : List ℕ) (r : ℕ) : Type 0 where
  pub payable : AllPayable volumes stairs counts
  pub someone : 0 < length volumes
  pub started : Started volumes stairs counts grants
  pub run : Run (stored_problem least capacity volumes stairs counts) grants r
  pub entered : Entered (savings volumes stairs counts grants) (length volumes) tree

-- the first: each service has its least grant
pub turn-first :
    (capacity : ℕ) (volumes stairs counts grants tree : List ℕ) (r : ℕ) → AllPayable volumes stairs counts
    → Started volumes stairs counts grants → 0 < length volumes → r ≡ sum_to (length volumes) (held grants)
    → Entered (savings volumes stairs counts grants) (length volumes) tree
    → Turn (held grants) capacity volumes stairs counts grants tree r
unfolding stored_problem rules
turn-first capacity volumes stairs counts grants tree r payable started someone sum entered =
    record {
      payable = payable;
      someone = someone;
      started = started;
      run = run_none (stored_problem (held grants) capacity volumes stairs counts) grants r (λ s l. refl) (sym sum);
      entered = entered;
    }

module _ {least : Grants} {capacity : ℕ} {volumes stairs counts grants tree : List ℕ} {r : ℕ}
    (turn : Turn least capacity volumes stairs counts grants tree r) where
  allotted :
      Stops (stored_problem least capacity volumes stairs counts) (held grants)
      → Allotted least capacity volumes stairs counts grants r
  unfolding stored_problem rules
  allotted stop =
      let P : Problem = stored_problem least capacity volumes stairs counts in
      let same : Agree P (held grants) (packed P) = run-stops P grants r turn.someone turn.run stop in
      record { grant = same; sum = sym turn.run.spent ∙ rules-agree P (held grants) (packed P) same }

  -- at the capacity
  pub turn-full : capacity ≤ r → Allotted least capacity volumes stairs counts grants r
  unfolding stored_problem
  turn-full l = allotted (inl (omega (arith, turn.run.spent)))

  -- the root of the tournament names the service of the next rule
  pub turn-greatest :
      Tournament tree
      → Greatest (savings volumes stairs counts grants) (length volumes) (leaves - 1 - get_or tree 1 0 % leaves) (get_or tree 1 0 / leaves)
  turn-greatest t = winner (savings volumes stairs counts grants) (length volumes) tree t turn.entered turn.someone turn.payable.few

  module _ {n v : ℕ} (greatest : Greatest (savings volumes stairs counts grants) (length volumes) n v) where
    same-saving :
        (s : ℕ) → s < length volumes
        → savings volumes stairs counts grants s ≡ saving (stored_problem least capacity volumes stairs counts) (held grants) s
    same-saving s l = saving-stored least capacity volumes stairs counts grants s

    pub found-known : n < length volumes
    found-known =
        omega (
          arith,
          greatest.place,
          (argmax-is (savings volumes stairs counts grants) (length volumes) turn.someone).inside,
        )

    -- with something to save, the grant is below the end of its list
    pub found-low : (v ≡ 0 → ⊥) → get_or grants n 0 < most_rules
    unfolding savings
    found-low h =
        omega (
          arith,
          saved-below (get_or volumes n 0) stairs n (get_or counts n 0) (get_or grants n 0) (λ e. h (greatest.value ∙ e)),
          (turn.payable.each n found-known).most,
        )

    found-next : n ≡ next (stored_problem least capacity volumes stairs counts) (held grants)
    unfolding next stored_problem
    found-next =
        greatest.place
        ∙ argmax-ext (savings volumes stairs counts grants)
        (saving (stored_problem least capacity volumes stairs counts) (held grants)) (length volumes) same-saving

    found-most :
        v
        ≡ saving (stored_problem least capacity volumes stairs counts) (held grants) (next (stored_problem least capacity volumes stairs counts) (held grants))
    found-most =
        greatest.value
        ∙ same-saving n found-known
        ∙ ap (saving (stored_problem least capacity volumes stairs counts) (held grants)) found-next

    -- nothing to save
    pub turn_last : v ≡ 0 → Allotted least capacity volumes stairs counts grants r
    turn_last e = allotted (inr (sym found-most ∙ e))

    -- one rule more
    pub turn_more :
        r < capacity → (v ≡ 0 → ⊥) → n < length grants → (tree' : List ℕ)
        → Replaced tree n (key_of (savings volumes stairs counts (set grants n (get_or grants n 0 + 1)) n) n) tree'
        → Turn least capacity volumes stairs counts (set grants n (get_or grants n 0 + 1)) tree' (r + 1)
    unfolding stored_problem
    turn_more l h room tree' replaced =
        record {
          payable = turn.payable;
          someone = turn.someone;
          started = record { each = λ s m. falls-more stairs s (get_or counts s 0) grants n room (turn.started.each s m) };
          run =
              run_more (stored_problem least capacity volumes stairs counts) grants r turn.someone n room
              found-next (record { room = omega (arith, turn.run.spent); gains = omega (arith, found-most) }) turn.run;
          entered =
              entered-one (savings volumes stairs counts grants) (savings volumes stairs counts (set grants n (get_or grants n 0 + 1))) (length volumes)
              (length volumes) n tree tree' turn.entered replaced (omega arith) turn.payable.few found-known
              (λ i m d. (m, saving-other volumes stairs counts grants n (get_or grants n 0 + 1) i d));
        }
