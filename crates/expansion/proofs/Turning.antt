-- The run of the program, turn after turn: what it keeps stands as the definitions say at the start and after each move, its list has the rules and
-- the stairs, and where it stops that list is the one of the budget.
use Prim.Native.Nat.{ℕ, suc, ◌+◌, ◌-◌, ◌^◌, ◌≤◌, ◌<◌, min}
use mathlib.Core.Bool.{Bool, true, false}
use mathlib.Core.List.{List, [], ◌∷◌}
use mathlib.Core.Logic.{◌≢◌}
use mathlib.Core.Path.{◌≡◌, refl, ap, sym, ◌∙◌, subst}
use native.Mathlib.Decide.{ℕ_discrete}
use native.Mathlib.Numerals.{add-one}
use native.Mathlib.Omega.{arith}
use lib.Dec.{ltb, eqb, lit<}
use lib.ListN.{length, get_or, set, replicate, length-set, length-replicate, get_or-replicate}
use lib.Seq.{get_or-set_same, get_or-set_other}
use borrow.Author.Tests.{ltb-true, ltb-false, eqb-true, eq-eqb, ne_eqb}
use Rattle.numerals.specs.Pick.{pick}
use Rattle.numerals.specs.Suffix.{place}
use Rattle.numerals.specs.Sums.{sum_to, argmax}
use Rattle.expansion.specs.FirstMatch.{nobody, first_match, gives, share}
use Rattle.expansion.specs.Imbalance.{backends, label, weight, imbalance}
use Rattle.expansion.specs.Steps.{Frame, first_rule, frame, new_rule, after, end_of, stair, list_of}
use Rattle.numerals.specs.Limits.{most_known, most_rules, most_suffixes, unit}
use Rattle.expansion.specs.KeptShares.{no_backend, entry_at, entry_of, Keeps, OthersStay, SharesKept}
use Rattle.expansion.specs.Inner.Ledger.{over, Small, error_at}
use Rattle.expansion.specs.Inner.Terms.{next_of}
use Rattle.expansion.specs.Inner.Holders.{Holds, lowered, node_of, Handed}
use Rattle.expansion.specs.Inner.Lists.{no_rule, newest_first, Listed}
use Rattle.expansion.specs.Inner.Run.{Fits, Shared, in_budget, Stands, Adds, Made}
use Rattle.expansion.specs.Inner.Service.{frame_of}
use Rattle.expansion.specs.declared.rule.Rule.{Rule}
use Rattle.expansion.specs.declared.service.Service.{Service}
use Rattle.expansion.specs.declared.rule.Ended.{Ended}
use Rattle.expansion.specs.declared.rule.Ended.TheVariants.{Budget}
use Rattle.expansion.specs.declared.ledger.Backend.{Backend}
use Rattle.expansion.specs.declared.ledger.Ledger.{Ledger}
use Rattle.expansion.specs.declared.list.RuleList.{RuleList}
use Rattle.expansion.specs.declared.run.State.{State}
use Rattle.expansion.specs.declared.rule.Move.{Move}
use Rattle.expansion.proofs.Balance.{giver-lt}
use Rattle.expansion.proofs.Moves.{term-falls}
use Rattle.expansion.proofs.Turns.{Going, after-suc, step-moves, listed, ended-budget, good-after, oldest-after}
use Rattle.expansion.proofs.Base.{star-share}
use Rattle.expansion.proofs.Checks.{first-lt}
use Rattle.expansion.proofs.KeptShares.{move_of, next_by, kept_small, kept-imbalance, kept_next, moved_other}
use Rattle.expansion.proofs.KeptAlong.{kept_move}
use Rattle.expansion.proofs.Listing.{length-newest, newest-more}
use Rattle.expansion.proofs.NextMove.{next-stop, next-go, moved_by, Feasible, feasible}
use Rattle.std.specs.declared.ops.ControlFlow.{ControlFlow}
use Rattle.std.specs.declared.ops.ControlFlow.TheVariants.{Break, Continue}

-- a move in the budget
pub in-budget : (x : ControlFlow Ended Move) (c budget : ℕ) (m : Move) → in_budget x c budget ≡ Continue m → (x ≡ Continue m) × (c < budget)
in-budget (Break e) c budget m n = absurd (let z : ◌≡◌ {A = ℕ} 0 1 = cc in omega arith)
in-budget (Continue w) c budget m n = go (ltb c budget) refl n
  where
    go :
        (t : Bool) → ltb c budget ≡ t → pick {A = ControlFlow Ended Move} t (Continue w) (Break Budget) ≡ Continue m
        → (◌≡◌ {A = ControlFlow Ended Move} (Continue w) (Continue m)) × (c < budget)
    go true p q = (q, ltb-true c budget p)
    go false p q = absurd (let z : ◌≡◌ {A = ℕ} 0 1 = cc in omega arith)

-- what gives a suffix to a backend has a rule
some-rule : (rs : List Rule) (s b : ℕ) → b ≢ nobody → gives rs s b ≡ true → 1 ≤ length rs
unfolding gives first_match
some-rule [] s b named e = absurd (named (sym (eqb-true nobody b e)))
some-rule (r ∷ rs) s b named e = omega arith

-- a list has as many rules as it counts
pub listed-count : (F : Frame) (x : ℕ) (list : RuleList) → Listed F x list → list.count ≡ length (after F x)
listed-count F x list L = sym (length-newest list.rules list.count) ∙ ap length L.rules

module _ (F : Frame) (fits : Fits F) where
  pub small : (rs : List Rule) (L : Ledger) → Keeps F.targets rs L → (b : ℕ) → b < backends F.targets → Small (error_at L b)
  small rs L K = kept_small F rs L K fits.sound fits.in_unit fits.few_bits

  pub someone : 0 < backends F.targets
  someone = omega (arith, giver-lt F fits.sound F.start)

  start-some : 1 ≤ length F.start
  start-some =
      let c = fits.sound.complete 0 in
      some-rule F.start 0 (label F.targets c.0) (fits.sound.named c.0 c.1) c.2

  -- the start
  pub keeps-start : (shares : List ℕ) → Shared F shares → (L : Ledger)
      → ((b : ℕ) → b < backends F.targets → entry_at L b ≡ entry_of unit F.targets.k (weight F.targets b) (get_or shares b 0))
      → Keeps F.targets F.start L
  keeps-start shares shared L h =
      record {
        entries = λ b l.
            h b l
            ∙ ap (entry_of unit F.targets.k (weight F.targets b)) (shared.each b l)
            ∙ ap (λ (u : ℕ). entry_of u F.targets.k (weight F.targets b) (share F.targets.k F.start (label F.targets b)))
            (sym fits.in_unit);
      }

  pub stands-start : (L : Ledger) → Keeps F.targets F.start L
      → (holder low : List ℕ) → Holds F.targets F.start holder low → length holder ≡ most_suffixes → length low ≡ most_known
      → (sum : ℕ) → sum ≡ sum_to (backends F.targets) (λ b. over (error_at L b))
      → (next : ControlFlow Ended Move) → next ≡ next_of L (backends F.targets) F.targets.k F.tolerance F.cap
      → (r : Rule)
      → Stands F 0 holder low (record { ledger = L; rule = r; imbalance = sum; next = next })
  unfolding after
  stands-start L K holder low H l m sum s next t r =
      record {
        fits = fits;
        keeps = K;
        holds = H;
        long = (l, m);
        stair = s ∙ kept-imbalance F F.start L K;
        next = t;
      }

  -- the list with one more rule
  pub listed_more : (x : ℕ) (list : RuleList) (r : Rule) (sum : ℕ) → Listed F x list
      → (few : list.count + 1 ≤ most_rules) → length list.rules ≡ most_rules → length list.stairs ≡ most_rules
      → Adds F x r → sum ≡ imbalance F.targets (after F (suc x))
      → Listed F (suc x)
      (record { rules = set list.rules list.count r; stairs = set list.stairs list.count sum; count = list.count + 1; few = few })
  listed_more x list r sum L few rules stairs adds s =
      record {
        count = omega (arith, L.count);
        rules =
            ap (newest_first (set list.rules list.count r)) (add-one list.count)
            ∙ newest-more list.rules list.count r (omega arith)
            ∙ ap (λ (xs : List Rule). r ∷ xs) L.rules
            ∙ sym adds.rules;
        stairs = λ y l. stair y l (ℕ_discrete y (suc x));
      }
    where
      stair : (y : ℕ) → y ≤ suc x → Dec (y ≡ suc x)
          → get_or (set list.stairs list.count sum) (length F.start + y - 1) 0 ≡ imbalance F.targets (after F y)
      stair y l (yes d) =
          let last : length F.start + y - 1 ≡ list.count = omega (arith, L.count) in
          ap (λ (i : ℕ). get_or (set list.stairs list.count sum) i 0) last
          ∙ get_or-set_same list.stairs list.count sum 0 (omega arith)
          ∙ s
          ∙ ap (λ (i : ℕ). imbalance F.targets (after F i)) (sym d)
      stair y l (no d) =
          get_or-set_other list.stairs list.count (length F.start + y - 1) sum 0 (λ e. omega (arith, L.count, start-some))
          ∙ L.stairs y (omega arith)

module _ (F : Frame) (x : ℕ) (holder low : List ℕ) (st : State) (S : Stands F x holder low st) where
  pub stands-next : st.next ≡ next_by F (after F x)
  stands-next = S.next ∙ kept_next F (after F x) st.ledger S.keeps S.fits.sound S.fits.in_unit

  -- the list kept beside the state
  module _ (list : RuleList) (L : Listed F x list) where
    -- the list of a budget, once it is known to be that of the state
    made : (budget : ℕ) → list.count ≤ budget
        → list_of F budget ≡ after F x
        → (e : Ended) → end_of F (after F x) ≡ e
        → Made F budget (record { list = list; ended = e; kept = st.ledger })
    unfolding stair list_of
    made budget l is e end =
        record {
          rules = L.rules ∙ sym is;
          stairs = λ c from to.
              let start : ℕ = length F.start in
              let at : c - 1 ≡ start + (c - start) - 1 = omega arith in
              let cut : min (c - start) (budget - start) ≡ c - start = omega arith in
              ap (λ (i : ℕ). get_or list.stairs i 0) at
              ∙ L.stairs (c - start) (omega (arith, L.count))
              ∙ sym (ap (imbalance F.targets) (oldest-after F c (budget - start) from ∙ ap (after F) cut));
          ended = sym (ap (end_of F) is ∙ end);
        }

    made-stopped : (budget : ℕ) → list.count ≤ budget → (e : Ended) → st.next ≡ Break e
        → Made F budget (record { list = list; ended = e; kept = st.ledger })
    made-stopped budget l e n =
        let h = next-stop F (after F x) e (sym stands-next ∙ n) in
        made budget l (listed F x budget (omega (arith, L.count)) h.0) e h.1

    made-spent : (budget : ℕ) → list.count ≡ budget → (m : Move) → st.next ≡ Continue m
        → Made F budget (record { list = list; ended = Budget; kept = st.ledger })
    unfolding list_of
    made-spent budget l m n =
        let h = next-go F (after F x) m (sym stands-next ∙ n) in
        let all : budget - length F.start ≡ x = omega (arith, L.count) in
        made budget (omega arith) (ap (after F) all) Budget (ended-budget F (after F x) h.0.outside h.0.gain)

    -- where the run ends, its list is that of the budget
    pub made-ended : (budget : ℕ) → list.count ≤ budget → (e : Ended) → in_budget st.next list.count budget ≡ Break e
        → Made F budget (record { list = list; ended = e; kept = st.ledger })
    made-ended budget l e n = go st.next refl n
      where
        spent : (m : Move) → st.next ≡ Continue m → (t : Bool) → ltb list.count budget ≡ t → pick t (Continue m) (Break Budget) ≡ Break e
            → Made F budget (record { list = list; ended = e; kept = st.ledger })
        spent m p true r q = absurd (let z : ◌≡◌ {A = ℕ} 0 1 = cc in omega arith)
        spent m p false r q =
            let is : Budget ≡ e = cc in
            subst (λ (o : Ended). Made F budget (record { list = list; ended = o; kept = st.ledger })) is
            (made-spent budget (omega (arith, ltb-false list.count budget r)) m p)

        go : (o : ControlFlow Ended Move) → st.next ≡ o → in_budget o list.count budget ≡ Break e
            → Made F budget (record { list = list; ended = e; kept = st.ledger })
        go (Break f) p q = made-stopped budget l e (p ∙ q)
        go (Continue m) p q = spent m p (ltb list.count budget) refl q

  -- the move that comes next can be made, and after it the state stands with its rule
  module _ (m : Move) (n : st.next ≡ Continue m) where
    going : Going F (after F x) × (m ≡ move_of F (after F x))
    going = next-go F (after F x) m (sym stands-next ∙ n)

    pub feasible-go : Feasible F holder low (after F x) st.ledger m
    feasible-go =
        subst (Feasible F holder low (after F x) st.ledger) (sym going.1)
        (feasible F S.fits holder low (after F x) st.ledger S.holds S.long.1 S.keeps (good-after F S.fits.sound x) going.0.gain)

    after-go : after F (suc x) ≡ new_rule F (after F x) ∷ after F x
    after-go = after-suc F x ∙ step-moves F (after F x) going.0.outside going.0.gain

    -- terms never grow
    pub index-falls : (M : Ledger) → M.at ≡ moved_by st.ledger m
        → (w : Move) → next_of M (backends F.targets) F.targets.k F.tolerance F.cap ≡ Continue w → w.index ≤ m.index
    unfolding move_of
    index-falls M e w h =
        let rs : List Rule = after F x in
        let rs' : List Rule = new_rule F rs ∷ rs in
        let q = next-go F rs' w (sym (kept_next F rs' M (feasible-go.moved M e) S.fits.sound S.fits.in_unit) ∙ h) in
        omega (
          arith,
          ap (λ (o : Move). o.index) going.1,
          ap (λ (o : Move). o.index) q.1,
          term-falls F S.fits.sound rs (good-after F S.fits.sound x) going.0.gain q.0.gain,
        )

    pub adds-rule : (value : ℕ) → value ≡ place (F.targets.k - m.index) (node_of F.targets.k m holder low)
        → Adds F x (record { len = F.targets.k - m.index; value = value; backend = label F.targets m.receiver })
    adds-rule value v =
        record {
          rules =
              after-go
              ∙ ap (λ (r : Rule). r ∷ after F x)
              (sym (ap (λ (o : ℕ). record { len = F.targets.k - m.index; value = o; backend = label F.targets m.receiver }) v ∙ feasible-go.rule));
        }

    -- shares are kept at the move
    others-go : (M : Ledger) → M.at ≡ moved_by st.ledger m → OthersStay F.targets (after F x) st.ledger M
    unfolding move_of
    others-go M e =
        record {
          entries = λ b g r.
              ap (λ (es : List Backend). get_or es b no_backend) e
              ∙ moved_other st.ledger.at m.giver m.receiver (2 ^ m.index) b
              (λ i. g (i ∙ ap (λ (o : Move). o.giver) going.1)) (λ i. r (i ∙ ap (λ (o : Move). o.receiver) going.1));
        }

    pub kept-go : (M : Ledger) → M.at ≡ moved_by st.ledger m → (r : Rule) → Adds F x r
        → SharesKept F.targets (r ∷ after F x) (length (after F x)) st.ledger M
    kept-go M e r adds =
        kept_move F.targets (after F x) r st.ledger M S.keeps
        (subst (λ (xs : List Rule). Keeps F.targets xs M) (sym after-go ∙ adds.rules) (feasible-go.moved M e)) (others-go M e)

    pub stands-moved : (value : ℕ) (holder' low' : List ℕ) → Handed F.targets.k m value holder low holder' low'
        → (M : Ledger) → M.at ≡ moved_by st.ledger m
        → (sum : ℕ) → sum ≡ sum_to (backends F.targets) (λ b. over (error_at M b))
        → (next : ControlFlow Ended Move) → next ≡ next_of M (backends F.targets) F.targets.k F.tolerance F.cap
        → (r : Rule)
        → Stands F (suc x) holder' low' (record { ledger = M; rule = r; imbalance = sum; next = next })
    unfolding lowered
    stands-moved value holder' low' handed M e sum s next t r =
        record {
          fits = S.fits;
          keeps = subst (λ (xs : List Rule). Keeps F.targets xs M) now (feasible-go.moved M e);
          holds = subst (λ (xs : List Rule). Holds F.targets xs holder' low') now (feasible-go.holds holder' low' handed.given handed.lows);
          long = (handed.given.long ∙ S.long.0, ap length handed.lows ∙ simp length-set S.long.1);
          stair = s ∙ kept-imbalance F (new_rule F (after F x) ∷ after F x) M (feasible-go.moved M e) ∙ ap (imbalance F.targets) now;
          next = t;
        }
      where
        now : new_rule F (after F x) ∷ after F x ≡ after F (suc x)
        now = sym after-go

-- the start of document 01: everything goes to the largest weight
module _ (s : Service) (first : ℕ) (e : first ≡ argmax (λ b. get_or s.weights.now b 0) (length s.weights.now)) where
  abbrev k : ℕ
  k = s.k

  abbrev labels : List ℕ
  labels = s.labels.now

  abbrev ws : List ℕ
  ws = s.weights.now

  pub shared-first : Shared (frame_of s) (set (replicate most_known 0) first (2 ^ k))
  unfolding frame backends label first_rule
  shared-first =
      record {
        long = omega (arith, s.valid.few, length-set (replicate most_known 0) first (2 ^ k), length-replicate {A = ℕ} most_known 0);
        each = λ b l. each b l (ℕ_discrete b first) ∙ sym (star-share k (get_or labels most nobody) (get_or labels b nobody));
      }
    where
      most : ℕ
      most = argmax (λ b. get_or ws b 0) (length ws)

      each :
          (b : ℕ) → b < length ws → Dec (b ≡ first)
          → get_or (set (replicate most_known 0) first (2 ^ k)) b 0 ≡ pick (eqb (get_or labels most nobody) (get_or labels b nobody)) (2 ^ k) 0
      each b l (yes d) =
          ap (λ (i : ℕ). get_or (set (replicate most_known 0) first (2 ^ k)) i 0) d
          ∙ get_or-set_same (replicate most_known 0) first (2 ^ k) 0 (omega (arith, s.valid.few, length-replicate {A = ℕ} most_known 0))
          ∙ sym (ap (λ (t : Bool). pick t (2 ^ k) 0)
          (eq-eqb (get_or labels most nobody) (get_or labels b nobody) (ap (λ (i : ℕ). get_or labels i nobody) (sym (d ∙ e)))))
      each b l (no d) =
          get_or-set_other (replicate most_known 0) first b (2 ^ k) 0 d
          ∙ get_or-replicate most_known b 0 0 (omega (arith, s.valid.few))
          ∙ sym (ap (λ (t : Bool). pick t (2 ^ k) 0)
          (ne_eqb (get_or labels most nobody) (get_or labels b nobody)
          (λ is. d (sym (e ∙ s.valid.distinct most b (first-lt s) l is)))))

  -- the list of the first rule
  pub listed-first : (few : 1 ≤ most_rules) (sum : ℕ) → sum ≡ imbalance (frame_of s).targets (after (frame_of s) 0)
      → Listed (frame_of s) 0
      (record {
        rules = replicate most_rules (record { len = 0; value = 0; backend = get_or labels first nobody });
        stairs = replicate most_rules sum;
        count = 1;
        few = few;
      })
  unfolding frame after first_rule newest_first
  listed-first few sum is =
      record {
        count = refl;
        rules =
            ap (λ (o : Rule). o ∷ []) (get_or-replicate most_rules 0 (record { len = 0; value = 0; backend = get_or labels first nobody }) no_rule (lit< tt))
            ∙ ap (λ (b : ℕ). record { len = 0; value = 0; backend = get_or labels b nobody } ∷ []) e;
        stairs = λ y l.
            let none : y ≡ 0 = omega arith in
            ap (λ (i : ℕ). get_or (replicate most_rules sum) (1 + i - 1) 0) none
            ∙ get_or-replicate most_rules 0 sum 0 (lit< tt)
            ∙ is
            ∙ ap (λ (i : ℕ). imbalance (frame_of s).targets (after (frame_of s) i)) (sym none);
      }
