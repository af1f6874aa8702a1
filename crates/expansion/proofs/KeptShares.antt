-- A ledger that keeps the shares of its rules: its errors are the excesses and shortfalls of the definitions, so giver, receiver, imbalance and what
-- comes next are too; and it goes on keeping them as suffixes move.
use Prim.Native.Nat.{ℕ, ◌+◌, ◌*◌, ◌^◌, ◌≤◌, ◌<◌}
use mathlib.Core.List.{List}
use mathlib.Core.Logic.{◌≢◌}
use mathlib.Core.Path.{◌≡◌, refl, ap, sym, ◌∙◌}
use native.Mathlib.Decide.{ℕ_discrete, dec_lt}
use native.Mathlib.Omega.{arith}
use lib.Dec.{leb, eqb}
use lib.ListN.{length, get_or, set, length-set, get_or-eq_default}
use lib.Seq.{get_or-set_same, get_or-set_other}
use Rattle.numerals.specs.Pick.{pick, both}
use Rattle.numerals.specs.Sums.{sum_to, argmax, lastmax}
use Rattle.expansion.specs.FirstMatch.{share}
use Rattle.expansion.specs.Imbalance.{backends, label, weight, has, wants, excess, shortfall, imbalance, giver, receiver, largest_excess, largest_shortfall}
use Rattle.expansion.specs.Steps.{is_within, reduction, reduction_at, term, is_no_gain, Frame}
use Rattle.expansion.specs.Inner.Sound.{Sound}
use Rattle.numerals.specs.Limits.{most_bits, most_suffixes, unit}
use Rattle.expansion.specs.KeptShares.{no_backend, entry_at, entry_of, Keeps}
use Rattle.expansion.specs.Inner.Ledger.{over, under, Small, error_at, changed_by, moved_of, Changeable, Movable, largest_of}
use Rattle.expansion.specs.Inner.Terms.{next_for, next_of}
use Rattle.expansion.specs.declared.rule.Rule.{Rule}
use Rattle.expansion.specs.declared.rule.Ended.TheVariants.{Within, NoGain}
use Rattle.expansion.specs.declared.ledger.Backend.{Backend}
use Rattle.expansion.specs.declared.ledger.Ledger.{Ledger}
use Rattle.expansion.specs.declared.rule.Move.{Move}
use Rattle.numerals.proofs.Powers.{pow-few}
use Rattle.numerals.proofs.Sums.{sum-ext}
use Rattle.numerals.proofs.Searches.{argmax-ext}
use Rattle.expansion.proofs.Balance.{giver-lt, receiver-lt}
use Rattle.expansion.proofs.Within.{within-is}
use Rattle.expansion.proofs.Bounds.{share-le, excess-bound, shortfall-bound}
use Rattle.expansion.proofs.Signed.{over-sub, under-sub, mag-sides, wants-few, entry-change}
use Rattle.std.specs.declared.ops.ControlFlow.{ControlFlow}
use Rattle.expansion.specs.declared.rule.Ended.{Ended}
use Rattle.std.specs.declared.ops.ControlFlow.TheVariants.{Break, Continue}

-- the move of a turn
unfoldable pub move_of : Frame → List Rule → Move
move_of F rs = record { giver = giver F.targets rs; receiver = receiver F.targets rs; index = term F rs }

-- what comes next, by the definitions
unfoldable pub next_by : Frame → List Rule → ControlFlow Ended Move
next_by F rs = pick (is_within F rs) (Break Within) (pick (is_no_gain F rs) (Break NoGain) (Continue (move_of F rs)))

-- what comes next, of plain numbers
next : (unit slack cap g r o u : ℕ) → ControlFlow Ended Move
next unit slack cap g r o u =
    let i = lastmax (λ j. reduction u o (2 ^ j * unit)) cap in
    pick (both (leb o slack) (leb u slack)) (Break Within)
    (pick (eqb (reduction u o (2 ^ i * unit)) 0) (Break NoGain) (Continue (record { giver = g; receiver = r; index = i })))

module _ (F : Frame) (rs : List Rule) (L : Ledger) (K : Keeps F.targets rs L) where
  pub kept-share : (b : ℕ) → b < backends F.targets → (entry_at L b).share ≡ share F.targets.k rs (label F.targets b)
  unfolding entry_of
  kept-share b l = ap (λ (x : Backend). x.share) (K.entries b l)

  pub kept-over : (b : ℕ) → b < backends F.targets → over (error_at L b) ≡ excess F.targets rs b
  unfolding entry_of excess has wants
  kept-over b l = ap (λ (x : Backend). over x.error) (K.entries b l) ∙ over-sub (has F.targets rs b) (wants F.targets b)

  pub kept_under : (b : ℕ) → b < backends F.targets → under (error_at L b) ≡ shortfall F.targets rs b
  unfolding entry_of shortfall has wants
  kept_under b l = ap (λ (x : Backend). under x.error) (K.entries b l) ∙ under-sub (has F.targets rs b) (wants F.targets b)

  pub kept-giver : argmax (λ b. over (error_at L b)) (backends F.targets) ≡ giver F.targets rs
  unfolding giver
  kept-giver = argmax-ext (λ b. over (error_at L b)) (excess F.targets rs) (backends F.targets) kept-over

  pub kept-receiver : argmax (λ b. under (error_at L b)) (backends F.targets) ≡ receiver F.targets rs
  unfolding receiver
  kept-receiver = argmax-ext (λ b. under (error_at L b)) (shortfall F.targets rs) (backends F.targets) kept_under

  pub kept-imbalance : sum_to (backends F.targets) (λ b. over (error_at L b)) ≡ imbalance F.targets rs
  unfolding imbalance
  kept-imbalance = sum-ext (backends F.targets) (λ b. over (error_at L b)) (excess F.targets rs) kept-over

  -- a backend with an error has an entry
  pub kept-inside : (b : ℕ) → b < backends F.targets → 0 < excess F.targets rs b + shortfall F.targets rs b → b < length L.at
  kept-inside b l h = go (dec_lt b (length L.at))
    where
      go : Dec (b < length L.at) → b < length L.at
      go (yes m) = m
      go (no m) =
          let d : entry_at L b ≡ no_backend = get_or-eq_default L.at no_backend {n = b} (omega arith) in
          absurd (omega (arith, kept-over b l, kept_under b l, ap (λ (x : Backend). over x.error) d, ap (λ (x : Backend). under x.error) d))

  pub kept-few : F.targets.k ≤ most_bits → (b : ℕ) → b < backends F.targets → (entry_at L b).share ≤ most_suffixes
  kept-few few b l = omega (arith, kept-share b l, share-le F.targets.k rs (label F.targets b), pow-few F.targets.k few)

  module _ (S : Sound F) (same : F.targets.unit ≡ unit) where
    pub kept_small : F.targets.k ≤ most_bits → (b : ℕ) → b < backends F.targets → Small (error_at L b)
    kept_small few b l =
        record {
          small = omega (
            arith,
            mag-sides (error_at L b),
            kept-over b l,
            kept_under b l,
            excess-bound F rs b,
            shortfall-bound F S rs b,
            wants-few F.targets.unit F.targets.k (omega arith) few,
          );
        }

    pub kept-change : F.targets.k ≤ most_bits → (b : ℕ) → b < backends F.targets → (lost gained : ℕ)
        → lost ≤ share F.targets.k rs (label F.targets b) → gained ≤ most_suffixes → Changeable (entry_at L b) lost gained
    kept-change few b l lost gained h m =
        record { held = omega (arith, kept-share b l); bounded = kept-few few b l; few = m; small = kept_small few b l }

    largest-over : over (error_at L (argmax (λ b. over (error_at L b)) (backends F.targets))) ≡ largest_excess F.targets rs
    unfolding largest_excess
    largest-over = ap (λ (b : ℕ). over (error_at L b)) kept-giver ∙ kept-over (giver F.targets rs) (giver-lt F S rs)

    largest-under : under (error_at L (argmax (λ b. under (error_at L b)) (backends F.targets))) ≡ largest_shortfall F.targets rs
    unfolding largest_shortfall
    largest-under = ap (λ (b : ℕ). under (error_at L b)) kept-receiver ∙ kept_under (receiver F.targets rs) (receiver-lt F S rs)

    abbrev slack : ℕ
    slack = F.tolerance * 2 ^ F.targets.k

    next-kept : next_of L (backends F.targets) F.targets.k F.tolerance F.cap
        ≡ next unit slack F.cap (argmax (λ b. over (error_at L b)) (backends F.targets)) (argmax (λ b. under (error_at L b)) (backends F.targets))
        (over (error_at L (argmax (λ b. over (error_at L b)) (backends F.targets))))
        (under (error_at L (argmax (λ b. under (error_at L b)) (backends F.targets))))
    unfolding next_of next_for largest_of next
    next-kept = refl

    next-defined :
        next F.targets.unit slack F.cap (giver F.targets rs) (receiver F.targets rs) (largest_excess F.targets rs)
        (largest_shortfall F.targets rs)
        ≡ next_by F rs
    unfolding next next_by move_of is_no_gain term reduction_at
    next-defined = rw (within-is F S rs)

    pub kept_next : next_of L (backends F.targets) F.targets.k F.tolerance F.cap
        ≡ next_by F rs
    kept_next = next-kept ∙ cc (same, kept-giver, kept-receiver, largest-over, largest-under) ∙ next-defined

-- a move changes no entry but those of giver and receiver
pub moved_other : (es : List Backend) (g r c b : ℕ) → b ≢ g → b ≢ r → get_or (moved_of es g r c) b no_backend ≡ get_or es b no_backend
moved_other es g r c b d e =
    get_or-set_other (set es g (changed_by (get_or es g no_backend) c 0)) r b (changed_by (get_or es r no_backend) 0 c) no_backend e
    ∙ get_or-set_other es g b (changed_by (get_or es g no_backend) c 0) no_backend d

-- c suffixes went from g to r
module _ (F : Frame) (rs rs' : List Rule) (L M : Ledger) (K : Keeps F.targets rs L) (same : F.targets.unit ≡ unit) (g r c : ℕ) (apart : g ≢ r)
    (gave : share F.targets.k rs' (label F.targets g) + c ≡ share F.targets.k rs (label F.targets g))
    (got : share F.targets.k rs' (label F.targets r) ≡ share F.targets.k rs (label F.targets r) + c)
    (other : (b : ℕ) → b < backends F.targets → b ≢ g → b ≢ r
    → share F.targets.k rs' (label F.targets b) ≡ share F.targets.k rs (label F.targets b))
    (can : Movable L.at g r c) (is : M.at ≡ moved_of L.at g r c) where
  abbrev entry : List Rule → ℕ → Backend
  entry xs b = entry_of unit F.targets.k (weight F.targets b) (share F.targets.k xs (label F.targets b))

  before : (b : ℕ) → b < backends F.targets → entry_at L b ≡ entry rs b
  before b l = K.entries b l ∙ ap (λ (u : ℕ). entry_of u F.targets.k (weight F.targets b) (share F.targets.k rs (label F.targets b))) same

  abbrev mid : List Backend
  mid = set L.at g (changed_by (entry_at L g) c 0)

  now : (b : ℕ) → entry_at M b ≡ get_or (set mid r (changed_by (entry_at L r) 0 c)) b no_backend
  now b = ap (λ (xs : List Backend). get_or xs b no_backend) is

  at-r : r < backends F.targets → entry_at M r ≡ entry rs' r
  at-r l =
      now r
      ∙ get_or-set_same mid r (changed_by (entry_at L r) 0 c) no_backend (omega (arith, can.receiver_in, length-set L.at g (changed_by (entry_at L g) c 0)))
      ∙ ap (λ (x : Backend). changed_by x 0 c) (before r l)
      ∙ entry-change F.targets.k (weight F.targets r) (share F.targets.k rs (label F.targets r)) 0 c (omega arith)
      ∙ ap (entry_of unit F.targets.k (weight F.targets r)) (omega arith)

  at_g : g < backends F.targets → entry_at M g ≡ entry rs' g
  at_g l =
      now g
      ∙ get_or-set_other mid r g (changed_by (entry_at L r) 0 c) no_backend apart
      ∙ get_or-set_same L.at g (changed_by (entry_at L g) c 0) no_backend can.giver_in
      ∙ ap (λ (x : Backend). changed_by x c 0) (before g l)
      ∙ entry-change F.targets.k (weight F.targets g) (share F.targets.k rs (label F.targets g)) c 0 (omega arith)
      ∙ ap (entry_of unit F.targets.k (weight F.targets g)) (omega arith)

  at_other : (b : ℕ) → b < backends F.targets → b ≢ g → b ≢ r → entry_at M b ≡ entry rs' b
  at_other b l d e =
      now b
      ∙ moved_other L.at g r c b d e
      ∙ before b l
      ∙ ap (entry_of unit F.targets.k (weight F.targets b)) (sym (other b l d e))

  pub kept-moved : Keeps F.targets rs' M
  kept-moved =
      record {
        entries = λ b l. each b l (ℕ_discrete b r) (ℕ_discrete b g)
            ∙ ap (λ (u : ℕ). entry_of u F.targets.k (weight F.targets b) (share F.targets.k rs' (label F.targets b))) (sym same);
      }
    where
      each : (b : ℕ) → b < backends F.targets → Dec (b ≡ r) → Dec (b ≡ g) → entry_at M b ≡ entry rs' b
      each b l (yes e) d = ap (entry_at M) e ∙ at-r (omega arith) ∙ ap (entry rs') (sym e)
      each b l (no n) (yes e) = ap (entry_at M) e ∙ at_g (omega arith) ∙ ap (entry rs') (sym e)
      each b l (no n) (no m) = at_other b l m n
