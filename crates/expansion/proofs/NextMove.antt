-- The move that comes next, as the program makes it: its giver, its receiver and its term are those of the definitions, its search finds a place that
-- gives the new rule, and the ledger keeps the shares after it.
use Prim.Native.Nat.{ℕ, ◌+◌, ◌-◌, ◌*◌, ◌^◌, ◌≤◌, ◌<◌}
use mathlib.Core.Bool.{Bool, true, false}
use mathlib.Core.List.{List, ◌∷◌}
use mathlib.Core.Path.{◌≡◌, refl, ap, sym, ◌∙◌, subst}
use native.Mathlib.Omega.{arith}
use lib.Dec.{leb, eqb}
use lib.ListN.{length}
use borrow.Author.Tests.{eqb-true, eq-eqb}
use Rattle.numerals.specs.Pick.{pick, both}
use Rattle.numerals.specs.Suffix.{place}
use Rattle.numerals.specs.Sums.{lastmax}
use Rattle.expansion.specs.Imbalance.{backends, label, giver, receiver, largest_excess, largest_shortfall}
use Rattle.expansion.specs.Steps.{Frame, reduction, is_within, is_no_gain, term, term_length, lowest_place, new_rule, step, end_of}
use Rattle.expansion.specs.Inner.Sound.{Sound}
use Rattle.numerals.specs.Limits.{most_known, unit}
use Rattle.expansion.specs.KeptShares.{Keeps}
use Rattle.expansion.specs.Inner.Ledger.{over, moved_of, Movable}
use Rattle.expansion.specs.Inner.Terms.{next_for}
use Rattle.expansion.specs.Inner.Holders.{Holds, Given, lowered, node_of}
use Rattle.expansion.specs.Inner.Run.{Fits}
use Rattle.expansion.specs.declared.rule.Rule.{Rule}
use Rattle.expansion.specs.declared.rule.Ended.{Ended}
use Rattle.expansion.specs.declared.rule.Ended.TheVariants.{Within, NoGain}
use Rattle.expansion.specs.declared.ledger.Backend.{Backend}
use Rattle.expansion.specs.declared.ledger.Ledger.{Ledger}
use Rattle.expansion.specs.declared.ledger.Extreme.{Extreme}
use Rattle.expansion.specs.declared.rule.Move.{Move}
use Rattle.numerals.proofs.Powers.{pow-few}
use Rattle.numerals.proofs.Searches.{lastmax-is, lastmax-fewer}
use Rattle.expansion.proofs.Balance.{giver-lt, receiver-lt}
use Rattle.expansion.proofs.NoGain.{term-le}
use Rattle.expansion.proofs.Moves.{Good, some-excess, some-shortfall, apart, place_found, new-giver, new-receiver, new-other}
use Rattle.expansion.proofs.Turns.{Going, step-within, step-none, ended-within, ended-none}
use Rattle.expansion.proofs.KeptShares.{move_of, next_by, kept-change, kept-inside, kept-moved}
use Rattle.expansion.proofs.Found.{found-lowest, found-holds}
use Rattle.std.specs.declared.ops.ControlFlow.{ControlFlow}
use Rattle.std.specs.declared.ops.ControlFlow.TheVariants.{Break, Continue}

-- what it means that the program stops, or goes on
pub next-stop : (F : Frame) (rs : List Rule) (e : Ended) → next_by F rs ≡ Break e → (step F rs ≡ rs) × (end_of F rs ≡ e)
unfolding next_by
next-stop F rs e h = go (is_within F rs) refl (is_no_gain F rs) refl h
  where
    go : (w : Bool) → is_within F rs ≡ w → (g : Bool) → is_no_gain F rs ≡ g
        → pick w (Break Within) (pick g (Break NoGain) (Continue (move_of F rs))) ≡ Break e → (step F rs ≡ rs) × (end_of F rs ≡ e)
    go true p g q n = (step-within F rs p, ended-within F rs p ∙ cc)
    go false p true q n = (step-none F rs q, ended-none F rs p q ∙ cc)
    go false p false q n = absurd (let z : ◌≡◌ {A = ℕ} 0 1 = cc in omega arith)

pub next-go : (F : Frame) (rs : List Rule) (m : Move) → next_by F rs ≡ Continue m → Going F rs × (m ≡ move_of F rs)
unfolding next_by
next-go F rs m h = go (is_within F rs) refl (is_no_gain F rs) refl h
  where
    go : (w : Bool) → is_within F rs ≡ w → (g : Bool) → is_no_gain F rs ≡ g
        → pick w (Break Within) (pick g (Break NoGain) (Continue (move_of F rs))) ≡ Continue m → Going F rs × (m ≡ move_of F rs)
    go true p g q n = absurd (let z : ◌≡◌ {A = ℕ} 0 1 = cc in omega arith)
    go false p true q n = absurd (let z : ◌≡◌ {A = ℕ} 0 1 = cc in omega arith)
    go false p false q n = (record { outside = p; gain = q }, cc)

-- the terms above c are left out, where the move that comes next isn't of one of them
module _ (give take : Extreme) (k tolerance cap c : ℕ) (less : c ≤ cap)
    (falls : (w : Move) → next_for give take k tolerance cap ≡ Continue w → w.index ≤ c) where
  abbrev gain : ℕ → ℕ
  gain j = reduction (over take.size) (over give.size) (2 ^ j * unit)

  abbrev within : Bool
  within = both (leb (over give.size) (tolerance * 2 ^ k)) (leb (over take.size) (tolerance * 2 ^ k))

  abbrev go-by : ℕ → ControlFlow Ended Move
  go-by i = Continue (record { giver = give.backend; receiver = take.backend; index = i })

  pub next-fewer : next_for give take k tolerance c ≡ next_for give take k tolerance cap
  unfolding next_for
  next-fewer = go within refl (eqb (gain (lastmax gain cap)) 0) refl
    where
      go : (w : Bool) → within ≡ w → (g : Bool) → eqb (gain (lastmax gain cap)) 0 ≡ g
          → pick within (Break Within) (pick (eqb (gain (lastmax gain c)) 0) (Break NoGain) (go-by (lastmax gain c)))
          ≡ pick within (Break Within) (pick (eqb (gain (lastmax gain cap)) 0) (Break NoGain) (go-by (lastmax gain cap)))
      go true p g q = rw p
      go false p true q =
          let none : gain (lastmax gain c) ≡ 0 =
          omega (arith, eqb-true (gain (lastmax gain cap)) 0 q, (lastmax-is gain cap).best (lastmax gain c) (omega (arith, (lastmax-is gain c).inside))) in
          rw (p, q, eq-eqb (gain (lastmax gain c)) 0 none)
      go false p false q =
          let l : lastmax gain cap ≤ c = falls (record { giver = give.backend; receiver = take.backend; index = lastmax gain cap }) (rw (p, q)) in
          rw (p, lastmax-fewer gain cap c less l)

-- the entries after a move
abbrev pub moved_by : Ledger → Move → List Backend
moved_by L m = moved_of L.at m.giver m.receiver (2 ^ m.index)

-- a move that the program is about to make, after the rules rs
pub record Feasible (F : Frame) (holder low : List ℕ) (rs : List Rule) (L : Ledger) (m : Move) : Type 0 where
  pub index : m.index ≤ F.cap
  pub giver : m.giver < backends F.targets
  pub receiver : m.receiver < backends F.targets
  pub found : node_of F.targets.k m holder low < 2 ^ (F.targets.k - m.index)
  pub movable : Movable L.at m.giver m.receiver (2 ^ m.index)
  pub rule :
      record {
        len =
            F.targets.k - m.index;
        value = place (F.targets.k - m.index) (node_of F.targets.k m holder low);
        backend = label F.targets m.receiver;
      }
      ≡ new_rule F rs
  pub holds :
      (holder' low' : List ℕ)
      → Given (node_of F.targets.k m holder low * 2 ^ m.index) (2 ^ m.index) m.receiver holder holder'
      → low'
      ≡ lowered low m.giver m.receiver (node_of F.targets.k m holder low * 2 ^ m.index)
      (node_of F.targets.k m holder low * 2 ^ m.index + 2 ^ m.index)
      → Holds F.targets (new_rule F rs ∷ rs) holder' low'
  pub moved : (M : Ledger) → M.at ≡ moved_by L m → Keeps F.targets (new_rule F rs ∷ rs) M

-- a move with a gain
module _ (F : Frame) (fits : Fits F) (holder low : List ℕ) (rs : List Rule) (L : Ledger)
    (H : Holds F.targets rs holder low) (long : length low ≡ most_known) (K : Keeps F.targets rs L)
    (G : Good F rs) (gain : is_no_gain F rs ≡ false) where
  pub feasible : Feasible F holder low rs L (move_of F rs)
  unfolding move_of node_of term_length new_rule largest_excess largest_shortfall
  feasible =
      record {
        index = term-le F rs;
        giver = giver-lt F S rs;
        receiver = receiver-lt F S rs;
        found = subst (λ (p : ℕ). p < 2 ^ term_length F rs) lowest (place_found F S rs G gain);
        movable = can;
        rule =
            ap (λ (p : ℕ). record { len = term_length F rs; value = place (term_length F rs) p; backend = label F.targets (receiver F.targets rs) })
            (sym lowest);
        holds = λ holder' low'.
            subst (λ (p : ℕ). Given (p * 2 ^ term F rs) (2 ^ term F rs) (receiver F.targets rs) holder holder'
            → low' ≡ lowered low (giver F.targets rs) (receiver F.targets rs) (p * 2 ^ term F rs) (p * 2 ^ term F rs + 2 ^ term F rs)
            → Holds F.targets (new_rule F rs ∷ rs) holder' low') lowest
            (found-holds F S rs G gain holder low H (omega (arith, giver-lt F S rs, fits.few)) (omega (arith, receiver-lt F S rs, fits.few)) holder' low');
        moved = λ M e.
            kept-moved F rs (new_rule F rs ∷ rs) L M K fits.in_unit (giver F.targets rs) (receiver F.targets rs) (2 ^ term F rs) (apart F S rs gain)
            (new-giver F S rs G gain) (new-receiver F S rs G gain) (new-other F S rs G gain)
            can e;
      }
    where
      S : Sound F
      S = fits.sound

      lowest : lowest_place F rs ≡ node_of F.targets.k (move_of F rs) holder low
      lowest = found-lowest F S rs G gain holder low H

      can : Movable L.at (giver F.targets rs) (receiver F.targets rs) (2 ^ term F rs)
      can =
          record {
            giver_in = kept-inside F rs L K (giver F.targets rs) (giver-lt F S rs) (omega (arith, some-excess F S rs gain));
            receiver_in = kept-inside F rs L K (receiver F.targets rs) (receiver-lt F S rs) (omega (arith, some-shortfall F S rs gain));
            gives =
                kept-change F rs L K S fits.in_unit fits.few_bits (giver F.targets rs) (giver-lt F S rs) (2 ^ term F rs) 0
                (omega (arith, new-giver F S rs G gain)) (omega arith);
            takes =
                kept-change F rs L K S fits.in_unit fits.few_bits (receiver F.targets rs) (receiver-lt F S rs) 0 (2 ^ term F rs)
                (omega arith) (pow-few (term F rs) (omega (arith, term-le F rs, S.below, fits.few_bits)));
          }
