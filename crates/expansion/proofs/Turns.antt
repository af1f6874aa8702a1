-- The run as turns: each stops the list for good or puts one rule before it, and a cut is an earlier list.
use Prim.Native.Nat.{ℕ, zero, suc, ◌+◌, ◌-◌, ◌≤◌, ◌<◌, min}
use mathlib.Core.Bool.{Bool, true, false}
use mathlib.Core.List.{List, ◌∷◌}
use mathlib.Core.Path.{◌≡◌, refl, ap, ap₂, sym, ◌∙◌, subst}
use native.Mathlib.Decide.{dec_lt}
use native.Mathlib.Nat.{add-zero, add-suc, sub-eq-zero_of_le}
use native.Mathlib.Omega.{arith}
use lib.ListN.{length, drop, length-drop}
use Rattle.numerals.specs.Pick.{pick}
use Rattle.expansion.specs.Imbalance.{label, backends}
use Rattle.expansion.specs.Steps.{is_within, is_no_gain, term_length, new_rule, step, after, end_of, list_of, oldest, Frame}
use Rattle.expansion.specs.Inner.Sound.{Lengths, Formed, AllFormed, Sound}
use Rattle.expansion.specs.declared.rule.Rule.{Rule}
use Rattle.expansion.specs.declared.rule.Ended.TheVariants.{Within, NoGain, Budget}
use Rattle.expansion.proofs.FirstMatch.{lengths-mono}
use Rattle.expansion.proofs.NoGain.{term-le}
use Rattle.expansion.proofs.Moves.{Good, good_new, new-formed}

pub after-suc : (F : Frame) (x : ℕ) → after F (suc x) ≡ step F (after F x)
unfolding after
after-suc F x = refl

-- a turn by its two tests
abbrev choose : Bool → Bool → Rule → List Rule → List Rule
choose w g r rs = elim w [ true ↦ rs | false ↦ elim g [ true ↦ rs | false ↦ r ∷ rs ] ]

pub step-within : (F : Frame) (rs : List Rule) → is_within F rs ≡ true → step F rs ≡ rs
unfolding step
step-within F rs w = ap (λ (t : Bool). choose t (is_no_gain F rs) (new_rule F rs) rs) w

pub step-none : (F : Frame) (rs : List Rule) → is_no_gain F rs ≡ true → step F rs ≡ rs
unfolding step
step-none F rs g = ap (λ (t : Bool). choose (is_within F rs) t (new_rule F rs) rs) g ∙ go (is_within F rs)
  where
    go : (w : Bool) → choose w true (new_rule F rs) rs ≡ rs
    go true = refl
    go false = refl

pub step-moves : (F : Frame) (rs : List Rule) → is_within F rs ≡ false → is_no_gain F rs ≡ false → step F rs ≡ new_rule F rs ∷ rs
unfolding step
step-moves F rs w g = ap₂ (λ (t u : Bool). choose t u (new_rule F rs) rs) w g

-- the list goes on
pub record Going (F : Frame) (rs : List Rule) : Type 0 where
  pub outside : is_within F rs ≡ false
  pub gain : is_no_gain F rs ≡ false

pub data Turn (F : Frame) (rs : List Rule) : Type 0 where
  stays : step F rs ≡ rs → Turn F rs
  moves : Going F rs → step F rs ≡ new_rule F rs ∷ rs → Turn F rs

pub turn : (F : Frame) (rs : List Rule) → Turn F rs
turn F rs = go (is_within F rs) refl (is_no_gain F rs) refl
  where
    go : (w : Bool) → is_within F rs ≡ w → (g : Bool) → is_no_gain F rs ≡ g → Turn F rs
    go true p g q = stays (step-within F rs p)
    go false p true q = stays (step-none F rs q)
    go false p false q = moves (record { outside = p; gain = q }) (step-moves F rs p q)

-- once stopped, always stopped
pub stopped-after : (F : Frame) (x : ℕ) → step F (after F x) ≡ after F x → (y : ℕ) → after F (x + y) ≡ after F x
stopped-after F x e zero = ap (after F) (add-zero x)
stopped-after F x e (suc y) =
    ap (after F) (add-suc x y) ∙ after-suc F (x + y) ∙ ap (step F) (stopped-after F x e y) ∙ e

pub within-after : (F : Frame) (x : ℕ) → is_within F (after F x) ≡ true → (y : ℕ) → after F (x + y) ≡ after F x
within-after F x w = stopped-after F x (step-within F (after F x) w)

pub none_after : (F : Frame) (x : ℕ) → is_no_gain F (after F x) ≡ true → (y : ℕ) → after F (x + y) ≡ after F x
none_after F x g = stopped-after F x (step-none F (after F x) g)

-- the list of a budget that isn't used up
pub listed : (F : Frame) (x budget : ℕ) → x ≤ budget - length F.start → step F (after F x) ≡ after F x → list_of F budget ≡ after F x
unfolding list_of
listed F x budget l e =
    let p : budget - length F.start ≡ x + (budget - length F.start - x) = omega arith in
    ap (after F) p ∙ stopped-after F x e (budget - length F.start - x)

pub ended-within : (F : Frame) (rs : List Rule) → is_within F rs ≡ true → end_of F rs ≡ Within
unfolding end_of
ended-within F rs w = ap (λ (t : Bool). pick t Within (pick (is_no_gain F rs) NoGain Budget)) w

pub ended-none : (F : Frame) (rs : List Rule) → is_within F rs ≡ false → is_no_gain F rs ≡ true → end_of F rs ≡ NoGain
unfolding end_of
ended-none F rs w g = ap₂ (λ (t u : Bool). pick t Within (pick u NoGain Budget)) w g

pub ended-budget : (F : Frame) (rs : List Rule) → is_within F rs ≡ false → is_no_gain F rs ≡ false → end_of F rs ≡ Budget
unfolding end_of
ended-budget F rs w g = ap₂ (λ (t u : Bool). pick t Within (pick u NoGain Budget)) w g

pub going_before : (F : Frame) (x : ℕ) → Going F (after F (suc x)) → Going F (after F x)
going_before F x h = go (turn F (after F x))
  where
    go : Turn F (after F x) → Going F (after F x)
    go (stays e) = subst (Going F) (after-suc F x ∙ e) h
    go (moves g e) = g

-- what holds of every list of a run
pub good-after : (F : Frame) → Sound F → (x : ℕ) → Good F (after F x)
unfolding after term_length
good-after F S zero = record { complete = S.complete; short = λ g. first }
  where
    first : Lengths (term_length F F.start) F.start
    first =
        lengths-mono (F.targets.k - F.cap) (term_length F F.start) F.start (omega (arith, term-le F F.start)) S.short
good-after F S (suc x) = subst (Good F) (sym (after-suc F x)) (go (good-after F S x) (turn F (after F x)))
  where
    go : Good F (after F x) → Turn F (after F x) → Good F (step F (after F x))
    go G (stays e) = subst (Good F) (sym e) G
    go G (moves g e) = subst (Good F) (sym e) (good_new F S (after F x) G g.gain)

formed-cons :
    (k : ℕ) (labelled : ℕ → ℕ) (n : ℕ) (r : Rule) (rs : List Rule) → Formed k labelled n r → AllFormed k labelled n rs → AllFormed k labelled n (r ∷ rs)
unfolding AllFormed
formed-cons k labelled n r rs h H = (h, H)

pub formed-after :
    (F : Frame) → Sound F → AllFormed F.targets.k (label F.targets) (backends F.targets) F.start → (x : ℕ)
    → AllFormed F.targets.k (label F.targets) (backends F.targets) (after F x)
unfolding after
formed-after F S h zero = h
formed-after F S h (suc x) = go (formed-after F S h x) (turn F (after F x))
  where
    go :
        AllFormed F.targets.k (label F.targets) (backends F.targets) (after F x) → Turn F (after F x)
        → AllFormed F.targets.k (label F.targets) (backends F.targets) (step F (after F x))
    go H (stays e) = subst (AllFormed F.targets.k (label F.targets) (backends F.targets)) (sym e) H
    go H (moves g e) =
        subst (AllFormed F.targets.k (label F.targets) (backends F.targets)) (sym e)
        (formed-cons F.targets.k (label F.targets) (backends F.targets) (new_rule F (after F x)) (after F x)
        (new-formed F S (after F x) (good-after F S x) g.gain) H)

-- lengths

pub length-moves : (F : Frame) (x : ℕ) → Going F (after F x) → length (after F (suc x)) ≡ suc (length (after F x))
length-moves F x g = ap length (after-suc F x ∙ step-moves F (after F x) g.outside g.gain)

pub length-going : (F : Frame) (x : ℕ) → Going F (after F x) → length (after F x) ≡ length F.start + x
unfolding after
length-going F zero g = sym (add-zero (length F.start))
length-going F (suc x) g =
    omega (arith, length-moves F x (going_before F x g), length-going F x (going_before F x g))

pub length-le : (F : Frame) (x : ℕ) → length (after F x) ≤ length F.start + x
unfolding after
length-le F zero = omega arith
length-le F (suc x) = go (length-le F x) (turn F (after F x))
  where
    go : length (after F x) ≤ length F.start + x → Turn F (after F x) → length (step F (after F x)) ≤ length F.start + suc x
    go h (stays e) = omega (arith, ap length e)
    go h (moves g e) = omega (arith, ap length e)

-- a cut

pub oldest-all : (c : ℕ) (rs : List Rule) → length rs ≤ c → oldest c rs ≡ rs
unfolding oldest
oldest-all c rs l = rw (sub-eq-zero_of_le l)

pub length-oldest : (c : ℕ) (rs : List Rule) → length (oldest c rs) ≡ min c (length rs)
unfolding oldest
length-oldest c rs = omega (arith, length-drop (length rs - c) rs)

pub oldest-cons : (c : ℕ) (r : Rule) (rs : List Rule) → c ≤ length rs → oldest c (r ∷ rs) ≡ oldest c rs
unfolding oldest
oldest-cons c r rs l =
    let e : suc (length rs) - c ≡ suc (length rs - c) = omega arith in
    ap (λ (n : ℕ). drop n (r ∷ rs)) e

-- a cut to c rules is the list of as many turns
pub oldest-after : (F : Frame) (c x : ℕ) → length F.start ≤ c → oldest c (after F x) ≡ after F (min (c - length F.start) x)
unfolding after
oldest-after F c zero l =
    let e : min (c - length F.start) 0 ≡ 0 = omega arith in
    oldest-all c F.start l ∙ ap (after F) (sym e)
oldest-after F c (suc x) l =
    go (turn F (after F x)) (dec_lt x (c - length F.start)) (oldest-after F c x l)
  where
    d : ℕ
    d = c - length F.start

    go : Turn F (after F x) → Dec (x < d) → oldest c (after F x) ≡ after F (min d x)
        → oldest c (step F (after F x)) ≡ after F (min d (suc x))
    go (stays e) (yes m) ih =
        let p : min d x ≡ x = omega arith in
        let q : min d (suc x) ≡ suc x = omega arith in
        ap (oldest c) e ∙ ih ∙ ap (after F) p ∙ sym e ∙ ap (after F) (sym q)
    go (stays e) (no m) ih =
        let p : min d x ≡ min d (suc x) = omega arith in
        ap (oldest c) e ∙ ih ∙ ap (after F) p
    go (moves g e) (yes m) ih =
        let q : min d (suc x) ≡ suc x = omega arith in
        let all : length (step F (after F x)) ≤ c = omega (arith, ap length e, length-going F x g) in
        oldest-all c (step F (after F x)) all ∙ ap (after F) (sym q)
    go (moves g e) (no m) ih =
        let p : min d x ≡ min d (suc x) = omega arith in
        let some : c ≤ length (after F x) = omega (arith, length-going F x g) in
        ap (oldest c) e ∙ oldest-cons c (new_rule F (after F x)) (after F x) some ∙ ih ∙ ap (after F) p
