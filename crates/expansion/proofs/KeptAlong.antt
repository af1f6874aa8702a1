-- The promise of specs/KeptShares along a list: it holds before the first move, grows by the rule of each move, and leaves no other ledgers.
use Prim.Native.Nat.{ℕ, zero, suc, ◌+◌, ◌-◌, ◌≤◌, ◌<◌}
use mathlib.Core.List.{List, ◌∷◌}
use mathlib.Core.Logic.{◌≢◌}
use mathlib.Core.Path.{◌≡◌, refl, ap, sym, ◌∙◌, subst}
use native.Mathlib.Decide.{dec_lt}
use native.Mathlib.Omega.{arith}
use lib.Dec.{leb}
use lib.ListN.{length}
use borrow.Author.Tests.{le-leb, lt-leb}
use Rattle.numerals.specs.Pick.{pick}
use Rattle.expansion.specs.Imbalance.{Targets, backends, excess, shortfall, giver, receiver}
use Rattle.expansion.specs.Steps.{oldest}
use Rattle.expansion.specs.KeptShares.{entry_at, Keeps, OthersStay, SharesKept}
use Rattle.expansion.specs.declared.rule.Rule.{Rule}
use Rattle.expansion.specs.declared.ledger.Ledger.{Ledger}
use Rattle.numerals.proofs.Searches.{argmax-is}
use Rattle.expansion.proofs.Turns.{oldest-all, oldest-cons}

pub kept-none : (T : Targets) (rs : List Rule) (from : ℕ) (L : Ledger) → from ≡ length rs → Keeps T rs L → SharesKept T rs from L L
kept-none T rs from L is K =
    record {
      inside = omega arith;
      ledger = λ _. L;
      first = refl;
      last = refl;
      keeps = λ c l m. subst (λ (xs : List Rule). Keeps T xs L) (sym (oldest-all c rs (omega arith))) K;
      others = λ c l m. absurd (omega arith);
    }

-- one move more, whose rule is the newest
module _ (T : Targets) (rs : List Rule) (r : Rule) (from : ℕ) (L M N : Ledger) (S : SharesKept T rs from L M)
    (K : Keeps T (r ∷ rs) N) (O : OthersStay T rs M N) where
  abbrev ledger : ℕ → Ledger
  ledger c = pick (leb c (length rs)) (S.ledger c) N

  before : (c : ℕ) → c ≤ length rs → ledger c ≡ S.ledger c
  before c l = rw (le-leb c (length rs) l)

  newest : (c : ℕ) → length rs < c → ledger c ≡ N
  newest c l = rw (lt-leb c (length rs) l)

  keeps : (c : ℕ) → from ≤ c → c ≤ suc (length rs) → Keeps T (oldest c (r ∷ rs)) (ledger c)
  keeps c l m = go (dec_lt (length rs) c)
    where
      go : Dec (length rs < c) → Keeps T (oldest c (r ∷ rs)) (ledger c)
      go (yes h) = rw (newest c h, oldest-all c (r ∷ rs) h) K
      go (no h) = rw (before c (omega arith), oldest-cons c r rs (omega arith)) (S.keeps c l (omega arith))

  others : (c : ℕ) → from ≤ c → c < suc (length rs) → OthersStay T (oldest c (r ∷ rs)) (ledger c) (ledger (suc c))
  others c l m = go (dec_lt c (length rs))
    where
      go : Dec (c < length rs) → OthersStay T (oldest c (r ∷ rs)) (ledger c) (ledger (suc c))
      go (yes h) = rw (before c (omega arith), before (suc c) h, oldest-cons c r rs (omega arith)) (S.others c l h)
      go (no h) =
          let all : c ≡ length rs = omega arith in
          let here : ledger c ≡ M = before c (omega arith) ∙ ap S.ledger all ∙ S.last in
          rw (here, newest (suc c) (omega arith), oldest-cons c r rs (omega arith), oldest-all c rs (omega arith)) O

  pub kept_more : SharesKept T (r ∷ rs) from L N
  kept_more =
      record {
        inside = omega (arith, S.inside);
        ledger = ledger;
        first = before from S.inside ∙ S.first;
        last = newest (suc (length rs)) (omega arith);
        keeps = keeps;
        others = others;
      }

-- one move by itself
pub kept_move : (T : Targets) (rs : List Rule) (r : Rule) (L M : Ledger) → Keeps T rs L → Keeps T (r ∷ rs) M → OthersStay T rs L M
    → SharesKept T (r ∷ rs) (length rs) L M
kept_move T rs r L M K K' O = kept_more T rs r (length rs) L L M (kept-none T rs (length rs) L refl K) K' O

-- the moves so far, and the next one
pub kept_then : (T : Targets) (rs : List Rule) (r : Rule) (from : ℕ) (L M N : Ledger) → SharesKept T rs from L M
    → SharesKept T (r ∷ rs) (length rs) M N → SharesKept T (r ∷ rs) from L N
kept_then T rs r from L M N S R = kept_more T rs r from L M N S newest moved
  where
    n : ℕ
    n = length rs

    newest : Keeps T (r ∷ rs) N
    newest =
        subst (λ (xs : List Rule). Keeps T xs N) (oldest-all (suc n) (r ∷ rs) (omega arith))
        (subst (Keeps T (oldest (suc n) (r ∷ rs))) R.last (R.keeps (suc n) (omega arith) (omega arith)))

    before : oldest n (r ∷ rs) ≡ rs
    before = oldest-cons n r rs (omega arith) ∙ oldest-all n rs (omega arith)

    moved : OthersStay T rs M N
    moved =
        subst (λ (xs : List Rule). OthersStay T xs M N) before
        (subst (λ (K : Ledger). OthersStay T (oldest n (r ∷ rs)) K N) R.first
        (subst (OthersStay T (oldest n (r ∷ rs)) (R.ledger n)) R.last (R.others n (omega arith) (omega arith))))

-- The promise leaves no choice: of a service with a backend, ledgers that begin alike are alike after each rule. The backends' entries are fixed by the
-- count, and the others by the first ledger.
module _ (T : Targets) (some : 0 < backends T) (rs : List Rule) (from : ℕ) (L M N : Ledger) (S : SharesKept T rs from L M)
    (R : SharesKept T rs from L N) where
  -- who is neither giver nor receiver, being no backend
  not-giver : (b : ℕ) → backends T ≤ b → (xs : List Rule) → b ≢ giver T xs
  unfolding giver
  not-giver b l xs e = absurd (omega (arith, (argmax-is (excess T xs) (backends T) some).inside))

  not-receiver : (b : ℕ) → backends T ≤ b → (xs : List Rule) → b ≢ receiver T xs
  unfolding receiver
  not-receiver b l xs e = absurd (omega (arith, (argmax-is (shortfall T xs) (backends T) some).inside))

  alike : (d c : ℕ) → c ≡ from + d → c ≤ length rs → (b : ℕ) → entry_at (S.ledger c) b ≡ entry_at (R.ledger c) b
  alike zero c e l b =
      let start : c ≡ from = omega arith in
      ap (λ (X : Ledger). entry_at X b) (ap S.ledger start ∙ S.first ∙ sym (ap R.ledger start ∙ R.first))
  alike (suc d) zero e l b = absurd (omega arith)
  alike (suc d) (suc c) e l b = go (alike d c (omega arith) (omega arith) b) (dec_lt b (backends T))
    where
      xs : List Rule
      xs = oldest c rs

      go : entry_at (S.ledger c) b ≡ entry_at (R.ledger c) b → Dec (b < backends T) → entry_at (S.ledger (suc c)) b ≡ entry_at (R.ledger (suc c)) b
      go before (yes h) = (S.keeps (suc c) (omega arith) l).entries b h ∙ sym ((R.keeps (suc c) (omega arith) l).entries b h)
      go before (no h) =
          (S.others c (omega arith) (omega arith)).entries b (not-giver b (omega arith) xs) (not-receiver b (omega arith) xs)
          ∙ before
          ∙ sym ((R.others c (omega arith) (omega arith)).entries b (not-giver b (omega arith) xs) (not-receiver b (omega arith) xs))

  pub kept-alike : (c : ℕ) → from ≤ c → c ≤ length rs → (b : ℕ) → entry_at (S.ledger c) b ≡ entry_at (R.ledger c) b
  kept-alike c l = alike (c - from) c (omega arith)
