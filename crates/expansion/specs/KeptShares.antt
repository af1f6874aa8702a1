-- Shares kept as we go (document 02, request 02): while a list is made, its ledger has each backend's share and error, and a move changes those of
-- giver and receiver alone.
use Rattle.std.specs.Prelude.{ℕ, suc, ◌*◌, ◌^◌, ◌≤◌, ◌<◌, List, ◌≢◌, ◌≡◌, pos, length, get_or}
use Rattle.std.proofs.Math.IntN.{sub_ℕ}
use Rattle.expansion.specs.FirstMatch.{share}
use Rattle.expansion.specs.Imbalance.{Targets, backends, label, weight, giver, receiver}
use Rattle.expansion.specs.Steps.{oldest}
use Rattle.expansion.specs.declared.rule.Rule.{Rule}
use Rattle.expansion.specs.declared.ledger.Backend.{Backend}
use Rattle.expansion.specs.declared.ledger.Ledger.{Ledger}

-- the entry of a backend with the weight w that holds a of the 2^k suffixes: its error is a × unit - w × 2^k, a signed whole number (specs/Imbalance
-- has its two sides)
unfoldable pub entry_of : ℕ → ℕ → ℕ → ℕ → Backend
entry_of unit k w a = record { weight = w; share = a; error = sub_ℕ (a * unit) (w * 2 ^ k) }

-- what `entry_at` reads past a ledger's last entry
abbrev pub no_backend : Backend
no_backend = record { weight = 0; share = 0; error = pos 0 }

-- the entry that a ledger has at place b
abbrev pub entry_at : Ledger → ℕ → Backend
entry_at L b = get_or L.at b no_backend

-- the ledger after the rules rs: each backend's share is its count by first match over these rules, and its error follows from share and weight
pub record Keeps (T : Targets) (rs : List Rule) (L : Ledger) : Type 0 where
  pub entries : (b : ℕ) → b < backends T → entry_at L b ≡ entry_of T.unit T.k (weight T b) (share T.k rs (label T b))

-- at a move after the rules rs, from the ledger L to M, every entry but those of giver and receiver stays as it is, to the bit
pub record OthersStay (T : Targets) (rs : List Rule) (L M : Ledger) : Type 0 where
  pub entries : (b : ℕ) → b ≢ giver T rs → b ≢ receiver T rs → entry_at M b ≡ entry_at L b

-- The promise, of a list rs, the newest rule first, whose `from` oldest stood at its start: there is a ledger after c rules for each c from then on, L
-- the first and M the last; each keeps the shares and errors of the rules so far, and at each move all entries but giver's and receiver's stay.
pub record SharesKept (T : Targets) (rs : List Rule) (from : ℕ) (L M : Ledger) : Type 0 where
  pub inside : from ≤ length rs
  pub ledger : ℕ → Ledger
  pub first : ledger from ≡ L
  pub last : ledger (length rs) ≡ M
  pub keeps : (c : ℕ) → from ≤ c → c ≤ length rs → Keeps T (oldest c rs) (ledger c)
  pub others : (c : ℕ) → from ≤ c → c < length rs → OthersStay T (oldest c rs) (ledger c) (ledger (suc c))
