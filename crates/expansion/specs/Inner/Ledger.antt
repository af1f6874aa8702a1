-- The ledger that the program keeps (specs/KeptShares): its errors, the moves in it and the survey of it.
use Rattle.std.specs.Prelude.{ℕ, suc, ◌+◌, ◌-◌, ◌*◌, ◌^◌, ◌≤◌, ◌<◌, ◌≡◌, Bool, true, false, List, ℤ, pos, negsuc, ◌+ℤ◌, ◌-ℤ◌, length, get_or, set}
use Rattle.std.specs.Int.Signed.{mag}
use Rattle.numerals.specs.Limits.{most_suffixes, unit}
use Rattle.numerals.specs.Sums.{sum_to, argmax}
use Rattle.expansion.specs.KeptShares.{no_backend, entry_at}
use Rattle.expansion.specs.declared.ledger.Backend.{Backend}
use Rattle.expansion.specs.declared.ledger.Ledger.{Ledger}
use Rattle.expansion.specs.declared.ledger.Extreme.{Extreme}
use Rattle.expansion.specs.declared.ledger.Survey.{Survey}

-- the excess and the shortfall of an error
abbrev pub over : ℤ → ℕ
over (pos n) = n
over (negsuc n) = 0

abbrev pub under : ℤ → ℕ
under (pos n) = 0
under (negsuc n) = suc n

-- the one or the other
abbrev pub side : Bool → ℤ → ℕ
side false z = over z
side true z = under z

-- an error so small that no sum of a few of them goes wrong: unit × 2^most_bits is far below
pub record Small (z : ℤ) : Type 0 where
  pub small : mag z < 2 ^ 50

abbrev pub error_at : Ledger → ℕ → ℤ
error_at L b = (entry_at L b).error

-- a backend that lost some suffixes and gained others
unfoldable pub changed_by : Backend → ℕ → ℕ → Backend
changed_by b lost gained =
    record { weight = b.weight; share = b.share - lost + gained; error = b.error -ℤ pos (lost * unit) +ℤ pos (gained * unit) }

-- it can change so: it has what it loses, and no number gets large
pub record Changeable (b : Backend) (lost gained : ℕ) : Type 0 where
  pub held : lost ≤ b.share
  pub bounded : b.share ≤ most_suffixes
  pub few : gained ≤ most_suffixes
  pub small : Small b.error

-- the entries after c suffixes went from the giver to the receiver
abbrev pub moved_of : List Backend → ℕ → ℕ → ℕ → List Backend
moved_of es giver receiver c =
    set (set es giver (changed_by (get_or es giver no_backend) c 0)) receiver (changed_by (get_or es receiver no_backend) 0 c)

-- they can go: both backends are in the ledger, and can change so
pub record Movable (es : List Backend) (giver receiver c : ℕ) : Type 0 where
  pub giver_in : giver < length es
  pub receiver_in : receiver < length es
  pub gives : Changeable (get_or es giver no_backend) c 0
  pub takes : Changeable (get_or es receiver no_backend) 0 c

-- the backend of the largest excess or shortfall of the first n, and its size
unfoldable pub largest_of : Ledger → ℕ → Bool → Extreme
largest_of L n below =
    let b = argmax (λ i. side below (error_at L i)) n in
    record { backend = b; size = pos (side below (error_at L b)) }

-- an extreme and one more backend: it takes over where its size is greater
pub record Raised (best : Extreme) (b : ℕ) (size : ℤ) (r : Extreme) : Type 0 where
  pub higher : over best.size < over size → r ≡ record { backend = b; size = size }
  pub stays : over size ≤ over best.size → r ≡ best

-- giver, receiver and imbalance of the first n
pub record Surveyed (L : Ledger) (n : ℕ) (r : Survey) : Type 0 where
  pub give : r.give ≡ largest_of L n false
  pub take : r.take ≡ largest_of L n true
  pub imbalance : r.imbalance ≡ sum_to n (λ b. over (error_at L b))

-- a size is no negative number, and no sum of a few of them goes wrong
pub record Sized (e : Extreme) : Type 0 where
  pub natural : e.size ≡ pos (over e.size)
  pub few : over e.size ≤ 2 ^ 50
