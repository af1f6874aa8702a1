-- Who holds which suffix, by tree place, and the search for a suffix that is held wholly.
use Rattle.std.specs.Prelude.{ℕ, ◌+◌, ◌-◌, ◌*◌, ◌/◌, ◌^◌, ◌≤◌, ◌<◌, min, ◌≡◌, Bool, true, List, ◌≢◌, eqb, length, get_or, set}
use Rattle.numerals.specs.Suffix.{place}
use Rattle.numerals.specs.Sums.{all_to, first_to}
use Rattle.expansion.specs.FirstMatch.{gives}
use Rattle.expansion.specs.Imbalance.{Targets, backends, label}
use Rattle.expansion.specs.declared.rule.Rule.{Rule}
use Rattle.expansion.specs.declared.rule.Move.{Move}

-- b holds each of the `size` suffixes of node j
unfoldable pub held_by : List ℕ → ℕ → ℕ → ℕ → Bool
held_by holder size b j = all_to size (λ i. eqb (get_or holder (j * size + i) 0) b)

-- the lowest node from `from` on that b holds wholly, or n where there is none below n
unfoldable pub lowest_held : List ℕ → ℕ → ℕ → ℕ → ℕ → ℕ
lowest_held holder size b from n = from + first_to (n - from) (λ j. held_by holder size b (from + j))

-- which backend, by its place in the weights, holds the k-bit suffix of each tree place after the rules rs; and for each backend a tree place below
-- which it holds none
pub record Holds (T : Targets) (rs : List Rule) (holder low : List ℕ) : Type 0 where
  pub known : (p : ℕ) → p < 2 ^ T.k → get_or holder p 0 < backends T
  pub holders : (p : ℕ) → p < 2 ^ T.k → gives rs (place T.k p) (label T (get_or holder p 0)) ≡ true
  pub lows : (b p : ℕ) → p < 2 ^ T.k → p < get_or low b 0 → get_or holder p 0 ≢ b

-- the holders after `size` places from `at` on went to b
pub record Given (at size b : ℕ) (holder holder' : List ℕ) : Type 0 where
  pub long : length holder' ≡ length holder
  pub taken : (p : ℕ) → at ≤ p → p < at + size → get_or holder' p 0 ≡ b
  pub other : (p : ℕ) → (at ≤ p → at + size ≤ p) → get_or holder' p 0 ≡ get_or holder p 0

-- the lows after the places from `at` up to `end` went from the giver to the receiver
unfoldable pub lowered : List ℕ → ℕ → ℕ → ℕ → ℕ → List ℕ
lowered low giver receiver at end = set (set low giver end) receiver (min (get_or low receiver 0) at)

-- the node of a move
unfoldable pub node_of : ℕ → Move → List ℕ → List ℕ → ℕ
node_of k m holder low =
    lowest_held holder (2 ^ m.index) m.giver (get_or low m.giver 0 / 2 ^ m.index) (2 ^ (k - m.index))

-- a move made: its node went to the receiver, and the suffix has this value
pub record Handed (k : ℕ) (m : Move) (value : ℕ) (holder low holder' low' : List ℕ) : Type 0 where
  pub given : Given (node_of k m holder low * 2 ^ m.index) (2 ^ m.index) m.receiver holder holder'
  pub lows :
      low'
      ≡ lowered low m.giver m.receiver (node_of k m holder low * 2 ^ m.index)
      (node_of k m holder low * 2 ^ m.index + 2 ^ m.index)
  pub is : value ≡ place (k - m.index) (node_of k m holder low)
