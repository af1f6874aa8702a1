-- Nodes of the tree over backends by tree place: which have one backend, how many lines each has, and a heap that keeps both.
use Rattle.std.specs.Prelude.{ℕ, zero, suc, ◌+◌, ◌-◌, ◌*◌, ◌/◌, ◌%◌, ◌^◌, ◌≤◌, ◌<◌, ◌≡◌, Bool, List, [], ◌∷◌, ◌++◌, ltb, eqb, length, get_or}
use Rattle.numerals.specs.Limits.{most_suffixes}
use Rattle.numerals.specs.Pick.{pick, both}
use Rattle.numerals.specs.Suffix.{place}
use Rattle.numerals.specs.Sums.{all_to, largest_to}
use Rattle.expansion.specs.declared.rule.Rule.{Rule}

-- the backends of a listing by place
abbrev pub at : List ℕ → ℕ → ℕ
at holder p = get_or holder p 0

-- the backends of a stage: new below a place, old from it on
unfoldable pub cut_at : ℕ → (ℕ → ℕ) → (ℕ → ℕ) → ℕ → ℕ
cut_at p old new q = pick (ltb q p) (new q) (old q)

-- node q of height n has the places from q × 2^n on, 2^n of them. One backend has them all
unfoldable pub uniform : (ℕ → ℕ) → ℕ → ℕ → Bool
uniform g n q = all_to (2 ^ n) (λ i. eqb (g (q * 2 ^ n + i)) (g (q * 2 ^ n)))

-- how many lines it has
unfoldable pub lines_at : (ℕ → ℕ) → ℕ → ℕ → ℕ
lines_at g zero q = 1
lines_at g (suc n) q = pick (uniform g (suc n) q) 1 (lines_at g n (2 * q) + lines_at g n (2 * q + 1))

-- by those of its halves, and whether their lowest places have the same backend
abbrev pub joined : ℕ → ℕ → Bool → ℕ
joined a b same = pick (both same (eqb (a + b) 2)) 1 (a + b)

-- the nodes of the largest tree, and a number 0 that none has
abbrev pub node_count : ℕ
node_count = 2 * most_suffixes

-- the nodes from number `from` on are kept: node q of height n has the number 2^(k-n) + q
pub record Nodes (k : ℕ) (g : ℕ → ℕ) (from : ℕ) (held lines : List ℕ) : Type 0 where
  pub held_long : length held ≡ node_count
  pub lines_long : length lines ≡ node_count
  pub lowest : (n q : ℕ) → n ≤ k → q < 2 ^ (k - n) → from ≤ 2 ^ (k - n) + q → get_or held (2 ^ (k - n) + q) 0 ≡ g (q * 2 ^ n)
  pub count : (n q : ℕ) → n ≤ k → q < 2 ^ (k - n) → from ≤ 2 ^ (k - n) + q → get_or lines (2 ^ (k - n) + q) 0 ≡ lines_at g n q

-- the height of the largest node around a place that one backend has
unfoldable pub height_at : (ℕ → ℕ) → ℕ → ℕ → ℕ
height_at g k p = largest_to k (λ n. uniform g n (p / 2 ^ n))

-- the line that begins at a place, if one does
unfoldable pub starts_at : (ℕ → ℕ) → ℕ → ℕ → List Rule
starts_at g k p =
    let n = height_at g k p in
    pick (eqb (p % 2 ^ n) 0) (record { len = k - n; value = place k p; backend = g p } ∷ []) []

-- the lines that begin below a place
unfoldable pub starts_to : (ℕ → ℕ) → ℕ → ℕ → List Rule
starts_to g k zero = []
starts_to g k (suc p) = starts_to g k p ++ starts_at g k p
