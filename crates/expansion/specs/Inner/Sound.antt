-- What a frame has to have, so that the theorems on its expansion hold. The frame of document 01 has it where k and the unit are above 0, its weights
-- sum to the unit and its labels differ.
use Rattle.std.specs.Prelude.{ℕ, ◌-◌, ◌≤◌, ◌<◌, true, List, [], ◌∷◌, ◌≢◌, ◌≡◌}
use Rattle.numerals.specs.Sums.{sum_to}
use Rattle.expansion.specs.FirstMatch.{nobody, is_rule, gives}
use Rattle.expansion.specs.Imbalance.{backends, label, weight}
use Rattle.expansion.specs.Steps.{Frame}
use Rattle.expansion.specs.declared.rule.Rule.{Rule}

-- each rule has at most m bits
unfoldable pub Lengths : ℕ → List Rule → Type 0
Lengths m [] = Unit {0}
Lengths m (r ∷ rs) = (r.len ≤ m) × Lengths m rs

-- no two of the first n backends have one label
abbrev pub Distinct : (ℕ → ℕ) → ℕ → Type 0
Distinct labelled n = (a b : ℕ) → a < n → b < n → labelled a ≡ labelled b → a ≡ b

-- each of the first n backends has a label
abbrev pub Labelled : (ℕ → ℕ) → ℕ → Type 0
Labelled labelled n = (b : ℕ) → b < n → labelled b ≢ nobody

-- each s is given to one of the first n backends, which are labelled so
abbrev pub Complete : (ℕ → ℕ) → ℕ → List Rule → Type 0
Complete labelled n rs = (s : ℕ) → (b : ℕ) × (b < n) × (gives rs s (labelled b) ≡ true)

-- a rule of k bits for one of the first n backends
pub record Formed (k : ℕ) (labelled : ℕ → ℕ) (n : ℕ) (r : Rule) : Type 0 where
  pub rule : is_rule k r ≡ true
  pub known : (b : ℕ) × (b < n) × (r.backend ≡ labelled b)

-- each rule is so
unfoldable pub AllFormed : ℕ → (ℕ → ℕ) → ℕ → List Rule → Type 0
AllFormed k labelled n [] = Unit {0}
AllFormed k labelled n (r ∷ rs) = Formed k labelled n r × AllFormed k labelled n rs

-- no rule is longer than one before it
unfoldable pub Falling : List Rule → Type 0
Falling [] = Unit {0}
Falling (r ∷ rs) = Lengths r.len rs × Falling rs

-- no rule is `*`
unfoldable pub NoStar : List Rule → Type 0
NoStar [] = Unit {0}
NoStar (r ∷ rs) = (0 < r.len) × NoStar rs

pub record Sound (F : Frame) : Type 0 where
  pub positive : 0 < F.targets.unit
  pub balanced : sum_to (backends F.targets) (weight F.targets) ≡ F.targets.unit
  pub distinct : Distinct (label F.targets) (backends F.targets)
  pub named : Labelled (label F.targets) (backends F.targets)
  pub below : F.cap < F.targets.k
  pub short : Lengths (F.targets.k - F.cap) F.start
  pub complete : Complete (label F.targets) (backends F.targets) F.start
