-- The sample sheet of document 01 in numbers, in the unit of document 02, Req 07: granted 2 and 3, and its table and total. P7 over its text is in
-- `specs/TwelveCases.antt` of crate `sheets`.
use Rattle.std.specs.Prelude.{ℕ, ◌≡◌, List, [], ◌∷◌}
use Rattle.numerals.specs.Limits.{unit}
use Rattle.packing.specs.Count.{Line, Services, counted}
use Rattle.packing.specs.Table.{table, granted, one_each}

abbrev pub sample : Services
sample =
    record {
      k = 5;
      unit = unit;
      volumes = 55 ∷ 45 ∷ [];
      labels = (1 ∷ 2 ∷ 3 ∷ []) ∷ (1 ∷ 2 ∷ 3 ∷ []) ∷ [];
      weights = (16666700 ∷ 33333300 ∷ 50000000 ∷ []) ∷ (25000000 ∷ 25000000 ∷ 50000000 ∷ []) ∷ [];
    }

abbrev pub line : ℕ → ℕ → ℕ → ℕ → Line
line s l v b = record { service = s; rule = record { len = l; value = v; backend = b } }

-- the sample's rule lines, in the order of the rule sheet
abbrev pub p7_lines : List Line
p7_lines = line 1 1 0 2 ∷ line 1 0 0 3 ∷ line 2 2 0 2 ∷ line 2 1 0 1 ∷ line 2 0 0 3 ∷ []

pub record P7 : Type 0 where
  pub first : granted sample 2000000 one_each 5 0 ≡ 2
  pub second : granted sample 2000000 one_each 5 1 ≡ 3
  pub lines : table sample 2000000 (granted sample 2000000 one_each 5) ≡ p7_lines
  pub amount : counted sample (table sample 2000000 (granted sample 2000000 one_each 5)) ≡ 29333392000
