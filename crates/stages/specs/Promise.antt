-- What the request promises beyond the definitions (document 02, Req 06), in its own words.
use Rattle.std.specs.Prelude.{ℕ, suc, ◌+◌, ◌-◌, ◌*◌, ◌%◌, ◌^◌, ◌≤◌, ◌<◌, true, ◌≡◌, List, [], ◌∷◌, length, get_or}
use Rattle.numerals.specs.Suffix.{place}
use Rattle.expansion.specs.FirstMatch.{is_rule, first_match, churn}
use Rattle.expansion.specs.declared.rule.Rule.{Rule}
use Rattle.sheets.specs.Reading.{got}
use Rattle.packing.specs.Table.{lines_of}
use Rattle.sheets.specs.RuleSheet.{Table, lines_text, read_table}
use Rattle.stages.specs.Stages.{Change, stage_at, stage_churn, row}
use Rattle.stages.specs.Lines.{stage_rules}
use Rattle.stages.specs.Calls.{change_of, place_of}

-- a row of places, 0 to 2^k each, after the stage at p: each has a churn from the one before that is within the limit, and the last is 2^k
unfoldable pub Within : Change → ℕ → ℕ → List ℕ → Type 0
Within C limit p [] = p ≡ 2 ^ C.k
Within C limit p (q ∷ qs) = (q ≤ 2 ^ C.k) × ((stage_churn C p q ≤ limit) × Within C limit q qs)

-- a row of places as promised
pub record Staged (C : Change) (limit : ℕ) (ps : List ℕ) : Type 0 where
  -- the first is within the limit of the old table, suffix by suffix, and each other of the one before
  pub first : (s : ℕ) → s < 2 ^ C.k → stage_at C 0 s ≡ first_match C.old s
  pub within : Within C limit 0 ps
  -- the last is the new table, suffix by suffix
  pub last : (s : ℕ) → s < 2 ^ C.k → stage_at C (2 ^ C.k) s ≡ first_match C.new s
  -- no other row has fewer stages
  pub fewest : (qs : List ℕ) → Within C limit 0 qs → length ps ≤ length qs
  -- their churn is document 01's, from list to list
  pub counted : (p q : ℕ) → stage_churn C p q ≡ churn C.k (stage_rules C p) (stage_rules C q)

-- the rule is one of these
abbrev pub In : Rule → List Rule → Type 0
In r rs = (i : ℕ) × (i < length rs) × (get_or rs i r ≡ r)

-- the same rules in any order
pub record Reordered (rs qs : List Rule) : Type 0 where
  pub each : (r : Rule) → In r rs → In r qs
  pub only : (r : Rule) → In r qs → In r rs

-- the lowest k-bit place that a rule covers, and how many it covers
abbrev pub lowest_place : ℕ → Rule → ℕ
lowest_place k r = place r.len r.value * 2 ^ (k - r.len)

abbrev pub size : ℕ → Rule → ℕ
size k r = 2 ^ (k - r.len)

-- one behind the other, the rules cover the places from a to b
unfoldable pub Tiles : ℕ → ℕ → List Rule → ℕ → Type 0
Tiles k a [] b = a ≡ b
Tiles k a (r ∷ rs) b = (lowest_place k r ≡ a) × Tiles k (a + size k r) rs b

-- two suffixes of one backend that would be one larger suffix: halves of the same one
pub record OneLarger (a b : Rule) : Type 0 where
  pub some : 0 < a.len
  pub long : a.len ≡ b.len
  pub half : a.value % 2 ^ (a.len - 1) ≡ b.value % 2 ^ (b.len - 1)
  pub held : a.backend ≡ b.backend

-- a list for the switch as promised, of a stage that gives each suffix the backend f
pub record Printed (k : ℕ) (f : ℕ → ℕ) (rs : List Rule) : Type 0 where
  -- each line has a suffix of at most k bits
  pub formed : (i : ℕ) → i < length rs → (d : Rule) → is_rule k (get_or rs i d) ≡ true
  -- matched in any order, the lines give each suffix to the stage's backend
  pub any_order : (qs : List Rule) → Reordered rs qs → (s : ℕ) → s < 2 ^ k → first_match qs s ≡ f s
  -- no two neighbouring lines could be one larger suffix
  pub apart : (i : ℕ) → suc i < length rs → (d : Rule) → OneLarger (get_or rs i d) (get_or rs (suc i) d) → ⊥
  -- they stand by the lowest place that each covers
  pub tiled : Tiles k 0 rs (2 ^ k)

-- what the call for the row wrote, of the two tables that were read
abbrev pub PromisedRow : List ℕ → List ℕ → ℕ → ℕ → List ℕ → Type 0
PromisedRow old new n limit written =
    (t u : Table) → read_table old ≡ got t → read_table new ≡ got u → Staged (change_of t u n) limit written

-- and what the call for a stage wrote: the lines of that stage of the row
abbrev pub PromisedStage : List ℕ → List ℕ → ℕ → ℕ → ℕ → List ℕ → Type 0
PromisedStage old new n limit number written =
    (t u : Table) → read_table old ≡ got t → read_table new ≡ got u
    → Staged (change_of t u n) limit (row (change_of t u n) limit)
    × ((rs : List Rule) × (written ≡ lines_text (lines_of n rs)) × Printed t.k (stage_at (change_of t u n) (place_of (change_of t u n) limit number)) rs)
