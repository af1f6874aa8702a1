-- The lines of a service spread over the suffixes in the order of tree places: the run of a rule, and one line more over those behind it.
use Prim.Native.Nat.{ℕ, ◌+◌, ◌-◌, ◌*◌, ◌^◌, ◌≤◌, ◌<◌}
use mathlib.Core.Bool.{true}
use mathlib.Core.List.{List, [], ◌∷◌}
use mathlib.Core.Path.{◌≡◌, refl, ap, ◌∙◌}
use native.Mathlib.Omega.{arith}
use lib.ListN.{length, replicate, length-replicate, get_or-replicate}
use lib.Seq.{slice}
use Rattle.numerals.specs.Limits.{most_bits, most_suffixes}
use Rattle.numerals.specs.Pick.{pick}
use Rattle.numerals.specs.Suffix.{place}
use Rattle.numerals.proofs.Powers.{pow-few}
use Rattle.expansion.specs.FirstMatch.{is_rule, matches, first_match}
use Rattle.expansion.specs.Inner.Holders.{Given}
use Rattle.expansion.specs.declared.rule.Rule.{Rule}
use Rattle.expansion.proofs.Nodes.{given-at}
use Rattle.packing.specs.Count.{own_rules}
use Rattle.sheets.specs.Calls.{lines_from}
use Rattle.sheets.specs.Inner.TableNumbers.{line_at}
use Rattle.sheets.proofs.FirstMatch.{own-here, own-other}
use Rattle.sheets.proofs.TableNumbers.{rows_more, rows_none}
use Rattle.stages.specs.Inner.Spread.{Covered, Spread}

-- the run of places of a rule's suffix went to its backend
pub covered-end : (k : ℕ) (r : Rule) (holder holder' : List ℕ) → is_rule k r ≡ true
    → Given (place r.len r.value * 2 ^ (k - r.len)) (2 ^ (k - r.len)) r.backend holder holder' → Covered k r holder holder'
covered-end k r holder holder' R G = record { long = G.long; at = given-at k r R r.backend holder holder' G }

-- no rule gives nobody everything
spread_none : (k : ℕ) → k ≤ most_bits → Spread k [] (replicate most_suffixes 0)
unfolding first_match
spread_none k h =
    record {
      long = length-replicate {A = ℕ} most_suffixes 0;
      at = λ p l. get_or-replicate most_suffixes p 0 0 (omega (arith, pow-few k h));
    }

-- a rule over those behind it
spread-more : (k : ℕ) (r : Rule) (rs : List Rule) (holder holder' : List ℕ) → Spread k rs holder → Covered k r holder holder'
    → Spread k (r ∷ rs) holder'
unfolding first_match
spread-more k r rs holder holder' S C =
    record {
      long = C.long ∙ S.long;
      at = λ p l. C.at p l ∙ ap (pick (matches r (place k p)) r.backend) (S.at p l);
    }

own-none : (service : ℕ) → own_rules service [] ≡ []
unfolding own_rules
own-none service = refl

-- the rules of a service from line i on
abbrev pub own_from : List ℕ → ℕ → ℕ → ℕ → List Rule
own_from table n service i = own_rules service (lines_from (slice (4 * i) (4 * n) table))

module _ (k : ℕ) (table : List ℕ) (n service : ℕ) (room : 4 * n ≤ length table) where
  -- at first no line is spread
  pub spread-start : k ≤ most_bits → Spread k (own_from table n service n) (replicate most_suffixes 0)
  spread-start h = rw (rows_none table n room n (omega arith), own-none service) (spread_none k h)

  module _ (left : ℕ) (some : 0 < left) (most : left ≤ n) where
    line_before : lines_from (slice (4 * (left - 1)) (4 * n) table) ≡ line_at table (left - 1) ∷ lines_from (slice (4 * left) (4 * n) table)
    line_before =
        let back : left - 1 + 1 ≡ left = omega arith in
        rw back at (rows_more table n room (left - 1) (omega arith))

    pub spread-own : (holder holder' : List ℕ) → Spread k (own_from table n service left) holder → (line_at table (left - 1)).service ≡ service
        → Covered k (line_at table (left - 1)).rule holder holder' → Spread k (own_from table n service (left - 1)) holder'
    spread-own holder holder' S e C =
        rw (line_before, own-here service (line_at table (left - 1)) (lines_from (slice (4 * left) (4 * n) table)) e)
        (spread-more k (line_at table (left - 1)).rule (own_from table n service left) holder holder' S C)

    pub spread-other : (holder : List ℕ) → Spread k (own_from table n service left) holder → ((line_at table (left - 1)).service ≡ service → ⊥)
        → Spread k (own_from table n service (left - 1)) holder
    spread-other holder S d =
        rw (line_before, own-other service (line_at table (left - 1)) (lines_from (slice (4 * left) (4 * n) table)) d) S
