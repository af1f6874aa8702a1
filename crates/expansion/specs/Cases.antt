-- Worked cases of the expansion: P1 to P6 of document 01 ("Figures to try") in the unit of document 02, Req 07, figure 3(b) of the paper, and P1's ledger
-- after each rule (document 02, request 02).
use Rattle.std.specs.Prelude.{ℕ, suc, ◌-◌, List, [], ◌∷◌, ◌≡◌, ℤ, pos, neg_ℤ, length, get_or}
use Rattle.numerals.specs.Limits.{most_rules, unit}
use Rattle.numerals.specs.Sums.{list_to}
use Rattle.expansion.specs.Steps.{frame, end_of, list_of, stairs_to, Frame}
use Rattle.expansion.specs.declared.rule.Rule.{Rule}
use Rattle.expansion.specs.declared.rule.Ended.{Ended}
use Rattle.expansion.specs.declared.rule.Ended.TheVariants.{Within, NoGain}
use Rattle.expansion.specs.declared.ledger.Backend.{Backend}
use Rattle.expansion.specs.declared.ledger.Ledger.{Ledger}

pub record Worked : Type 0 where
  pub given : Frame
  pub rules : List Rule
  pub ended : Ended
  pub stairs : List ℕ

-- the list of the whole budget is the rules, the newest first; it ends so, and has these stairs
pub record Shows (w : Worked) : Type 0 where
  pub rules : list_of w.given most_rules ≡ w.rules
  pub ended : end_of w.given w.rules ≡ w.ended
  pub stairs : stairs_to w.given w.rules (length w.rules) ≡ w.stairs

abbrev pub AllShow : List Worked → Type 0
AllShow [] = Unit {0}
AllShow (w ∷ ws) = Shows w × AllShow ws

-- backends labelled 1, 2, ..
abbrev numbered : ℕ → ℕ → ℕ → List ℕ → Frame
numbered k all tolerance ws = frame k all tolerance (list_to (length ws) suc) ws

abbrev rule : ℕ → ℕ → ℕ → Rule
rule l v b = record { len = l; value = v; backend = b }

-- `*` to 3, `*0` to 2, `*000` and `*00100` to 1
abbrev thirds : List Rule
thirds = rule 5 4 1 ∷ rule 3 0 1 ∷ rule 1 0 2 ∷ rule 0 0 3 ∷ []

abbrev halves : List Rule
halves = rule 1 0 2 ∷ rule 0 0 1 ∷ []

abbrev pub p1 : Worked
p1 =
    record {
      given = numbered 5 unit 2000000 (16666700 ∷ 33333300 ∷ 50000000 ∷ []);
      rules = thirds;
      ended = Within;
      stairs = 1600000000 ∷ 533334400 ∷ 133334400 ∷ 33334400 ∷ [];
    }

abbrev pub p2 : Worked
p2 =
    record {
      given = numbered 5 unit 0 (16666700 ∷ 33333300 ∷ 50000000 ∷ []);
      rules = thirds;
      ended = NoGain;
      stairs = 1600000000 ∷ 533334400 ∷ 133334400 ∷ 33334400 ∷ [];
    }

abbrev pub p3 : Worked
p3 =
    record {
      given = numbered 5 unit 0 (25000000 ∷ 25000000 ∷ 50000000 ∷ []);
      rules = rule 2 0 2 ∷ rule 1 0 1 ∷ rule 0 0 3 ∷ [];
      ended = Within;
      stairs = 1600000000 ∷ 800000000 ∷ 0 ∷ [];
    }

abbrev pub p4 : Worked
p4 = record { given = numbered 1 unit 0 (100000000 ∷ []); rules = rule 0 0 1 ∷ []; ended = Within; stairs = 0 ∷ [] }

abbrev pub p5 : Worked
p5 =
    record {
      given = numbered 1 unit 0 (50000000 ∷ 50000000 ∷ []);
      rules = halves;
      ended = Within;
      stairs = 100000000 ∷ 0 ∷ [];
    }

abbrev pub p6 : Worked
p6 =
    record {
      given = numbered 1 unit 0 (33333400 ∷ 33333300 ∷ 33333300 ∷ []);
      rules = halves;
      ended = NoGain;
      stairs = 133333200 ∷ 66666600 ∷ [];
    }

-- one sixth, one third and one half, with the tolerance 0.02, in parts of 300
abbrev pub figure3b : Worked
figure3b =
    record {
      given = numbered 5 300 6 (50 ∷ 100 ∷ 150 ∷ []);
      rules = thirds;
      ended = Within;
      stairs = 4800 ∷ 1600 ∷ 400 ∷ 100 ∷ [];
    }

abbrev pub worked : List Worked
worked = p1 ∷ p2 ∷ p3 ∷ p4 ∷ p5 ∷ p6 ∷ figure3b ∷ []

abbrev entry : ℕ → ℕ → ℤ → Backend
entry w a e = record { weight = w; share = a; error = e }

-- P1's ledger after 1, 2, 3 and 4 rules. The third backend gives `*0` to the second, which gives `*000` and then `*00100` to the first: each time the
-- one that neither gives nor receives keeps its entry.
abbrev pub p1_entries : List (List Backend)
p1_entries =
    (entry 16666700 0 (neg_ℤ (pos 533334400)) ∷ entry 33333300 0 (neg_ℤ (pos 1066665600)) ∷ entry 50000000 32 (pos 1600000000) ∷ [])
    ∷ (entry 16666700 0 (neg_ℤ (pos 533334400)) ∷ entry 33333300 16 (pos 533334400) ∷ entry 50000000 16 (pos 0) ∷ [])
    ∷ (entry 16666700 4 (neg_ℤ (pos 133334400)) ∷ entry 33333300 12 (pos 133334400) ∷ entry 50000000 16 (pos 0) ∷ [])
    ∷ (entry 16666700 5 (neg_ℤ (pos 33334400)) ∷ entry 33333300 11 (pos 33334400) ∷ entry 50000000 16 (pos 0) ∷ [])
    ∷ []

abbrev pub p1_ledger : ℕ → Ledger
p1_ledger c = record { at = get_or p1_entries (c - 1) [] }
