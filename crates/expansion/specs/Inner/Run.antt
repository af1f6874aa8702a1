-- The run of the program, from any start and with any cap: what it keeps after so many turns, and the list that it comes to.
use Rattle.std.specs.Prelude.{ℕ, suc, ◌-◌, ◌≤◌, ◌<◌, ◌≡◌, List, ◌∷◌, ltb, length, get_or}
use Rattle.numerals.specs.Limits.{most_bits, most_known, most_suffixes, unit}
use Rattle.numerals.specs.Pick.{pick}
use Rattle.numerals.specs.Sums.{sum_to}
use Rattle.expansion.specs.FirstMatch.{nobody, share}
use Rattle.expansion.specs.Imbalance.{Targets, backends, label, imbalance}
use Rattle.expansion.specs.Steps.{Frame, after, end_of, list_of, stair}
use Rattle.expansion.specs.Inner.Sound.{Distinct, Labelled, Sound}
use Rattle.expansion.specs.KeptShares.{Keeps}
use Rattle.expansion.specs.Inner.Terms.{next_of}
use Rattle.expansion.specs.Inner.Holders.{Holds}
use Rattle.expansion.specs.Inner.Lists.{newest_first}
use Rattle.expansion.specs.declared.rule.Rule.{Rule}
use Rattle.expansion.specs.declared.rule.Ended.TheVariants.{Budget}
use Rattle.expansion.specs.declared.run.State.{State}
use Rattle.expansion.specs.declared.run.Run.{Run}
use Rattle.std.specs.declared.ops.ControlFlow.{ControlFlow}
use Rattle.expansion.specs.declared.rule.Ended.{Ended}
use Rattle.expansion.specs.declared.rule.Move.{Move}
use Rattle.std.specs.declared.ops.ControlFlow.TheVariants.{Break, Continue}

-- backends with these labels and weights in parts of the unit
abbrev pub labelled_by : ℕ → List ℕ → List ℕ → Targets
labelled_by k labels ws = record { k = k; unit = unit; labels = labels; weights = ws }

-- one expansion for them. Document 01's `frame` has the cap k - 1 and starts from the one rule `*`.
abbrev pub framed : ℕ → ℕ → ℕ → List ℕ → List ℕ → List Rule → Frame
framed k cap tolerance labels ws start =
    record { targets = labelled_by k labels ws; tolerance = tolerance; cap = cap; start = start }

-- what the checks of a call leave, with a label of its own for each backend
pub record Valid (k tolerance : ℕ) (labels ws : List ℕ) : Type 0 where
  pub some_bits : 1 ≤ k
  pub few_bits : k ≤ most_bits
  pub tolerable : tolerance ≤ unit
  pub someone : 0 < length ws
  pub few : length ws ≤ most_known
  pub balanced : sum_to (length ws) (λ b. get_or ws b 0) ≡ unit
  pub labelled : length labels ≡ length ws
  pub distinct : Distinct (λ b. get_or labels b nobody) (length ws)
  pub named : Labelled (λ b. get_or labels b nobody) (length ws)

-- a frame that the program can run: within the limits, and one that the theorems hold for
pub record Fits (F : Frame) : Type 0 where
  pub in_unit : F.targets.unit ≡ unit
  pub few_bits : F.targets.k ≤ most_bits
  pub tolerable : F.tolerance ≤ unit
  pub few : backends F.targets ≤ most_known
  pub labelled : length F.targets.labels ≡ backends F.targets
  pub sound : Sound F

-- what each backend holds at the start
pub record Shared (F : Frame) (shares : List ℕ) : Type 0 where
  pub long : backends F.targets ≤ length shares
  pub each : (b : ℕ) → b < backends F.targets → get_or shares b 0 ≡ share F.targets.k F.start (label F.targets b)

-- step 5: a move comes after c rules only where the budget has room for one more
abbrev pub in_budget : ControlFlow Ended Move → ℕ → ℕ → ControlFlow Ended Move
in_budget (Break e) c budget = Break e
in_budget (Continue m) c budget = pick (ltb c budget) (Continue m) (Break Budget)

-- the state after x turns: the ledger and the holders of the rules so far, their imbalance, and what comes next
pub record Stands (F : Frame) (x : ℕ) (holder low : List ℕ) (st : State) : Type 0 where
  pub fits : Fits F
  pub keeps : Keeps F.targets (after F x) st.ledger
  pub holds : Holds F.targets (after F x) holder low
  pub long : (length holder ≡ most_suffixes) × (length low ≡ most_known)
  pub stair : st.imbalance ≡ imbalance F.targets (after F x)
  pub next : st.next ≡ next_of st.ledger (backends F.targets) F.targets.k F.tolerance F.cap

-- the rule that the turn after x turns adds
pub record Adds (F : Frame) (x : ℕ) (r : Rule) : Type 0 where
  pub rules : after F (suc x) ≡ r ∷ after F x

-- the list of a budget that a run came to: its rules, its stairs from the start on and how it ended
pub record Made (F : Frame) (budget : ℕ) (r : Run) : Type 0 where
  pub rules : newest_first r.list.rules r.list.count ≡ list_of F budget
  pub stairs :
      (c : ℕ) → length F.start ≤ c → c ≤ r.list.count
      → get_or r.list.stairs (c - 1) 0 ≡ stair F c (list_of F budget)
  pub ended : r.ended ≡ end_of F (list_of F budget)
