-- Worked cases of the update (document 02, Req 03 to 05): P1's list of document 01 ("Figures to try"), in numbers, under other weights; a list that is
-- stuck; a tie between a backend that is missing from the new weights and one that isn't; and lists on which several r end within.
use Rattle.std.specs.Prelude.{ℕ, suc, List, [], ◌∷◌, ◌≡◌, length, Err, Ok}
use Rattle.numerals.specs.Pick.{pick}
use Rattle.numerals.specs.Refusals.{no7, no13}
use Rattle.numerals.specs.Sums.{list_to}
use Rattle.expansion.specs.Known.{targets_known}
use Rattle.expansion.specs.OldList.{rules_from}
use Rattle.expansion.specs.Resume.{ends_within, churn_kept, numbers_resumed}
use Rattle.update.specs.Update.{update_answer}
use Rattle.update.specs.declared.answer.Update as update

-- `*00100` and `*000` to 1, `*0` to 2, `*` to 3
abbrev pub thirds : List ℕ
thirds = 5 ∷ 4 ∷ 1 ∷ 3 ∷ 0 ∷ 1 ∷ 1 ∷ 0 ∷ 2 ∷ 0 ∷ 0 ∷ 3 ∷ []

-- new weights on that list, k 5: what is answered, and the new list
pub record Case : Type 0 where
  pub tolerance : ℕ
  pub ids : List ℕ
  pub weights : List ℕ
  pub update : update.Update
  pub new : List ℕ

pub record Shows (c : Case) : Type 0 where
  pub answer : update_answer 5 c.tolerance c.ids c.weights thirds 12 ≡ Ok c.update
  pub new : numbers_resumed 5 c.tolerance c.ids c.weights thirds ≡ c.new

abbrev three : List ℕ
three = 1 ∷ 2 ∷ 3 ∷ []

-- the weights that the list was made for: all four rules are kept, and nothing moves
abbrev pub unchanged : Case
unchanged =
    record {
      tolerance = 2000000;
      ids = three;
      weights = 16666700 ∷ 33333300 ∷ 50000000 ∷ [];
      update = record { k = 5; kept = 4; rules = 4; churn = 0 };
      new = thirds;
    }

-- 25 25 50: the newest rule is dropped, and `*100` goes to 1
abbrev pub quarter : Case
quarter =
    record {
      tolerance = 2000000;
      ids = three;
      weights = 25000000 ∷ 25000000 ∷ 50000000 ∷ [];
      update = record { k = 5; kept = 3; rules = 4; churn = 3 };
      new = 3 ∷ 4 ∷ 1 ∷ 3 ∷ 0 ∷ 1 ∷ 1 ∷ 0 ∷ 2 ∷ 0 ∷ 0 ∷ 3 ∷ [];
    }

-- 50 30 20: only `*` can be kept
abbrev pub afresh : Case
afresh =
    record {
      tolerance = 2000000;
      ids = three;
      weights = 50000000 ∷ 30000000 ∷ 20000000 ∷ [];
      update = record { k = 5; kept = 1; rules = 4; churn = 21 };
      new = 4 ∷ 3 ∷ 2 ∷ 2 ∷ 1 ∷ 2 ∷ 1 ∷ 0 ∷ 1 ∷ 0 ∷ 0 ∷ 3 ∷ [];
    }

-- 0 0 100, tolerance 0: a new `*0` hides a kept one, and the list ends with fewer rules than it may have
abbrev pub hidden : Case
hidden =
    record {
      tolerance = 0;
      ids = three;
      weights = 0 ∷ 0 ∷ 100000000 ∷ [];
      update = record { k = 5; kept = 2; rules = 3; churn = 16 };
      new = 1 ∷ 0 ∷ 3 ∷ 1 ∷ 0 ∷ 2 ∷ 0 ∷ 0 ∷ 3 ∷ [];
    }

-- 2:50 3:50: 1 is missing and counts as weight 0. The newest rule is dropped, and a new `*000` hides the one that 1 keeps.
abbrev pub retired : Case
retired =
    record {
      tolerance = 2000000;
      ids = 2 ∷ 3 ∷ [];
      weights = 50000000 ∷ 50000000 ∷ [];
      update = record { k = 5; kept = 3; rules = 4; churn = 5 };
      new = 3 ∷ 0 ∷ 2 ∷ 3 ∷ 0 ∷ 1 ∷ 1 ∷ 0 ∷ 2 ∷ 0 ∷ 0 ∷ 3 ∷ [];
    }

-- 2:33.3333 3:50 40:16.6667: 40 takes the place of 1, and only the suffixes that 1 held move
abbrev pub replaced : Case
replaced =
    record {
      tolerance = 2000000;
      ids = 2 ∷ 3 ∷ 40 ∷ [];
      weights = 33333300 ∷ 50000000 ∷ 16666700 ∷ [];
      update = record { k = 5; kept = 2; rules = 4; churn = 5 };
      new = 5 ∷ 4 ∷ 40 ∷ 3 ∷ 0 ∷ 40 ∷ 1 ∷ 0 ∷ 2 ∷ 0 ∷ 0 ∷ 3 ∷ [];
    }

-- `*` alone to 1, k 1, new weights 1:50 2:50: one rule can't halve the tree
abbrev pub Halted : Type 0
Halted = update_answer 1 0 (1 ∷ 2 ∷ []) (50000000 ∷ 50000000 ∷ []) (0 ∷ 0 ∷ 1 ∷ []) 3 ≡ Err no13

-- k 2, `*11` twice and `*1` to 1, `*` to 3
abbrev pub tied_old : List ℕ
tied_old = 2 ∷ 3 ∷ 1 ∷ 2 ∷ 3 ∷ 1 ∷ 1 ∷ 1 ∷ 1 ∷ 0 ∷ 0 ∷ 3 ∷ []

-- new weights 2:100 3:0: after two kept rules 1, which is missing, and 3 have the same excess, and the lower id gives first
pub record Tied : Type 0 where
  pub answer : update_answer 2 0 (2 ∷ 3 ∷ []) (100000000 ∷ 0 ∷ []) tied_old 12 ≡ Ok (record { k = 2; kept = 2; rules = 4; churn = 4 })
  pub new :
      numbers_resumed 2 0 (2 ∷ 3 ∷ []) (100000000 ∷ 0 ∷ []) tied_old
      ≡ 1 ∷ 0 ∷ 2 ∷ 1 ∷ 1 ∷ 2 ∷ 1 ∷ 1 ∷ 1 ∷ 0 ∷ 0 ∷ 3 ∷ []

-- k 2: for each r from 1 to all a 1 where it ends within, and its churn; what is answered, and the new list
pub record Choice : Type 0 where
  pub tolerance : ℕ
  pub ids : List ℕ
  pub weights : List ℕ
  pub old : List ℕ
  pub within : List ℕ
  pub churns : List ℕ
  pub update : update.Update
  pub new : List ℕ

pub record Chooses (c : Choice) : Type 0 where
  pub within :
      let R = rules_from c.old in
      list_to (length R) (λ i. pick (ends_within (targets_known 2 R c.ids c.weights) c.tolerance R (suc i)) 1 0) ≡ c.within
  pub churns :
      let R = rules_from c.old in
      list_to (length R) (λ i. churn_kept (targets_known 2 R c.ids c.weights) c.tolerance R (suc i)) ≡ c.churns
  pub answer : update_answer 2 c.tolerance c.ids c.weights c.old 12 ≡ Ok c.update
  pub new : numbers_resumed 2 c.tolerance c.ids c.weights c.old ≡ c.new

-- `*00` to 3, `*0` to 2, `*` to 1; new weights 20 30 50, tolerance 25: two rules would do, but `*` alone moves less
abbrev pub lowest_at_one : Choice
lowest_at_one =
    record {
      tolerance = 25000000;
      ids = three;
      weights = 20000000 ∷ 30000000 ∷ 50000000 ∷ [];
      old = 2 ∷ 0 ∷ 3 ∷ 1 ∷ 0 ∷ 2 ∷ 0 ∷ 0 ∷ 1 ∷ [];
      within = 1 ∷ 1 ∷ 0 ∷ [];
      churns = 2 ∷ 3 ∷ 0 ∷ [];
      update = record { k = 2; kept = 1; rules = 3; churn = 2 };
      new = 2 ∷ 1 ∷ 2 ∷ 1 ∷ 0 ∷ 3 ∷ 0 ∷ 0 ∷ 1 ∷ [];
    }

-- `*01` to 3, `*00` to 4, `*0` to 2, `*` to 1; new weights 30 30 40 for 1, 2, 3, tolerance 20: with more rules and with fewer more would move
abbrev pub lowest_between : Choice
lowest_between =
    record {
      tolerance = 20000000;
      ids = three;
      weights = 30000000 ∷ 30000000 ∷ 40000000 ∷ [];
      old = 2 ∷ 1 ∷ 3 ∷ 2 ∷ 0 ∷ 4 ∷ 1 ∷ 0 ∷ 2 ∷ 0 ∷ 0 ∷ 1 ∷ [];
      within = 1 ∷ 1 ∷ 1 ∷ 0 ∷ [];
      churns = 3 ∷ 1 ∷ 2 ∷ 0 ∷ [];
      update = record { k = 2; kept = 2; rules = 3; churn = 1 };
      new = 2 ∷ 1 ∷ 3 ∷ 1 ∷ 0 ∷ 2 ∷ 0 ∷ 0 ∷ 1 ∷ [];
    }

-- `*01` to 1, `*1` and `*0` to 2, `*` to 1; new weights 50 50, tolerance 0: one rule and two move as little, and the larger r is answered
abbrev pub equal_churn : Choice
equal_churn =
    record {
      tolerance = 0;
      ids = 1 ∷ 2 ∷ [];
      weights = 50000000 ∷ 50000000 ∷ [];
      old = 2 ∷ 1 ∷ 1 ∷ 1 ∷ 1 ∷ 2 ∷ 1 ∷ 0 ∷ 2 ∷ 0 ∷ 0 ∷ 1 ∷ [];
      within = 1 ∷ 1 ∷ 1 ∷ 0 ∷ [];
      churns = 1 ∷ 1 ∷ 3 ∷ 0 ∷ [];
      update = record { k = 2; kept = 2; rules = 2; churn = 1 };
      new = 1 ∷ 0 ∷ 2 ∷ 0 ∷ 0 ∷ 1 ∷ [];
    }

-- `*01` to 4, `*00` to 1, `*0` to 3, `*` to 2; new weights 25 75 for 1, 2, tolerance 0: one rule and three move as little, and the list of three is longer
abbrev pub longer_list : Choice
longer_list =
    record {
      tolerance = 0;
      ids = 1 ∷ 2 ∷ [];
      weights = 25000000 ∷ 75000000 ∷ [];
      old = 2 ∷ 1 ∷ 4 ∷ 2 ∷ 0 ∷ 1 ∷ 1 ∷ 0 ∷ 3 ∷ 0 ∷ 0 ∷ 2 ∷ [];
      within = 1 ∷ 1 ∷ 1 ∷ 0 ∷ [];
      churns = 2 ∷ 3 ∷ 2 ∷ 0 ∷ [];
      update = record { k = 2; kept = 3; rules = 4; churn = 2 };
      new = 2 ∷ 2 ∷ 2 ∷ 2 ∷ 0 ∷ 1 ∷ 1 ∷ 0 ∷ 3 ∷ 0 ∷ 0 ∷ 2 ∷ [];
    }

-- where it doesn't fit, the answer is 7, though the list of one kept rule needs only 6 numbers
abbrev pub TooLong : Type 0
TooLong = update_answer 2 0 longer_list.ids longer_list.weights longer_list.old 11 ≡ Err no7
