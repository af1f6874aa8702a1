-- A change as the code holds it, and what its two listings and its k come to.
use Rattle.std.specs.Prelude.{ℕ, Bool, List, Result}
use Rattle.stages.specs.Inner.Nodes.{at, cut_at}
use Rattle.stages.specs.Inner.Row.{row_of, crowded_at, judged, RowIn, Served}
use Rattle.stages.specs.Inner.Handed.{text_at}
use Rattle.stages.specs.declared.change.Change.{Change}
use Rattle.numerals.specs.declared.refusal.Refusal.{Refusal}

-- who has each place in the stage at place p
abbrev pub stage_in : Change → ℕ → ℕ → ℕ
stage_in C p = cut_at p (at C.old.now) (at C.new.now)

abbrev pub row_in : Change → ℕ → List ℕ
row_in C limit = row_of C.k (at C.old.now) (at C.new.now) limit

-- by capacity and places
abbrev pub crowded_in : Change → ℕ → List ℕ → Bool
crowded_in C capacity places = crowded_at C.k (at C.old.now) (at C.new.now) capacity places

-- by limit, capacity and number
abbrev pub judged_in : Change → ℕ → ℕ → ℕ → Result ℕ Refusal
judged_in C limit capacity number = judged C.k (at C.old.now) (at C.new.now) limit capacity number

-- where its row was judged to be one, it stands in the listing
abbrev pub RowStands : Change → ℕ → Result ℕ Refusal → List ℕ → Type 0
RowStands C limit result listing = RowIn C.k (at C.old.now) (at C.new.now) limit result listing

-- both listings are of this service
abbrev pub ChangeOf : Change → ℕ → Type 0
ChangeOf C service = Served C.k service C.old.now × Served C.k service C.new.now

-- by service and place
abbrev pub text_in : Change → ℕ → ℕ → List ℕ
text_in C service p = text_at C.k (at C.old.now) (at C.new.now) service p
