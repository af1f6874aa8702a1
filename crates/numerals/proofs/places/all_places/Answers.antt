-- `places::all_places` meets its contract: the table's rule is a test at each of its 4,096 entries, which antt computes.
use mathlib.Core.Path.{refl}
use mathlib.Core.List.{List}
use Prim.Native.Nat.{ℕ}
use Rattle.numerals.specs.Limits.{most_bits}
use Rattle.numerals.specs.Digits.{lowest, value, value_from}
use Rattle.numerals.specs.Suffix.{place}
use Rattle.numerals.proofs.Table.{at}
use Rattle.numerals.proofs.places.all_places.Reads as reads
use Rattle.numerals.proofs.places.all_places.Lts as lts
use Rattle.numerals.proofs.places.all_places.Goals as goal
use Rattle.numerals.proofs.places.all_places.Goals.{Start}

-- the table, as the function has it
abbrev table : Start → List ℕ
table c = (lts.m2 reads.Pre reads.Post c.args).0

pub returns : goal.returns
unfolding place lowest value value_from
returns c = record { long = refl; at = at (place most_bits) (table c) refl }
