-- What an update answers, by the numbers that are found: the measures of what would be read, and what it is judged by.
use Rattle.std.specs.Prelude.{ℕ, ◌*◌, List, [], leb, ltb, eqb, Err, Ok, Result}
use Rattle.numerals.specs.Pick.{pick, both}
use Rattle.numerals.specs.Refusals.{no7, no8, no12}
use Rattle.expansion.specs.Answer.{in_limits}
use Rattle.packing.specs.Answer.{chunks}
use Rattle.sheets.specs.PercentageSheet.{Sheet}
use Rattle.sheets.specs.Calls.{about, refused_at}
use Rattle.sheets.specs.declared.percentage_sheet.Head.{Head}
use Rattle.sheets.specs.declared.held_sheet.HeldSheet.{HeldSheet}
use Rattle.sheets.specs.declared.answer.UpdateRecord.{UpdateRecord}
use Rattle.sheets.specs.declared.answer.Refused.{Refused}

-- measures m of service n, against the second sheet's k and services and the lent places
unfoldable pub judged : UpdateRecord → ℕ → ℕ → ℕ → ℕ → ℕ → ℕ → Result UpdateRecord Refused
judged m k services n rules_room ids_room weights_room =
    pick (ltb 0 m.rules)
    (pick (in_limits 1 services n)
    (pick (eqb m.k k)
    (pick (both (leb (3 * m.rules) rules_room) (both (leb m.backends ids_room) (leb m.backends weights_room))) (Ok m)
    (Err (refused_at no7 0)))
    (Err (refused_at no12 0)))
    (Err (about 2 no8 0)))
    (Err (about 1 no8 0))

-- the percentage sheet in memory, by its sizes, its row of ids and its row of weights; the volumes are none of an update's
abbrev pub sheet_in : Head → List ℕ → List ℕ → List ℕ → Sheet
sheet_in h sizes named row =
    record {
      k = h.k;
      tolerance = h.tolerance;
      capacity = h.capacity;
      volumes = [];
      ids = chunks sizes named;
      weights = chunks sizes row;
    }

abbrev pub sheet_of : HeldSheet → Sheet
sheet_of s = sheet_in s.head s.sizes.now s.ids.now s.weights.now
