-- Demand 3 holds of the rule sheet of a percentage sheet, as printed.
use Prim.Native.Nat.{ℕ}
use mathlib.Core.Path.{◌≡◌, refl}
use mathlib.Core.List.{List}
use native.Mathlib.Omega.{arith}
use Rattle.packing.specs.Table.{one_each}
use Rattle.packing.specs.Answer.{lines_made}
use Rattle.packing.proofs.Demand.{demand}
use Rattle.sheets.specs.Reading.{got}
use Rattle.sheets.specs.PercentageSheet.{Sheet, read_sheet}
use Rattle.sheets.specs.Calls.{services_in, table_for, sheet_text}
use Rattle.sheets.specs.Demand.{Demand3}
use Rattle.sheets.proofs.RoundTrip.{back}
use Rattle.sheets.proofs.SheetLimits.{limits}
use Rattle.sheets.proofs.ProperTable.{balanced, enough-room, table-checked}

pub demand-three : (text : List ℕ) (S : Sheet) → read_sheet text ≡ got S → Demand3 text (sheet_text S)
unfolding sheet_text table_for lines_made
demand-three text S e =
    let L = limits text S e in
    record {
      sheet = S;
      table = table_for S;
      sheet_read = e;
      table_read = back (table_for S) (table-checked text S e);
      same_bits = refl;
      demand = demand (services_in S) S.tolerance (balanced S L) one_each S.capacity (λ s l. omega arith) (enough-room S L);
    }
