-- `percentage_sheet::read_services` meets its contract. The invariant: the memory holds the services read so far, and they stand before what is read
-- of `rest`.
use Prim.Native.Nat.{ℕ}
use mathlib.Core.Path.{◌≡◌}
use mathlib.Core.List.{List}
use lib.ListN.{length}
use Rattle.numerals.specs.Limits.{decimals, unit}
use Rattle.numerals.specs.Text.{split}
use Rattle.sheets.specs.PercentageSheet.{Service, service_lines, volumes_of, ids_of, weights_of}
use Rattle.sheets.specs.Inner.SheetReader.{Holds}
use Rattle.sheets.proofs.Steps.{behind}
use Rattle.sheets.proofs.percentage_sheet.read_services.Given as goal

pub record Serving (text volumes sizes ids weights rest : List ℕ) (i at : ℕ) : Type 0 where
  pub done : List Service
  pub count : length done ≡ i
  pub holds : Holds (volumes_of done) (ids_of done) (weights_of done) volumes sizes ids weights i at
  pub read : service_lines decimals unit 0 (split 10 text) ≡ behind done (service_lines decimals unit i (split 10 rest))

abbrev pub invariant-loop-rest : goal.invariant-loop-rest
invariant-loop-rest l =
    Serving l.lines l.volumes l.sizes l.ids l.weights l.rest l.i l.at

abbrev pub decreases-loop-rest : goal.decreases-loop-rest
decreases-loop-rest l = length l.rest
