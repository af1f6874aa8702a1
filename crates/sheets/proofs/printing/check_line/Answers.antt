-- `printing::check_line` meets its contract: the limits of the line, and its place behind the others.
use mathlib.Core.Path.{◌≡◌, sym, ◌∙◌}
use mathlib.Core.Bool.{true}
use native.Mathlib.Omega.{arith}
use Rattle.sheets.specs.RuleSheet.{is_line}
use Rattle.sheets.specs.Inner.TableReader.{line_of}
use Rattle.sheets.proofs.TableChecks.{formed}
use Rattle.sheets.proofs.Checking.{line-bad, line-placed}
use Rattle.sheets.proofs.printing.check_line.Goals as goal
use Rattle.sheets.proofs.printing.check_line.Goals.{Else-not-is_line}

a-line : (c : Else-not-is_line) → let a = c.args in is_line a.table.now.k (line_of a.line.now) ≡ true
a-line c = sym c.is_line.ensures ∙ c.if-not-is_line.false

pub is_line-requires : goal.is_line-requires
is_line-requires c = c.args.table.now.few_bits

pub returns-then-not-is_line : goal.returns-then-not-is_line
returns-then-not-is_line c = λ before passed broken ls. line-bad _ broken before _ ls (sym c.is_line.ensures ∙ c.if-not-is_line.true)

pub place_line-requires : goal.place_line-requires
place_line-requires c =
    ((formed _ _ (a-line (goal.at.place_line-requires c).Else-not-is_line)).service, (c.requires, omega arith))

pub returns : goal.returns
returns c =
    let l = c.args.line.now in
    λ before passed.
    line-placed _ before (line_of l) c.place_line.result c.place_line.new.tally
    (a-line (goal.at.returns c).Else-not-is_line) (c.place_line.ensures before l.value l.backend passed)
