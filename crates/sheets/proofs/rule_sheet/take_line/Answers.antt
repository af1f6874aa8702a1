-- `rule_sheet::take_line` meets its contract: the line that was read, placed and stored.
use Rattle.std.specs.Prelude.{Ok}
use Prim.Native.Nat.{◌+◌}
use mathlib.Core.Path.{◌∙◌}
use mathlib.Core.List.{List}
use lib.ListN.{length}
use Rattle.numerals.specs.Text.{split}
use Rattle.packing.specs.Count.{Line}
use Rattle.numerals.proofs.Exits.{handed_on}
use Rattle.sheets.specs.Inner.Order.{PlacedAs}
use Rattle.sheets.specs.Inner.TableReader.{line_of, LineAs, Passed}
use Rattle.sheets.proofs.TableChecks.{formed}
use Rattle.sheets.proofs.Following.{placed-next, placed-refused}
use Rattle.sheets.proofs.Reader.{passed-few, passed-room, passed-next}
use Rattle.sheets.proofs.rule_sheet.take_line.Goals as goal
use Rattle.sheets.proofs.rule_sheet.take_line.Goals.{In_ok-rule, In_ok-next}

-- the line, as it was read
read_as_lem :
    (c : In_ok-rule)
    → let a = c.args in
    LineAs (Ok c.in_ok-rule.rule) a.k (split 32 a.line.now)
read_as_lem c = rw c.in_ok-rule.was at c.read_line.ensures

pub place_line-requires : goal.place_line-requires
place_line-requires c =
    let p = c.requires in
    ((formed _ _ (read_as_lem (goal.at.place_line-requires c).In_ok-rule).0).service, (passed-few _ _ _ _ _ p.1, p.1.behind.places))

-- and as it was placed
placed-as :
    (c : In_ok-next)
    → let a = c.args in
    let l = c.in_ok-rule.rule in
    (before : List Line) → Passed a.k before a.last a.tally.now a.table.now
    → PlacedAs before (line_of l) (Ok c.in_ok-next.next) c.place_line.new.tally
placed-as c before passed =
    let l = c.in_ok-rule.rule in
    rw c.in_ok-next.was at (c.place_line.ensures before l.value l.backend passed.behind)

pub store_line-requires : goal.store_line-requires
store_line-requires c =
    let p = c.requires in
    passed-room _ _ _ _ _ _ p.1 (read_as_lem (goal.at.store_line-requires c).In_ok-rule).0 (placed-as (goal.at.store_line-requires c).In_ok-next p.0 p.1).0

pub returns-in_err-rule : goal.returns-in_err-rule
returns-in_err-rule c =
    rw (handed_on _ _ c.from_residual.ensures) (λ before passed. (rw c.in_err-rule.was at c.read_line.ensures) before (length before + 2))

pub returns-in_err-next : goal.returns-in_err-next
returns-in_err-next c =
    rw (handed_on _ _ c.from_residual-in_err-next.ensures)
    (λ before passed.
    let l = c.in_ok-rule.rule in
    (read_as_lem (goal.at.returns-in_err-next c).In_ok-rule).1 before (length before + 2)
    ∙ placed-refused before (line_of l) _ _ _
    (rw c.in_err-next.was at (c.place_line.ensures before l.value l.backend passed.behind)))

pub returns : goal.returns
returns c =
    λ before passed.
    let l = line_of c.in_ok-rule.rule in
    let read = read_as_lem (goal.at.returns c).In_ok-rule in
    let follows = placed-as (goal.at.returns c).In_ok-next before passed in (
      l,
      (
        read.1 before (length before + 2) ∙ placed-next before l _ _ follows.0,
        passed-next _ before l _ _ _ passed read.0 follows.0 c.told-table _ _ _ follows.1 c.store_line.ensures,
      ),
    )
