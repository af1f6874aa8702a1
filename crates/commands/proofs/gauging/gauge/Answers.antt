-- `gauging::gauge` meets its contract: the words are tested from the left, and all before the table is read.
use Prim.Native.Nat.{◌*◌, ◌≤◌}
use lib.ListN.{length}
use borrow.Author.Rules.{rules}
use Rattle.commands.specs.Inner.Gauge.{gauge_room}
use Rattle.commands.proofs.Texts.{said}
use Rattle.commands.proofs.GaugeWords.{no-service, no-volume, no-backend, says, said-exactly, none-exactly}
use Rattle.commands.proofs.gauging.gauge.Goals as goal

pub returns-in_err-n : goal.returns-in_err-n
returns-in_err-n c =
    let a = c.args in
    let w = c.in_err-n.ensures in
    let p = none-exactly a.table.now a.service.now a.volume.now a.backend.now a.out.now 2 c.from_residual.ensures w.1 (no-service _ _ _ _ w.0) in
    record { answer = p.0; buffer = p.1.0; exact = p.1.1 }

pub returns-in_err-v : goal.returns-in_err-v
returns-in_err-v c =
    let a = c.args in
    let w = c.in_err-v.ensures in
    let p = none-exactly a.table.now a.service.now a.volume.now a.backend.now a.out.now 3 c.from_residual-in_err-v.ensures w.1
    (no-volume _ _ _ _ _ c.in_ok-n.ensures w.0) in
    record { answer = p.0; buffer = p.1.0; exact = p.1.1 }

pub returns-in_err-b : goal.returns-in_err-b
returns-in_err-b c =
    let a = c.args in
    let w = c.in_err-b.ensures in
    let p = none-exactly a.table.now a.service.now a.volume.now a.backend.now a.out.now 4 c.from_residual-in_err-b.ensures w.1
    (no-backend _ _ _ _ _ c.in_ok-n.ensures _ c.in_ok-v.ensures w.0) in
    record { answer = p.0; buffer = p.1.0; exact = p.1.1 }

pub returns : goal.returns
returns c =
    let a = c.args in
    let room : 2 * gauge_room ≤ length a.out.now = search rules in
    let p = said-exactly a.table.now a.service.now a.volume.now a.backend.now a.out.now room _ _
    (said c.measure.ensures _ (says _ _ _ _ _ c.in_ok-n.ensures _ c.in_ok-v.ensures _ c.in_ok-b.ensures)) in
    record { answer = p.0; buffer = p.1.0; exact = p.1.1 }
