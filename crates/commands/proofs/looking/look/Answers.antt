-- `looking::look` meets its contract: the table is asked for the address's 32 lowest bits, and the address itself where the service is there.
use Prim.Native.Nat.{◌%◌, ◌<◌, ◌+◌}
use mathlib.Core.Path.{◌≡◌, ap, ◌∙◌}
use native.Mathlib.Nat.{mod-eq_of_lt}
use native.Mathlib.Omega.{arith}
use Rattle.sheets.specs.Calls.{lookup_answer}
use Rattle.commands.specs.Address.{address_limit}
use Rattle.commands.proofs.Lookups.{refused-too, above, inside}
use Rattle.commands.proofs.looking.look.Goals as goal

pub returns-in-Ok : goal.returns-in-Ok
returns-in-Ok c =
    let a = c.args in
    rw (above a.table.now a.service a.address _ _ c.in-Ok.ensures c.if-address-gt-MOST_ADDRESS.true, ← c.into.ensures) c.put_refused.ensures

pub returns-in-Ok-2 : goal.returns-in-Ok-2
returns-in-Ok-2 c =
    let a = c.args in
    let low : a.address < (address_limit + 1) = omega arith in
    let whole : a.address % (address_limit + 1) ≡ a.address = mod-eq_of_lt low in
    let told = c.in-Ok.ensures ∙ ap (lookup_answer a.table.now a.service) whole in
    rw (inside a.table.now a.service a.address _ told c.if-address-gt-MOST_ADDRESS.false) c.put_answer.ensures

pub returns-in-Err : goal.returns-in-Err
returns-in-Err c =
    let a = c.args in
    rw (refused-too a.table.now a.service a.address _ _ c.in-Err.ensures) c.put_refused-in-Err.ensures
