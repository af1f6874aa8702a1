-- `TableLines::store_own` meets its contract. The invariant: what is stored, with the rules of the lines that are left behind it, is all.
use Prim.Native.Nat.{◌+◌, ◌*◌, ◌≤◌}
use mathlib.Core.Path.{◌≡◌}
use lib.ListN.{length}
use lib.Seq.{sets}
use Rattle.expansion.specs.OldList.{numbers_of}
use Rattle.sheets.proofs.OwnNumbers.{own_from}
use Rattle.sheets.proofs.rule_lines.TableLines.store_own.Given as goal

abbrev pub invariant-loop-i : goal.invariant-loop-i
invariant-loop-i l =
    let own = own_from l.self.cells.now l.self.n l.service in
    (length l.rules ≡ length l.initial.rules)
    × ((l.at + 3 * length (own l.i) ≤ length l.initial.rules)
    × (sets l.rules l.at (numbers_of (own l.i)) ≡ sets l.initial.rules 0 (numbers_of (own 0))))
