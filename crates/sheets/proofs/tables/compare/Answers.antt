-- `tables::compare` meets its contract: each return by the tests that led to it.
use Rattle.std.specs.Prelude.{Err, Ok}
use Prim.Native.Nat.{ℕ}
use mathlib.Core.Path.{◌≡◌, sym, ap, ◌∙◌}
use mathlib.Core.Bool.{true, false}
use native.Mathlib.Omega.{arith}
use borrow.Author.Tests.{le-ltb, lt-ltb, eq-eqb, ne_eqb}
use Rattle.numerals.proofs.Powers.{shifted}
use Rattle.expansion.specs.FirstMatch.{first_match}
use Rattle.packing.specs.Count.{own_rules}
use Rattle.sheets.specs.RuleSheet.{Table}
use Rattle.sheets.specs.Calls.{has_service, moved, churn_of}
use Rattle.sheets.specs.Inner.TableReader.{Found}
use Rattle.sheets.specs.Inner.HeldTable.{lines_of, table_of}
use Rattle.sheets.proofs.tables.compare.Goals as goal
use Rattle.sheets.proofs.tables.compare.Goals.{Else-first_backend-eq0, Else-first_backend-eq0-2}

-- a table has the service where it has a first match
module _ (t : Table) (n : ℕ) (found : Found t.lines n) where
  has : {r : ℕ} → r ≡ first_match (own_rules n t.lines) 0 → (r ≡ 0 → ⊥) → has_service t n ≡ true
  unfolding has_service
  has {r} e d = found ∙ lt-ltb 0 (first_match (own_rules n t.lines) 0) (omega arith)

  lacks : {r : ℕ} → r ≡ first_match (own_rules n t.lines) 0 → r ≡ 0 → has_service t n ≡ false
  unfolding has_service
  lacks {r} e z = found ∙ le-ltb 0 (first_match (own_rules n t.lines) 0) (omega arith)

pub returns-then-first_backend-eq0 : goal.returns-then-first_backend-eq0
unfolding churn_of
returns-then-first_backend-eq0 c =
    sym (rw (lacks (table_of c.args.old.now) c.args.service (c.args.old.now.found c.args.service) c.first_backend.ensures c.if-first_backend-eq0.true))

old-there : (c : Else-first_backend-eq0) → let a = c.args in has_service (table_of a.old.now) a.service ≡ true
old-there c =
    has (table_of c.args.old.now) c.args.service (c.args.old.now.found c.args.service) c.first_backend.ensures c.if-first_backend-eq0.false

pub returns-then-first_backend-eq0-2 : goal.returns-then-first_backend-eq0-2
unfolding churn_of
returns-then-first_backend-eq0-2 c =
    sym (rw (
      old-there (goal.at.returns-then-first_backend-eq0-2 c).Else-first_backend-eq0,
      lacks (table_of c.args.new.now) c.args.service (c.args.new.now.found c.args.service) c.first_backend-2.ensures c.if-first_backend-eq0-2.true,
    ))

new-there : (c : Else-first_backend-eq0-2) → let a = c.args in has_service (table_of a.new.now) a.service ≡ true
new-there c =
    has (table_of c.args.new.now) c.args.service (c.args.new.now.found c.args.service) c.first_backend-2.ensures c.if-first_backend-eq0-2.false

pub returns-then-old-new : goal.returns-then-old-new
unfolding churn_of
returns-then-old-new c =
    ap Err c.refused_at.ensures ∙ sym (rw (
      old-there (goal.at.returns-then-old-new c).Else-first_backend-eq0,
      new-there
          (goal.at.returns-then-old-new c).Else-first_backend-eq0-2,
      ne_eqb _ _ c.if-old-new.true,
    ))

pub overflow_shl-all : goal.overflow_shl-all
overflow_shl-all c = omega (arith, c.args.old.now.few_bits)

pub returns : goal.returns
unfolding churn_of
returns c =
    let all = shifted c.args.old.now.k c.args.old.now.few_bits in
    ap Ok (c.count_moved.ensures
    ∙ ap (λ (x : ℕ). moved x (lines_of c.args.old.now.lines) (lines_of c.args.new.now.lines) c.args.service) all)
    ∙ sym (rw (old-there (goal.at.returns c).Else-first_backend-eq0, new-there (goal.at.returns c).Else-first_backend-eq0-2, eq-eqb _ _ c.if-old-new.false))
