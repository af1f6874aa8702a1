-- `order::in_order` meets its contract: its tests are those of the order by what is kept of the lines before.
use mathlib.Core.Path.{◌≡◌, sym, ap, ◌∙◌}
use mathlib.Core.Bool.{Bool}
use mathlib.Core.List.{List}
use Prim.Native.Nat.{ℕ}
use borrow.Author.Tests.{eq-eqb, ne_eqb, lt-ltb, le-ltb}
use Rattle.packing.specs.Count.{Line}
use Rattle.sheets.specs.RuleSheet.{in_order}
use Rattle.sheets.specs.Inner.TableNumbers.{line}
use Rattle.sheets.specs.Inner.Order.{last_of}
use Rattle.sheets.specs.declared.order.Last.{Last}
use Rattle.sheets.proofs.Following.{order_by, order-last}
use Rattle.sheets.proofs.order.in_order.Goals as goal

by_last :
    (last : Last) (s l : ℕ) (r : Bool) → order_by last s l ≡ r
    → (before : List Line) (v b : ℕ) → last ≡ last_of before → r ≡ in_order before (line s l v b)
by_last last s l r h before v b e =
    sym (order-last before (line s l v b) ∙ ap (λ (q : Last). order_by q s l) (sym e) ∙ h)

pub returns-then-last-eq0 : goal.returns-then-last-eq0
unfolding order_by
returns-then-last-eq0 c = by_last _ _ _ _ (rw (eq-eqb _ _ c.if-last-eq0.true))

pub returns-then-last-gt0 : goal.returns-then-last-gt0
unfolding order_by
returns-then-last-gt0 c =
    by_last _ _ _ _
    (rw (
      ne_eqb _ _ c.if-last-eq0.false,
      eq-eqb _ _ c.if-last-service.true,
      lt-ltb _ _ c.if-last-gt0.true,
    ))

pub returns-else-last-gt0 : goal.returns-else-last-gt0
unfolding order_by
returns-else-last-gt0 c =
    by_last _ _ _ _
    (rw (ne_eqb _ _ c.if-last-eq0.false, eq-eqb _ _ c.if-last-service.true, le-ltb _ _ c.if-last-gt0.false))

pub returns-then-last-service-2 : goal.returns-then-last-service-2
unfolding order_by
returns-then-last-service-2 c =
    by_last _ _ _ _
    (rw (
      ne_eqb _ _ c.if-last-eq0.false,
      ne_eqb _ _ c.if-last-service.false,
      lt-ltb _ _ c.if-last-service-2.true,
    ))

pub returns-else-last-service-2 : goal.returns-else-last-service-2
unfolding order_by
returns-else-last-service-2 c =
    by_last _ _ _ _
    (rw (ne_eqb _ _ c.if-last-eq0.false, ne_eqb _ _ c.if-last-service.false, le-ltb _ _ c.if-last-service-2.false))
