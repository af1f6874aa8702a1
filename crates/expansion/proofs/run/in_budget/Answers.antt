-- `run::in_budget`: its cases are those of `in_budget`.
use Prim.Native.Nat.{ℕ, ◌<◌}
use mathlib.Core.Path.{◌≡◌, refl, sym, ap, ◌∙◌}
use borrow.Author.Tests.{lt-ltb, le-ltb}
use Rattle.expansion.specs.Inner.Run.{in_budget}
use Rattle.expansion.proofs.run.in_budget.Goals as goal
use Rattle.std.specs.declared.ops.ControlFlow.{ControlFlow}
use Rattle.expansion.specs.declared.rule.Ended.{Ended}
use Rattle.expansion.specs.declared.rule.Move.{Move}
use Rattle.std.specs.declared.ops.ControlFlow.TheVariants.{Break, Continue}

-- where there is room, nothing changes
with-room : (x : ControlFlow Ended Move) (c budget : ℕ) → c < budget → in_budget x c budget ≡ x
with-room (Break e) c budget l = refl
with-room (Continue m) c budget l = rw (lt-ltb c budget l)

pub returns-then-count-budget : goal.returns-then-count-budget
returns-then-count-budget c = let a = c.args in sym (with-room a.next a.count a.budget c.if-count-budget.true)

pub returns-in-Break : goal.returns-in-Break
returns-in-Break c =
    let a = c.args in
    sym (ap (λ (x : ControlFlow Ended Move). in_budget x a.count a.budget) c.in-Break.is)

pub returns-in-Continue : goal.returns-in-Continue
returns-in-Continue c =
    let a = c.args in
    sym (ap (λ (x : ControlFlow Ended Move). in_budget x a.count a.budget) c.in-Continue.is ∙ rw (le-ltb a.count a.budget c.if-count-budget.false))
