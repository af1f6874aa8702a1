-- `update_read::judge` meets its contract: each return by the tests that led to it.
use Rattle.std.specs.Prelude.{Err}
use Prim.Native.Nat.{ℕ, ◌*◌}
use mathlib.Core.Path.{◌≡◌, sym, ap, ◌∙◌}
use mathlib.Core.Bool.{Bool, true, false}
use native.Mathlib.Omega.{arith}
use lib.Dec.{leb, ltb, eqb}
use borrow.Author.Tests.{le-ltb, lt-ltb, eq-eqb, ne_eqb}
use Rattle.std.proofs.lemmas.Grind.{common_steps}
use Rattle.expansion.specs.Answer.{in_limits}
use Rattle.sheets.specs.Inner.Update.{judged}
use Rattle.numerals.specs.Pick.{both}
use Rattle.sheets.specs.declared.answer.UpdateRecord.{UpdateRecord}
use Rattle.sheets.proofs.update_read.judge.Goals as goal
use Rattle.sheets.proofs.update_read.judge.Goals.{then-rules-found-via-then-rules-found, then-rules-found-via-else-rules-found+then-ids-found}
use Rattle.sheets.proofs.update_read.judge.Goals.{then-rules-found-via-else-rules-found+else-ids-found+then-weights-found}
use Rattle.sheets.proofs.update_read.judge.Goals.{Else-found-eq0, Else-found-k, Then-not-contains, Else-not-contains}

pub returns-then-found-eq0 : goal.returns-then-found-eq0
unfolding judged
returns-then-found-eq0 c =
    let a = c.args in
    ap Err c.lacking.ensures ∙ sym (rw (le-ltb 0 a.found.rules (omega (arith, c.if-found-eq0.true))))

some : (c : Else-found-eq0) → ltb 0 c.args.found.rules ≡ true
some c = lt-ltb 0 c.args.found.rules (omega (arith, c.if-found-eq0.false))

outside : (c : Then-not-contains) → let a = c.args in in_limits 1 a.services a.service ≡ false
unfolding in_limits
outside c = grind (arith, common_steps)

pub returns-then-not-contains : goal.returns-then-not-contains
unfolding judged
returns-then-not-contains c =
    ap Err c.lacking-then-not-contains.ensures
    ∙ sym (rw (some (goal.at.returns-then-not-contains c).Else-found-eq0, outside (goal.at.returns-then-not-contains c).Then-not-contains))

there : (c : Else-not-contains) → let a = c.args in in_limits 1 a.services a.service ≡ true
unfolding in_limits
there c = grind (arith, common_steps)

pub returns-then-found-k : goal.returns-then-found-k
unfolding judged
returns-then-found-k c =
    ap Err c.refused_at.ensures ∙ sym (rw (
      some (goal.at.returns-then-found-k c).Else-found-eq0,
      there
          (goal.at.returns-then-found-k c).Else-not-contains,
      ne_eqb _ _ c.if-found-k.true,
    ))

same : (c : Else-found-k) → let a = c.args in eqb a.found.k a.k ≡ true
same c = eq-eqb _ _ c.if-found-k.false

-- there is room for the rules, the ids and the weights
abbrev room : UpdateRecord → ℕ → ℕ → ℕ → Bool
room m rules ids weights = both (leb (3 * m.rules) rules) (both (leb m.backends ids) (leb m.backends weights))

pub returns-then-rules-found : goal.returns-then-rules-found
unfolding judged
returns-then-rules-found c =
    let a = c.args in
    let less : room a.found a.rules a.ids a.weights ≡ false =
    elim c.then-rules-found.branch [
      | then-rules-found-via-then-rules-found w ↦ grind (arith, common_steps)
      | then-rules-found-via-else-rules-found+then-ids-found w ↦ grind (arith, common_steps)
      | then-rules-found-via-else-rules-found+else-ids-found+then-weights-found w ↦ grind (arith, common_steps)
    ] in
    ap Err c.refused_at-then-rules-found.ensures ∙ sym (rw (
      some (goal.at.returns-then-rules-found c).Else-found-eq0,
      there (goal.at.returns-then-rules-found c).Else-not-contains,
      same (goal.at.returns-then-rules-found c).Else-found-k,
      less,
    ))

pub returns : goal.returns
unfolding judged
returns c =
    let a = c.args in
    let enough : room a.found a.rules a.ids a.weights ≡ true = grind (arith, common_steps) in
    sym (rw (
      some (goal.at.returns c).Else-found-eq0,
      there (goal.at.returns c).Else-not-contains,
      same (goal.at.returns c).Else-found-k,
      enough,
    ))
