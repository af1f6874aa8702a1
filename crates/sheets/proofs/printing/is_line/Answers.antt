-- `printing::is_line` meets its contract: one test after the other.
use Prim.Native.Nat.{ℕ}
use mathlib.Core.Path.{◌≡◌, refl, sym, ◌∙◌}
use mathlib.Core.Bool.{Bool, true, false}
use native.Mathlib.Omega.{arith}
use borrow.Author.Tests.{leb-true}
use Rattle.numerals.specs.Limits.{most_id, most_services}
use Rattle.numerals.specs.Pick.{both}
use Rattle.expansion.specs.Answer.{in_limits}
use Rattle.expansion.specs.FirstMatch.{is_rule}
use Rattle.numerals.specs.Suffix.{is_suffix}
use Rattle.numerals.proofs.Powers.{shifted}
use Rattle.sheets.specs.RuleSheet.{is_line}
use Rattle.sheets.specs.Inner.TableNumbers.{line}
use Rattle.sheets.proofs.TableChecks.{contains-is}
use Rattle.sheets.proofs.printing.is_line.Goals as goal
use Rattle.sheets.proofs.printing.is_line.Goals.{then-contains, else-contains, then-line-k, else-line-k, Joined-line-k}

-- the first two tests together
front :
    (c : Joined-line-k)
    → let a = c.args in c.if-line-k.value ≡ both (in_limits 1 most_services a.line.now.service) (is_suffix a.k a.line.now.len a.line.now.value)
unfolding is_suffix
front c =
    let a = c.args in
    let n = c.new.ensures in
    let s : c.contains.result ≡ in_limits 1 most_services a.line.now.service =
    rw (n.start, n.end, n.exhausted) at c.contains.ensures.value ∙ contains-is 1 most_services a.line.now.service in
    rw (sym s) (elim c.if-contains.branch [
      | then-contains w ↦ elim c.if-line-k.branch [
        | then-line-k v ↦ let e = sym w.value-is ∙ v.if-line-k.true in
            rw (v.value-is, w.if-contains.true, e, shifted a.line.now.len (omega (arith, leb-true a.line.now.len a.k e))) refl
        | else-line-k v ↦ rw (v.value-is, v.if-line-k.false, w.if-contains.true, sym w.value-is ∙ v.if-line-k.false) refl
      ]
      | else-contains w ↦ elim c.if-line-k.branch [
        | then-line-k v ↦ absurd (cc (w.value-is, w.if-contains.false, v.if-line-k.true))
        | else-line-k v ↦ rw (v.value-is, v.if-line-k.false, w.if-contains.false) refl
      ]
    ])

parted : (s p b : Bool) → both (both s p) b ≡ both s (both p b)
parted true p b = refl
parted false p b = refl

whole :
    (k service len value backend : ℕ)
    → is_line k (line service len value backend) ≡ both (both (in_limits 1 most_services service) (is_suffix k len value)) (in_limits 1 most_id backend)
unfolding is_line is_rule
whole k service len value backend = sym (parted (in_limits 1 most_services service) (is_suffix k len value) (in_limits 1 most_id backend))

pub returns-then-line : goal.returns-then-line
returns-then-line c =
    let r = c.args.line.now in
    let n = c.new-then-line.ensures in
    let b = rw (n.start, n.end, n.exhausted) at c.contains-then-line.ensures.value ∙ contains-is 1 most_id r.backend in
    rw (whole c.args.k r.service r.len r.value r.backend, ← front (goal.at.returns-then-line c).Joined-line-k, c.if-line.true) b

pub returns-else-line : goal.returns-else-line
returns-else-line c =
    let r = c.args.line.now in
    rw (whole c.args.k r.service r.len r.value r.backend, ← front (goal.at.returns-else-line c).Joined-line-k, c.if-line.false) refl
