-- `TableLines::store_own` meets its contract. The invariant: what is stored, with the rules of the lines that are left behind it, is all.
use Prim.Native.Nat.{ℕ, ◌+◌, ◌≤◌}
use mathlib.Core.Path.{◌≡◌, refl, sym, ap, ◌∙◌}
use mathlib.Core.List.{List}
use native.Mathlib.Omega.{arith}
use lib.ListN.{length, set, length-set}
use lib.Seq.{sets}
use Rattle.expansion.specs.OldList.{numbers_of}
use Rattle.expansion.specs.declared.rule.Rule.{Rule}
use Rattle.packing.specs.Count.{Line}
use Rattle.sheets.specs.RuleSheet.{count_of}
use Rattle.sheets.proofs.OwnNumbers.{own-more, own-past, own-none, own-stored}
use Rattle.sheets.proofs.rule_lines.TableLines.store_own.Goals as goal
use Rattle.sheets.proofs.rule_lines.TableLines.store_own.Goals.{then-rule-service, else-rule-service}
use Rattle.sheets.proofs.rule_lines.TableLines.store_own.Goals.{Then-rule-service}

pub loop-i-init : goal.loop-i-init
unfolding count_of
loop-i-init c = (refl, (omega (arith, c.requires), refl))

-- a line of the service has room
wide : (c : Then-rule-service) → let l = c.loop-i in l.at + 3 ≤ length l.rules
wide c =
    let l = c.loop-i in
    let t = c.args.self.now in
    let is = ap (λ (x : Line). x.service) c.line-rule.ensures.same in
    omega (
      arith,
      l.invariant.0,
      l.invariant.1.0,
      ap length (own-more t.cells.now t.n t.ruled.room c.args.service l.i (omega arith) (sym is ∙ c.if-rule-service.true)),
    )

pub offset_bounds-rules-at : goal.offset_bounds-rules-at
offset_bounds-rules-at c = omega (arith, wide (goal.at.offset_bounds-rules-at c).Then-rule-service)

pub bounds-rules-at : goal.bounds-rules-at
bounds-rules-at c = omega (arith, wide (goal.at.bounds-rules-at c).Then-rule-service)

pub overflow_add-rules : goal.overflow_add-rules
overflow_add-rules c = omega (arith, wide (goal.at.overflow_add-rules c).Then-rule-service)

pub offset_bounds-rules-at-then-rule-service : goal.offset_bounds-rules-at-then-rule-service
offset_bounds-rules-at-then-rule-service c = omega (arith, wide (goal.at.offset_bounds-rules-at-then-rule-service c).Then-rule-service)

pub bounds-rules-at-then-rule-service : goal.bounds-rules-at-then-rule-service
bounds-rules-at-then-rule-service c = simp length-set (omega (arith, wide (goal.at.bounds-rules-at-then-rule-service c).Then-rule-service))

pub overflow_add-rules-then-rule-service : goal.overflow_add-rules-then-rule-service
overflow_add-rules-then-rule-service c = omega (arith, wide (goal.at.overflow_add-rules-then-rule-service c).Then-rule-service)

pub offset_bounds-rules-at-then-rule-service-2 : goal.offset_bounds-rules-at-then-rule-service-2
offset_bounds-rules-at-then-rule-service-2 c = omega (arith, wide (goal.at.offset_bounds-rules-at-then-rule-service-2 c).Then-rule-service)

pub bounds-rules-at-then-rule-service-2 : goal.bounds-rules-at-then-rule-service-2
bounds-rules-at-then-rule-service-2 c = simp length-set (omega (arith, wide (goal.at.bounds-rules-at-then-rule-service-2 c).Then-rule-service))

pub overflow_add-at : goal.overflow_add-at
overflow_add-at c = omega (arith, wide (goal.at.overflow_add-at c).Then-rule-service)

-- the buffer keeps its length over a rule
kept : (out : List ℕ) (i a j b k d : ℕ) → length (set (set (set out i a) j b) k d) ≡ length out
kept out i a j b k d = simp length-set

pub loop-i-preserved : goal.loop-i-preserved
loop-i-preserved c =
    let l = c.loop-i in
    let t = c.args.self.now in
    let cs = t.cells.now in
    let s = c.args.service in
    let same = c.line-rule.ensures.same in
    let is = ap (λ (x : Line). x.service) same in
    elim c.if-rule-service.branch [
      | then-rule-service w ↦ let own = sym is ∙ w.if-rule-service.true in
          let more = own-more cs t.n t.ruled.room s l.i (omega arith) own in (
            ap length w.rules-is ∙ kept l.rules l.at _ (l.at + 1) _ (l.at + 2) _ ∙ l.invariant.0,
            (
              omega (arith, w.at-is, l.invariant.1.0, ap length more),
              rw (w.rules-is, w.at-is, ap (λ (x : Line). x.rule.len) same, ap (λ (x : Line). x.rule.value) same, ap (λ (x : Line). x.rule.backend) same)
                  (own-stored cs t.n t.ruled.room s l.i l.rules l.at (omega arith) own) ∙ l.invariant.1.1,
            ),
          )
      | else-rule-service w ↦ let past = own-past cs t.n t.ruled.room s l.i (omega arith) (λ e. w.if-rule-service.false (is ∙ e)) in (
        ap length w.rules-is ∙ l.invariant.0,
        (
          omega (arith, w.at-is, l.invariant.1.0, ap length past),
          rw (w.rules-is, w.at-is) (sym (ap (λ (rs : List Rule). sets l.rules l.at (numbers_of rs)) past)) ∙ l.invariant.1.1,
        ),
      )
    ]

pub returns : goal.returns
unfolding numbers_of
returns c =
    let l = c.loop-i in
    let t = c.args.self.now in
    sym (ap (λ (rs : List Rule). sets l.rules l.at (numbers_of rs)) (own-none t.cells.now t.n t.ruled.room c.args.service l.i (omega arith)))
    ∙ l.invariant.1.1
