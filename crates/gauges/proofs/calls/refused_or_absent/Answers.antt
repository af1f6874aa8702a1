-- `calls::refused_or_absent` meets its contract: refusals are told apart as their numbers are.
use Rattle.std.proofs.Common.{rules}
use mathlib.Core.Path.{◌≡◌, refl, sym, ap, ◌∙◌}
use denote.Enum.Bare.{same_true, same_false}
use lib.ListN.{get_or}
use Prim.Native.Nat.{ℕ, ◌-◌}
use borrow.Author.Tests.{eq-eqb, ne_eqb}
use Rattle.numerals.specs.Refusals.{number_of, no1, no8}
use Rattle.numerals.specs.declared.refusal.Refusal.{Refusal}
use Rattle.numerals.specs.contracts.refusal.Refusal.{the_type}
use Rattle.numerals.proofs.Refusals.{all, numbered}
use Rattle.gauges.specs.Inner.Absence.{in_place_of_8}
use Rattle.gauges.proofs.calls.refused_or_absent.Goals as goal

pub returns-then-eq : goal.returns-then-eq
unfolding in_place_of_8
returns-then-eq c =
    let is : c.args.r.why ≡ no8 = same_true the_type (search rules) _ _ (sym c.if-eq.ensures) in
    rw (eq-eqb (number_of c.args.r.why) (number_of no8) (ap number_of is))

-- one number, one refusal
one : (a b : Refusal) → number_of a ≡ number_of b → a ≡ b
one a b e = sym (numbered a) ∙ ap (λ (n : ℕ). get_or all (n - 1) no1) e ∙ numbered b

pub returns : goal.returns
unfolding in_place_of_8
returns c =
    rw (ne_eqb (number_of c.args.r.why) (number_of no8) (λ e. same_false the_type _ _ (sym c.if-eq.ensures) (one _ _ e)))
