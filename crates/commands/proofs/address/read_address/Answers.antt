-- `address::read_address` meets its contract: the numeral, or else the dotted quad, which is never above the limit.
use mathlib.Core.Path.{sym, ◌∙◌}
use Rattle.commands.specs.Address.{address_of}
use Rattle.commands.proofs.Numerals.{first, second}
use Rattle.commands.proofs.Limit.{quad-capped}
use Rattle.commands.proofs.address.read_address.Goals as goal

pub returns-in-Some : goal.returns-in-Some
unfolding address_of
returns-in-Some c = sym (first _ _ _ _ (sym c.in-Some.ensures))

pub returns-in-None : goal.returns-in-None
unfolding address_of
returns-in-None c =
    c.read_quad.ensures ∙ sym (second _ _ _ (sym c.in-None.ensures) ∙ quad-capped _)
