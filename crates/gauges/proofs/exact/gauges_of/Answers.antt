-- `exact::gauges_of` meets its contract: no cast, division or product of it rounds.
use Prim.Native.Nat.{◌^◌}
use native.Mathlib.Omega.{arith}
use Rattle.numerals.proofs.Powers.{pow-few, shifted}
use Rattle.gauges.proofs.Operations.{whole-value, whole_in, gauges-exact}
use Rattle.gauges.proofs.exact.gauges_of.Goals as goal

pub int_to_float-share : goal.int_to_float-share
int_to_float-share c = whole_in _ (omega (arith, c.requires.1))

pub int_to_float-share-2 : goal.int_to_float-share-2
int_to_float-share-2 c =
    whole_in _ (omega (arith, shifted c.args.k c.requires.0, pow-few c.args.k c.requires.0))

pub int_to_float-load : goal.int_to_float-load
int_to_float-load c = whole_in _ (omega (arith, c.requires.2))

-- what is divided, what divides and what multiplies are the whole numbers that they should be
pub returns : goal.returns
returns c =
    let a = c.args in
    gauges-exact _ _ _ a.held a.k a.volume c.requires.1 c.requires.0 c.requires.2
    (whole-value a.held (omega (arith, c.requires.1)))
    (rw (shifted a.k c.requires.0) (whole-value (2 ^ a.k) (omega (arith, pow-few a.k c.requires.0))))
    (whole-value a.volume (omega (arith, c.requires.2)))
