-- What is equal to itself is no NaN, so its bits are defined.
use Rattle.std.proofs.Common.{◌≡◌, false, not, T, sym, ◌∙◌, subst}
use lib.Ieee.{Float, nan, inf, fin, ne, is_nan}
use lib.Ieee.Compare.{nan_differs}
use Rattle.trial.proofs.of_gauges.show_bits.Goals as goal

no_nan : (x : Float) → ne x x ≡ false → T (not (is_nan x))
unfolding is_nan
no_nan nan same = subst T (sym nan_differs ∙ same) tt
no_nan (inf s) same = tt
no_nan (fin s m e) same = tt

pub float_to_bits-x : goal.float_to_bits-x
float_to_bits-x g c = no_nan c.args.x c.if-x.false
