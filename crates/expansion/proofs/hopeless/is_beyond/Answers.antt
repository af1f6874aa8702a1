-- `hopeless::is_beyond`: no number is large, and that the two are apart is one of the two tests of the definition.
use Prim.Native.Nat.{ℕ, ◌+◌, ◌*◌, ◌^◌}
use mathlib.Core.Bool.{true}
use mathlib.Core.Path.{◌≡◌}
use native.Mathlib.Omega.{arith}
use lib.Dec.{ltb}
use Rattle.std.specs.Int.{abs_diff}
use Rattle.std.proofs.lemmas.Bool.Decides.{nat_tests}
use Rattle.numerals.specs.Limits.{unit}
use Rattle.numerals.specs.Pick.{pick}
use Rattle.numerals.proofs.Powers.{shifted}
use Rattle.expansion.proofs.Signed.{wants-few}
use Rattle.expansion.proofs.hopeless.is_beyond.Goals as goal

apart : (h w t : ℕ) → ltb t (abs_diff h w) ≡ pick (ltb (w + t) h) true (ltb (h + t) w)
apart h w t = grind (arith, nat_tests)

pub overflow_mul-wants : goal.overflow_mul-wants
overflow_mul-wants c =
    let r = c.requires in
    rw (shifted c.args.k r.0.0) (record { fits = omega (arith, wants-few c.args.weight c.args.k r.1.0 r.0.0) })

pub overflow_mul-slack : goal.overflow_mul-slack
overflow_mul-slack c =
    let r = c.requires in
    rw (shifted c.args.k r.0.0) (record { fits = omega (arith, wants-few c.args.tolerance c.args.k r.0.1 r.0.0) })

pub returns : goal.returns
unfolding unit
returns c =
    let a = c.args in
    let diff = rw (shifted a.k c.requires.0.0) at c.abs_diff.ensures in
    rw (shifted a.k c.requires.0.0, diff) (apart (a.share * unit) (a.weight * 2 ^ a.k) (a.tolerance * 2 ^ a.k))
