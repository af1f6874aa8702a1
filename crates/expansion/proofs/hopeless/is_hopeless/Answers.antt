-- `hopeless::is_hopeless` meets its contract. The loop's invariant: `count` of the first b backends are beyond the tolerance.
use Prim.Native.Nat.{ℕ, suc, ◌+◌, ◌*◌, ◌^◌, ◌<◌}
use mathlib.Core.Bool.{Bool, true, false}
use mathlib.Core.Path.{◌≡◌, refl, ap, sym, ◌∙◌}
use native.Mathlib.Omega.{arith}
use lib.ListN.{length, get_or}
use Rattle.numerals.specs.Limits.{unit}
use Rattle.numerals.specs.Sums.{sum_to, count_to}
use Rattle.numerals.proofs.Sums.{bit, count-suc}
use Rattle.expansion.specs.Inner.Hopeless.{is_apart}
use Rattle.expansion.proofs.Bounds.{weight-few}
use Rattle.expansion.proofs.hopeless.is_hopeless.Goals as goal
use Rattle.expansion.proofs.hopeless.is_hopeless.Goals.{then-is_beyond, else-is_beyond}

-- of the first b, and one more
none : (t : ℕ → Bool) → 0 ≡ count_to 0 t
unfolding count_to sum_to
none t = refl

passed : (t : ℕ → Bool) (count b : ℕ) (r : Bool) → count ≡ count_to b t → r ≡ t b → r ≡ true → count + 1 ≡ count_to (b + 1) t
passed t count b r e h y =
    let n : b + 1 ≡ suc b = omega arith in
    omega (arith, count-suc b t, ap bit (sym h ∙ y), ap (λ (x : ℕ). count_to x t) n)

failed : (t : ℕ → Bool) (count b : ℕ) (r : Bool) → count ≡ count_to b t → r ≡ t b → r ≡ false → count ≡ count_to (b + 1) t
failed t count b r e h y =
    let n : b + 1 ≡ suc b = omega arith in
    omega (arith, count-suc b t, ap bit (sym h ∙ y), ap (λ (x : ℕ). count_to x t) n)

pub loop-b-init : goal.loop-b-init
loop-b-init c = (omega arith, none _)

pub is_beyond-requires : goal.is_beyond-requires
is_beyond-requires c =
    let s = c.args.service.now in
    let b = c.loop-b.b in
    let inside : b < length s.weights.now = omega arith in
    ((s.valid.few_bits, s.valid.tolerable), (weight-few s b inside, c.requires.by_index b inside))

pub loop-b-preserved : goal.loop-b-preserved
loop-b-preserved c =
    let a = c.args in
    let s = a.service.now in
    let r = c.is_beyond.result in
    let was = c.loop-b.invariant.1 in
    let is = c.is_beyond.ensures in
    let t : ℕ → Bool = λ b. is_apart (get_or a.shares.now b 0 * unit) (get_or s.weights.now b 0 * 2 ^ s.k) (s.tolerance * 2 ^ s.k) in
    elim c.if-is_beyond.branch [
      | then-is_beyond w ↦ (omega arith, w.count-is ∙ passed t c.loop-b.count c.loop-b.b r was is w.if-is_beyond.true)
      | else-is_beyond w ↦ (omega arith, w.count-is ∙ failed t c.loop-b.count c.loop-b.b r was is w.if-is_beyond.false)
    ]
