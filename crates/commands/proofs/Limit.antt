-- The address that a dotted quad is has 32 bits, and no number that a machine word can't hold is read.
use Rattle.std.specs.Prelude.{None, Option, Some}
use Prim.Native.Nat.{ℕ, ◌+◌, ◌*◌, ◌≤◌, ◌<◌, min}
use native.Mathlib.Omega.{arith}
use mathlib.Core.Path.{◌≡◌, refl, ap}
use mathlib.Core.List.{List, [], ◌∷◌}
use Rattle.numerals.specs.Digits.{on_value}
use Rattle.numerals.proofs.Decimal.{only-text}
use Rattle.commands.specs.Inner.Numeral.{capped}
use Rattle.commands.specs.Address.{address_limit, byte, quad}

no_value : (v : ℕ) {P : Type 0} → None ≡ Some v → P
no_value v h = absurd (let z : ◌≡◌ {A = ℕ} 0 1 = cc in omega arith)

byte-then : (f : List ℕ) (more : ℕ → Option ℕ) (v : ℕ) → on_value (byte f) more ≡ Some v → (b : ℕ) × (b ≤ 255) × (more b ≡ Some v)
unfolding byte on_value
byte-then f more v = go (byte f) refl
  where
    go : (n : Option ℕ) → byte f ≡ n → on_value n more ≡ Some v → (b : ℕ) × (b ≤ 255) × (more b ≡ Some v)
    go (Some b) e h = (b, (only-text 0 255 b f e).high, h)
    go None e h = no_value v h

quad-below : (v : ℕ) (fs : List (List ℕ)) → quad fs ≡ Some v → v < (address_limit + 1)
unfolding quad
quad-below v [] h = no_value v h
quad-below v (a ∷ []) h = no_value v h
quad-below v (a ∷ b ∷ []) h = no_value v h
quad-below v (a ∷ b ∷ c ∷ []) h = no_value v h
quad-below v (a ∷ b ∷ c ∷ d ∷ []) h =
    let w = byte-then a _ v h in
    let x = byte-then b _ v w.2 in
    let y = byte-then c _ v x.2 in
    let z = byte-then d _ v y.2 in
    let is : ((w.0 * 256 + x.0) * 256 + y.0) * 256 + z.0 ≡ v = cc z.2 in
    omega (arith, w.1, x.1, y.1, z.1)
quad-below v (a ∷ b ∷ c ∷ d ∷ e ∷ fs) h = no_value v h

-- so nothing is lost where the limit is that of an address
pub quad-capped : (fs : List (List ℕ)) → capped address_limit (quad fs) ≡ quad fs
unfolding capped on_value
quad-capped fs = go (quad fs) refl
  where
    go : (n : Option ℕ) → quad fs ≡ n → capped address_limit n ≡ n
    go (Some v) e =
        let is : min v (address_limit + 1) ≡ v = omega (arith, quad-below v fs e) in
        ap Some is
    go None e = refl
