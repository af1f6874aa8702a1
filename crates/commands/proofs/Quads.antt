-- The bytes of a dotted quad read one after the other, each put behind those before it.
use Rattle.std.specs.Prelude.{None, Option, Some}
use Prim.Native.Nat.{ℕ, suc, ◌+◌, ◌-◌, ◌*◌, ◌^◌, ◌≤◌, ◌<◌}
use native.Mathlib.Nat.{le_refl, lt_of_lt_of_le, zero-add, pow-suc, pow-le-pow_right}
use native.Mathlib.Omega.{arith}
use mathlib.Core.Path.{◌≡◌, refl, sym, ap, ◌∙◌}
use mathlib.Core.List.{List, [], ◌∷◌}
use lib.ListN.{length}
use lib.Seq.{slice, take-length}
use Rattle.numerals.specs.Digits.{on_value}
use Rattle.numerals.specs.Text.{split, index_of}
use Rattle.numerals.proofs.Decimal.{only-text}
use Rattle.sheets.proofs.FieldParts.{fields_left, left-all, left-none, left-more}
use Rattle.commands.specs.Address.{address_limit, byte, quad}

-- what v is once the bytes of these fields are put behind it
unfoldable pub bytes_from : ℕ → List (List ℕ) → Option ℕ
bytes_from v [] = Some v
bytes_from v (f ∷ fs) = on_value (byte f) (λ b. bytes_from (v * 256 + b) fs)

quad-bytes : (fs : List (List ℕ)) → length fs ≡ 4 → quad fs ≡ bytes_from 0 fs
unfolding quad bytes_from
quad-bytes [] h = absurd (omega arith)
quad-bytes (a ∷ []) h = absurd (omega arith)
quad-bytes (a ∷ b ∷ []) h = absurd (omega arith)
quad-bytes (a ∷ b ∷ c ∷ []) h = absurd (omega arith)
quad-bytes (a ∷ b ∷ c ∷ d ∷ []) h = simp zero-add
quad-bytes (a ∷ b ∷ c ∷ d ∷ e ∷ fs) h = absurd (omega arith)

pub quad-other : (fs : List (List ℕ)) → (length fs ≡ 4 → ⊥) → quad fs ≡ None
unfolding quad
quad-other [] n = refl
quad-other (a ∷ []) n = refl
quad-other (a ∷ b ∷ []) n = refl
quad-other (a ∷ b ∷ c ∷ []) n = refl
quad-other (a ∷ b ∷ c ∷ d ∷ []) n = absurd (n refl)
quad-other (a ∷ b ∷ c ∷ d ∷ e ∷ fs) n = refl

-- the fields from position `at` on
abbrev pub rest : List ℕ → ℕ → List (List ℕ)
rest s at = fields_left 46 at (length s) s

-- v is what the bytes before position `at` are, and the others stand from there on
pub record ReadTo (s : List ℕ) (v at : ℕ) : Type 0 where
  pub whole : quad (split 46 s) ≡ bytes_from v (rest s at)
  pub few : length (rest s at) ≤ 4
  pub small : v < 256 ^ (4 - length (rest s at))

pub read_below : {s : List ℕ} {v at : ℕ} → ReadTo s v at → v < (address_limit + 1)
read_below {s} {v} {at} q =
    lt_of_lt_of_le q.small (pow-le-pow_right {n = 256} (omega arith) {i = 4 - length (rest s at)} {j = 4} (omega arith))

pub read_none : (s : List ℕ) → length (split 46 (slice 0 (length s) s)) ≡ 4 → ReadTo s 0 0
read_none s h =
    let all : rest s 0 ≡ split 46 s = left-all 46 0 (length s) s (omega arith) ∙ ap (split 46) (take-length s) in
    let four : length (split 46 s) ≡ 4 = ap (λ (l : List ℕ). length (split 46 l)) (sym (take-length s)) ∙ h in
    record {
      whole = quad-bytes (split 46 s) four ∙ ap (bytes_from 0) (sym all);
      few = omega (arith, ap length all);
      small = rw (all, four) (omega arith);
    }

pub read_all : {s : List ℕ} {v at : ℕ} → ReadTo s v at → length s < at → quad (split 46 s) ≡ Some v
unfolding bytes_from
read_all {s} {v} {at} q h = q.whole ∙ ap (bytes_from v) (left-none 46 at (length s) s h)

-- the byte that ends at the next dot
module _
    {s : List ℕ}
    {v at : ℕ}
    (q : ReadTo s v at)
    (h : at ≤ length s)
    (e : ℕ)
    (is : e ≡ at + index_of 46 (slice at (length s) s))
  where
    more : rest s at ≡ slice at e s ∷ rest s (e + 1)
    more = left-more 46 at (length s) e s h (le_refl (length s)) is

    reads : quad (split 46 s) ≡ on_value (byte (slice at e s)) (λ b. bytes_from (v * 256 + b) (rest s (e + 1)))
    unfolding bytes_from
    reads = q.whole ∙ ap (bytes_from v) more

    pub read-bad : byte (slice at e s) ≡ None → quad (split 46 s) ≡ None
    unfolding on_value
    read-bad bad = reads ∙ rw bad

    pub read_next : (b : ℕ) → byte (slice at e s) ≡ Some b → ReadTo s (v * 256 + b) (e + 1)
    unfolding on_value byte
    read_next b good =
        let n = length (rest s (e + 1)) in
        let one : length (rest s at) ≡ suc n = ap length more in
        let power : 4 - n ≡ suc (4 - suc n) = omega (arith, q.few) in
        let before : v < 256 ^ (4 - suc n) = rw one at q.small in
        record {
          whole = reads ∙ rw good;
          few = omega (arith, q.few);
          small = rw (power, pow-suc 256 (4 - suc n)) (omega (arith, (only-text 0 255 b (slice at e s) good).high));
        }
