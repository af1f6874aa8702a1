-- The numbers in the fields of a text, stored one after the other.
use Rattle.std.specs.Prelude.{Option, unwrap_or}
use Prim.Native.Nat.{ℕ, zero, suc, ◌+◌, min, ◌≤◌, ◌<◌}
use native.Mathlib.Nat.{zero-add}
use native.Mathlib.Numerals.{add-one}
use native.Mathlib.Omega.{arith}
use mathlib.Core.Path.{◌≡◌, refl, sym, ap, ◌∙◌}
use mathlib.Core.List.{List, [], ◌∷◌}
use lib.ListN.{length, get_or, set, length-map, get_or-map}
use lib.Seq.{slice, take-length, paste, paste-zero, paste-suc, length-paste}
use Rattle.numerals.specs.Text.{split}
use Rattle.numerals.specs.Decimal.{no_leading_zero, is_numeral, number}
use Rattle.vectors.specs.Parts.{behind, part, fields}
use Rattle.vectors.specs.Numbers.{numeral, numbers}
use Rattle.vectors.proofs.Parts.{Walked, walked_none, walked_next, walked-part}

pub fields-none : (s : List ℕ) → length s ≡ 0 → length (fields s) ≡ 0
unfolding fields
fields-none [] h = refl
fields-none (b ∷ s) h = absurd (omega arith)

pub fields-some : (s : List ℕ) → (length s ≡ 0 → ⊥) → fields s ≡ split 32 s
unfolding fields
fields-some [] n = absurd (n refl)
fields-some (b ∷ s) n = refl

-- the field that an empty text is said not to have is empty
field_at : (s : List ℕ) (i : ℕ) → get_or (fields s) i [] ≡ get_or (split 32 s) i []
unfolding fields split
field_at [] zero = refl
field_at [] (suc i) = refl
field_at (b ∷ s) i = refl

count-numbers : (s : List ℕ) → length (numbers s) ≡ length (fields s)
unfolding numbers
count-numbers s = length-map (fields s) numeral

-- a field that is read whole
pub number_read : (f g : List ℕ) (r : Option ℕ) → f ≡ g → r ≡ number 0 18446744073709551615 (slice 0 (length f) f) → unwrap_or r 0 ≡ numeral g
unfolding numeral
number_read f g r same is = rw (is, take-length f, same)

number-here : (s : List ℕ) (i from : ℕ) → Walked 32 s i from → numeral (part 32 from s) ≡ get_or (numbers s) i 0
unfolding numbers numeral number is_numeral no_leading_zero
number-here s i from w =
    ap numeral (walked-part 32 s i from w ∙ sym (field_at s i)) ∙ sym (get_or-map numeral (fields s) i [])

-- of the n numbers for which a buffer has room the first i are stored in it, and the other fields stand from a position on
pub record Stored (s buffer out : List ℕ) (n from i : ℕ) : Type 0 where
  pub within : i ≤ n
  pub all : n ≡ min (length (numbers s)) (length buffer)
  pub is : out ≡ paste buffer 0 (numbers s) i
  pub walked : Walked 32 s i from

pub stored-none : (s buffer : List ℕ) (n : ℕ) → n ≡ min (length (fields s)) (length buffer) → Stored s buffer buffer n 0 0
stored-none s buffer n h =
    record {
      within = omega arith;
      all = rw (count-numbers s) h;
      is = paste-zero buffer 0 (numbers s);
      walked = walked_none 32 s;
    }

module _ {s buffer out : List ℕ} {n from i : ℕ} (q : Stored s buffer out n from i) where
  pub stored-length : length out ≡ length buffer
  stored-length = ap length q.is ∙ length-paste buffer 0 (numbers s) i (omega arith) (omega arith)

  pub stored_next :
      (v next : ℕ) → i < n → v ≡ numeral (part 32 from s) → next ≡ behind 32 from s → Stored s buffer (set out i v) n next (i + 1)
  stored_next v next h value behind-it =
      let vs = numbers s in
      let start : set out i v ≡ set (paste buffer 0 vs i) (0 + i) (get_or vs i 0) =
      rw (q.is, zero-add i, value, number-here s i from q.walked) in
      record {
        within = omega arith;
        all = q.all;
        is = rw (add-one i) (start ∙ paste-suc buffer 0 vs i 0 (omega arith) (omega arith));
        walked = walked_next 32 s i from next q.walked behind-it;
      }
