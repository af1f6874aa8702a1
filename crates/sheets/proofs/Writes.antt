-- Writing one part after the other writes their bytes after each other.
use Rattle.std.specs.Prelude.{Ok, Result}
use Prim.Native.Nat.{ℕ, suc, ◌+◌, ◌<◌}
use mathlib.Core.Path.{◌≡◌, refl, sym, ap, ◌∙◌}
use mathlib.Core.List.{List, [], ◌∷◌, ◌++◌}
use native.Mathlib.Nat.{add-zero, add-suc, suc-add}
use native.Mathlib.Omega.{arith}
use lib.ListN.{length, set, length-append}
use lib.Seq.{sets, length-sets}
use Rattle.numerals.specs.Digits.{put, put_end}
use Rattle.numerals.proofs.Writing.{written}
use Rattle.sheets.specs.Inner.Writing.{Wrote, Before, end_at}
use Rattle.numerals.specs.declared.refusal.Refusal.{Refusal}

pub sets-append : (l : List ℕ) (at : ℕ) (xs ys : List ℕ) → sets l at (xs ++ ys) ≡ sets (sets l at xs) (at + length xs) ys
sets-append l at [] ys = ap (λ (i : ℕ). sets l i ys) (sym (add-zero at))
sets-append l at (x ∷ xs) ys =
    sets-append (set l at x) (suc at) xs ys
    ∙ ap (λ (i : ℕ). sets (sets (set l at x) (suc at) xs) i ys) (suc-add at (length xs) ∙ sym (add-suc at (length xs)))

module _ {a b c : List ℕ} {i j k : ℕ} {xs ys : List ℕ} where
  pub chain : Wrote a b i j xs → Wrote b c j k ys → Wrote a c i k (xs ++ ys)
  chain p q =
      record {
        ends = omega (arith, p.ends, q.ends, length-append xs ys);
        holds = q.holds ∙ rw (p.ends, p.holds) (sym (sets-append a i xs ys));
      }

-- nothing
pub nothing : (l : List ℕ) (i : ℕ) → Wrote l l i i []
nothing l i = record { ends = omega arith; holds = refl }

-- one byte
pub byte : (l : List ℕ) (i b : ℕ) → Wrote l (set l i b) i (i + 1) (b ∷ [])
byte l i b = record { ends = refl; holds = refl }

pub same_length : {a b : List ℕ} {i j : ℕ} {xs : List ℕ} → Wrote a b i j xs → length b ≡ length a
same_length {a} {b} {i} {j} {xs} w = ap length w.holds ∙ length-sets a i xs

-- a text that fits was written
module _
    (out : List ℕ)
    (at : ℕ)
    (bs : List ℕ)
    (room : at + length bs < length out)
    (w : (Result ℕ Refusal))
    (after : List ℕ)
    (is : w ≡ put_end out at bs)
    (put-it : after ≡ put out at bs)
  where
    ends-in : w ≡ Ok (at + length bs)
    ends-in = is ∙ sym (written out at bs (omega arith)).0

    pub text : Wrote out after at (end_at w) bs
    text = record { ends = rw ends-in; holds = put-it ∙ sym (written out at bs (omega arith)).1 }

    pub before-end : Before w (length after)
    before-end = rw ends-in (omega (arith, same_length text))
