-- Runs of stores one after the other, and the lengths of what is written into the figures and the table.
use Prim.Native.Nat.{ℕ, zero, suc, ◌+◌, ◌-◌, ◌*◌, ◌≤◌, ◌<◌}
use mathlib.Core.Path.{◌≡◌, refl, ap, ap₂, sym, ◌∙◌}
use mathlib.Core.List.{List, [], ◌∷◌, ◌++◌}
use native.Mathlib.Decide.{le_ind}
use native.Mathlib.Nat.{add-zero}
use native.Mathlib.Numerals.{add-one}
use native.Mathlib.Omega.{arith}
use lib.ListN.{length, get_or, set, take, length-append}
use lib.Seq.{sets}
use Rattle.std.specs.List.{sum}
use Rattle.std.proofs.lemmas.List.Sums.{sum_by_more}
use Rattle.numerals.specs.Sums.{sum_to}
use Rattle.packing.specs.Inner.Lists.{place_of}
use Rattle.packing.specs.Inner.Stored.{held, stored_figures, stored_cells, stored_table}

-- a run after another one
pub sets-append : (l : List ℕ) (i : ℕ) (a b : List ℕ) → sets l i (a ++ b) ≡ sets (sets l i a) (i + length a) b
sets-append l i [] b = ap (λ (n : ℕ). sets l n b) (sym (add-zero i))
sets-append l i (x ∷ a) b =
    let e : suc i + length a ≡ i + suc (length a) = omega arith in
    sets-append (set l i x) (suc i) a b ∙ ap (λ (n : ℕ). sets (sets (set l i x) (suc i) a) n b) e

-- a sum up to a place, and what stands there, is part of the sum
pub sum-before : (n m : ℕ) (f : ℕ → ℕ) → n < m → sum_to n f + f n ≤ sum_to m f
unfolding sum_to
sum-before n m f l = le_ind (λ m. sum_to n f + f n ≤ sum_to m f) (omega arith) (λ m _ ih. omega (arith, ih)) m l

-- the sum of the first n numbers of a list
pub sum-held : (n : ℕ) (l : List ℕ) → n ≤ length l → sum (take n l) ≡ sum_to n (held l)
unfolding sum_to
sum-held zero l h = refl
sum-held (suc n) l h =
    let next : sum (take (suc n) l) ≡ sum (take n l) + get_or l n 0 = rw (← add-one n) (sum_by_more (λ x. x) l n 0 (omega arith)) in
    next ∙ ap (λ (x : ℕ). x + get_or l n 0) (sum-held n l (omega arith))

-- three figures to a service
pub length-figures : (grants counts ends : List ℕ) (n : ℕ) → length (stored_figures grants counts ends n) ≡ 3 * n
unfolding stored_figures
length-figures grants counts ends zero = refl
length-figures grants counts ends (suc n) =
    omega (
      arith,
      length-append (stored_figures grants counts ends n) (get_or grants n 0 ∷ get_or counts n 0 ∷ get_or ends n 0 ∷ []),
      length-figures grants counts ends n,
    )

-- the figures of one service more
pub figures-more :
    (out₀ out out' grants counts ends : List ℕ) (n : ℕ) → out ≡ sets out₀ 0 (stored_figures grants counts ends n)
    → out' ≡ sets out (3 * n) (get_or grants n 0 ∷ get_or counts n 0 ∷ get_or ends n 0 ∷ [])
    → out' ≡ sets out₀ 0 (stored_figures grants counts ends (n + 1))
unfolding stored_figures
figures-more out₀ out out' grants counts ends n p q =
    let old : List ℕ = stored_figures grants counts ends n in
    let new : List ℕ = get_or grants n 0 ∷ get_or counts n 0 ∷ get_or ends n 0 ∷ [] in
    let e : 3 * n ≡ 0 + length old = omega (arith, length-figures grants counts ends n) in
    rw add-one (q ∙ ap₂ (λ (l : List ℕ) (i : ℕ). sets l i new) p e ∙ sym (sets-append out₀ 0 old new))

module _ (lens values backends : List ℕ) where
  -- four cells to a line
  pub length-cells : (s c : ℕ) → length (stored_cells lens values backends s c) ≡ 4 * c
  unfolding stored_cells
  length-cells s zero = refl
  length-cells s (suc c) = omega (arith, length-cells s c)

  pub length-stored :
      (lines : ℕ → ℕ) (n : ℕ) → length (stored_table lines lens values backends n) ≡ 4 * sum_to n lines
  unfolding stored_table sum_to
  length-stored lines zero = refl
  length-stored lines (suc n) =
      omega (
        arith,
        length-append (stored_table lines lens values backends n) (stored_cells lens values backends n (lines n)),
        length-stored lines n,
        length-cells n (lines n),
      )

  -- the cells of one service more
  pub table_more :
      (out₀ out out' : List ℕ) (lines : ℕ → ℕ) (n at : ℕ)
      → out ≡ sets out₀ 0 (stored_table lines lens values backends n) → at ≡ 4 * sum_to n lines
      → out' ≡ sets out at (stored_cells lens values backends n (lines n))
      → out' ≡ sets out₀ 0 (stored_table lines lens values backends (n + 1))
  unfolding stored_table
  table_more out₀ out out' lines n at p here q =
      let old : List ℕ = stored_table lines lens values backends n in
      let new : List ℕ = stored_cells lens values backends n (lines n) in
      let e : at ≡ 0 + length old = omega (arith, length-stored lines n) in
      rw add-one (q ∙ ap₂ (λ (l : List ℕ) (i : ℕ). sets l i new) p e ∙ sym (sets-append out₀ 0 old new))

  -- of the lines left of a service, the first is stored, and one less is left
  pub line-more :
      (out out' : List ℕ) (i s c from : ℕ) → 0 < c → from ≡ place_of s c
      → out' ≡ sets (set out i (s + 1)) (i + 1) (get_or lens from 0 ∷ get_or values from 0 ∷ get_or backends from 0 ∷ [])
      → sets out i (stored_cells lens values backends s c) ≡ sets out' (i + 4) (stored_cells lens values backends s (c - 1))
  unfolding stored_cells
  line-more out out' i s zero from l e p = absurd (omega arith)
  line-more out out' i s (suc c) from l e p =
      let four : i + 4 ≡ suc (suc (suc (suc i))) = omega arith in
      let number : s + 1 ≡ suc s = omega arith in
      let next : i + 1 ≡ suc i = omega arith in
      let less : suc c - 1 ≡ c = omega arith in
      rw (p, e, four, number, next, less)

  pub none_left : (out : List ℕ) (i s c : ℕ) → c ≡ 0 → sets out i (stored_cells lens values backends s c) ≡ out
  unfolding stored_cells
  none_left out i s c e = rw e
