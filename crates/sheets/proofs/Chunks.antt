-- A row taken apart by sizes: what stands at a place, where it begins, and that the row has it.
use Prim.Native.Nat.{ℕ, zero, suc, ◌+◌, ◌-◌, ◌≤◌, ◌<◌}
use mathlib.Core.Path.{◌≡◌, refl, sym, ap, ◌∙◌}
use mathlib.Core.List.{List, [], ◌∷◌}
use native.Mathlib.Numerals.{add-one}
use native.Mathlib.Omega.{arith}
use lib.ListN.{length, get_or, take, drop, length-append, length-drop}
use lib.Seq.{take-suc, drop-drop, length-take-le, take-append_seam, drop-append_seam}
use Rattle.packing.specs.Answer.{chunks}
use Rattle.sheets.specs.PercentageSheet.{sum}
use Rattle.sheets.specs.Inner.SheetReader.{sizes_of, row_of}
use Rattle.sheets.proofs.Steps.{sum_more}

pub sizes-sum : (wss : List (List ℕ)) → sum (sizes_of wss) ≡ length (row_of wss)
unfolding sum sizes_of row_of
sizes-sum [] = refl
sizes-sum (ws ∷ wss) = omega (arith, length-append ws (row_of wss), sizes-sum wss)

-- it is taken apart by the sizes that it was made with
pub chunks-row : (wss : List (List ℕ)) → chunks (sizes_of wss) (row_of wss) ≡ wss
unfolding chunks sizes_of row_of
chunks-row [] = refl
chunks-row (ws ∷ wss) =
    rw (take-append_seam ws (row_of wss), drop-append_seam ws (row_of wss)) (ap (λ (l : List (List ℕ)). ws ∷ l) (chunks-row wss))

-- the sum of the first sizes
pub sum-next : (ns : List ℕ) (i : ℕ) → i < length ns → sum (take (i + 1) ns) ≡ sum (take i ns) + get_or ns i 0
sum-next ns i h = ap (λ (x : ℕ). sum (take x ns)) (add-one i) ∙ ap sum (take-suc ns i 0 h) ∙ sum_more (take i ns) (get_or ns i 0)

sum-part : (i : ℕ) (ns : List ℕ) → sum (take i ns) ≤ sum ns
unfolding sum
sum-part zero ns = omega arith
sum-part (suc i) [] = omega arith
sum-part (suc i) (n ∷ ns) = omega (arith, sum-part i ns)

pub sum_fits : (ns : List ℕ) (i : ℕ) → i < length ns → sum (take i ns) + get_or ns i 0 ≤ sum ns
sum_fits ns i h = omega (arith, sum-next ns i h, sum-part (i + 1) ns)

pub chunks-length : (ns ws : List ℕ) → length (chunks ns ws) ≡ length ns
unfolding chunks
chunks-length [] ws = refl
chunks-length (n ∷ ns) ws = ap suc (chunks-length ns (drop n ws))

pub chunk-at : (ns ws : List ℕ) (i : ℕ) → i < length ns → get_or (chunks ns ws) i [] ≡ take (get_or ns i 0) (drop (sum (take i ns)) ws)
unfolding chunks sum
chunk-at [] ws i h = absurd (omega arith)
chunk-at (n ∷ ns) ws zero h = refl
chunk-at (n ∷ ns) ws (suc i) h =
    chunk-at ns (drop n ws) i (omega arith) ∙ ap (take (get_or ns i 0)) (drop-drop (sum (take i ns)) n ws)

pub chunk-length : (ns ws : List ℕ) (i : ℕ) → i < length ns → sum ns ≤ length ws → length (get_or (chunks ns ws) i []) ≡ get_or ns i 0
chunk-length ns ws i h room =
    ap length (chunk-at ns ws i h)
    ∙ length-take-le (get_or ns i 0) (drop (sum (take i ns)) ws) (omega (arith, sum_fits ns i h, length-drop (sum (take i ns)) ws))

-- the part of the service with number n, by where it begins and how long it is
pub part_at :
    (ns ws : List ℕ) (n from b : ℕ) → 1 ≤ n → n ≤ length ns → from ≡ sum (take (n - 1) ns) → b ≡ get_or ns (n - 1) 0
    → take b (drop from ws) ≡ get_or (chunks ns ws) (n - 1) []
part_at ns ws n from b some few f e = rw (f, e) (sym (chunk-at ns ws (n - 1) (omega arith)))
