-- The memory of the reader of the percentage sheet: one service more behind those that it holds, and the sheet that it holds after the last.
use Prim.Native.Nat.{ℕ, ◌+◌, ◌<◌}
use mathlib.Core.Path.{◌≡◌, refl, sym, ap, ◌∙◌}
use mathlib.Core.Bool.{Bool, true, false}
use mathlib.Core.List.{List, [], ◌∷◌, ◌++◌, append_assoc, append-nil}
use native.Mathlib.Numerals.{add-one}
use native.Mathlib.Omega.{arith}
use lib.Dec.{leb, ltb}
use lib.ListN.{length, set, length-append}
use lib.Seq.{take-suc-set}
use Rattle.sheets.specs.Reading.{unless}
use Rattle.sheets.specs.PercentageSheet.{Service, volumes_of, ids_of, weights_of, whole}
use Rattle.sheets.specs.Inner.SheetReader.{sheet_of, Stored, sizes_of, row_of, Holds, SheetOf, finished}
use Rattle.sheets.specs.declared.percentage_sheet.Head.{Head}

pub volumes-more : (ss : List Service) (s : Service) → volumes_of (ss ++ s ∷ []) ≡ volumes_of ss ++ s.volume ∷ []
unfolding volumes_of
volumes-more [] s = refl
volumes-more (r ∷ ss) s = ap (λ (vs : List ℕ). r.volume ∷ vs) (volumes-more ss s)

pub ids_more : (ss : List Service) (s : Service) → ids_of (ss ++ s ∷ []) ≡ ids_of ss ++ s.ids ∷ []
unfolding ids_of
ids_more [] s = refl
ids_more (r ∷ ss) s = ap (λ (is : List (List ℕ)). r.ids ∷ is) (ids_more ss s)

pub weights-more : (ss : List Service) (s : Service) → weights_of (ss ++ s ∷ []) ≡ weights_of ss ++ s.weights ∷ []
unfolding weights_of
weights-more [] s = refl
weights-more (r ∷ ss) s = ap (λ (ws : List (List ℕ)). r.weights ∷ ws) (weights-more ss s)

sizes-more : (wss : List (List ℕ)) (ws : List ℕ) → sizes_of (wss ++ ws ∷ []) ≡ sizes_of wss ++ length ws ∷ []
unfolding sizes_of
sizes-more [] ws = refl
sizes-more (us ∷ wss) ws = ap (λ (zs : List ℕ). length us ∷ zs) (sizes-more wss ws)

row_more : (wss : List (List ℕ)) (ws : List ℕ) → row_of (wss ++ ws ∷ []) ≡ row_of wss ++ ws
unfolding row_of
row_more [] ws = append-nil ws
row_more (us ∷ wss) ws = ap (λ (l : List ℕ). us ++ l) (row_more wss ws) ∙ sym (append_assoc us (row_of wss) ws)

pub holds-none : (vs zs is ws : List ℕ) → Holds [] [] [] vs zs is ws 0 0
unfolding sizes_of row_of
holds-none vs zs is ws =
    record {
      services = refl;
      few = omega arith;
      short = omega arith;
      paired = refl;
      held_volumes = refl;
      held_sizes = refl;
      held_ids = refl;
      held_weights = refl;
    }

pub holds_more :
    {volumes : List ℕ} {ids weights : List (List ℕ)} {vs vs' zs is is' ws ws' : List ℕ} {i at n : ℕ} {s : Service}
    → Holds volumes ids weights vs zs is ws i at
    → Stored s vs vs' is is' ws ws' at i n
    → i < length zs
    → Holds (volumes ++ s.volume ∷ []) (ids ++ s.ids ∷ []) (weights ++ s.weights ∷ []) vs' (set zs i n) is' ws' (i + 1) (at + n)
holds_more {volumes} {ids} {weights} {zs = zs} {i = i} {n = n} {s = s} h k room =
    record {
      services = length-append volumes (s.volume ∷ []) ∙ omega arith;
      few = omega arith;
      short = omega arith;
      paired = rw (sizes-more ids s.ids, sizes-more weights s.weights, h.paired, k.named, k.size);
      held_volumes = k.volumes ∙ ap (λ (l : List ℕ). l ++ s.volume ∷ []) h.held_volumes;
      held_sizes =
          rw (add-one i, take-suc-set zs i n room, sizes-more weights s.weights, k.size)
          (ap (λ (l : List ℕ). l ++ n ∷ []) h.held_sizes);
      held_ids = k.ids_row ∙ ap (λ (l : List ℕ). l ++ s.ids) h.held_ids ∙ sym (row_more ids s.ids);
      held_weights = k.row ∙ ap (λ (l : List ℕ). l ++ s.weights) h.held_weights ∙ sym (row_more weights s.weights);
    }

-- what is answered after the lines
pub holds-whole :
    (head : Head) (ss : List Service) {vs zs is ws : List ℕ} {n row : ℕ} → length ss ≡ n
    → Holds (volumes_of ss) (ids_of ss) (weights_of ss) vs zs is ws n row
    → SheetOf (finished head n row) (sheet_of head ss) vs zs is ws
unfolding finished whole unless
holds-whole head ss {vs} {zs} {is} {ws} {n} {row} count h = go (ltb 0 n) (leb n head.capacity) refl refl
  where
    go :
        (t u : Bool) → ltb 0 n ≡ t → leb n head.capacity ≡ u
        → SheetOf (finished head n row) (sheet_of head ss) vs zs is ws
    go false u e f = simp (count, e) (refl, refl)
    go true false e f = simp (count, e, f) (refl, refl)
    go true true e f =
        simp (count, e, f)
        (record {
          sheet =
              record {
                k = head.k;
                tolerance = head.tolerance;
                capacity = head.capacity;
                volumes = volumes_of ss;
                ids = ids_of ss;
                weights = weights_of ss;
              };
          read = refl;
          k = refl;
          tolerance = refl;
          capacity = refl;
          holds = h;
        })
