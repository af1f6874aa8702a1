-- A change by the backends of its places: what is judged of it, and what is handed out, is what the definitions say.
use Rattle.std.specs.Prelude.{Err, Ok, Result}
use Prim.Native.Nat.{ℕ, zero, suc, ◌^◌, ◌≤◌, ◌<◌}
use mathlib.Core.Bool.{Bool, true, false}
use mathlib.Core.List.{List, [], ◌∷◌}
use mathlib.Core.Path.{◌≡◌, refl, ap, ap₂, sym, ◌∙◌}
use native.Mathlib.Omega.{arith}
use lib.Dec.{leb, ltb}
use lib.ListN.{length, get_or, take}
use lib.Seq.{get_or-take}
use borrow.Author.Tests.{leb-true, ltb-false, lt-leb, le-leb}
use Rattle.numerals.specs.Limits.{most_suffixes, most_capacity}
use Rattle.numerals.specs.Pick.{pick, both}
use Rattle.numerals.specs.Refusals.{no2, no7, no14}
use Rattle.numerals.specs.Suffix.{place}
use Rattle.numerals.proofs.Place.{place-lt, place-involution}
use Rattle.numerals.proofs.Searches.{both_true}
use Rattle.expansion.specs.Answer.{in_limits}
use Rattle.expansion.specs.FirstMatch.{first_match}
use Rattle.expansion.proofs.Checks.{limits as within}
use Rattle.packing.specs.Table.{lines_of}
use Rattle.sheets.specs.Calls.{refused_at, print_text}
use Rattle.sheets.specs.RuleSheet.{lines_text}
use Rattle.stages.specs.Stages.{Change, stage_at}
use Rattle.stages.specs.Lines.{stage_rules, stage_text}
use Rattle.stages.specs.Calls.{crowded, in_range, of_change}
use Rattle.stages.specs.Inner.Nodes.{cut_at, lines_at, starts_to}
use Rattle.stages.specs.Inner.Row.{row_of, crowded_at, judged}
use Rattle.stages.specs.Inner.Handed.{handed, text_at}
use Rattle.stages.proofs.LargestLines.{largest-starts, length-largest}
use Rattle.stages.proofs.Rows.{row_is}
use Rattle.numerals.specs.declared.refusal.Refusal.{Refusal}

-- as many lines begin as the whole tree has
pub starts-count : (g : ℕ → ℕ) (k : ℕ) → length (starts_to g k (2 ^ k)) ≡ lines_at g k 0
starts-count g k =
    let f : ℕ → ℕ = λ s. g (place k s) in
    ap length (sym (largest-starts k f g (λ s l. refl))) ∙ length-largest k f g (λ s l. refl)

-- a row that was judged to be one
pub record Judges (k : ℕ) (old new : ℕ → ℕ) (limit capacity number n : ℕ) : Type 0 where
  pub some : 1 ≤ limit
  pub small : capacity ≤ most_capacity
  pub first : 1 ≤ number
  pub last : number ≤ length (row_of k old new limit)
  pub sparse : crowded_at k old new capacity (row_of k old new limit) ≡ false
  pub count : n ≡ length (row_of k old new limit)

module _ (k : ℕ) (old new : ℕ → ℕ) (limit capacity number : ℕ) where
  abbrev ranged : Bool
  ranged = both (in_limits 1 most_suffixes limit) (both (in_limits 1 most_capacity capacity) (in_limits 1 (length (row_of k old new limit)) number))

  pub judges : (n : ℕ) → judged k old new limit capacity number ≡ Ok n → Judges k old new limit capacity number n
  unfolding judged
  judges n e = go ranged refl (crowded_at k old new capacity (row_of k old new limit)) refl e
    where
      go : (r : Bool) → ranged ≡ r → (c : Bool) → crowded_at k old new capacity (row_of k old new limit) ≡ c
          → pick r (pick c (Err no14) (Ok (length (row_of k old new limit)))) (Err no2) ≡ Ok n → Judges k old new limit capacity number n
      go false r c d e = absurd (let z : ◌≡◌ {A = ℕ} 0 1 = cc in omega arith)
      go true r true d e = absurd (let z : ◌≡◌ {A = ℕ} 0 1 = cc in omega arith)
      go true r false d e =
          let parts = both_true (in_limits 1 most_suffixes limit) _ r in
          let more = both_true (in_limits 1 most_capacity capacity) _ parts.1 in
          let l = within 1 most_suffixes limit parts.0 in
          let c = within 1 most_capacity capacity more.0 in
          let m = within 1 (length (row_of k old new limit)) number more.1 in
          record { some = l.0; small = c.1; first = m.0; last = m.1; sparse = d; count = cc }

  -- what is handed out only counts where the limit is in its limits
  pub handed-same : (v w : List ℕ) (room : ℕ) → (1 ≤ limit → v ≡ w)
      → handed (judged k old new limit capacity number) v room ≡ handed (judged k old new limit capacity number) w room
  handed-same v w room e = go (judged k old new limit capacity number) refl
    where
      go : (j : (Result ℕ Refusal)) → judged k old new limit capacity number ≡ j → handed j v room ≡ handed j w room
      go (Err why) is = refl
      go (Ok n) is = ap (λ (x : List ℕ). print_text x room) (e (judges n is).some)

-- each stage of a row that isn't crowded has at most so many lines
pub sparse-at : (k : ℕ) (old new : ℕ → ℕ) (capacity : ℕ) (ps : List ℕ) → crowded_at k old new capacity ps ≡ false → (i : ℕ) → i < length ps
    → lines_at (cut_at (get_or ps i 0) old new) k 0 ≤ capacity
unfolding crowded_at
sparse-at k old new capacity [] e i l = absurd (omega arith)
sparse-at k old new capacity (p ∷ ps) e i l = go (ltb capacity (lines_at (cut_at p old new) k 0)) refl e i l (λ d j m. sparse-at k old new capacity ps d j m)
  where
    go : (t : Bool) → ltb capacity (lines_at (cut_at p old new) k 0) ≡ t → pick t true (crowded_at k old new capacity ps) ≡ false → (i : ℕ) → i < length
        (p ∷ ps)
        → (crowded_at k old new capacity ps ≡ false → (j : ℕ) → j < length ps → lines_at (cut_at (get_or ps j 0) old new) k 0 ≤ capacity)
        → lines_at (cut_at (get_or (p ∷ ps) i 0) old new) k 0 ≤ capacity
    go true t e i l rest = absurd (let z : ◌≡◌ {A = ℕ} 0 1 = cc in omega arith)
    go false t e zero l rest = omega (arith, ltb-false capacity (lines_at (cut_at p old new) k 0) t)
    go false t e (suc i) l rest = rest e i (omega arith)

-- the answer by the two tests
handed-picked : (r c : Bool) (m : ℕ) (values : List ℕ) (room : ℕ)
    → pick r (pick c (Err (refused_at no14 0)) (print_text values room)) (Err (refused_at no2 0))
    ≡ handed (pick r (pick c (Err no14) (Ok m)) (Err no2)) values room
handed-picked true true m values room = refl
handed-picked true false m values room = refl
handed-picked false c m values room = refl

-- a change whose places have these backends
module _ (C : Change) (old new : ℕ → ℕ) (A : (p : ℕ) → p < 2 ^ C.k → old p ≡ first_match C.old (place C.k p))
    (B : (p : ℕ) → p < 2 ^ C.k → new p ≡ first_match C.new (place C.k p)) where
  stage-cut : (p s : ℕ) → s < 2 ^ C.k → stage_at C p s ≡ cut_at p old new (place C.k s)
  unfolding stage_at cut_at
  stage-cut p s l =
      let back : place C.k (place C.k s) ≡ s = place-involution C.k s l in
      let a : old (place C.k s) ≡ first_match C.old s = A (place C.k s) (place-lt C.k s) ∙ ap (first_match C.old) back in
      let b : new (place C.k s) ≡ first_match C.new s = B (place C.k s) (place-lt C.k s) ∙ ap (first_match C.new) back in
      ap₂ (pick (ltb (place C.k s) p)) (sym b) (sym a)

  pub stage-starts : (p : ℕ) → stage_rules C p ≡ starts_to (cut_at p old new) C.k (2 ^ C.k)
  unfolding stage_rules
  stage-starts p = largest-starts C.k (stage_at C p) (cut_at p old new) (stage-cut p)

  pub stage-text : (n p : ℕ) → stage_text C n p ≡ text_at C.k old new n p
  unfolding stage_text
  stage-text n p = ap (λ (rs : List _). lines_text (lines_of n rs)) (stage-starts p)

  crowded-is : (capacity : ℕ) (ps : List ℕ) → crowded C capacity ps ≡ crowded_at C.k old new capacity ps
  unfolding crowded crowded_at stage_rules
  crowded-is capacity [] = refl
  crowded-is capacity (p ∷ ps) =
      ap₂ (λ (a : ℕ) (b : Bool). pick (ltb capacity a) true b) (length-largest C.k (stage_at C p) (cut_at p old new) (stage-cut p)) (crowded-is capacity ps)

  -- what is answered of it
  pub change-is : (limit capacity number : ℕ) (values : List ℕ) (room : ℕ)
      → of_change C limit capacity number values room ≡ handed (judged C.k old new limit capacity number) values room
  unfolding of_change in_range judged
  change-is limit capacity number values room = go (in_limits 1 most_suffixes limit) refl
    where
      go : (t : Bool) → in_limits 1 most_suffixes limit ≡ t
          → of_change C limit capacity number values room ≡ handed (judged C.k old new limit capacity number) values room
      go false t = rw t
      go true t =
          rw (row_is C limit (within 1 most_suffixes limit t).0 old new A B, crowded-is capacity (row_of C.k old new limit))
          (handed-picked (ranged C.k old new limit capacity number) (crowded_at C.k old new capacity (row_of C.k old new limit))
          (length (row_of C.k old new limit)) values room)

-- values for a lent buffer that is too short, or has room for them
pub print-short : (values : List ℕ) (room : ℕ) → room < length values → print_text values room ≡ Err (refused_at no7 0)
unfolding print_text
print-short values room l = rw (lt-leb (length values) room l)

pub print-fits : (values : List ℕ) (room : ℕ) → length values ≤ room → print_text values room ≡ Ok (length values)
unfolding print_text
print-fits values room l = rw (le-leb (length values) room l)

-- what was handed out fits
pub handed-fits : (j : (Result ℕ Refusal)) (values : List ℕ) (room m : ℕ) → handed j values room ≡ Ok m → (m ≡ length values) × (length values ≤ room)
unfolding print_text
handed-fits (Err why) values room m e = absurd (let z : ◌≡◌ {A = ℕ} 0 1 = cc in omega arith)
handed-fits (Ok n) values room m e = go (leb (length values) room) refl e
  where
    go : (t : Bool) → leb (length values) room ≡ t → pick t (Ok (length values)) (Err (refused_at no7 0)) ≡ Ok m
        → (m ≡ length values) × (length values ≤ room)
    go true t e = (cc, leb-true (length values) room t)
    go false t e = absurd (let z : ◌≡◌ {A = ℕ} 0 1 = cc in omega arith)

-- and was judged to be a row
pub handed-row : (j : (Result ℕ Refusal)) (values : List ℕ) (room m : ℕ) → handed j values room ≡ Ok m → (n : ℕ) × (j ≡ Ok n)
handed-row (Err why) values room m e = absurd (let z : ◌≡◌ {A = ℕ} 0 1 = cc in omega arith)
handed-row (Ok n) values room m e = (n, refl)

-- a number among the first of a listing
pub first-at : (n : ℕ) (listing values : List ℕ) (i : ℕ) → take n listing ≡ values → i < n → get_or listing i 0 ≡ get_or values i 0
first-at n listing values i e l = sym (get_or-take n listing i 0 l) ∙ ap (λ (x : List ℕ). get_or x i 0) e
