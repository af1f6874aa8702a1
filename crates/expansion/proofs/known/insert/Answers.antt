-- `known::insert` meets its contract: those from its place on stand one place further, and it takes that place.
use Rattle.std.proofs.Common.{◌≡◌, ℕ, ◌+◌, ◌-◌, ◌≤◌, ◌<◌, List, [], ◌∷◌, ◌++◌, take, drop, length, get_or, set, sym, ap, ◌∙◌, arith, append_assoc}
use Rattle.std.proofs.lemmas.List.{take_more, take_at, take-take, drop-take, set-append_right, length-take-le}
use lib.Seq.{paste, append_snoc}
use lib.ListN.{length-append, length-drop}
use Rattle.expansion.specs.Inner.Known.{insert_at}
use Rattle.expansion.proofs.known.insert.Goals as goal

moved : (xs : List ℕ) (count at y : ℕ) → at ≤ count → count < length xs
    → take (count + 1) (set (paste xs (at + 1) (drop at xs) (count - at)) at y) ≡ insert_at at y (take count xs)
moved xs count at y l m =
    let back : List ℕ = take (count - at) (drop at xs) in
    let rest : List ℕ = drop (at + 1 + (count - at)) xs in
    let front : length (take at xs) ≡ at = length-take-le at xs (omega arith) in
    let long : length (take at xs ++ y ∷ back) ≡ count + 1 =
    omega (arith, length-append (take at xs) (y ∷ back), front, length-take-le (count - at) (drop at xs) (omega (arith, length-drop at xs))) in
    let split : paste xs (at + 1) (drop at xs) (count - at) ≡ take at xs ++ get_or xs at 0 ∷ (back ++ rest) =
    rw (take_more xs at 0 (omega arith)) (append_assoc (take at xs ++ get_or xs at 0 ∷ []) back rest
    ∙ append_snoc (take at xs) (get_or xs at 0) (back ++ rest)) in
    let put : set (take at xs ++ get_or xs at 0 ∷ (back ++ rest)) at y ≡ take at xs ++ y ∷ (back ++ rest) =
    let here : at - at ≡ 0 = omega arith in
    set-append_right (take at xs) (get_or xs at 0 ∷ (back ++ rest)) at at y front (omega arith)
    ∙ ap (λ (i : ℕ). take at xs ++ set (get_or xs at 0 ∷ (back ++ rest)) i y) here in
    let kept : drop at (take count xs) ≡ back =
    let all : at + (count - at) ≡ count = omega arith in
    ap (λ (n : ℕ). drop at (take n xs)) (sym all) ∙ drop-take at (count - at) xs in
    ap (λ (ys : List ℕ). take (count + 1) (set ys at y)) split
    ∙ ap (take (count + 1)) (put ∙ sym (append_assoc (take at xs) (y ∷ back) rest))
    ∙ take_at (take at xs ++ y ∷ back) rest (count + 1) long
    ∙ rw (take-take at count xs l, kept)

pub returns-clause-ids : goal.returns-clause-ids
returns-clause-ids c =
    ap (λ (xs : List ℕ). take (c.args.count + 1) (set xs c.args.at c.args.id)) c.copy_within.ensures.after
    ∙ moved c.args.ids.now c.args.count c.args.at c.args.id c.requires.0 c.requires.1.0

pub returns-clause-weights : goal.returns-clause-weights
returns-clause-weights c =
    ap (λ (xs : List ℕ). take (c.args.count + 1) (set xs c.args.at 0)) c.copy_within-2.ensures.after
    ∙ moved c.args.weights.now c.args.count c.args.at 0 c.requires.0 c.requires.1.1
