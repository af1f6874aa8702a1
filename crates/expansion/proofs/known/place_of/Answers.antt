-- `known::place_of` meets its contract: those before its place are below the id, and the one there isn't.
use Rattle.std.proofs.Common.{rules, ◌≡◌, ◌<◌, ◌≤◌, ℕ, zero, suc, List, [], ◌∷◌, take, length, get_or, ap, sym, ◌∙◌, arith}
use Rattle.std.proofs.Common.{Option, None, Some, MatchOption, EachIndex, slice_index}
use Rattle.std.specs.Option.{unwrap_or}
use Rattle.std.proofs.lemmas.List.{length-take-le}
use Rattle.expansion.specs.Inner.Known.{place_in}
use Rattle.expansion.proofs.KnownIds.{place-next, place-stop}
use Rattle.expansion.proofs.known.place_of.Goals as goal

place-at : (id : ℕ) (xs : List ℕ) (i : ℕ) → i ≤ length xs → ((k : ℕ) → k < i → get_or xs k 0 < id) → (i < length xs → id ≤ get_or xs i 0)
    → i ≡ place_in id xs
unfolding place_in
place-at id [] i few below here = omega arith
place-at id (x ∷ xs) zero few below here = sym (place-stop id x xs (here (omega arith)))
place-at id (x ∷ xs) (suc i) few below here =
    ap suc (place-at id xs i (omega arith) (λ k l. below (suc k) (omega arith)) (λ l. here (omega arith))) ∙ sym (place-next id x xs (below 0 (omega arith)))

pub returns : goal.returns
returns c =
    let xs : List ℕ = take c.args.count c.args.ids.now in
    let long : length xs ≡ c.args.count = length-take-le c.args.count c.args.ids.now c.requires in
    let before : MatchOption c.position.result (EachIndex xs (λ k. slice_index xs k < c.args.id)) (λ i. (k : ℕ) → k < i → slice_index xs k < c.args.id) =
    search rules in
    let here : MatchOption c.position.result (EachIndex xs (λ k. slice_index xs k < c.args.id)) (λ i. (i < length xs) × (c.args.id ≤ slice_index xs i)) =
    search rules in
    c.unwrap_or.ensures ∙ found c.args.id xs c.args.count long c.position.result before here
  where
    found : (id : ℕ) (xs : List ℕ) (count : ℕ) → length xs ≡ count → (o : Option ℕ)
        → MatchOption o (EachIndex xs (λ k. slice_index xs k < id)) (λ i. (k : ℕ) → k < i → slice_index xs k < id)
        → MatchOption o (EachIndex xs (λ k. slice_index xs k < id)) (λ i. (i < length xs) × (id ≤ slice_index xs i)) → unwrap_or o count ≡ place_in id xs
    found id xs count long None before here = place-at id xs count (omega arith) (λ k l. before k (omega arith)) (λ l. absurd (omega arith))
    found id xs count long (Some i) before here = place-at id xs i (omega (arith, here.0)) before (λ l. here.1)
