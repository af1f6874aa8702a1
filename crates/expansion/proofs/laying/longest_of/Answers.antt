-- `laying::longest_of` meets its contract: the largest of the lengths is one of them, and none of them is larger.
use Rattle.std.proofs.Common.{rules, ◌≡◌, ℕ, zero, suc, ◌<◌, ◌≤◌, List, length, map, take, get_or, ap, refl, ◌∙◌, arith}
use Rattle.std.proofs.Common.{Option, None, Some, MatchOption, EachIndex, slice_index, Contains}
use Rattle.std.specs.Option.{unwrap_or}
use Rattle.std.proofs.lemmas.List.{get_or-map, get_or-take}
use native.Mathlib.Decide.{ℕ_discrete}
use lib.ListN.{length-map}
use lib.Seq.{length-take-le}
use Rattle.expansion.specs.Resume.{longest}
use Rattle.expansion.specs.Inner.Lists.{no_rule, newest_first}
use Rattle.expansion.specs.declared.rule.Rule.{Rule}
use Rattle.expansion.proofs.laying.longest_of.Goals as goal

abbrev lens : List Rule → ℕ → List ℕ
lens rs n = map (λ (r : Rule). r.len) (take n rs)

lens-long : (rs : List Rule) (n : ℕ) → n ≤ length rs → length (lens rs n) ≡ n
lens-long rs n l = length-map (take n rs) (λ (r : Rule). r.len) ∙ length-take-le n rs l

len-at : (rs : List Rule) (n k d : ℕ) → n ≤ length rs → k < n → get_or (lens rs n) k d ≡ (get_or rs k no_rule).len
len-at rs n k d m l =
    get_or-map (λ (r : Rule). r.len) (take n rs) k no_rule d (omega (arith, length-take-le n rs m))
    ∙ ap (λ (r : Rule). r.len) (get_or-take n rs k no_rule l)

upper : (rs : List Rule) (c k : ℕ) → k < c → (get_or rs k no_rule).len ≤ longest (newest_first rs c)
unfolding longest newest_first
upper rs zero k l = absurd (omega arith)
upper rs (suc c) k l = by (ℕ_discrete k c) (upper rs c k)
  where
    by : Dec (k ≡ c) → (k < c → (get_or rs k no_rule).len ≤ longest (newest_first rs c)) → (get_or rs k no_rule).len ≤ longest (newest_first rs (suc c))
    by (yes e) before = let same = ap (λ (i : ℕ). (get_or rs i no_rule).len) e in omega arith
    by (no d) before = omega (arith, before (omega arith))

lowest : (rs : List Rule) (c m : ℕ) → ((k : ℕ) → k < c → (get_or rs k no_rule).len ≤ m) → longest (newest_first rs c) ≤ m
unfolding longest newest_first
lowest rs zero m h = omega arith
lowest rs (suc c) m h =
    let here = h c (omega arith) in
    let before = lowest rs c m (λ k l. h k (omega arith)) in
    omega arith

nothing : (rs : List Rule) → 0 ≡ longest (newest_first rs 0)
unfolding longest newest_first
nothing rs = refl

largest : (rs : List Rule) (n : ℕ) → n ≤ length rs → (most : Option ℕ)
    → MatchOption most (length (lens rs n) ≡ 0) (λ m. EachIndex (lens rs n) (λ k. slice_index (lens rs n) k ≤ m))
    → MatchOption most (length (lens rs n) ≡ 0) (λ m. Contains (lens rs n) m)
    → unwrap_or most 0 ≡ longest (newest_first rs n)
largest rs zero l None h g = nothing rs
largest rs (suc n) l None h g = absurd (omega (arith, h, lens-long rs (suc n) l))
largest rs n l (Some m) h g =
    let inside : g.0 < n = omega (arith, g.1, lens-long rs n l) in
    omega (
      arith,
      g.2,
      len-at rs n g.0 m l inside,
      upper rs n g.0 inside,
      lowest rs n m (λ k w. rw (← len-at rs n k 0 l w) (h k (omega (arith, lens-long rs n l)))),
    )

pub returns : goal.returns
returns c =
    let rs = c.args.list.rules in
    let n = c.args.list.count in
    c.unwrap_or.ensures ∙ largest rs n (omega arith) c.max.result (search rules) (search rules)
