-- The largest suffixes that one backend holds are the lines of the largest nodes, in order of places.
use Prim.Native.Nat.{ℕ, zero, suc, ◌+◌, ◌-◌, ◌*◌, ◌/◌, ◌%◌, ◌^◌, ◌≤◌, ◌<◌}
use mathlib.Core.Bool.{Bool, true, false}
use mathlib.Core.List.{List, [], ◌∷◌, ◌++◌, append_assoc}
use mathlib.Core.Path.{◌≡◌, refl, ap, sym, ◌∙◌, subst}
use native.Mathlib.Decide.{ℕ_discrete}
use native.Mathlib.Nat.{mul_comm, zero-add, pow-succ', mod-eq_of_lt, mul-mod_left, div-eq_of_lt, add-mod_right, add-div_right}
use native.Mathlib.Nat.{add-mul-mod_self_right, add-mul-div_right}
use native.Mathlib.Omega.{arith}
use lib.Arith.{digits_lt, digits_div}
use lib.Dec.{eqb}
use lib.ListN.{length, length-append}
use lib.Pow.{pow_pos, pow-add, pow_mono, shl-shr}
use borrow.Author.Tests.{eqb-true, eq-eqb}
use Rattle.numerals.specs.Pick.{pick}
use Rattle.numerals.specs.Suffix.{place}
use Rattle.numerals.proofs.Place.{place-zero, place-add, place_end, place-lt, place-mod, place-involution, place-nought, place-shorter}
use Rattle.numerals.proofs.Searches.{all_true, true-all, same_test, largest-unique}
use Rattle.expansion.specs.declared.rule.Rule.{Rule}
use Rattle.stages.specs.Lines.{one_holds, largest_of}
use Rattle.stages.specs.Inner.Nodes.{uniform, lines_at, height_at, starts_to}
use Rattle.stages.proofs.NodeLaws.{left-start, right-start}
use Rattle.stages.proofs.NodeLaws.{uniform-at, at-uniform, uniform-leaf, lines-leaf, lines-suc, height-is, same_above, starts_none, starts-node}

-- the halves of the suffix of l bits with the value v have the places of the node's halves
module _ (l v : ℕ) (small : v < 2 ^ l) where
  pub half-mod : (v + 2 ^ l) % 2 ^ l ≡ v
  half-mod = add-mod_right v (2 ^ l) ∙ mod-eq_of_lt small

  place-left : place (suc l) v ≡ 2 * place l v
  place-left = omega (arith, place_end l v, ap (λ (x : ℕ). x % 2) (div-eq_of_lt small))

  place-right : place (suc l) (v + 2 ^ l) ≡ 2 * place l v + 1
  place-right =
      let same : place l (v + 2 ^ l) ≡ place l v = sym (place-mod l (v + 2 ^ l)) ∙ ap (place l) half-mod in
      let one : (v + 2 ^ l) / 2 ^ l ≡ 1 = add-div_right v (pow_pos l) ∙ ap (λ (x : ℕ). x + 1) (div-eq_of_lt small) in
      omega (arith, place_end l (v + 2 ^ l), ap (λ (x : ℕ). x % 2) one)

  -- and begin where those begin
  pub left-from : (n : ℕ) → place (suc l) v * 2 ^ n ≡ place l v * 2 ^ suc n
  left-from n = ap (λ (x : ℕ). x * 2 ^ n) place-left ∙ left-start n (place l v)

  pub right-from : (n : ℕ) → place (suc l) (v + 2 ^ l) * 2 ^ n ≡ place l v * 2 ^ suc n + 2 ^ n
  right-from n = ap (λ (x : ℕ). x * 2 ^ n) place-right ∙ right-start n (place l v)

-- the place of a suffix that the suffix of l bits with the value v covers
place-covered : (l n v j : ℕ) → v < 2 ^ l → place (l + n) (v + j * 2 ^ l) ≡ place l v * 2 ^ n + place n j
place-covered l n v j small =
    let low : (v + j * 2 ^ l) % 2 ^ l ≡ v = add-mul-mod_self_right v j (2 ^ l) ∙ mod-eq_of_lt small in
    let same : place l (v + j * 2 ^ l) ≡ place l v = sym (place-mod l (v + j * 2 ^ l)) ∙ ap (place l) low in
    let top : (v + j * 2 ^ l) / 2 ^ l ≡ j =
    add-mul-div_right v j (pow_pos l) ∙ ap (λ (x : ℕ). x + j) (div-eq_of_lt small) ∙ zero-add j in
    place-add l n (v + j * 2 ^ l) ∙ rw (same, top)

module _ (k : ℕ) (f g : ℕ → ℕ) (h : (s : ℕ) → s < 2 ^ k → f s ≡ g (place k s)) where
  pub covered-place : (l n v j : ℕ) → l + n ≡ k → v < 2 ^ l → j < 2 ^ n → f (v + j * 2 ^ l) ≡ g (place l v * 2 ^ n + place n j)
  covered-place l n v j e small m =
      let all : 2 ^ k ≡ 2 ^ l * 2 ^ n = ap (λ (x : ℕ). 2 ^ x) (sym e) ∙ pow-add 2 l n in
      h (v + j * 2 ^ l) (omega (arith, mul_comm (2 ^ n) (2 ^ l), digits_lt {c = 2 ^ l} m small))
      ∙ ap g (ap (λ (x : ℕ). place x (v + j * 2 ^ l)) (sym e) ∙ place-covered l n v j small)

  pub lowest-place : (l n v : ℕ) → l + n ≡ k → v < 2 ^ l → f v ≡ g (place l v * 2 ^ n)
  lowest-place l n v e small =
      ap f (omega arith) ∙ covered-place l n v 0 e small (pow_pos n) ∙ ap g (omega (arith, place-nought n))

  -- one backend holds a suffix as it has the node
  pub holds-uniform : (l n v : ℕ) → l + n ≡ k → v < 2 ^ l → one_holds f n l v ≡ uniform g n (place l v)
  unfolding one_holds
  holds-uniform l n v e small = same_test (one_holds f n l v) (uniform g n q) to from
    where
      q : ℕ
      q = place l v

      to : one_holds f n l v ≡ true → uniform g n q ≡ true
      to t =
          at-uniform g n q (λ i m.
          ap (λ (x : ℕ). g (q * 2 ^ n + x)) (sym (place-involution n i m))
          ∙ sym (covered-place l n v (place n i) e small (place-lt n i))
          ∙ eqb-true (f (v + place n i * 2 ^ l)) (f v) (all_true (2 ^ n) (λ j. eqb (f (v + j * 2 ^ l)) (f v)) t (place n i) (place-lt n i))
          ∙ lowest-place l n v e small)

      from : uniform g n q ≡ true → one_holds f n l v ≡ true
      from u =
          true-all (2 ^ n) (λ j. eqb (f (v + j * 2 ^ l)) (f v)) (λ j m.
          eq-eqb (f (v + j * 2 ^ l)) (f v)
          (covered-place l n v j e small m ∙ uniform-at g n q u (place n j) (place-lt n j) ∙ sym (lowest-place l n v e small)))

  abbrev line : ℕ → ℕ → Rule
  line l v = record { len = l; value = v; backend = f v }

  -- as many as the node has lines
  length-node : (n l v : ℕ) → l + n ≡ k → v < 2 ^ l → length (largest_of f n l v) ≡ lines_at g n (place l v)
  unfolding largest_of
  length-node zero l v e small = sym (lines-leaf g (place l v))
  length-node (suc n) l v e small =
      rw (holds-uniform l (suc n) v e small, lines-suc g n (place l v))
      (go (uniform g (suc n) (place l v)) (length-node n (suc l) v (omega arith) (omega (arith, pow-succ' 2 l)))
      (length-node n (suc l) (v + 2 ^ l) (omega arith) (omega (arith, pow-succ' 2 l))))
    where
      q : ℕ
      q = place l v

      go : (b : Bool) → length (largest_of f n (suc l) v) ≡ lines_at g n (place (suc l) v)
          → length (largest_of f n (suc l) (v + 2 ^ l)) ≡ lines_at g n (place (suc l) (v + 2 ^ l))
          → length (pick b (line l v ∷ []) (largest_of f n (suc l) v ++ largest_of f n (suc l) (v + 2 ^ l)))
          ≡ pick b 1 (lines_at g n (2 * q) + lines_at g n (2 * q + 1))
      go true x y = refl
      go false x y =
          length-append (largest_of f n (suc l) v) (largest_of f n (suc l) (v + 2 ^ l))
          ∙ rw (x, y, place-left l v small, place-right l v small)

  -- no larger node around p has one backend
  abbrev Topmost : ℕ → ℕ → Type 0
  Topmost n p = (m : ℕ) → n < m → m ≤ k → uniform g m (p / 2 ^ m) ≡ false

  -- then this one is a line if one backend has it
  one_line : (n l v p : ℕ) → l + n ≡ k → v < 2 ^ l → p ≡ place l v * 2 ^ n → Topmost n p → uniform g n (place l v) ≡ true
      → starts_to g k p ++ line l v ∷ [] ≡ starts_to g k (p + 2 ^ n)
  one_line n l v p e small is top u = sym (starts ∙ same)
    where
      node : p / 2 ^ n ≡ place l v
      node = ap (λ (x : ℕ). x / 2 ^ n) is ∙ shl-shr (place l v) n

      height : height_at g k p ≡ n
      height =
          largest-unique k (λ m. uniform g m (p / 2 ^ m)) (height_at g k p) n (height-is g k p)
          (record { most = omega arith; passes = λ o. ap (uniform g n) node ∙ u; above = top })

      start : p % 2 ^ n ≡ 0
      start = ap (λ (x : ℕ). x % 2 ^ n) is ∙ mul-mod_left (place l v) (2 ^ n)

      starts : starts_to g k (p + 2 ^ n) ≡ starts_to g k p ++ record { len = k - n; value = place k p; backend = g p } ∷ []
      starts =
          subst
          (λ (x : ℕ). p % 2 ^ x ≡ 0 → (j : ℕ) → 0 < j → j ≤ 2 ^ x
          → starts_to g k (p + j) ≡ starts_to g k p ++ record { len = k - x; value = place k p; backend = g p } ∷ [])
          height (starts-node g k p) start (2 ^ n) (pow_pos n) (omega arith)

      bits : k - n ≡ l
      bits = omega arith

      value : place k p ≡ v
      value =
          let short : l ≤ k = omega arith in
          let rest : k - l ≡ n = omega arith in
          let there : place k v ≡ p = rw (place-shorter l k v short small, rest) (sym is) in
          ap (place k) (sym there) ∙ place-involution k v (omega (arith, pow_mono short))

      backend : g p ≡ f v
      backend = ap g is ∙ sym (lowest-place l n v e small)

      same : starts_to g k p ++ record { len = k - n; value = place k p; backend = g p } ∷ [] ≡ starts_to g k p ++ line l v ∷ []
      same = rw (bits, value, backend)

  -- the lines of a node after those that begin below it
  starts-largest : (n l v p : ℕ) → l + n ≡ k → v < 2 ^ l → p ≡ place l v * 2 ^ n → Topmost n p
      → starts_to g k p ++ largest_of f n l v ≡ starts_to g k (p + 2 ^ n)
  unfolding largest_of
  starts-largest zero l v p e small is top = one_line 0 l v p e small is top (uniform-leaf g (place l v))
  starts-largest (suc n) l v p e small is top =
      rw (holds-uniform l (suc n) v e small)
      (go (uniform g (suc n) q) refl
      (starts-largest n (suc l) v p (omega arith) (omega (arith, pow-succ' 2 l)) left)
      (starts-largest n (suc l) (v + 2 ^ l) (p + 2 ^ n) (omega arith) (omega (arith, pow-succ' 2 l)) right))
    where
      q : ℕ
      q = place l v

      left : p ≡ place (suc l) v * 2 ^ n
      left = is ∙ sym (left-from l v small n)

      right : p + 2 ^ n ≡ place (suc l) (v + 2 ^ l) * 2 ^ n
      right = ap (λ (x : ℕ). x + 2 ^ n) is ∙ sym (right-from l v small n)

      node : p / 2 ^ suc n ≡ q
      node = ap (λ (x : ℕ). x / 2 ^ suc n) is ∙ shl-shr q (suc n)

      node-right : (p + 2 ^ n) / 2 ^ suc n ≡ q
      node-right = ap (λ (x : ℕ). (x + 2 ^ n) / 2 ^ suc n) is ∙ digits_div q (omega (arith, pow-succ' 2 n, pow_pos n))

      below : uniform g (suc n) q ≡ false → (s : ℕ) → s / 2 ^ suc n ≡ q → Topmost n s
      below u s here m from to = at (ℕ_discrete m (suc n))
        where
          at : Dec (m ≡ suc n) → uniform g m (s / 2 ^ m) ≡ false
          at (yes d) = rw (d, here) u
          at (no d) = ap (uniform g m) (same_above (suc n) m s p (omega arith) (here ∙ sym node)) ∙ top m (omega arith) to

      go : (b : Bool) → uniform g (suc n) q ≡ b
          → (Topmost n p → starts_to g k p ++ largest_of f n (suc l) v ≡ starts_to g k (p + 2 ^ n))
          → (Topmost n (p + 2 ^ n) → starts_to g k (p + 2 ^ n) ++ largest_of f n (suc l) (v + 2 ^ l) ≡ starts_to g k (p + 2 ^ n + 2 ^ n))
          → starts_to g k p ++ pick b (line l v ∷ []) (largest_of f n (suc l) v ++ largest_of f n (suc l) (v + 2 ^ l)) ≡ starts_to g k (p + 2 ^ suc n)
      go true u x y = one_line (suc n) l v p e small is top u
      go false u x y =
          let end : p + 2 ^ n + 2 ^ n ≡ p + 2 ^ suc n = omega (arith, pow-succ' 2 n) in
          sym (append_assoc (starts_to g k p) (largest_of f n (suc l) v) (largest_of f n (suc l) (v + 2 ^ l)))
          ∙ ap (λ (r : List Rule). r ++ largest_of f n (suc l) (v + 2 ^ l)) (x (below u p node))
          ∙ y (below u (p + 2 ^ n) node-right)
          ∙ ap (starts_to g k) end

  pub largest-starts : largest_of f k 0 0 ≡ starts_to g k (2 ^ k)
  largest-starts =
      ap (λ (r : List Rule). r ++ largest_of f k 0 0) (sym (starts_none g k))
      ∙ starts-largest k 0 0 0 (zero-add k) (omega arith) (omega (arith, ap (λ (x : ℕ). x * 2 ^ k) (place-zero 0)))
      (λ m from to. absurd (omega arith))
      ∙ ap (starts_to g k) (zero-add (2 ^ k))

  pub length-largest : length (largest_of f k 0 0) ≡ lines_at g k 0
  length-largest = length-node k 0 0 (zero-add k) (omega arith) ∙ ap (lines_at g k) (place-zero 0)
