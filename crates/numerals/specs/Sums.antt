-- Sums, counts and searches over the numbers below n.
use Rattle.std.specs.Prelude.{ℕ, zero, suc, ◌+◌, Bool, true, List, [], ◌∷◌, ◌++◌, leb, ltb}
use Rattle.numerals.specs.Pick.{pick, both}

-- f 0 + f 1 + .. + f (n - 1)
unfoldable pub sum_to : ℕ → (ℕ → ℕ) → ℕ
sum_to zero f = 0
sum_to (suc n) f = sum_to n f + f n

-- f 0, f 1, .., f (n - 1)
unfoldable pub list_to : ℕ → (ℕ → ℕ) → List ℕ
list_to zero f = []
list_to (suc n) f = list_to n f ++ f n ∷ []

-- how many numbers below n pass the test
unfoldable pub count_to : ℕ → (ℕ → Bool) → ℕ
count_to n t = sum_to n (λ i. pick (t i) 1 0)

-- every number below n passes the test
unfoldable pub all_to : ℕ → (ℕ → Bool) → Bool
all_to zero t = true
all_to (suc n) t = both (all_to n t) (t n)

-- the lowest number below n that passes the test, or n where none does
unfoldable pub first_to : ℕ → (ℕ → Bool) → ℕ
first_to zero t = 0
first_to (suc n) t = let i = first_to n t in pick (ltb i n) i (pick (t n) n (suc n))

-- the largest of the numbers 1 to n that passes the test, or 0 where none does
unfoldable pub largest_to : ℕ → (ℕ → Bool) → ℕ
largest_to zero t = 0
largest_to (suc n) t = pick (t (suc n)) (suc n) (largest_to n t)

-- the number below n at which f is greatest, the lowest if equal
unfoldable pub argmax : (ℕ → ℕ) → ℕ → ℕ
argmax f zero = 0
argmax f (suc n) = let i = argmax f n in pick (ltb (f i) (f n)) n i

-- the number up to n at which f is greatest, the largest if equal
unfoldable pub lastmax : (ℕ → ℕ) → ℕ → ℕ
lastmax f zero = 0
lastmax f (suc n) = let i = lastmax f n in pick (leb (f i) (f (suc n))) (suc n) i
