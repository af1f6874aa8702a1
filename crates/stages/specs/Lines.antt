-- A stage as a list for the switch (document 02, Req 06): the largest suffixes held by one backend, by the lowest k-bit place each covers.
use Rattle.std.specs.Prelude.{ℕ, zero, suc, ◌+◌, ◌*◌, ◌^◌, Bool, List, [], ◌∷◌, ◌++◌, eqb}
use Rattle.numerals.specs.Pick.{pick}
use Rattle.numerals.specs.Sums.{all_to}
use Rattle.expansion.specs.declared.rule.Rule.{Rule}
use Rattle.packing.specs.Table.{lines_of}
use Rattle.sheets.specs.RuleSheet.{lines_text}
use Rattle.stages.specs.Stages.{Change, stage_at}

-- f has the id of each suffix's backend; the suffix of l bits with the value v covers 2^n suffixes of l + n bits. One backend holds them all
unfoldable pub one_holds : (ℕ → ℕ) → ℕ → ℕ → ℕ → Bool
one_holds f n l v = all_to (2 ^ n) (λ j. eqb (f (v + j * 2 ^ l)) (f v))

-- the largest suffixes that one backend holds among those covered by the suffix of l bits with the value v, each with that backend: it itself, if one
-- backend holds it, else those of its halves. The half with a 0 before its bits has the lower places
unfoldable pub largest_of : (ℕ → ℕ) → ℕ → ℕ → ℕ → List Rule
largest_of f zero l v = record { len = l; value = v; backend = f v } ∷ []
largest_of f (suc n) l v =
    pick (one_holds f (suc n) l v) (record { len = l; value = v; backend = f v } ∷ [])
    (largest_of f n (suc l) v ++ largest_of f n (suc l) (v + 2 ^ l))

-- the list of the stage at p: those that `*` covers
unfoldable pub stage_rules : Change → ℕ → List Rule
stage_rules C p = largest_of (stage_at C p) C.k 0 0

-- its text for service n, `service suffix backend` lines
unfoldable pub stage_text : Change → ℕ → ℕ → List ℕ
stage_text C n p = lines_text (lines_of n (stage_rules C p))
