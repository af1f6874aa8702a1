-- A lent buffer after a call.
use Rattle.std.specs.Prelude.{ℕ, Bool, true, false, List}
use Rattle.std.proofs.lemmas.List.Edits.{sets}

-- the values from a position on, and nothing else changed, where the call made them; as it was where the call was refused (document 01, "Turned-back
-- work": nothing lent is written)
abbrev pub filled : Bool → List ℕ → ℕ → List ℕ → List ℕ
filled true out at vs = sets out at vs
filled false out at vs = out
